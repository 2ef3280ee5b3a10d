use Rattle.std.proofs.Common.{arith, ◌∙◌, ◌≡◌, ◌*◌, ◌%◌, ◌^◌}
use Rattle.trie_model.specs.Views.{level_of}
use Rattle.trie_model.proofs.Places.{level_le}
use Rattle.trie_model.proofs.MaskLaws.{level_same}
use Rattle.trie_model.proofs.MaskNets.{shl_level}
use Rattle.trie_model.proofs.RootLaws.{rebuilt, rebuilt_bits}
use Rattle.trie_map.proofs.masks.reconstruct_prefix.Goals as goal

pub with_bits-number-requires-clause-bits : goal.with_bits-number-requires-clause-bits
with_bits-number-requires-clause-bits g c =
    let e : c.level-level.result ≡ level_of c.args.bit = c.level-level.ensures ∙ level_same c.args.bit c.requires.bit in
    let le = level_le c.args.bit in
    rebuilt_bits c.level-level.result c.args.bit (1 * 2 ^ c.level-level.result % 4294967296) c.requires.bit e (shl_level c.level-level.result (omega arith))

pub from_number-requires-clause-fits : goal.from_number-requires-clause-fits
from_number-requires-clause-fits g c =
    let e : c.level-level.result ≡ level_of c.args.bit = c.level-level.ensures ∙ level_same c.args.bit c.requires.bit in
    let le = level_le c.args.bit in
    (rebuilt g.P.Number.KeyBits.width c.args.depth (g.P.Number.KeyBits.number c.args.key) c.args.bit c.level-level.result
    (1 * 2 ^ c.level-level.result % 4294967296) (g.P.Number.KeyBits.number c.with_bits-number.result) c.requires.fits c.requires.bit e
    (shl_level c.level-level.result (omega arith)) c.requires.end c.with_bits-number.ensures).fits

pub returns-clause-net : goal.returns-clause-net
returns-clause-net g c =
    let e : c.level-level.result ≡ level_of c.args.bit = c.level-level.ensures ∙ level_same c.args.bit c.requires.bit in
    let le = level_le c.args.bit in
    c.from_number.ensures.net ∙ (rebuilt g.P.Number.KeyBits.width c.args.depth (g.P.Number.KeyBits.number c.args.key) c.args.bit c.level-level.result
    (1 * 2 ^ c.level-level.result % 4294967296) (g.P.Number.KeyBits.number c.with_bits-number.result) c.requires.fits c.requires.bit e
    (shl_level c.level-level.result (omega arith)) c.requires.end c.with_bits-number.ensures).net
