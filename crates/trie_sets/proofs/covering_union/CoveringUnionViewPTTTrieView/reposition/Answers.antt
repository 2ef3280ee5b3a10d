use Rattle.std.proofs.Common.{rules}
use Rattle.std.proofs.Common.{ℕ, refl}
use Rattle.trie_model.specs.Nets.{Net}
use Rattle.view_model.specs.CoveringUnion.{pair_value}
use Rattle.view_model.proofs.DifferenceLaws.{side_moved}
use Rattle.view_model.proofs.UnionLaws.{union_laws}
use Rattle.view_model.proofs.CoveringUnionLaws.{covering_moved}
use Rattle.view_model.specs.CoveringUnion.{WithPrefixes}
use Rattle.view_model.proofs.ThroughLaws.{through_moved}
use Rattle.trie_sets.proofs.covering_union.CoveringUnionViewPTTTrieView.reposition.Goals as goal

pub returns-clause-usable : goal.returns-clause-usable
returns-clause-usable g c =
    let w : ℕ = g.L.P.Number.KeyBits.width in
    let place : Net = record { bits = g.L.P.Number.KeyBits.number c.args.self.now.key; len = c.args.self.now.len } in
    let to : Net = record { bits = g.L.P.Number.KeyBits.number c.args.key; len = c.args.prefix_len } in (
      c.requires.place.fits,
      c.side_move.ensures.inside,
      c.side_move-2.ensures.inside,
      side_moved w g.L.TrieView.valid g.L.TrieView.told place to to c.args.self.now.left_all c.requires.usable.0 c.requires.place refl c.requires.usable.3,
      side_moved w g.R.TrieView.valid g.R.TrieView.told place to to c.args.self.now.right_all c.requires.usable.0 c.requires.place refl c.requires.usable.4,
      c.requires.usable.5,
      c.requires.usable.6,
      c.either_data-self.ensures,
      c.either_children-self.ensures,
    )

pub returns-clause-moved : goal.returns-clause-moved
returns-clause-moved g c =
    let w : ℕ = g.L.P.Number.KeyBits.width in
    let place : Net = record { bits = g.L.P.Number.KeyBits.number c.args.self.now.key; len = c.args.self.now.len } in
    let base = union_laws w g.L.TrieView.valid g.L.TrieView.told (g.met.L.TrieView c.lifetimes (search rules)).laws g.R.TrieView.valid
    g.R.TrieView.told (g.met.R.TrieView c.lifetimes (search rules)).laws place c.args.self.now.left c.args.self.now.right c.requires.usable.0
    c.requires.usable.1 c.requires.usable.2 in
    let to : Net = record { bits = g.L.P.Number.KeyBits.number c.args.key; len = c.args.prefix_len } in
    through_moved w to (WithPrefixes g.L.P.PlainPrefix.net g.L.P.PlainPrefix.raw) _ _
    (covering_moved w to g.L.TrieView.valid g.L.TrieView.told g.R.TrieView.valid g.R.TrieView.told place c.args.self.now.left c.side_move.new.side
    c.args.self.now.right c.side_move-2.new.side (record {
      all = c.args.self.now.left_all;
      above =
          pair_value g.L.P.PlainPrefix.net g.L.TrieView.item c.args.self.now.left_above;
    }) (record {
      all = c.args.self.now.right_all;
      above =
          pair_value g.L.P.PlainPrefix.net g.R.TrieView.item c.args.self.now.right_above;
    }) base c.requires.place c.side_move.ensures c.side_move-2.ensures)
