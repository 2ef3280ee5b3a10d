use Rattle.std.proofs.Common.{ap, sym, ◌∙◌, ◌+◌, ◌-◌, bit_and}
use Rattle.trie_map.specs.Shape.{node_shape}
use Rattle.std.specs.Int.{w32, leading_zeros}
use Rattle.trie_model.proofs.MaskLaws.{level_same}
use Rattle.trie_model.proofs.LongestLaws.{here_nothing, here_longest, nearest, high_bit_of}
use Rattle.trie_map.proofs.node.look.longest_here.Goals as goal

pub returns-then-inside-eq0 : goal.returns-then-inside-eq0
returns-then-inside-eq0 g c = here_nothing node_shape g.W.KeyBits.width c.args.depth (g.W.KeyBits.number c.args.key) c.args.len c.data_lpm_mask.result
    c.args.here.now.node.now (record {
      low = c.requires.low;
      end = c.requires.net.len_fits;
      fit = c.requires.net.bits_fit;
      is = c.data_lpm_mask.ensures.mask;
    }) (ap (λ x. bit_and x c.data_lpm_mask.result) (sym c.data_bitmap.ensures) ∙ c.if-inside-eq0.true)

pub level-requires : goal.level-requires
level-requires g c = (nearest node_shape g.W.KeyBits.width c.args.depth (g.W.KeyBits.number c.args.key) c.args.len c.data_lpm_mask.result
    (31 - leading_zeros w32 (bit_and c.data_bitmap.result c.data_lpm_mask.result)) c.args.here.now.node.now c.requires.node
    (record { low = c.requires.low; end = c.requires.net.len_fits; fit = c.requires.net.bits_fit; is = c.data_lpm_mask.ensures.mask })
    (high_bit_of (node_shape.data_bits c.args.here.now.node.now) c.data_lpm_mask.result c.data_bitmap.result c.requires.node.data_fit
    c.data_bitmap.ensures c.if-inside-eq0.false)).small

pub item-requires-clause-set : goal.item-requires-clause-set
item-requires-clause-set g c = (nearest node_shape g.W.KeyBits.width c.args.depth (g.W.KeyBits.number c.args.key) c.args.len c.data_lpm_mask.result
    (31 - leading_zeros w32 (bit_and c.data_bitmap.result c.data_lpm_mask.result)) c.args.here.now.node.now c.requires.node
    (record { low = c.requires.low; end = c.requires.net.len_fits; fit = c.requires.net.bits_fit; is = c.data_lpm_mask.ensures.mask })
    (high_bit_of (node_shape.data_bits c.args.here.now.node.now) c.data_lpm_mask.result c.data_bitmap.result c.requires.node.data_fit
    c.data_bitmap.ensures c.if-inside-eq0.false)).on

pub returns : goal.returns
returns g c = here_longest node_shape g.W.KeyBits.width c.args.depth (g.W.KeyBits.number c.args.key) c.args.len c.data_lpm_mask.result
    (31 - leading_zeros w32 (bit_and c.data_bitmap.result c.data_lpm_mask.result)) (c.args.depth + c.level.result) c.args.here.now.node.now
    c.item.result.now c.requires.node (record {
      low = c.requires.low;
      end = c.requires.net.len_fits;
      fit = c.requires.net.bits_fit;
      is = c.data_lpm_mask.ensures.mask;
    }) (high_bit_of (node_shape.data_bits c.args.here.now.node.now) c.data_lpm_mask.result c.data_bitmap.result
    c.requires.node.data_fit c.data_bitmap.ensures c.if-inside-eq0.false) c.item.ensures
    (ap (λ x. c.args.depth + x) (c.level.ensures ∙ level_same (31 - leading_zeros w32 (bit_and c.data_bitmap.result c.data_lpm_mask.result))
    (nearest node_shape g.W.KeyBits.width c.args.depth (g.W.KeyBits.number c.args.key) c.args.len c.data_lpm_mask.result
    (31 - leading_zeros w32 (bit_and c.data_bitmap.result c.data_lpm_mask.result)) c.args.here.now.node.now c.requires.node
    (record { low = c.requires.low; end = c.requires.net.len_fits; fit = c.requires.net.bits_fit; is = c.data_lpm_mask.ensures.mask })
    (high_bit_of (node_shape.data_bits c.args.here.now.node.now) c.data_lpm_mask.result c.data_bitmap.result c.requires.node.data_fit
    c.data_bitmap.ensures c.if-inside-eq0.false)).small))
