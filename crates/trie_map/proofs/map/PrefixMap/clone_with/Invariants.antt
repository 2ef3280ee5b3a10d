use Rattle.std.proofs.Common.{◌-◌, length}
use Rattle.trie_map.specs.Walking.{CanWalk, ToCome}
use Rattle.trie_map.specs.Shape.{node_shape}
use Rattle.trie_model.specs.Tries.{RefOk, ref_told}
use Rattle.trie_model.proofs.CloneLaws.{Copied}
use Rattle.trie_map.proofs.map.PrefixMap.clone_with.Given as goal

abbrev pub invariant-pairs : goal.invariant-pairs
invariant-pairs g l =
    CanWalk (λ v. RefOk node_shape g.P.Number.KeyBits.width (record { bits = g.P.Number.KeyBits.number v.key; len = v.len }) v.data_bitmap
    v.child_bitmap v.node.node.now) (λ v. ref_told node_shape g.P.Number.KeyBits.width
    (record { bits = g.P.Number.KeyBits.number v.key; len = v.len }) v.data_bitmap v.child_bitmap v.node.node.now) g.P.Number.KeyBits.width l.walk
    × Copied g.P.Number.KeyBits.width (ToCome (λ v. ref_told node_shape g.P.Number.KeyBits.width
    (record { bits = g.P.Number.KeyBits.number v.key; len = v.len }) v.data_bitmap v.child_bitmap v.node.node.now) g.P.Number.KeyBits.width
    l.walk) l.self l.map

abbrev pub decreases-pairs : goal.decreases-pairs
decreases-pairs g l = length l.self - length l.map
