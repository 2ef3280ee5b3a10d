-- What an item of a union holds of each side.
use Rattle.std.specs.Prelude.{Option, Some, None}
use Rattle.view_model.specs.declared.items.UnionItem.{UnionItem}
use Rattle.view_model.specs.declared.items.UnionItem.TheVariants.{Left, Right, Both}

-- The left view's item.
abbrev pub left_of : {L R : Type 0} → UnionItem L R → Option L
left_of (Left l) = Some l
left_of (Right r) = None
left_of (Both l r) = Some l

-- The right view's item.
abbrev pub right_of : {L R : Type 0} → UnionItem L R → Option R
right_of (Left l) = None
right_of (Right r) = Some r
right_of (Both l r) = Some r

-- Both items, of Both alone.
abbrev pub both_of : {L R : Type 0} → UnionItem L R → Option (L × R)
both_of (Left l) = None
both_of (Right r) = None
both_of (Both l r) = Some (l, r)

-- The left view's item where it is there, else the right one's.
abbrev pub left_or_right_of : {T : Type 0} → UnionItem T T → T
left_or_right_of (Left l) = l
left_or_right_of (Right r) = r
left_or_right_of (Both l r) = l

-- The right view's item where it is there, else the left one's.
abbrev pub right_or_left_of : {T : Type 0} → UnionItem T T → T
right_or_left_of (Left l) = l
right_or_left_of (Right r) = r
right_or_left_of (Both l r) = r
