use Rattle.std.proofs.Common.{◌≡◌, ℕ, ◌+◌, ◌<◌, ◌∙◌, ap, arith}
use Rattle.std.specs.Int.{bit_at}
use Rattle.trie_model.specs.Spots.{row_below}
use Rattle.trie_model.proofs.MaskLaws.{rows_fit}
use Rattle.trie_model.proofs.MaskNets.{for_bit_rows, sum_is}
use Rattle.trie_map.proofs.masks.data_cover_mask_for_bit.Goals as goal

all : (bit : ℕ) → bit < 31 → row_below (bit + 1) 0 + row_below (bit + 1) 1 + row_below (bit + 1) 2 + row_below (bit + 1) 3 + row_below (bit + 1) 4 < 2147483648
all bit h = rows_fit (bit + 1) (omega arith) (omega arith)

two : (a b c d e p q : ℕ) → a + b + c + d + e < 2147483648 → p ≡ a → q ≡ b → p + q < 4294967296
two a b c d e p q m h i = omega arith

three : (a b c d e p q r : ℕ) → a + b + c + d + e < 2147483648 → p ≡ a → q ≡ b → r ≡ c → p + q + r < 4294967296
three a b c d e p q r m h i j = omega arith

four : (a b c d e p q r s : ℕ) → a + b + c + d + e < 2147483648 → p ≡ a → q ≡ b → r ≡ c → s ≡ d → p + q + r + s < 4294967296
four a b c d e p q r s m h i j k = omega arith

five : (a b c d e p q r s t : ℕ) → a + b + c + d + e < 2147483648 → p ≡ a → q ≡ b → r ≡ c → s ≡ d → t ≡ e → p + q + r + s + t < 4294967296
five a b c d e p q r s t m h i j k l = omega arith

pub overflow_add-result : goal.overflow_add-result
overflow_add-result c = record { fits = two _ _ _ _ _ _ _ (all c.args.bit c.requires) c.row.ensures c.row-2.ensures }

pub overflow_add-result-2 : goal.overflow_add-result-2
overflow_add-result-2 c = record { fits = three _ _ _ _ _ _ _ _ (all c.args.bit c.requires) c.row.ensures c.row-2.ensures c.row-3.ensures }

pub overflow_add-result-3 : goal.overflow_add-result-3
overflow_add-result-3 c = record { fits = four _ _ _ _ _ _ _ _ _ (all c.args.bit c.requires) c.row.ensures c.row-2.ensures c.row-3.ensures c.row-4.ensures }

pub overflow_add-result-4 : goal.overflow_add-result-4
overflow_add-result-4 c = record { fits = five _ _ _ _ _ _ _ _ _ _ (all c.args.bit c.requires) c.row.ensures c.row-2.ensures c.row-3.ensures c.row-4.ensures c.row-5.ensures }

pub returns-clause-mask : goal.returns-clause-mask
returns-clause-mask c w depth key b lt fits =
    ap (λ x. bit_at x b) (sum_is _ _ _ _ _ _ _ _ _ _ c.row.ensures c.row-2.ensures c.row-3.ensures c.row-4.ensures c.row-5.ensures)
    ∙ for_bit_rows w depth key c.args.bit b c.requires lt fits

pub returns-clause-small : goal.returns-clause-small
returns-clause-small c =
    let fit = all c.args.bit c.requires in
    let e = sum_is _ _ _ _ _ _ _ _ _ _ c.row.ensures c.row-2.ensures c.row-3.ensures c.row-4.ensures c.row-5.ensures in
    omega (arith, fit, e)
