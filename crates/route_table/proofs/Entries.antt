-- What a change of a map of prefixes does to the list of its pairs.
use Rattle.std.proofs.Common.{◌≡◌, ℕ, false, cond, List, [], Option, Some, None, inl, inr, sym, ◌∙◌, ap, subst}
use Rattle.std.specs.Prelude.{◌⊎◌}
use Rattle.trie_model.specs.Nets.{Net, IsNet}
use Rattle.trie_model.specs.Views.{same_net}
use Rattle.trie_model.specs.Walks.{Ascends, Within, IsListOf}
use Rattle.trie_model.specs.Maps.{with_entry, without_entry, Entry, pairs, value_at, inserted, removed}
use Rattle.trie_model.proofs.TrieLaws.{same_net_is}
use Rattle.trie_model.proofs.MapLaws.{nets_or}
use Rattle.trie_model.proofs.MapLists.{OfWidth, unique, list_of_map, pairs_with, pairs_without, value_within, within_value, value_of_map}
use Rattle.route_table.specs.Entries.{AreNets}

module _ {X : Type 0} (w : ℕ) where
  -- A list that a map gives is in order, and of networks.
  pub nets_listed : (ps : List (Net × X)) → IsListOf w (Within ps) ps → ((n : Net) (x : X) → Within ps n x → IsNet w n) → AreNets w ps
  nets_listed ps is nets = record { ascends = is.ascends; nets = nets }

  -- No pairs are in order.
  pub nets_none : AreNets {X = X} w []
  unfolding Ascends Within
  nets_none = record { ascends = tt; nets = λ n x h. absurd h }

  nets_of_pairs : (m : Net → Option X) → OfWidth w m → AreNets w (pairs w m)
  nets_of_pairs m nets =
      let list = list_of_map w m nets in
      record { ascends = list.ascends; nets = λ n x h. nets n x ((list.same n x).0 h) }

  with_width : (m : Net → Option X) (n : Net) (x : X) → IsNet w n → OfWidth w m → OfWidth w (with_entry m n x)
  with_width m n x ok nets k y h = by (nets_or n k)
    where
      by : (n ≡ k) ⊎ (same_net n k ≡ false) → IsNet w k
      by (inl e) = subst (IsNet w) e ok
      by (inr f) = nets k y (sym (ap (λ t. cond t (Some x) (m k)) f) ∙ h)

  without_width : (m : Net → Option X) (n : Net) → OfWidth w m → OfWidth w (without_entry m n)
  without_width m n nets k y h = by (nets_or n k)
    where
      by : (n ≡ k) ⊎ (same_net n k ≡ false) → IsNet w k
      by (inl e) = absurd (let never : None ≡ Some y = sym (ap (λ t. cond t None (m k)) (same_net_is n k e)) ∙ h in cc)
      by (inr f) = nets k y (sym (ap (λ t. cond t None (m k)) f) ∙ h)

module _ {X : Type 0} (w : ℕ) (ps : List (Net × X)) (ok : AreNets w ps) where
  of_width : OfWidth w (value_at ps)
  of_width n x h = ok.nets n x (value_within ps n x h)

  -- A pair of the list is what the list has there.
  pub value_there : (n : Net) (x : X) → Within ps n x → value_at ps n ≡ Some x
  value_there n x h = within_value w ps n x ok.ascends h

  as_pairs : ps ≡ pairs w (value_at ps)
  as_pairs = unique w (Entry (value_at ps)) ps (pairs w (value_at ps))
      (record { ascends = ok.ascends; same = λ n x. ((λ h. value_there n x h), (λ h. value_within ps n x h)) })
      (list_of_map w (value_at ps) of_width)

  module _ (n : Net) (x : X) (net : IsNet w n) where
    put_pairs : inserted w ps n x ≡ pairs w (with_entry (value_at ps) n x)
    put_pairs = ap (λ qs. inserted w qs n x) as_pairs ∙ sym (pairs_with w (value_at ps) n x net of_width)

    -- The list with a value for a prefix has it there, and all else as it was.
    pub value_put : (k : Net) → value_at (inserted w ps n x) k ≡ cond (same_net n k) (Some x) (value_at ps k)
    value_put k = ap (λ qs. value_at qs k) put_pairs
        ∙ value_of_map w (with_entry (value_at ps) n x) k (with_width w (value_at ps) n x net of_width)

    -- It is in order.
    pub nets_put : AreNets w (inserted w ps n x)
    nets_put = subst (AreNets w) (sym put_pairs) (nets_of_pairs w (with_entry (value_at ps) n x) (with_width w (value_at ps) n x net of_width))

    -- It is the list itself where the value is there already.
    pub put_same : value_at ps n ≡ Some x → inserted w ps n x ≡ ps
    put_same there = put_pairs ∙ ap (pairs w) (λ i k. each k (nets_or n k) i) ∙ sym as_pairs
      where
        each : (k : Net) → (n ≡ k) ⊎ (same_net n k ≡ false) → with_entry (value_at ps) n x k ≡ value_at ps k
        each k (inl e) = ap (λ t. cond t (Some x) (value_at ps k)) (same_net_is n k e) ∙ sym there ∙ ap (value_at ps) e
        each k (inr f) = ap (λ t. cond t (Some x) (value_at ps k)) f

  module _ (n : Net) where
    removed_pairs : removed ps n ≡ pairs w (without_entry (value_at ps) n)
    removed_pairs = ap (λ qs. removed qs n) as_pairs ∙ sym (pairs_without w (value_at ps) n of_width)

    -- The list without a prefix has nothing there, and all else as it was.
    pub value_removed : (k : Net) → value_at (removed ps n) k ≡ cond (same_net n k) None (value_at ps k)
    value_removed k = ap (λ qs. value_at qs k) removed_pairs
        ∙ value_of_map w (without_entry (value_at ps) n) k (without_width w (value_at ps) n of_width)

    -- It is in order.
    pub nets_removed : AreNets w (removed ps n)
    nets_removed = subst (AreNets w) (sym removed_pairs) (nets_of_pairs w (without_entry (value_at ps) n) (without_width w (value_at ps) n of_width))
