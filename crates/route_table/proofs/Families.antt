-- What a change of one prefix does to the routes of a family.
use Rattle.std.proofs.Common.{◌≡◌, ◌==◌, ◌&&◌, ℕ, Bool, true, false, cond, List, Option, Some, None, inl, inr, refl, sym, ◌∙◌, ap}
use Rattle.std.specs.Prelude.{◌⊎◌}
use Rattle.std.specs.Option.{option_and_then}
use Rattle.trie_model.specs.Nets.{Net, IsNet}
use Rattle.trie_model.specs.Views.{same_net}
use Rattle.trie_model.specs.Maps.{value_at, inserted, removed}
use Rattle.trie_model.proofs.TrieLaws.{same_net_is}
use Rattle.trie_model.proofs.MapLaws.{nets_or}
use Rattle.route_table.specs.declared.change.Hop.{Hop}
use Rattle.route_table.specs.Entries.{AreNets}
use Rattle.route_table.specs.Lists.{hop_under, hop_at, PutsAt}
use Rattle.route_table.proofs.Entries.{value_put, value_removed, nets_put}

-- What a list of values has by one of its options.
abbrev under : ℕ → Option (List (ℕ × Hop)) → Option Hop
under priority routes = option_and_then (λ r. hop_under r priority) routes

-- A change that is told at one prefix, and leaves the others.
module _ (n : Net) (priority : ℕ) (hop : Option Hop) (old new : List (Net × List (ℕ × Hop))) (now : Option (List (ℕ × Hop))) where
  -- One prefix has other routes, which differ under one priority.
  pub puts_by : ((k : Net) → value_at new k ≡ cond (same_net n k) now (value_at old k))
      → ((p : ℕ) → under p now ≡ cond (p == priority) hop (hop_at old n p)) → PutsAt n priority hop old new
  puts_by value here k p = by (nets_or n k)
    where
      by : (n ≡ k) ⊎ (same_net n k ≡ false) → hop_at new k p ≡ cond (same_net n k && (p == priority)) hop (hop_at old k p)
      by (inl e) =
          let same = same_net_is n k e in
          ap (under p) (value k ∙ ap (λ t. cond t now (value_at old k)) same) ∙ here p
          ∙ ap (λ m. cond (p == priority) hop (hop_at old m p)) e
          ∙ ap (λ t. cond (t && (p == priority)) hop (hop_at old k p)) (sym same)
      by (inr f) =
          ap (under p) (value k ∙ ap (λ t. cond t now (value_at old k)) f)
          ∙ ap (λ t. cond (t && (p == priority)) hop (hop_at old k p)) (sym f)

-- An option that is none but where a test holds.
none_else : (b : Bool) (o : Option Hop) → (b ≡ false → o ≡ None) → None ≡ cond b None o
none_else true o h = refl
none_else false o h = sym (h refl)

in_none : (b : Bool) (o : Option Hop) → o ≡ None → o ≡ cond b None o
in_none true o e = e
in_none false o e = refl

again : {A : Type 0} (b : Bool) (x y z : A) → cond b x (cond b y z) ≡ cond b x z
again true x y z = refl
again false x y z = refl

module _ (w : ℕ) (ps : List (Net × List (ℕ × Hop))) (ok : AreNets w ps) (n : Net) (priority : ℕ) where
  -- A prefix gets other routes, which differ from what it had under one priority.
  pub puts : IsNet w n → (hop : Option Hop) (routes : List (ℕ × Hop)) (was : Option (List (ℕ × Hop))) → was ≡ value_at ps n
      → ((p : ℕ) → hop_under routes p ≡ cond (p == priority) hop (option_and_then (λ r. hop_under r p) was))
      → PutsAt n priority hop ps (inserted w ps n routes)
  puts net hop routes was is here = puts_by n priority hop ps (inserted w ps n routes) (Some routes) (value_put w ps ok n routes net)
      (λ p. here p ∙ ap (λ o. cond (p == priority) hop (under p o)) is)

  -- A prefix that had one route, whatever was put there, is taken out.
  pub takes : IsNet w n → (routes was : List (ℕ × Hop)) → Some was ≡ value_at ps n
      → ((p : ℕ) → (p == priority) ≡ false → hop_under was p ≡ None) → PutsAt n priority None ps (removed (inserted w ps n routes) n)
  takes net routes was is only = puts_by n priority None ps (removed (inserted w ps n routes) n) None
      (λ k. value_removed w (inserted w ps n routes) (nets_put w ps ok n routes net) n k
      ∙ ap (cond (same_net n k) None) (value_put w ps ok n routes net k) ∙ again (same_net n k) None (Some routes) (value_at ps k))
      (λ p. none_else (p == priority) (hop_under was p) (only p) ∙ ap (λ o. cond (p == priority) None (under p o)) is)

  -- Nothing is taken out where a prefix has no routes.
  pub takes_none : None ≡ value_at ps n → PutsAt n priority None ps ps
  takes_none none k p = by (nets_or n k)
    where
      by : (n ≡ k) ⊎ (same_net n k ≡ false) → hop_at ps k p ≡ cond (same_net n k && (p == priority)) None (hop_at ps k p)
      by (inl e) = in_none (same_net n k && (p == priority)) (hop_at ps k p) (ap (under p) (ap (value_at ps) (sym e) ∙ sym none))
      by (inr f) = ap (λ t. cond (t && (p == priority)) None (hop_at ps k p)) (sym f)
