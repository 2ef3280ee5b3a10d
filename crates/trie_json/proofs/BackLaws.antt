-- What was written of a map or a set is read as an equal one.
use Rattle.std.proofs.Common.{◌≡◌, ℕ, zero, suc, ◌≤◌, ◌∙◌, sym, ap, subst, refl, cond, Bool, true, false, List, []}
use Rattle.std.proofs.Common.{◌∷◌, ◌++◌, map, reverse, Option, Some, None, inl, inr}
use Rattle.std.specs.Prelude.{slice_get, Result, Ok, Err, IfOk, IfErr}
use Rattle.std.proofs.lemmas.List.{reverse-append}
use Rattle.serde_json.specs.Data.{Data}
use Rattle.trie_model.specs.Nets.{Net, IsNet}
use Rattle.trie_model.specs.Spots.{prefix_net}
use Rattle.trie_model.specs.Maps.{pairs, value_at, Entry}
use Rattle.trie_model.specs.Views.{same_net}
use Rattle.trie_model.specs.Walks.{Within, Ascends}
use Rattle.trie_model.proofs.MapLists.{OfWidth, list_of_map, unique, value_within, within_value, pair_of}
use Rattle.trie_model.proofs.TrieLaws.{same_net_is}
use Rattle.trie_json.specs.Writing.{list_data, net_data, entry_data, map_data, set_data}
use Rattle.trie_json.specs.Reading.{AreRead, IsListRead, IsNoPrefix, ReadsEntry, ReadsMember, ReadsNet, StopsAt}
use Rattle.trie_json.specs.Reading.{ReadsMap, ReadsSet, RefusesMap, RefusesSet, last_of_each}
use Rattle.trie_json.specs.declared.refusal.JsonRefusal.{JsonRefusal}
use Rattle.trie_json.specs.declared.refusal.JsonRefusal.TheVariants.{NotList, NotPair, BadPrefix, BadItem, NoMemory}
use Rattle.trie_json.proofs.BitsLaws.{bits_one, fits_128}
use Rattle.trie_json.proofs.DataLaws.{list_one, pair_one}

-- ---- the last pair of each prefix

-- Each prefix of the pairs is one of this width.
abbrev pub AreNets : {X : Type 0} → ℕ → List (Net × X) → Type 0
AreNets {X} w ps = (n : Net) (x : X) → Within ps n x → IsNet w n

last_or : {X : Type 0} (ps : List (Net × X)) (p : Net × X) (n : Net) (x : X) → Within (ps ++ p ∷ []) n x → Within (p ∷ ps) n x
unfolding Within
last_or [] p n x h = h
last_or (q ∷ ps) p n x (inl e) = inr (inl e)
last_or {X} (q ∷ ps) p n x (inr h) = by (last_or ps p n x h)
  where
    by : Within (p ∷ ps) n x → Within (p ∷ q ∷ ps) n x
    by (inl e) = inl e
    by (inr k) = inr (inr k)

or_last : {X : Type 0} (ps : List (Net × X)) (p : Net × X) (n : Net) (x : X) → Within (p ∷ ps) n x → Within (ps ++ p ∷ []) n x
unfolding Within
or_last [] p n x h = h
or_last (q ∷ ps) p n x (inl e) = inr (or_last ps p n x (inl e))
or_last (q ∷ ps) p n x (inr (inl e)) = inl e
or_last (q ∷ ps) p n x (inr (inr h)) = inr (or_last ps p n x (inr h))

turned : {X : Type 0} (ps : List (Net × X)) (n : Net) (x : X) → Within ps n x → Within (reverse ps) n x
unfolding Within
turned [] n x h = absurd h
turned {X} (p ∷ ps) n x h = subst (λ zs. Within zs n x) (sym (reverse-append (p ∷ []) ps)) (or_last (reverse ps) p n x (by (turned ps n x) h))
  where
    by : (Within ps n x → Within (reverse ps) n x) → Within (p ∷ ps) n x → Within (p ∷ reverse ps) n x
    by rest (inl e) = inl e
    by rest (inr k) = inr (rest k)

turned_back : {X : Type 0} (ps : List (Net × X)) (n : Net) (x : X) → Within (reverse ps) n x → Within ps n x
unfolding Within
turned_back [] n x h = absurd h
turned_back {X} (p ∷ ps) n x h = by (turned_back ps n x) (last_or (reverse ps) p n x (subst (λ zs. Within zs n x) (reverse-append (p ∷ []) ps) h))
  where
    by : (Within (reverse ps) n x → Within ps n x) → Within (p ∷ reverse ps) n x → Within (p ∷ ps) n x
    by rest (inl e) = inl e
    by rest (inr k) = inr (rest k)

found : {X : Type 0} (ps : List (Net × X)) (n : Net) (x : X) → Within ps n x → (y : X) × (value_at ps n ≡ Some y)
unfolding Within value_at
found [] n x h = absurd h
found {X} (p ∷ ps) n x h = by (found ps n x) (same_net n p.0) refl h
  where
    by : (Within ps n x → (y : X) × (value_at ps n ≡ Some y)) → (b : Bool) → same_net n p.0 ≡ b → Within (p ∷ ps) n x
        → (y : X) × (cond (same_net n p.0) (Some p.1) (value_at ps n) ≡ Some y)
    by rest true e k = (p.1, ap (λ b. cond b (Some p.1) (value_at ps n)) e)
    by rest false e (inl same) = absurd (let no : ⊥ = (let t = same_net_is n p.0 (sym same.0) in let bad : true ≡ false = sym t ∙ e in cc) in no)
    by rest false e (inr k) = let r = rest k in (r.0, ap (λ b. cond b (Some p.1) (value_at ps n)) e ∙ r.1)

some_one : {X : Type 0} (x y : X) → Some x ≡ Some y → x ≡ y
some_one x y e = cc

-- Pairs in order are the last ones of their prefixes.
pub last_back : {X : Type 0} (w : ℕ) (ps : List (Net × X)) → Ascends w ps → AreNets w ps → last_of_each w ps ≡ ps
last_back {X} w ps up nets = unique w (Entry m) (pairs w m) ps (list_of_map w m width) (record { ascends = up; same = λ n x. (there n x, back n x) })
  where
    m : Net → Option X
    m n = value_at (reverse ps) n

    back : (n : Net) (x : X) → value_at (reverse ps) n ≡ Some x → Within ps n x
    back n x h = turned_back ps n x (value_within (reverse ps) n x h)

    width : OfWidth w m
    width n x h = nets n x (back n x h)

    there : (n : Net) (x : X) → Within ps n x → value_at (reverse ps) n ≡ Some x
    there n x h =
        let r = found (reverse ps) n x (turned ps n x h) in
        let same : r.0 ≡ x = some_one r.0 x (sym (within_value w ps n r.0 up (back n r.0 r.1)) ∙ within_value w ps n x up h) in
        r.1 ∙ ap (λ z. Some z) same

-- ---- whole lists

-- What is written of a pair is read as that pair alone.
abbrev pub ReadsBack : {X : Type 0} → ℕ → (Data → Net → X → Type 0) → (Net × X → Data) → Type 0
ReadsBack {X} w reads form = (p : Net × X) (n : Net) (x : X) → IsNet w p.0 → reads (form p) n x → (n ≡ p.0) × (x ≡ p.1)

each_back : {X : Type 0} (w : ℕ) (reads : Data → Net → X → Type 0) (form : Net × X → Data) → ReadsBack w reads form → (ps qs : List (Net × X))
    → AreNets w ps → AreRead reads (map form ps) qs → qs ≡ ps
unfolding AreRead Within
each_back w reads form one [] [] nets each = refl
each_back w reads form one [] (q ∷ qs) nets each = absurd each
each_back w reads form one (p ∷ ps) [] nets each = absurd each
each_back w reads form one (p ∷ ps) (q ∷ qs) nets each =
    let e = one p q.0 q.1 (nets p.0 p.1 (inl (refl, refl))) each.0 in
    ap (λ z. z ∷ qs) (pair_of q p e.0 e.1) ∙ ap (λ zs. p ∷ zs) (each_back w reads form one ps qs (λ n x h. nets n x (inr h)) each.1)

-- What is written of a list in order is read as that list.
pub list_back : {X : Type 0} (w : ℕ) (reads : Data → Net → X → Type 0) (form : Net × X → Data) → ReadsBack w reads form → (ps qs : List (Net × X))
    → Ascends w ps → AreNets w ps → IsListRead reads w (list_data (map form ps)) qs → qs ≡ ps
list_back w reads form one ps qs up nets read =
    let same = list_one (map form ps) read.elements read.list in
    let all = each_back w reads form one ps read.pairs nets (subst (λ ds. AreRead reads ds read.pairs) (sym same) read.each) in
    read.last ∙ ap (last_of_each w) all ∙ last_back w ps up nets

element_of : {X : Type 0} (w : ℕ) (form : Net × X → Data) (ps : List (Net × X)) (at : ℕ) (d : Data) → AreNets w ps
    → slice_get (map form ps) at ≡ Some d → (p : Net × X) × (IsNet w p.0 × (form p ≡ d))
unfolding Within
element_of w form [] at d nets e = absurd (let none : None ≡ Some d = e in let bad : ⊥ = cc in bad)
element_of w form (p ∷ ps) zero d nets e = (p, (nets p.0 p.1 (inl (refl, refl)), some_one (form p) d e))
element_of w form (p ∷ ps) (suc at) d nets e = element_of w form ps at d (λ n x h. nets n x (inr h)) e

-- No element of what is written is bad.
pub no_stop : {X : Type 0} (w : ℕ) (reads : Data → Net → X → Type 0) (bad : Data → Type 0) (form : Net × X → Data)
    → ((p : Net × X) → IsNet w p.0 → bad (form p) → ⊥) → (ps : List (Net × X)) (at : ℕ)
    → AreNets w ps → StopsAt reads bad (list_data (map form ps)) at → ⊥
no_stop w reads bad form good ps at nets stop =
    let same = list_one (map form ps) stop.elements stop.list in
    let p = element_of w form ps at stop.element nets (ap (λ ds. slice_get ds at) same ∙ stop.there) in
    good p.0 p.1.0 (subst bad (sym p.1.1) stop.is_bad)

-- ---- prefixes

-- A prefix without host bits is read as itself alone.
pub net_back : (w : ℕ) (n m : Net) → w ≤ 128 → IsNet w n → ReadsNet w (net_data w n) m → m ≡ n
net_back w n m h ok read =
    let parts = pair_one _ _ _ _ read.prefix.written in
    let bits : n.bits ≡ read.bits = bits_one w n.bits read.bits (fits_128 w n.bits h ok.bits_fit) (fits_128 w read.bits h read.prefix.bits_fit) parts.0 in
    let len : n.len ≡ read.len = cc in
    read.net ∙ ap (λ z. prefix_net w z read.len) (sym bits) ∙ ap (λ z. prefix_net w n.bits z) (sym len) ∙ ap (λ z. record { bits = z; len = n.len }) ok.no_rest

-- A prefix without host bits is one that is read.
pub net_reads : (w : ℕ) (n : Net) → IsNet w n → ReadsNet w (net_data w n) n
net_reads w n ok = record {
  bits = n.bits;
  len = n.len;
  prefix = record { bits_fit = ok.bits_fit; len_fits = ok.len_fits; written = refl };
  net = ap (λ z. record { bits = z; len = n.len }) (sym ok.no_rest);
}

-- ---- maps

entry_back : {X : Type 0} (w : ℕ) (written : X → Data) (read : Data → Option X) → w ≤ 128 → ((x : X) → read (written x) ≡ Some x)
    → ReadsBack w (ReadsEntry w read) (entry_data w written)
entry_back w written read h law p n x ok entry =
    let parts = pair_one _ _ _ _ entry.pair in (
      net_back w p.0 n h ok (subst (λ d. ReadsNet w d n) (sym parts.0) entry.net),
      some_one x p.1 (sym (ap read parts.1 ∙ entry.value) ∙ law p.1),
    )

-- What was written of a map is read as an equal one.
pub map_back : {X : Type 0} (w : ℕ) (written : X → Data) (read : Data → Option X) → w ≤ 128 → ((x : X) → read (written x) ≡ Some x) → (ps qs : List (Net × X))
    → Ascends w ps → AreNets w ps → ReadsMap w read (map_data w written ps) qs → qs ≡ ps
map_back w written read h law ps qs up nets reads = list_back w (ReadsEntry w read) (entry_data w written) (entry_back w written read h law) ps qs up nets reads

good_prefix : (w : ℕ) (n : Net) → IsNet w n → IsNoPrefix w (net_data w n) → ⊥
good_prefix w n ok none = none n.bits n.len (record { bits_fit = ok.bits_fit; len_fits = ok.len_fits; written = refl })

-- Of what was written of a map nothing is refused but memory.
pub map_unrefused : {X : Type 0} (w : ℕ) (written : X → Data) (read : Data → Option X) → ((x : X) → read (written x) ≡ Some x)
    → (ps : List (Net × X)) (e : JsonRefusal)
    → AreNets w ps → RefusesMap w read (map_data w written ps) e → e ≡ NoMemory
map_unrefused w written read law ps NotList nets why = absurd (why (map (entry_data w written) ps) refl)
map_unrefused w written read law ps (NotPair at) nets why = absurd (no_stop w _ _ (entry_data w written) (λ p ok bad. bad _ _ refl) ps at nets why)
map_unrefused w written read law ps (BadPrefix at) nets why =
    absurd (no_stop w _ _ (entry_data w written) (λ p ok bad. let parts = pair_one _ _ _ _ bad.pair in
    good_prefix w p.0 ok (subst (IsNoPrefix w) (sym parts.0) bad.bad)) ps at nets why)
map_unrefused w written read law ps (BadItem at) nets why =
    absurd (no_stop w _ _ (entry_data w written) (λ p ok bad. let parts = pair_one _ _ _ _ bad.pair in
    let none = sym (law p.1) ∙ ap read parts.1 ∙ bad.bad in let wrong : ⊥ = cc in wrong) ps at nets why)
map_unrefused w written read law ps NoMemory nets why = refl

-- ---- sets

-- What was written of a set is read as an equal one.
pub set_back : (w : ℕ) → w ≤ 128 → (ps qs : List (Net × Unit {0})) → Ascends w ps → AreNets w ps → ReadsSet w (set_data w ps) qs → qs ≡ ps
set_back w h ps qs up nets reads = list_back w (ReadsMember w) (λ p. net_data w p.0) (λ p n x ok read. (net_back w p.0 n h ok read, refl)) ps qs up nets reads

-- Of what was written of a set nothing is refused but memory.
pub set_unrefused : (w : ℕ) (ps : List (Net × Unit {0})) (e : JsonRefusal) → AreNets w ps → RefusesSet w (set_data w ps) e → e ≡ NoMemory
set_unrefused w ps NotList nets why = absurd (why (map (λ p. net_data w p.0) ps) refl)
set_unrefused w ps (NotPair at) nets why = absurd why
set_unrefused w ps (BadPrefix at) nets why = absurd (no_stop w _ _ (λ p. net_data w p.0) (λ p ok bad. good_prefix w p.0 ok bad) ps at nets why)
set_unrefused w ps (BadItem at) nets why = absurd why
set_unrefused w ps NoMemory nets why = refl

-- ---- results

-- What holds of an Ok holds where it follows.
pub if_ok : {T E : Type 0} {P Q : T → Type 0} (r : Result T E) → ((x : T) → P x → Q x) → IfOk r P → IfOk r Q
if_ok (Ok x) f h = f x h
if_ok (Err e) f h = tt

-- What holds of an Err holds where it follows.
pub if_err : {T E : Type 0} {P Q : E → Type 0} (r : Result T E) → ((e : E) → P e → Q e) → IfErr r P → IfErr r Q
if_err (Ok x) f h = tt
if_err (Err e) f h = f e h
