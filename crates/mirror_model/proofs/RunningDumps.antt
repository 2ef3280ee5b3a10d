-- What holds of a dump that runs: it follows its peer's table.
use Rattle.std.proofs.Common.{◌≡◌, ◌==◌, ◌&&◌, ◌||◌, ℕ, Bool, true, false, List, [], ◌∷◌, ◌++◌, Option, Some, None, refl, sym, ◌∙◌, ap, subst, append_assoc}
use Rattle.std.specs.List.{list_any}
use Rattle.std.specs.Option.{is_some}
use Rattle.mirror_model.specs.Tables.{Tables, Change, AreMaps, Alike, changed_maybe, names, puts}
use Rattle.mirror_model.specs.TableEvents.{Finished, Reply, TableEvent, DumpAsked, DumpReply, Notified, Lost, LinkClosed, Unrelated, is_loss, replies_with, interrupts}
use Rattle.mirror_model.specs.Honest.{notifies, replies_putting, IsWhole}
use Rattle.mirror_model.proofs.Tests.{and_second, any_more, by_test, none_of_fewer, or_false, or_first, or_second, unless, when}

module _ {T K V : Type 0} (o : Tables T K V) (maps : AreMaps o) where
  -- an unsolicited change of this key, or a reply of the stream that changes it
  abbrev pub touches : ℕ → K → TableEvent K V → Bool
  touches k key e = notifies o key e || replies_with (λ (r : Reply K V). names o r.change key) k e

  -- A dump under stream k with this table and mark, its peer's table P now, and the events that come.
  pub record Follows (k : ℕ) (table : T) (interrupted : Bool) (P : T) (later : List (TableEvent K V)) : Type 0 where
    -- the peer's table when the dump was asked, and the events since
    pub at_first : T
    pub since : List (TableEvent K V)
    pub whole : IsWhole o k at_first (since ++ later)
    pub marked : interrupted ≡ list_any (interrupts k) since
    pub unlost : list_any is_loss since ≡ false
    pub agrees : (key : K) → list_any (touches k key) since ≡ true → o.get table key ≡ o.get P key
    pub untouched : (key : K) → list_any (touches k key) since ≡ false → (o.get table key ≡ None) × (o.get P key ≡ o.get at_first key)

  -- One event that goes from P to Q and makes the dump's table `now` keeps that.
  pub record Keeps (k : ℕ) (table now P Q : T) (e : TableEvent K V) : Type 0 where
    pub no_loss : is_loss e ≡ false
    pub touched : (key : K) → touches k key e ≡ true → o.get now key ≡ o.get Q key
    pub passed : (key : K) → touches k key e ≡ false → (o.get now key ≡ o.get table key) × (o.get Q key ≡ o.get P key)
    pub agreed : (key : K) → o.get table key ≡ o.get P key → o.get now key ≡ o.get Q key

  module _ {k : ℕ} {table now P Q : T} {interrupted : Bool} {e : TableEvent K V} {es : List (TableEvent K V)}
      (f : Follows k table interrupted P (e ∷ es)) (keeps : Keeps k table now P Q e) where
    agrees_more : (key : K) → (a b : Bool) → list_any (touches k key) f.since ≡ a → touches k key e ≡ b → (a || b) ≡ true
        → o.get now key ≡ o.get Q key
    agrees_more key true b is is2 h = keeps.agreed key (f.agrees key is)
    agrees_more key false b is is2 h = keeps.touched key (is2 ∙ h)

    -- At a key that some event named the dump's table agrees with the peer's.
    pub agrees_next : (key : K) → list_any (touches k key) (f.since ++ e ∷ []) ≡ true → o.get now key ≡ o.get Q key
    agrees_next key h = agrees_more key _ _ refl refl (sym (any_more (touches k key) f.since e) ∙ h)

    -- At any other key it has nothing, and the peer's table is as it was.
    pub untouched_next : (key : K) → list_any (touches k key) (f.since ++ e ∷ []) ≡ false
        → (o.get now key ≡ None) × (o.get Q key ≡ o.get f.at_first key)
    untouched_next key h =
        let none : (list_any (touches k key) f.since || touches k key e) ≡ false = sym (any_more (touches k key) f.since e) ∙ h in
        let was = f.untouched key (or_first _ _ none) in
        let is = keeps.passed key (or_second _ _ none) in
        (is.0 ∙ was.0, is.1 ∙ was.1)

    -- A dump that follows goes on following.
    pub follows_next : Follows k now (interrupted || interrupts k e) Q es
    follows_next = record {
      at_first = f.at_first;
      since = f.since ++ e ∷ [];
      whole = subst (IsWhole o k f.at_first) (sym (append_assoc f.since (e ∷ []) es)) f.whole;
      marked = ap (λ b. b || interrupts k e) f.marked ∙ sym (any_more (interrupts k) f.since e);
      unlost = any_more is_loss f.since e ∙ ap (λ b. b || is_loss e) f.unlost ∙ keeps.no_loss;
      agrees = agrees_next;
      untouched = untouched_next;
    }

  -- an event that isn't of the dump
  pub keeps_apart : (k : ℕ) (table P Q : T) (e : TableEvent K V) → is_loss e ≡ false → ((key : K) → touches k key e ≡ false) → Alike o Q P
      → Keeps k table table P Q e
  keeps_apart k table P Q e h apart q = record {
    no_loss = h;
    touched = λ key is. let never : false ≡ true = sym (apart key) ∙ is in cc;
    passed = λ key is. (refl, q key);
    agreed = λ key is. is ∙ sym (q key);
  }

  -- a change makes a named key alike, and leaves the others
  named_alike : (c : Change K V) (t P : T) (key : K) → o.same key c.key ≡ true → o.get (o.changed c t) key ≡ o.get (o.changed c P) key
  named_alike c t P key is = maps.of_change c t key ∙ when (o.same key c.key) c.value (o.get t key) (o.get P key) is ∙ sym (maps.of_change c P key)

  left_alike : (c : Change K V) (t : T) (key : K) → o.same key c.key ≡ false → o.get (o.changed c t) key ≡ o.get t key
  left_alike c t key is = maps.of_change c t key ∙ unless (o.same key c.key) c.value (o.get t key) is

  -- A change of two tables keeps a key at which they agree.
  pub changed_alike : (c : Change K V) (t P : T) (key : K) → o.get t key ≡ o.get P key → o.get (o.changed c t) key ≡ o.get (o.changed c P) key
  changed_alike c t P key is =
      maps.of_change c t key ∙ by_test (o.same key c.key) c.value (o.get t key) (o.get P key) is ∙ sym (maps.of_change c P key)

  -- an unsolicited change
  pub keeps_heard : (k : ℕ) (table P Q : T) (c : Change K V) → Alike o Q (o.changed c P) → Keeps k table (o.changed c table) P Q (Notified c)
  keeps_heard k table P Q c q = record {
    no_loss = refl;
    touched = λ key is. named_alike c table P key (sym (or_false (o.same key c.key)) ∙ is) ∙ sym (q key);
    passed = λ key is. (left_alike c table key (or_first _ _ is), q key ∙ left_alike c P key (or_first _ _ is));
    agreed = λ key is. changed_alike c table P key is ∙ sym (q key);
  }

  -- a reply of the dump
  pub keeps_reply : (k : ℕ) (table P Q : T) (r : Reply K V) → (r.stream == k) ≡ true → Alike o (changed_maybe o r.change P) P → Alike o Q P
      → Keeps k table (changed_maybe o r.change table) P Q (DumpReply r)
  keeps_reply k table P Q r own fits q = record {
    no_loss = refl;
    touched = λ key is. of_change r.change key fits (sym (and_second _ _ own) ∙ is) ∙ sym (q key);
    passed = λ key is. (left r.change key (sym (and_second _ _ own) ∙ is), q key);
    agreed = λ key is. again r.change key fits is ∙ sym (q key);
  }
    where
      of_change : (c : Option (Change K V)) (key : K) → Alike o (changed_maybe o c P) P → names o c key ≡ true
          → o.get (changed_maybe o c table) key ≡ o.get P key
      of_change None key h is = cc
      of_change (Some c) key h is = named_alike c table P key is ∙ h key

      left : (c : Option (Change K V)) (key : K) → names o c key ≡ false → o.get (changed_maybe o c table) key ≡ o.get table key
      left None key is = refl
      left (Some c) key is = left_alike c table key is

      again : (c : Option (Change K V)) (key : K) → Alike o (changed_maybe o c P) P → o.get table key ≡ o.get P key
          → o.get (changed_maybe o c table) key ≡ o.get P key
      again None key h is = is
      again (Some c) key h is = changed_alike c table P key is ∙ h key

  fewer_puts : (k : ℕ) (key : K) (e : TableEvent K V) → touches k key e ≡ false → replies_putting o key k e ≡ false
  fewer_puts k key (DumpAsked j) h = refl
  fewer_puts k key (DumpReply r) h = of_change (r.stream == k) r.change h
    where
      and_false : (b : Bool) → (b && false) ≡ false
      and_false true = refl
      and_false false = refl

      of_change : (b : Bool) (c : Option (Change K V)) → (b && names o c key) ≡ false → (b && puts o c key) ≡ false
      of_change false c h = refl
      of_change true None h = refl
      of_change true (Some c) h = ap (λ t. t && is_some c.value) h
  fewer_puts k key (Notified c) h = refl
  fewer_puts k key Lost h = refl
  fewer_puts k key LinkClosed h = refl
  fewer_puts k key Unrelated h = refl

  -- A clean end makes the tables equal.
  pub completed : (k : ℕ) (table P Q : T) (interrupted : Bool) (r : Reply K V) (es : List (TableEvent K V))
      → Follows k table interrupted P (DumpReply r ∷ es)
      → r.stream ≡ k → (r.stream == k) ≡ true → r.ending ≡ Finished → (interrupted || r.interrupted) ≡ false
      → Alike o (changed_maybe o r.change P) P → Alike o Q P → Alike o (changed_maybe o r.change table) Q
  completed k table P Q interrupted r es f own own2 ends_dump clean fits q key =
      by_touch (list_any (touches k key) (f.since ++ DumpReply r ∷ [])) refl
    where
      keeps : Keeps k table (changed_maybe o r.change table) P Q (DumpReply r)
      keeps = keeps_reply k table P Q r own2 fits q

      marks : list_any (interrupts k) (f.since ++ DumpReply r ∷ []) ≡ false
      marks =
          any_more (interrupts k) f.since (DumpReply r) ∙ ap (λ b. b || interrupts k (DumpReply r)) (sym f.marked)
          ∙ ap (λ b. interrupted || b) (and_second _ _ own2) ∙ clean

      by_first : (was : Option V) → o.get f.at_first key ≡ was → list_any (touches k key) (f.since ++ DumpReply r ∷ []) ≡ false
          → o.get f.at_first key ≡ None
      by_first None is none = is
      by_first (Some v) is none =
          let unheard : list_any (notifies o key) f.since ≡ false =
          none_of_fewer (notifies o key) (touches k key) (λ e h. or_first _ _ h) f.since (or_first _ _ (sym (any_more (touches k key) f.since (DumpReply r))
          ∙ none)) in
          let put = f.whole f.since r es refl own ends_dump marks f.unlost key v is unheard in
          let unput = none_of_fewer (replies_putting o key k) (touches k key) (fewer_puts k key) (f.since ++ DumpReply r ∷ []) none in
          let never : false ≡ true = sym unput ∙ put in cc

      by_touch : (b : Bool) → list_any (touches k key) (f.since ++ DumpReply r ∷ []) ≡ b → o.get (changed_maybe o r.change table) key ≡ o.get Q key
      by_touch true is = agrees_next f keeps key is
      by_touch false is =
          let u = untouched_next f keeps key is in
          u.0 ∙ sym (u.1 ∙ by_first (o.get f.at_first key) refl is)
