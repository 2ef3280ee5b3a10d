-- What is asked of a peer: how its table goes on beside the events of a session.
use Rattle.std.specs.Prelude.{◌≡◌, ◌+◌, ◌++◌, ◌&&◌, ◌||◌, not, ℕ, Bool, true, false, List, [], ◌∷◌, Some}
use Rattle.std.specs.List.{list_any}
use Rattle.mirror_model.specs.Tables.{Tables, changed_maybe, puts, Alike}
use Rattle.mirror_model.specs.TableEvents.{Finished, Reply, TableEvent, DumpAsked, DumpReply, Notified, Lost, LinkClosed, Unrelated, is_loss, replies_with, interrupts, finishes}

module _ {T K V : Type 0} (o : Tables T K V) where
  -- Whether an event is an unsolicited change of a key.
  abbrev pub notifies : K → TableEvent K V → Bool
  notifies key (DumpAsked j) = false
  notifies key (DumpReply r) = false
  notifies key (Notified c) = o.same key c.key
  notifies key Lost = false
  notifies key LinkClosed = false
  notifies key Unrelated = false

  -- Whether it is a reply of a stream that puts something under the key.
  abbrev pub replies_putting : K → ℕ → TableEvent K V → Bool
  replies_putting key k e = replies_with (λ (x : Reply K V). puts o x.change key) k e

  -- An event fits the peer's tables before and after it. A notification says how the table changed. A reply of a dump says
  -- what is in the table already. At a loss the table may change in any way, else it stays.
  abbrev pub Fits : TableEvent K V → T → T → Type 0
  Fits (DumpAsked k) before after = Alike o after before
  Fits (DumpReply r) before after = Alike o (changed_maybe o r.change before) before × Alike o after before
  Fits (Notified c) before after = Alike o after (o.changed c before)
  Fits Lost before after = Unit {0}
  Fits LinkClosed before after = Alike o after before
  Fits Unrelated before after = Alike o after before

  -- A dump that was asked when the peer had this table is whole: where it ends by a Done of code 0, uninterrupted and with
  -- no loss before that, each key of the table that no unsolicited change named before the end is put by one of its replies.
  abbrev pub IsWhole : ℕ → T → List (TableEvent K V) → Type 0
  IsWhole k table later = (between : List (TableEvent K V)) (r : Reply K V) (rest : List (TableEvent K V)) → later ≡ between ++ DumpReply r ∷ rest
      → r.stream ≡ k → r.ending ≡ Finished → list_any (interrupts k) (between ++ DumpReply r ∷ []) ≡ false → list_any is_loss between ≡ false
      → (key : K) (value : V) → o.get table key ≡ Some value → list_any (notifies key) between ≡ false
      → list_any (replies_putting key k) (between ++ DumpReply r ∷ []) ≡ true

  -- Each dump that is asked is whole.
  abbrev pub WholeFrom : TableEvent K V → T → List (TableEvent K V) → Type 0
  WholeFrom (DumpAsked k) table later = IsWhole k table later
  WholeFrom (DumpReply r) table later = Unit {0}
  WholeFrom (Notified c) table later = Unit {0}
  WholeFrom Lost table later = Unit {0}
  WholeFrom LinkClosed table later = Unit {0}
  WholeFrom Unrelated table later = Unit {0}

  -- A history has the peer's table before each event, by the event's place from n on, and after the last. It is honest
  -- where each event fits it and each dump is whole.
  abbrev pub HonestFrom : ℕ → (ℕ → T) → List (TableEvent K V) → Type 0
  HonestFrom n history [] = Unit {0}
  HonestFrom n history (e ∷ es) = Fits e (history n) (history (n + 1)) × WholeFrom e (history n) es × HonestFrom (n + 1) history es

  -- From the first event on.
  abbrev pub IsHonest : (ℕ → T) → List (TableEvent K V) → Type 0
  IsHonest history es = HonestFrom 0 history es

  -- A test for one key, from which `IsWhole` follows: up to the clean end, if that comes, there is a loss, an interruption,
  -- an unsolicited change of the key or a reply that puts it.
  abbrev pub is_accounted_for : ℕ → K → List (TableEvent K V) → Bool
  is_accounted_for k key [] = true
  is_accounted_for k key (e ∷ es) =
      is_loss e || interrupts k e || notifies key e || replies_putting key k e || (not (finishes k e) && is_accounted_for k key es)
