-- What a connection over a prompt tape sends: nothing where nothing is to be sent, and else one datagram.
use Rattle.std.proofs.Common.{◌≡◌, ◌⊎◌, inl, inr, ◌||◌, Bool, true, false, not, List, [], ◌∷◌, ◌++◌, Some, refl, sym, ◌∙◌, ap, subst}
use Rattle.proto_core.specs.declared.messages.Outgoing.{Outgoing}
use Rattle.proto_conn.specs.declared.link.Posted.{Posted}
use Rattle.proto_conn.specs.Flushing.{Broke, Flushed, FlushedIf, Flushes, GoesOn, LeftWhole, SendsNext, Stalled, is_nothing, is_stuck, load}
use Rattle.proto_conn.specs.Links.{Manners, Prompt, SureSender, Free, is_prompt, is_sure}
use Rattle.proto_conn.specs.Sending.{datagram_of, texts}
use Rattle.proto_conn.specs.Tapes.{Tape, manners_of, means}
use Rattle.session_laws.specs.After.{without_outgoing}
use Rattle.mirror.specs.Format.{Message, format}
use Rattle.mirror.specs.Polled.{RouteConn}

-- A prompt link is a sure sender.
pub sure_of : (m : Manners) → is_prompt m ≡ true → is_sure m ≡ true
sure_of Prompt h = refl
sure_of SureSender h = refl
sure_of Free h = h

-- A tape's manners.
abbrev pub manners : Tape → Manners
manners t = manners_of t.fail t.stall

true_false : {A : Type 0} (b : Bool) → b ≡ true → b ≡ false → A
true_false true h e = cc
true_false false h e = cc

-- A flush over a sure sender sends all that is unsent.
flushed_whole : (c now : RouteConn) → c.closed ≡ false → is_sure (manners c.link) ≡ true → Flushed means c now
    → (h : Flushes means c now) × LeftWhole means c h.out now
flushed_whole c now open_still sure h = by (subst (λ b. FlushedIf means b c now) open_still h)
  where
    how : (f : Flushes means c now) → LeftWhole means c f.out now ⊎ Stalled means c f.out now ⊎ Broke means c f.out now
        → (h : Flushes means c now) × LeftWhole means c h.out now
    how f (inl l) = (f, l)
    how f (inr (inl l)) = true_false (is_sure (manners c.link)) sure l.4
    how f (inr (inr l)) = true_false (is_sure (manners c.link)) sure l.4

    by : Flushes means c now → (h : Flushes means c now) × LeftWhole means c h.out now
    by f = how f f.how

-- Where nothing is unsent a flush changes nothing.
flushed_nothing : (c now : RouteConn) → c.unsent ≡ [] → is_sure (manners c.link) ≡ true → Flushed means c now → now ≡ c
flushed_nothing c now none sure h = by c.closed refl h
  where
    by : (b : Bool) → c.closed ≡ b → FlushedIf means b c now → now ≡ c
    by true e f = f
    by false e f =
        let w = flushed_whole c now e sure h in
        w.0.stays
        ∙ ap (λ l. record c { link = l; unsent = now.unsent; closed = now.closed }) (w.0.idle none)
        ∙ ap (λ u. record c { unsent = u; closed = now.closed }) (w.1.1 ∙ sym none)
        ∙ ap (λ b. record c { closed = b }) (w.1.2 ∙ sym e)

-- Where no batch waits either, sending changes nothing.
pub sends_nothing : (c now : RouteConn) → c.unsent ≡ [] → c.session.outgoing ≡ [] → is_prompt (manners c.link) ≡ true
    → SendsNext means format.text c now → now ≡ c
sends_nothing c now none empty prompt h = by (is_stuck c) (subst (λ m. GoesOn means format.text (is_stuck m) m now) first h.next)
  where
    sure : is_sure (manners c.link) ≡ true
    sure = sure_of (manners c.link) prompt

    first : h.mid ≡ c
    first = flushed_nothing c h.mid none sure h.first

    by : (b : Bool) → GoesOn means format.text b c now → now ≡ c
    by true g = g
    by false g = flushed_nothing c now none sure (subst (λ k. Flushed means k now) (ap (load format.text c) empty) g)

-- A batch that was sent: what the connection is then, and its tape.
pub record SendsOne (c : RouteConn) (o : Outgoing Message) (now : RouteConn) : Type 0 where
  pub is : now ≡ record c { link = now.link; session = without_outgoing c.session }
  pub waits : now.link.waits ≡ c.link.waits
  pub posted : now.link.posted ≡ c.link.posted ++ datagram_of (texts format.text o.messages) o.destination
  pub closings : now.link.closings ≡ c.link.closings
  pub prompt : is_prompt (manners now.link) ≡ true

-- Where one batch waits it is sent as one datagram.
pub sends_one : (c now : RouteConn) (o : Outgoing Message) → c.unsent ≡ [] → c.closed ≡ false → c.session.outgoing ≡ o ∷ []
    → is_prompt (manners c.link) ≡ true → SendsNext means format.text c now → SendsOne c o now
sends_one c now o none open_still one prompt h =
    by (subst (λ k. Flushed means k now) (ap (load format.text c) one)
    (subst (λ b. GoesOn means format.text b c now) stuck (subst (λ m. GoesOn means format.text (is_stuck m) m now) first h.next)))
  where
    sure : is_sure (manners c.link) ≡ true
    sure = sure_of (manners c.link) prompt

    first : h.mid ≡ c
    first = flushed_nothing c h.mid none sure h.first

    stuck : is_stuck c ≡ false
    stuck = ap (λ b. b || not (is_nothing c.unsent)) open_still ∙ ap (λ u. not (is_nothing u)) none

    bytes : List Posted
    bytes = datagram_of (texts format.text o.messages) o.destination

    inside : (xs ys : List Posted) → Some xs ≡ Some ys → xs ≡ ys
    inside xs ys e = cc

    by : Flushed means (load format.text c (o ∷ [])) now → SendsOne c o now
    by f =
        let w = flushed_whole (load format.text c (o ∷ [])) now open_still sure f in
        let flush = w.0 in
        record {
          is = flush.stays
              ∙ ap (λ u. record c { link = now.link; session = without_outgoing c.session; unsent = u; closed = now.closed }) (w.1.1 ∙ sym none)
              ∙ ap (λ b. record c { link = now.link; session = without_outgoing c.session; closed = b }) (w.1.2 ∙ sym open_still);
          waits = waits_same flush.sends.waits;
          posted = inside now.link.posted (c.link.posted ++ flush.out) flush.sends.posted ∙ ap (λ out. c.link.posted ++ out) w.1.0;
          closings = flush.sends.closings;
          prompt = flush.sends.later.prompt prompt;
        }
      where
        waits_same : Some now.link.waits ≡ Some c.link.waits → now.link.waits ≡ c.link.waits
        waits_same e = cc
