-- One more of a queue.
use Rattle.std.proofs.Common.{◌≡◌, ◌&&◌, ℕ, Bool, true, false, List, [], ◌∷◌, ◌++◌, refl, sym, ◌∙◌, ap, append_assoc}
use Rattle.std.specs.List.{list_all}
use Rattle.nl_core.specs.Frames.{message_text}
use Rattle.nl_core.specs.declared.message.NetlinkMessage.{NetlinkMessage}
use Rattle.proto_core.specs.Session.{Session, requested}
use Rattle.proto_core.specs.declared.messages.Response.{Response}
use Rattle.proto_core.specs.declared.request.Request.{Request}
use Rattle.proto_conn.specs.declared.parts.Forward.{Forward}
use Rattle.proto_conn.specs.declared.parts.Reply.{Reply}
use Rattle.proto_conn.specs.Conn.{TookSome, handed_on, is_handed_on, taken_in}
use Rattle.proto_conn.specs.Sending.{texts}
use Rattle.proto_conn.proofs.Seeing.{append-nil}

pub all_but_first : {X : Type 0} (p : X → Bool) (x : X) (xs ys : List X) → ys ≡ x ∷ xs → list_all p ys ≡ true → list_all p xs ≡ true
all_but_first p x xs ys cut h = rest (p x) (sym (ap (list_all p) cut) ∙ h)
  where
    rest : (b : Bool) → (b && list_all p xs) ≡ true → list_all p xs ≡ true
    rest true e = e
    rest false e = cc

-- one more frame of a datagram
pub appended_one : {T : Type 0} (text : T → List ℕ) (before now whole : List ℕ) (m : NetlinkMessage T) (ms xs : List (NetlinkMessage T)) → xs ≡ m ∷ ms
    → before ++ texts text xs ≡ whole → now ≡ before ++ message_text text m → now ++ texts text ms ≡ whole
appended_one text before now whole m ms xs cut h is =
    ap (λ n. n ++ texts text ms) is ∙ append_assoc before (message_text text m) (texts text ms) ∙ ap (λ ys. before ++ texts text ys) (sym cut) ∙ h

handed_cons : {T : Type 0} (f : Forward) (g : List Bool) (r : Response T ℕ) (rs : List (Response T ℕ))
    → handed_on f g (r ∷ rs) ≡ handed_on f g (r ∷ []) ++ handed_on f g rs
handed_cons f g r rs = by (is_handed_on f g r) refl
  where
    by : (b : Bool) → is_handed_on f g r ≡ b → handed_on f g (r ∷ rs) ≡ handed_on f g (r ∷ []) ++ handed_on f g rs
    by true e = rw e refl
    by false e = rw e refl

-- one more reply is handed on
pub moved_one : {T : Type 0} (f : Forward) (g : List Bool) (before now whole : List (Reply T)) (r : Response T ℕ) (rs old : List (Response T ℕ)) → old ≡ r ∷ rs
    → before ++ handed_on f g old ≡ whole → now ≡ before ++ handed_on f g (r ∷ []) → now ++ handed_on f g rs ≡ whole
moved_one f g before now whole r rs old cut h is =
    ap (λ n. n ++ handed_on f g rs) is ∙ append_assoc before (handed_on f g (r ∷ [])) (handed_on f g rs)
    ∙ ap (λ ys. before ++ ys) (sym (handed_cons f g r rs) ∙ ap (handed_on f g) (sym cut)) ∙ h

module _ {T : Type 0} where
  with_responses : Session T ℕ → List (Response T ℕ) → Session T ℕ
  with_responses s rs = record s { responses = rs }

  -- a reply was taken out of a session that differs from another by its replies alone
  pub popped : (a b i : Session T ℕ) (r : Response T ℕ) → a ≡ record b { responses = r ∷ b.responses } → a ≡ record i { responses = a.responses }
      → b ≡ record i { responses = b.responses }
  popped a b i r e h =
      let one : record a { responses = b.responses } ≡ b = ap (λ (s : Session T ℕ). record s { responses = b.responses }) e in
      let two : record a { responses = b.responses } ≡ record i { responses = b.responses } = ap (λ
      (s : Session T ℕ). record s { responses = b.responses }) h in
      sym one ∙ two

  module _ (kind : T → ℕ) (text : T → List ℕ) where
    taken-append : (rs qs : List (Request T ℕ)) (s : Session T ℕ) → taken_in kind text (rs ++ qs) s ≡ taken_in kind text qs (taken_in kind text rs s)
    taken-append [] qs s = refl
    taken-append (r ∷ rs) qs s = taken-append rs qs (requested kind text s r)

    -- one more request is taken
    pub took_one : (queue : List (Request T ℕ)) (s : Session T ℕ) (old left : List (Request T ℕ)) (s1 s2 : Session T ℕ) (r : Request T ℕ)
        → old ≡ r ∷ left → s2 ≡ requested kind text s1 r
        → TookSome kind text queue s old s1 → TookSome kind text queue s left s2
    took_one queue s old left s1 s2 r cut is h = record {
      front = h.front ++ r ∷ [];
      split = h.split ∙ ap (λ qs. h.front ++ qs) cut ∙ sym (append_assoc h.front (r ∷ []) left);
      session = is ∙ ap (λ t. requested kind text t r) h.session ∙ sym (taken-append h.front (r ∷ []) s);
    }

    pub took_all : (queue : List (Request T ℕ)) (s : Session T ℕ) (left : List (Request T ℕ)) (s1 : Session T ℕ) → left ≡ []
        → TookSome kind text queue s left s1 → s1 ≡ taken_in kind text queue s
    took_all queue s left s1 none h = h.session ∙ ap (λ qs. taken_in kind text qs s) (sym (append-nil h.front)
        ∙ ap (λ qs. h.front ++ qs) (sym none) ∙ sym h.split)
