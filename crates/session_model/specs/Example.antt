-- The definitions at work on short transcripts: what they give is computed here, from the definitions alone.
use Rattle.std.specs.Prelude.{◌≡◌, ℕ, false, List, [], ◌∷◌, ◌++◌, refl, codes, replicate}
use Rattle.std.specs.Fmt.{digits}
use Rattle.nl_core.specs.Numbers.{le16, le32, le_i32, u16_at, u32_at, i32_at}
use Rattle.nl_core.specs.Raw.{raw_format}
use Rattle.session_model.specs.declared.address.SocketAddr.{SocketAddr}
use Rattle.session_model.specs.declared.outcome.Report.{Report}
use Rattle.session_model.specs.declared.transcript.BatchFrame.{BatchFrame}
use Rattle.session_model.specs.declared.transcript.Record.{Record}
use Rattle.session_model.specs.declared.transcript.Record.TheVariants.{Recv, Overrun, Close, Batch}
use Rattle.session_model.specs.declared.transcript.Mark.TheVariants.{ByFlags, Expected, NotExpected}
use Rattle.session_model.specs.SessionText.{session_text}
use Rattle.session_model.specs.Reported.{report_of}
use Rattle.session_model.specs.Usual.{usual}

-- A request for all routes, under a number.
abbrev dump : ℕ → List ℕ
dump k = 28 ∷ 0 ∷ 0 ∷ 0 ∷ 26 ∷ 0 ∷ 1 ∷ 3 ∷ k ∷ 0 ∷ 0 ∷ 0 ∷ replicate 16 0

-- The end of a dump.
abbrev done : ℕ → List ℕ
done k = 20 ∷ 0 ∷ 0 ∷ 0 ∷ 3 ∷ 0 ∷ 2 ∷ 0 ∷ k ∷ 0 ∷ 0 ∷ 0 ∷ replicate 8 0

-- An end of a dump without its code, which can't be read.
abbrev short_done : ℕ → List ℕ
short_done k = 18 ∷ 0 ∷ 0 ∷ 0 ∷ 3 ∷ 0 ∷ 2 ∷ 0 ∷ k ∷ 0 ∷ 0 ∷ 0 ∷ replicate 6 0

abbrev kernel : SocketAddr
kernel = record { port = 0; groups = 0 }

abbrev by_flags : List ℕ → BatchFrame
by_flags bytes = record { mark = ByFlags; bytes = bytes }

abbrev expected : List ℕ → BatchFrame
expected bytes = record { mark = Expected; bytes = bytes }

abbrev not_expected : List ℕ → BatchFrame
not_expected bytes = record { mark = NotExpected; bytes = bytes }

abbrev text : List Record → List ℕ
text rs = session_text raw_format usual rs

abbrev report : List Record → Report
report rs = report_of raw_format usual false rs

abbrev lined : List ℕ → List ℕ
lined words = words ++ 10 ∷ []

-- What is written of a first batch that asks for all routes.
abbrev sent_dump : List ℕ
sent_dump = codes "sent 0 0 1c0000001a0001030100000000000000000000000000000000000000"

abbrev asked_and_ended : List Record
asked_and_ended = Batch kernel (expected (dump 0) ∷ []) ∷ Recv kernel (done 1) ∷ []

one_reply_ends_it : text asked_and_ended ≡ lined sent_dump ++ lined (codes "closed 1")
unfolding digits le16 le32 le_i32 u16_at u32_at i32_at
one_reply_ends_it = refl

its_report : report asked_and_ended ≡ record { lines = 2; messages = 1; dropped = 0; still_open = 0; in_step = false }
unfolding le16 le32 le_i32 u16_at u32_at i32_at
its_report = refl

-- An empty batch sends nothing, and like one that awaits nothing it closes in its own record.
nothing_awaited : text (Batch kernel [] ∷ Batch kernel (not_expected (dump 0) ∷ []) ∷ [])
    ≡ lined (codes "closed 1") ++ lined sent_dump ++ lined (codes "closed 2")
unfolding digits le16 le32 le_i32 u16_at u32_at i32_at
nothing_awaited = refl

-- The same end twice: the second is unsolicited.
ended_twice : text (Batch kernel (by_flags (dump 0) ∷ []) ∷ Recv kernel (done 1 ++ done 1) ∷ [])
    ≡ lined sent_dump ++ lined (codes "unsol 2 0 0 3 2 1 0 00000000") ++ lined (codes "closed 1")
unfolding digits le16 le32 le_i32 u16_at u32_at i32_at
ended_twice = refl

-- Of two awaited frames one is still awaited.
one_of_two_open : report (Batch kernel (expected (dump 0) ∷ expected (dump 0) ∷ []) ∷ Recv kernel (done 1) ∷ [])
    ≡ record { lines = 2; messages = 1; dropped = 0; still_open = 1; in_step = false }
unfolding le16 le32 le_i32 u16_at u32_at i32_at
one_of_two_open = refl

-- An unreadable frame ends nothing, and a close ends all.
unread_then_closed : text (Batch kernel (by_flags (dump 0) ∷ []) ∷ Recv kernel (short_done 1) ∷ Close ∷ [])
    ≡ lined sent_dump ++ lined (codes "closed 1")
unfolding digits le16 le32 le_i32 u16_at u32_at i32_at
unread_then_closed = refl

-- An overrun arrives as a message.
overrun_arrives : text (Overrun ∷ []) ≡ lined (codes "unsol 1 0 0 4 0 0 0 -")
unfolding digits
overrun_arrives = refl
