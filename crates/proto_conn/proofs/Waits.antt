-- What waits in a connection.
use Rattle.std.proofs.Common.{◌≡◌, ℕ, List, [], ◌∷◌, refl, sym, subst, ◌∙◌}
use Rattle.session_model.specs.declared.address.SocketAddr.{SocketAddr}
use Rattle.proto_conn.specs.declared.link.Arrival.{Arrival}
use Rattle.proto_conn.specs.declared.parts.Held.{Held}
use Rattle.proto_conn.specs.declared.parts.Held.TheVariants as held
use Rattle.proto_conn.specs.Conn.{HasDatagram, one_datagram, waiting_in}

waits_in : (h : Held) (source : SocketAddr) (bytes : List ℕ) → HasDatagram (waiting_in h source bytes) → waiting_in h source bytes ≡ one_datagram bytes source
waits_in held.Nothing source [] has = absurd has
waits_in held.Nothing source (b ∷ bytes) has = refl
waits_in held.Datagram source bytes has = refl
waits_in held.Overrun source bytes has = absurd has

-- Where a datagram waits, its bytes are those of the reader.
pub waits_at : (h : Held) (source : SocketAddr) (bytes : List ℕ) (waiting : List Arrival) → waiting_in h source bytes ≡ waiting → HasDatagram waiting
    → waiting ≡ one_datagram bytes source
waits_at h source bytes waiting is has = sym is ∙ waits_in h source bytes (subst HasDatagram (sym is) has)
