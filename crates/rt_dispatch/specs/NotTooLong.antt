-- A message that fits is shorter than a frame can be.
use Rattle.std.proofs.Common.{◌≡◌, ◌+◌, ◌^◌, ◌<◌, ℕ, Bool, true, length, arith}
use Rattle.std.specs.Prelude.{◌&&◌, nat_le}
use Rattle.std.proofs.lemmas.Bool.{leb-true}
use Rattle.nl_core.proofs.FlatLists.{and_true}
use Rattle.rt_dispatch.specs.declared.message.RouteNetlinkMessage.{RouteNetlinkMessage}
use Rattle.rt_other.specs.Link as Link
use Rattle.rt_other.specs.Address as Address
use Rattle.rt_other.specs.Route as Route
use Rattle.rt_other.specs.Rule as Rule
use Rattle.rt_other.specs.Tc as Tc
use Rattle.rt_other.specs.TcAction as TcAction
use Rattle.rt_wire.specs.AddrLabel as AddrLabel
use Rattle.rt_neighbour.specs.Neighbour as Neighbour
use Rattle.rt_neighbour_table.specs.NeighbourTable as NeighbourTable
use Rattle.rt_wire.specs.Nsid as Nsid
use Rattle.rt_wire.specs.Prefix as Prefix
use Rattle.rt_stats.specs.Stats as Stats
use Rattle.rt_dispatch.specs.Dispatch.{Body, OfLink, OfAddress, OfRoute, OfRule, OfTc, OfTcAction, OfAddrLabel, OfNeighbour, OfNeighbourTable, OfNsid, OfPrefix, OfStats, body, body_text, body_fits, text, fits}

short : (each : Bool) (n : ℕ) → (each && nat_le (16 + n) 4_294_967_295) ≡ true → n + 16 < 2 ^ 32
short each n fit = omega (arith, leb-true _ _ (and_true each (nat_le (16 + n) 4_294_967_295) fit).1)

body-short : (b : Body) → body_fits b ≡ true → length (body_text b) + 16 < 2 ^ 32
body-short (OfLink m) fit = short _ (length (Link.text m)) fit
body-short (OfAddress m) fit = short _ (length (Address.text m)) fit
body-short (OfRoute m) fit = short _ (length (Route.text m)) fit
body-short (OfRule m) fit = short _ (length (Rule.text m)) fit
body-short (OfTc m) fit = short _ (length (Tc.text m)) fit
body-short (OfTcAction m) fit = short _ (length (TcAction.text m)) fit
body-short (OfAddrLabel m) fit = short _ (length (AddrLabel.text m)) fit
body-short (OfNeighbour m) fit = short _ (length (Neighbour.text m)) fit
body-short (OfNeighbourTable m) fit = short _ (length (NeighbourTable.text m)) fit
body-short (OfNsid m) fit = short _ (length (Nsid.text m)) fit
body-short (OfPrefix m) fit = short _ (length (Prefix.text m)) fit
body-short (OfStats m) fit = short _ (length (Stats.text m)) fit

-- A message that fits and its frame's header are shorter than 2^32 bytes.
pub not-too-long : (m : RouteNetlinkMessage) → fits m ≡ true → length (text m) + 16 < 2 ^ 32
unfolding text fits
not-too-long m fit = body-short (body m) fit
