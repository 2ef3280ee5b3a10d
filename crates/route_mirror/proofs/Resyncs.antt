-- The frame of a resync, and its message.
use Rattle.std.proofs.Common.{◌≡◌, true, Ok, refl}
use Rattle.nl_core.specs.Attribute.{attributes, walk}
use Rattle.nl_core.specs.Frames.{frame_at, message_fits}
use Rattle.nl_core.specs.Numbers.{le32, u16_at, u32_at}
use Rattle.rt_other.specs.Route.{header_text}
use Rattle.session_model.specs.Events.{resync_bytes}
use Rattle.rt_dispatch.specs.Dispatch.{body, fits, reads, route_netlink_format, text}
use Rattle.route_mirror.specs.Requests.{dump_message}

-- The frame reads as the message that asks for all routes.
pub resync_reads : frame_at route_netlink_format.reads resync_bytes ≡ Ok dump_message
unfolding reads attributes walk u16_at u32_at
resync_reads = refl

-- This message fits.
pub dump_fits : message_fits route_netlink_format.text route_netlink_format.fits dump_message ≡ true
unfolding fits text body header_text le32
dump_fits = refl
