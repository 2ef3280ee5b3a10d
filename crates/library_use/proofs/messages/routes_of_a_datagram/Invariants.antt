use Rattle.std.proofs.Common.{length}
use Rattle.library_use.proofs.messages.routes_of_a_datagram.Given as goal

-- each turn takes a frame out of the datagram
abbrev pub decreases-frames : goal.decreases-frames
decreases-frames g l = length l.datagram.items
