-- The flags of a header that a session looks at, by their values in the kernel header linux/netlink.h.
use Rattle.std.specs.Prelude.{◌==◌, ◌||◌, ℕ, Bool, not, bit_and}
use Rattle.nl_core.specs.declared.header.NetlinkHeader.{NetlinkHeader}

-- Whether a flag is set in a header.
abbrev pub has : ℕ → NetlinkHeader → Bool
has flag h = not (bit_and h.flags flag == 0)

-- It asks for something (NLM_F_REQUEST).
abbrev pub requests : NetlinkHeader → Bool
requests h = has 1 h

-- It is one of several that answer together (NLM_F_MULTI).
abbrev pub is_multipart : NetlinkHeader → Bool
is_multipart h = has 2 h

-- It asks for an acknowledgement (NLM_F_ACK).
abbrev pub asks_ack : NetlinkHeader → Bool
asks_ack h = has 4 h

-- It asks for its own echo (NLM_F_ECHO).
abbrev pub asks_echo : NetlinkHeader → Bool
asks_echo h = has 8 h

-- By its flags a frame of a request awaits a reply.
abbrev pub wants_reply : NetlinkHeader → Bool
wants_reply h = requests h || asks_ack h || asks_echo h
