-- The transcript that is generated: a dump of n routes, networks that are blocked, and a look-up for each route.
use Rattle.std.specs.Prelude.{◌+◌, ◌-◌, ◌*◌, ◌%◌, ◌^◌, ◌==◌, ℕ, List, [], ◌∷◌, ◌++◌, map}
use Rattle.std.specs.List.{filter, range_with_len}
use Rattle.std.specs.Int.{w32, to_be_bytes, to_le_bytes}
use Rattle.session_model.specs.declared.network.Address.TheVariants as address
use Rattle.session_model.specs.declared.network.Network.TheVariants as network
use Rattle.session_model.specs.declared.transcript.Record.{Record}
use Rattle.session_model.specs.declared.transcript.Record.TheVariants.{Recv, Resync, Block, Lookup}
use Rattle.session_model.specs.Transcript.{lines_of}

-- ---- the i-th route

-- The i-th address. The multiplier is 2^32 over the golden ratio, which spreads the addresses over all.
abbrev pub address_at : ℕ → ℕ
address_at i = i * 2654435761 % 2 ^ 32

-- How many leading bits of it are its route's network.
abbrev pub length_at : ℕ → ℕ
length_at i = 8 + i % 25

-- An address without all but so many leading bits.
abbrev pub leading_bits : ℕ → ℕ → ℕ
leading_bits number length = number - number % 2 ^ (32 - length)

-- ---- frames

-- The header of a frame: its count of bytes, its type, the flag that it is one of several (NLM_F_MULTI), number 1, port 0.
abbrev pub header : ℕ → ℕ → List ℕ
header length kind = length ∷ 0 ∷ 0 ∷ 0 ∷ kind ∷ 0 ∷ 2 ∷ 0 ∷ 1 ∷ 0 ∷ 0 ∷ 0 ∷ 0 ∷ 0 ∷ 0 ∷ 0 ∷ []

-- The header of a route to an IPv4 network (AF_INET, 2) of this length: table 254 (RT_TABLE_MAIN), type 1 (RTN_UNICAST).
abbrev pub route_header : ℕ → List ℕ
route_header length = 2 ∷ length ∷ 0 ∷ 0 ∷ 254 ∷ 0 ∷ 0 ∷ 1 ∷ 0 ∷ 0 ∷ 0 ∷ 0 ∷ []

-- An attribute of a value of four bytes.
abbrev pub attribute : ℕ → List ℕ → List ℕ
attribute kind value = 8 ∷ 0 ∷ kind ∷ 0 ∷ value

-- The frame of the i-th route, a new route (RTM_NEWROUTE, 24) with its destination (RTA_DST, 1), the link that it leaves
-- by (RTA_OIF, 4) and its priority (RTA_PRIORITY, 6).
abbrev pub route_frame : ℕ → List ℕ
route_frame i =
    header 52 24 ++ route_header (length_at i) ++ attribute 1 (to_be_bytes w32 (leading_bits (address_at i) (length_at i)))
    ++ attribute 4 (to_le_bytes w32 (1 + i % 16)) ++ attribute 6 (to_le_bytes w32 (i % 4))

-- The frame that ends the dump (NLMSG_DONE, 3), with code 0.
abbrev pub done_frame : List ℕ
done_frame = header 20 3 ++ 0 ∷ 0 ∷ 0 ∷ 0 ∷ []

-- ---- records

-- A datagram from the kernel.
abbrev pub from_kernel : List ℕ → Record
from_kernel bytes = Recv (record { port = 0; groups = 0 }) bytes

-- The datagram of the i-th route.
abbrev pub route_record : ℕ → Record
route_record i = from_kernel (route_frame i)

-- The network of the first 16 bits of the i-th address is blocked.
abbrev pub block_record : ℕ → Record
block_record i = Block (network.V4 (leading_bits (address_at i) 16, 16))

-- The i-th address is looked up.
abbrev pub lookup_record : ℕ → Record
lookup_record i = Lookup (address.V4 (address_at i))

-- The numbers below n, ascending.
abbrev pub numbers : ℕ → List ℕ
numbers n = range_with_len 0 n

-- The transcript: a dump is asked, n routes come and its end, each thousandth network is blocked, and each address is
-- looked up.
abbrev pub generated : ℕ → List Record
generated n =
    Resync
    ∷ (map route_record (numbers n)
    ++ (from_kernel done_frame ∷ (map block_record (filter (λ i. i % 1000 == 0) (numbers n)) ++ map lookup_record (numbers n))))

-- Its text.
abbrev pub gen_text : ℕ → List ℕ
gen_text n = lines_of (generated n)

-- The most routes with which the text is within the usual limit of an input.
abbrev pub most_routes : ℕ
most_routes = 400000
