-- The networks that are blocked at a place: those that a record before it blocked, and no later one unblocked.
use Rattle.std.specs.Prelude.{◌==◌, ◌&&◌, ◌++◌, Bool, false, not, List, [], ◌∷◌}
use Rattle.std.specs.List.{filter, list_any}
use Rattle.session_model.specs.Events.{Event, Sent, Came, Unread, Leftover, Overran, Shut, Other, Aside, Blocked, Unblocked, LookedUp}
use Rattle.session_model.specs.declared.network.Network.{Network}
use Rattle.mirror_model.specs.Routes.{width_of, number_of, without_host_bits}
use Rattle.session_model.specs.Networks.{length_of}

-- Two networks of a family with the same number and length.
abbrev pub is_same : Network → Network → Bool
is_same a b = (width_of a == width_of b) && (number_of a == number_of b) && (length_of a == length_of b)

-- The network that a record blocks, without host bits.
abbrev pub blocked_by : Aside → List Network
blocked_by (Blocked n) = without_host_bits n ∷ []
blocked_by (Unblocked n) = []
blocked_by (LookedUp a) = []

-- The network that a record unblocks.
abbrev pub unblocked_by : Aside → List Network
unblocked_by (Blocked n) = []
unblocked_by (Unblocked n) = without_host_bits n ∷ []
unblocked_by (LookedUp a) = []

-- What an event blocks.
abbrev pub newly_blocked : {M : Type 0} → Event M → List Network
newly_blocked (Sent to frames) = []
newly_blocked (Came m source) = []
newly_blocked (Unread kind number source) = []
newly_blocked (Leftover count source) = []
newly_blocked Overran = []
newly_blocked Shut = []
newly_blocked (Other aside) = blocked_by aside

-- Whether an event unblocks a network.
abbrev pub unblocks : {M : Type 0} → Network → Event M → Bool
unblocks n (Sent to frames) = false
unblocks n (Came m source) = false
unblocks n (Unread kind number source) = false
unblocks n (Leftover count source) = false
unblocks n Overran = false
unblocks n Shut = false
unblocks n (Other aside) = list_any (λ u. is_same u n) (unblocked_by aside)

-- What is blocked after events: each network that was blocked, and that no later event unblocks.
abbrev pub blocked_at : {M : Type 0} → List (Event M) → List Network
blocked_at [] = []
blocked_at (e ∷ es) = filter (λ n. not (list_any (λ later. unblocks n later) es)) (newly_blocked e) ++ blocked_at es
