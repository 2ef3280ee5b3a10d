-- The cut of bytes into frames, from the front.
use Rattle.std.specs.Prelude.{◌≡◌, ◌<◌, ◌&&◌, ◌⊎◌, ℕ, zero, suc, Bool, if◌then◌else◌, List, [], ◌∷◌, ◌++◌, length, take, drop, nat_le, flat_map}
use Rattle.std.specs.List.{AllByRecursion}
use Rattle.nl_core.specs.Frames.{IsFrame, length_at}

-- Bytes begin no frame where a header is missing, or its length field is below 16 or above the count of bytes.
abbrev pub BeginsNone : List ℕ → Type 0
BeginsNone bytes = (length bytes < 16) ⊎ (length_at bytes < 16) ⊎ (length bytes < length_at bytes)

-- A cut of bytes: frames and a rest that begins none, which joined in order give the bytes.
pub record IsCut (bytes : List ℕ) (frames : List (List ℕ)) (rest : List ℕ) : Type 0 where
  pub whole : bytes ≡ flat_map (λ frame. frame) frames ++ rest
  pub each : AllByRecursion IsFrame frames
  pub rest_begins : BeginsNone rest

-- Whether bytes begin a frame.
abbrev pub begins : List ℕ → Bool
begins bytes = nat_le 16 (length bytes) && nat_le 16 (length_at bytes) && nat_le (length_at bytes) (length bytes)

-- How far a cut steps past a frame of a length.
abbrev pub stride : ℕ → ℕ
stride n = n

-- What follows the frame at the front.
abbrev pub after_front : List ℕ → List ℕ
after_front bytes = drop (stride (length_at bytes)) bytes

-- A fold over at most so many frames at the front, each given with all that follows it, down to the rest.
abbrev pub fold_frames_below : {X : Type 0} → (List ℕ → X → X) → (List ℕ → X) → ℕ → List ℕ → X
fold_frames_below frame rest zero bytes = rest bytes
fold_frames_below frame rest (suc n) bytes =
    if begins bytes then frame bytes (fold_frames_below frame rest n (after_front bytes)) else rest bytes

-- The fold over all frames: there are no more of them than bytes.
abbrev pub fold_frames : {X : Type 0} → (List ℕ → X → X) → (List ℕ → X) → List ℕ → X
fold_frames frame rest bytes = fold_frames_below frame rest (length bytes) bytes

-- The frame at the front of bytes that begin one.
abbrev pub front_of : List ℕ → List ℕ
front_of bytes = take (length_at bytes) bytes

-- The frames of the cut.
abbrev pub frames_of : List ℕ → List (List ℕ)
frames_of bytes = fold_frames (λ b frames. front_of b ∷ frames) (λ b. []) bytes

-- The rest of the cut.
abbrev pub rest_of : List ℕ → List ℕ
rest_of bytes = fold_frames (λ b rest. rest) (λ b. b) bytes
