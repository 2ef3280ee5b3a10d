mod Pieces
mod Cuts
mod Decimals
mod HexDigits
mod Pairs
mod Splits
pub mod Octets
pub mod Lines
mod RecordWords
mod FrameWords
mod Heads
mod HeadWords
mod HeadBounds
mod DatagramDigits
mod BatchWords
mod OpenLines
mod Candidates
mod NetworkWords
pub mod Injective
mod OneAnswer
mod FirstLines
mod Endings
pub mod OneOutcome
mod Decided
mod Outcomes
mod Joined
mod Datagram
