pub mod Lending
pub mod Moves
pub mod Shape
pub mod Walking
pub mod TrieRefs
