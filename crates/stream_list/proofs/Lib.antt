pub mod Splits
pub mod Places
pub mod Chains
pub mod Pushes
pub mod Takes
pub mod Listed
