mod Skips
mod Widths
pub mod Lending
