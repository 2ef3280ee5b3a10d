pub mod Lengths
pub mod Forms
