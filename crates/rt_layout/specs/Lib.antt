pub mod Value
pub mod Rows
pub mod RowLaws
pub mod FixedLaws
