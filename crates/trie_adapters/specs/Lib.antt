pub mod Mapped
pub mod Answers
pub mod MappedLaws
pub mod Equal
pub mod Filtered
pub mod FilterLaws
