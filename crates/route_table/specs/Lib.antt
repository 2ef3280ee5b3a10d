pub mod Networks
pub mod Changes
pub mod Lists
pub mod Entries
pub mod RouteTables
pub mod Answers
