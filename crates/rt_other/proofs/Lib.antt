pub mod Headers
pub mod MessageReadBack
pub mod Forms
pub mod Counters
