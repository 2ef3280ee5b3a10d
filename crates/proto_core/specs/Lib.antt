pub mod Codec
pub mod ErrorText
pub mod Noted
pub mod Numbers
pub mod Pending
pub mod Refused
pub mod Session
pub mod Walk
