pub mod Lists
pub mod Dumps
pub mod Resyncs
