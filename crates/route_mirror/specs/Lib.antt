pub mod Values
pub mod Dumps
pub mod Mirrors
pub mod Requests
pub mod Watching
