pub mod Arrived
pub mod Entries
pub mod FirstFrames
pub mod Numbered
pub mod Queues
pub mod Walks
