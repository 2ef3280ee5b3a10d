pub mod Io
pub mod Memory
pub mod Plain
pub mod StdIo
