pub mod Words
pub mod Numbers
pub mod Octets
pub mod Taken
pub mod Lengths
pub mod Valid
