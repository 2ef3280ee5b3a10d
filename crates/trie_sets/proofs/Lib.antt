pub mod KeptBits
