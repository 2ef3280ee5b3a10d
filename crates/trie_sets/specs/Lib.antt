pub mod Iters
