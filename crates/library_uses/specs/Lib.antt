pub mod Perft
pub mod Sums
