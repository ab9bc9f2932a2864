mod Counting
mod Lines
mod Sums
