pub mod Cost
pub mod Holes
pub mod Moved
pub mod Moves
pub mod TestLemmas
pub mod Times
