pub mod Faults
pub mod Pieces
pub mod Options
pub mod Times
pub mod Blocks
pub mod Ends
pub mod Reading
