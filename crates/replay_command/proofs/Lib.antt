pub mod Ahead
pub mod Items
pub mod Printing
pub mod Writing
pub mod Playing
pub mod Replaying
