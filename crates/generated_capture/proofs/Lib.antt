pub mod Merging
pub mod Placing
pub mod Counting
