pub mod Listing
pub mod Short
pub mod Keeping
pub mod Holding
