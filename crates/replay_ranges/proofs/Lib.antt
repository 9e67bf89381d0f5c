pub mod Bytes
pub mod Lists
pub mod Views
pub mod Waiting
pub mod Notes
pub mod Fates
pub mod Stepping
