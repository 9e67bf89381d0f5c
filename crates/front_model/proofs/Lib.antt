pub mod Lists
pub mod Staying
pub mod Counting
pub mod InOrder
pub mod Ending
pub mod Fating
pub mod Others
pub mod Closing
pub mod Leaving
pub mod Owning
pub mod Planning
mod Examples
