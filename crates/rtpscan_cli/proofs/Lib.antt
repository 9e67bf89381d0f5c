pub mod Scanning
pub mod Running
pub mod Ending
