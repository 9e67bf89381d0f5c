pub mod Each
pub mod Calling
pub mod Keeping
pub mod Parting
pub mod Finding
pub mod Running
pub mod Alone
