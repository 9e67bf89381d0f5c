pub mod Pairs
pub mod Places
pub mod Requests
pub mod Restoring
pub mod Restored
pub mod Sending
pub mod Answering
pub mod Inverse
