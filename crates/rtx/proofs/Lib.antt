pub mod Seen
pub mod Remembering
pub mod Found
pub mod Indexed
pub mod Inverse
mod Unasked
mod Single
