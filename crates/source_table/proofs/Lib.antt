mod Entries
pub mod Ranging
pub mod Hearing
pub mod Limiting
pub mod Standing
pub mod Validity
pub mod Gone
pub mod Blocks
pub mod Isolation
mod Consecutive
mod Answering
