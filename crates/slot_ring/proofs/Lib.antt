pub mod Crossing
pub mod Held
pub mod Lending
pub mod Memory
pub mod Walks
