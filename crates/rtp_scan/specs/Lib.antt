pub mod Sights
pub mod Streams
pub mod Steps
pub mod Clocks
pub mod Proposal
pub mod Report
