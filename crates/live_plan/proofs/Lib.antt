pub mod Clocks
pub mod Outcomes
pub mod Drafting
pub mod Planning
pub mod Choices
pub mod Senders
pub mod Serving
pub mod Rightness
