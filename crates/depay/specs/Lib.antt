pub mod Aggregate
pub mod Payload
pub mod Fragments
pub mod Outcomes
pub mod Shapes
pub mod Joining
pub mod Laws
