pub mod Passing
pub mod Lanes
pub mod Extending
pub mod Turning
pub mod Reporting
pub mod Serving
pub mod Growing
pub mod Waiting
pub mod Keeping
pub mod Ordering
pub mod Coming
pub mod Parting
pub mod Running
mod Examples
