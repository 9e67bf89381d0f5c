pub mod Faults
pub mod Capture
pub mod Place
pub mod Reading
