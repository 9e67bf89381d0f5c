pub mod Sights
pub mod Routes
mod Numbering
