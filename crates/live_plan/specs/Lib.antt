pub mod Passed
pub mod Controls
pub mod Deliveries
pub mod Courses
pub mod Fitting
pub mod Drafts
pub mod Taken
pub mod Planned
