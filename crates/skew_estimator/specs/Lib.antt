pub mod Estimator
pub mod Near
pub mod Segment
