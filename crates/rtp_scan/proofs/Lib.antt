pub mod Standing
pub mod Behind
pub mod Kept
pub mod Reporting
