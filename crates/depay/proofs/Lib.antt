pub mod Deciding
pub mod Splitting
pub mod Standing
pub mod Shaping
pub mod Taking
pub mod Lawful
pub mod Worked
