pub mod Noting
pub mod Refusing
pub mod Progress
