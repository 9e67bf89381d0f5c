pub mod Frames
pub mod Carried
