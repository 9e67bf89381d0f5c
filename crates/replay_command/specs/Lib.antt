pub mod Rendered
pub mod Replay
pub mod Plays
