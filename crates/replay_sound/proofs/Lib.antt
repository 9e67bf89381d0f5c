pub mod Choosing
pub mod Lines
pub mod Places
pub mod Origins
pub mod Walking
pub mod Joining
pub mod Captures
pub mod Replays
