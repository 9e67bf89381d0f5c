pub mod Chosen
pub mod Sessions
pub mod Standing
pub mod Notes
pub mod Laws
