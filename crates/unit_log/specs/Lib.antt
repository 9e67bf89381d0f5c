pub mod Lines
pub mod Text
pub mod Standing
pub mod Laws
