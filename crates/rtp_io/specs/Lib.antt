pub mod Outside
pub mod Pulled
pub mod Laws
pub mod Memory
pub mod Objects
