pub mod Runs
pub mod Answers
pub mod Standing
pub mod Compounds
pub mod Laws
