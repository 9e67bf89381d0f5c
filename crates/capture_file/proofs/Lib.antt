pub mod FaultLemmas
pub mod Forms
pub mod Furthest
pub mod PcapSteps
pub mod NgSteps
