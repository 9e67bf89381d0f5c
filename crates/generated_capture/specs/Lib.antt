pub mod Deliveries
pub mod Series
pub mod Generated
pub mod Taking
