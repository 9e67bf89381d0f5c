pub mod Network
pub mod Packet
pub mod View
pub mod Written
