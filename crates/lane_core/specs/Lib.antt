pub mod Totals
pub mod Lanes
pub mod AllLanes
pub mod Beside
