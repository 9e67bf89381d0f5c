pub mod Numbered
pub mod Clocks
pub mod Totals
pub mod Text
