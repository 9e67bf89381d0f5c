pub mod Numbering
pub mod Printing
pub mod Counting
pub mod Clocking
