pub mod Heap
pub mod Order
pub mod Tests
pub mod Timers
