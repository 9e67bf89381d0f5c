pub mod Dumping
