pub mod Nexts
pub mod Passed
pub mod Steps
