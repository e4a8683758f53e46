pub mod Bytes
pub mod Entries
pub mod Faults
pub mod Reading
