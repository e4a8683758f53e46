pub mod Left
pub mod Stepped
