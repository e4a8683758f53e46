pub mod Due
pub mod Encoding
pub mod Numbers
