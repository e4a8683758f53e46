pub mod Congruent
pub mod Made
pub mod Refusals
pub mod Residue
