pub mod Blocks
pub mod Clean
pub mod Faults
pub mod Inner
pub mod Laws
pub mod Rules
pub mod Tests
pub mod Verdict
