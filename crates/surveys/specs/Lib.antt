pub mod Books
pub mod Gathered
pub mod Keeper
pub mod Ledger
pub mod Refusals
pub mod States
pub mod Tables
pub mod Views
