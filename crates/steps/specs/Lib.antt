-- Definitions that the contracts of this crate cite.
pub mod Done
pub mod Picked
pub mod Copied
