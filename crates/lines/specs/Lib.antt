-- Definitions that the contracts of this crate cite.
pub mod Told
