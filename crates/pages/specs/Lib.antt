-- Definitions that the contracts of this crate cite.
pub mod Read
pub mod Sizes
