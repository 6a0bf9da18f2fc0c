-- Definitions that the contracts of this crate cite.
pub mod Candidate
pub mod Way
pub mod Known
