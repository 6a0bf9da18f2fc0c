-- Definitions that the contracts of this crate cite.
pub mod Refusals
pub mod States
pub mod Roles
pub mod Places
pub mod Look
