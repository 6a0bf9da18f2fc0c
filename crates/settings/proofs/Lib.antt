-- Laws of the code's own, for its proofs and for the crates below.
pub mod Tables
mod Inserted
pub mod Slots
