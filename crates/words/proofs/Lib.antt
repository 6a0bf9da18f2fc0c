-- Laws of the code's own, for its proofs and for the crates below.
pub mod Parts
mod Halves
mod Table
