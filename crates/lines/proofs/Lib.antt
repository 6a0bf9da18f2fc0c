-- Laws of the code's own, for its proofs and for the crates below.
pub mod Decimal
pub mod Lines
pub mod Told
