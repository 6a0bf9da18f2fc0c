-- Laws of the code's own, for its proofs and for the crates below.
pub mod Doing
pub mod Halves
pub mod Renewing
pub mod Picked
pub mod Greatest
pub mod Slots
pub mod Groups
pub mod Copies
