-- Laws of the code's own, for its proofs and for the crates above.
pub mod Sizes
mod Arrays
mod Cuts
mod Editions
mod States
pub mod Ranks
pub mod Counts
mod Greatest
mod Loops
mod Active
mod Young
pub mod Line
pub mod Slots
pub mod Looking
pub mod Refusals
