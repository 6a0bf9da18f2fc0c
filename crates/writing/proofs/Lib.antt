-- Laws of the code's own, for its proofs.
mod Outcomes
mod Changes
mod Kept
mod Formatting
mod Recovering
mod Moving
mod Ways
