-- Laws of the code's own, for its proofs; `Ways` has those that the writing of a change cites.
mod Candidates
mod Telling
mod Rooms
pub mod Ways
