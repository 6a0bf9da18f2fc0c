-- Laws of the settings that bytes are, for the proofs here and for the crates below.
pub mod Entries
