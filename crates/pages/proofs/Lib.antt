-- Laws of the code's own, for its proofs and for the crates above.
pub mod Header
pub mod Scan
pub mod Forms
