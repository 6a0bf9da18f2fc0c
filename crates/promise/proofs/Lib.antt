-- The promise, proved.
pub mod Answers
pub mod Kept
pub mod Owners
pub mod Counts
pub mod Wears
pub mod Broken
pub mod Longest
pub mod Corollaries
