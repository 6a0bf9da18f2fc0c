-- The promise: the calls, what may befall a store, what it promises, and what a workshop asks about it.
pub mod Calls
pub mod History
pub mod Promise
pub mod Owners
pub mod Corollaries
