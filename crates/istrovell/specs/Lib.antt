-- The answers that C has, the demands of the exported calls, what their two owners are promised, and what the box may say of their wear.
pub mod Answers
pub mod Demands
pub mod Owners
pub mod Wear
