-- The examples of docs/FORMAT.md.
pub mod Examples
