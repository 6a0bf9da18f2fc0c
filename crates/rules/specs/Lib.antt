-- The rules of docs/FORMAT.md as definitions, in its words and order. A comment that begins with an id cites the paragraph.
pub mod Flash
pub mod Word
pub mod Page
pub mod Store
pub mod Steps
pub mod Owner
pub mod Call
pub mod Named
pub mod Listing
