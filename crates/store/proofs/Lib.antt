-- Laws of the code's own; `Values` is what callers cite.
mod Gathering
mod Opening
pub mod Values
