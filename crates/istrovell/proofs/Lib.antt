-- That the exported calls meet the demands, keep what their two owners are promised, and wear the flash evenly.
pub mod Digits
pub mod Demands
pub mod Owners
pub mod Wear
