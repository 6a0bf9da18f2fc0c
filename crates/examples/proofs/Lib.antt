-- That the examples are as the rules give them.
pub mod Examples
