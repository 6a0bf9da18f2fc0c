-- Laws of where slots stand; callers cite them.
pub mod Standing
