-- Wear: what a store from a finished format does to its flash while power does not fail, and what the box may say.
pub mod Wear
pub mod Figures
