-- The wear of a store whose power does not fail, proved.
pub mod Finished
pub mod Level
pub mod Sums
pub mod Between
pub mod Orders
pub mod Erases
pub mod Fresh
pub mod Even
pub mod Box
pub mod Figures
