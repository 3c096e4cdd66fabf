pub mod Rows
pub mod Going
pub mod Parts
pub mod Wholes
pub mod Placing
