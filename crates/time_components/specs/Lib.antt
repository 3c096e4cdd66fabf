pub mod ShortNames
pub mod Spelling
pub mod Tree
