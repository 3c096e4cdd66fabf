pub mod Replacing
pub mod Phases
pub mod ReplaceErrors
