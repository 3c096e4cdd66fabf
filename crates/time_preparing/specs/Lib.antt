pub mod Forms
pub mod Items
pub mod Puts
pub mod Walk
pub mod Whole
