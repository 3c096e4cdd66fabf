pub mod Job
pub mod Begins
pub mod Laws
pub mod ErrorLocation
