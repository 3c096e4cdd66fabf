pub mod Request
pub mod Place
