pub mod Components
pub mod Numbers
pub mod Steps
pub mod Texts
pub mod WellKnown
