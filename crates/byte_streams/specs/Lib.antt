pub mod Buffer
pub mod Faults
pub mod Lines
