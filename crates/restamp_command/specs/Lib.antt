pub mod Options
pub mod Fault
pub mod Values
pub mod Zones
pub mod Request
pub mod Rewriting
