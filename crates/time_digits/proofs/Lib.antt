pub mod Fractions
pub mod Runs
pub mod WordBytes
pub mod Words
pub mod StandardFacts
