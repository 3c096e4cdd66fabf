pub mod NameLemmas
pub mod NumberLemmas
pub mod OneSpelling
pub mod StandardFacts
pub mod StepLemmas
