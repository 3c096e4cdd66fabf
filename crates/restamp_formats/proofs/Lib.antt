pub mod FrontLemmas
pub mod OneWriting
pub mod OneReading
pub mod WrittenAgain
pub mod DescribedBack
pub mod ComponentValueLemmas
pub mod CommonBack
mod ClocksOnce
pub mod CountLemmas
pub mod MissingFieldRecords
pub mod MissingFieldTrees
pub mod MissingFieldMoments
pub mod MissingFieldUses
pub mod ParseLemmas
pub mod SatisfiesLemmas
pub mod EquivalentFormats
