pub mod BufferLemmas
pub mod LinesLemmas
mod StandardFacts
