pub mod LinesLemmas
pub mod ProcessedLemmas
pub mod AnsweredLemmas
pub mod StoppedLemmas
