pub mod FolderLemmas
pub mod PhaseLemmas
pub mod StepLemmas
pub mod ReplaceLemmas
