pub mod TableLemmas
pub mod ZoneLemmas
pub mod NameLemmas
pub mod SuffixTextLemmas
pub mod LongestLemmas
pub mod FolderLemmas
