pub mod TextLemmas
pub mod WordLemmas
