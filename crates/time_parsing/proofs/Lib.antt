pub mod OneOutcome
pub mod TreeLemmas
mod Told
pub mod WrittenBack
pub mod MailForm
pub mod IsoParts
mod IsoForm
pub mod IsoBack
pub mod KeptIsoTexts
mod StandardFacts
mod IsoFacts
mod OutcomeFacts
pub mod StrictTexts
