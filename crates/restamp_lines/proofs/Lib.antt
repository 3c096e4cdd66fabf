mod MailBegins
pub mod BeginsLemmas
pub mod OneVerdict
pub mod SecondRun
pub mod OneErrorLocation
pub mod AloneLemmas
pub mod VerdictLemmas
pub mod NamedZonesLemmas
