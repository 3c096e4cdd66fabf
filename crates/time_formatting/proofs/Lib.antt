pub mod DigitRuns
pub mod FractionTexts
pub mod KeptDigits
pub mod SameTexts
pub mod Spelled
