-- What only the proofs need to show that a parse is exact. The files beside this one define what a text means.

pub mod Laws
pub mod RecordedRfc2822
pub mod RecordedRfc3339
pub mod MomentOfNumbers
