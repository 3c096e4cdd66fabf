-- What only the proofs need to show that a text has one place. The files beside this one define a place.

pub mod PlaceLaws
