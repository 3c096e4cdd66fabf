pub mod Zones
pub mod Spread
pub mod Suffix
pub mod SuffixFronts
pub mod Finding
