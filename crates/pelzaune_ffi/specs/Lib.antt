pub mod Columns
pub mod Described
pub mod Formatted
pub mod IsoFronts
pub mod Missing
pub mod Places
pub mod Results
pub mod Status
