pub mod IsoInPlace
pub mod StoredRows
pub mod StrictMoments
