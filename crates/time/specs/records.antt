pub use Rattle.time_record.specs.Cells
pub use Rattle.time_record.specs.Components
pub use Rattle.time_record.specs.Inverse
pub use Rattle.time_record.specs.Laws
pub use Rattle.time_record.specs.Reading
pub use Rattle.time_record.specs.Record
pub use Rattle.time_record.specs.Resolution
