pub use Rattle.time_preparing.specs.Forms
pub use Rattle.time_preparing.specs.Items
pub use Rattle.time_preparing.specs.Walk
pub use Rattle.time_preparing.specs.Whole
