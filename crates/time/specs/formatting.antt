pub use Rattle.time_formatting.specs.Components
pub use Rattle.time_formatting.specs.Numbers
pub use Rattle.time_formatting.specs.Texts
pub use Rattle.time_formatting.specs.WellKnown
