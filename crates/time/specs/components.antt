pub use Rattle.time_components.specs.Spelling
pub use Rattle.time_components.specs.Tree
