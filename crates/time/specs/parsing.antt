pub use Rattle.time_parsing.specs.Iso8601
pub use Rattle.time_parsing.specs.Outcome
pub use Rattle.time_parsing.specs.Rfc2822
pub use Rattle.time_parsing.specs.Rfc3339
pub use Rattle.time_parsing.specs.Rfc3339Strict
pub use Rattle.time_parsing.specs.TreeLaws
pub use Rattle.time_parsing.specs.Written
pub use Rattle.time_parsing.specs.exact
