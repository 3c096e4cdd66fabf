pub use Rattle.time_zones.specs.Finding
pub use Rattle.time_zones.specs.Suffix
pub use Rattle.time_zones.specs.Zones
