pub mod Zones
pub use Rattle.zone_file.specs.Zones.{IsZone, is_zone, wrong_at}
unfoldable pub use Rattle.zone_file.specs.Zones.{zones_of, zones_tested}
