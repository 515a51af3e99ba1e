use Rattle.listing_io.proofs.Common.{◌≡◌, ◌++◌, drop, map, text_of, zone_line}
use Rattle.listing_io.proofs.listing_writer.push_zones.Given as goal

abbrev pub invariant-loop-zone : goal.invariant-loop-zone
invariant-loop-zone l = l.text.items ++ text_of (map (zone_line l.fn.s) (drop l.zone-index l.zones)) ≡ l.fn.text.items ++ text_of (map (zone_line l.fn.s) l.zones)
