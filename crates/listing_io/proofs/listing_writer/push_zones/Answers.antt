use Rattle.listing_io.proofs.Common.{ap, arith, drop, drop_all, map, zone_line}
use Rattle.listing_io.proofs.Walks.{all_written, line_written, next_of}
use Rattle.listing_io.proofs.listing_writer.push_zones.Goals as goal

pub loop-zone-preserved : goal.loop-zone-preserved
loop-zone-preserved c = rw (c.in_ok-push_row.ensures, c.zone_pair.ensures)
    (line_written c.loop-zone.text.items _ (map (zone_line c.args.s) (drop c.loop-zone.zone-index c.args.zones.now)) c.loop-zone.invariant _ _
    (ap (map (zone_line c.args.s)) (next_of c.args.zones.now c.loop-zone.zone-index _ c.loop-zone-test.true)))

pub returns : goal.returns
returns c = all_written c.loop-zone.text.items _ (map (zone_line c.args.s) (drop c.loop-zone.zone-index c.args.zones.now)) c.loop-zone.invariant
    (ap (map (zone_line c.args.s)) (drop_all c.loop-zone.zone-index c.args.zones.now (omega arith)))
