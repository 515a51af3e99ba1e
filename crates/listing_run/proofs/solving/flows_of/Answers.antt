use Rattle.listing_run.proofs.Common.{rules, ◌≡◌, length, cell_count}
use Rattle.listing_run.proofs.Moves.{ids_within, sources_within}
use Rattle.listing_run.proofs.solving.flows_of.Goals as goal

pub zone_flows-requires-clause-ids : goal.zone_flows-requires-clause-ids
zone_flows-requires-clause-ids c =
    let same : length c.in-Some.zones.now ≡ cell_count c.args.model.now.grid = search rules in
    ids_within c.args.model.now c.args.problem.now c.requires.named (length c.in-Some.zones.now) same

pub zone_flows-requires-clause-sources : goal.zone_flows-requires-clause-sources
zone_flows-requires-clause-sources c =
    let same : length c.in-Some.zones.now ≡ cell_count c.args.model.now.grid = search rules in
    sources_within c.args.model.now c.args.problem.now c.requires.named (length c.in-Some.zones.now) same
