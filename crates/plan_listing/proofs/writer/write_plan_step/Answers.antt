use Rattle.plan_listing.proofs.Common.{rules, ◌≡◌, ◌++◌, ◌∙◌, [], map, ended_line, step_line, text_of, zone_line, plan_cells}
use Rattle.plan_listing.proofs.Texts.{step_joined}
unfoldable use Rattle.plan_listing.specs.{cells_lines, plan_step_lines, plan_step_text, source_lines}
use Rattle.plan_listing.proofs.writer.write_plan_step.Goals as goal

pub returns : goal.returns
unfolding plan_step_text plan_step_lines source_lines
returns c =
    let cells = cells_lines c.args.model.now (plan_cells c.args.base.now c.args.planned.now c.args.differences.now) in
    let sources = source_lines c.args.model.now c.args.s c.args.flows.now.sources in
    let zones = map (zone_line c.args.s) c.args.flows.now.zones in
    let pieces : c.push_zones.new.text.items ≡ [] ++ ended_line (step_line c.args.at) ++ text_of cells ++ text_of sources ++ text_of zones = search rules in
    pieces ∙ step_joined (step_line c.args.at) cells sources zones
