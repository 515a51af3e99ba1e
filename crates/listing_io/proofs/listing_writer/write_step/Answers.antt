use Rattle.listing_io.proofs.Common.{rules, ◌≡◌, ◌++◌, ◌∙◌, [], map, In, Out, ended_line, head_lines, step_line, step_text, step_lines, term_lines, text_of, zone_line}
use Rattle.listing_io.proofs.Walks.{step_joined}
use Rattle.listing_io.proofs.listing_writer.write_step.Goals as goal

pub returns : goal.returns
unfolding step_text step_lines term_lines
returns c =
    let heads = head_lines c.args.model.now c.args.heads.now in
    let into = term_lines c.args.model.now c.args.s In c.args.budget.now in
    let out = term_lines c.args.model.now c.args.s Out c.args.budget.now in
    let zones = map (zone_line c.args.s) c.args.zones.now in
    let pieces : c.push_zones.new.text.items ≡ [] ++ ended_line (step_line c.args.at) ++ text_of heads ++ text_of into ++ text_of out ++ text_of zones = search rules in
    pieces ∙ step_joined (step_line c.args.at) heads into out zones
