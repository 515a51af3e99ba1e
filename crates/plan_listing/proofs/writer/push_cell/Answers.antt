use Rattle.plan_listing.proofs.Common.{rules, ◌≡◌, ◌++◌, ◌∙◌, text_of, Base, Plan, Drawdown, line_of}
use Rattle.plan_listing.proofs.Texts.{three_joined}
use Rattle.plan_listing.proofs.writer.push_cell.Goals as goal

pub returns : goal.returns
returns c =
    let m = c.args.model.now in
    let base = line_of Base m c.args.cell c.args.pairs.base in
    let planned = line_of Plan m c.args.cell c.args.pairs.planned in
    let difference = line_of Drawdown m c.args.cell c.args.pairs.difference in
    let pieces : c.push_row_if-3.new.text.items ≡ c.args.text.now.items ++ text_of base ++ text_of planned ++ text_of difference = search rules in
    pieces ∙ three_joined c.args.text.now.items base planned difference
