use Rattle.stated_text.proofs.Common.{rules, ◌≡◌, ◌∷◌, ◌++◌, [], lines, refl}
use Rattle.stated_text.proofs.ListedTexts.{current_row}
use Rattle.stated_text.proofs.listed.is_current.Goals as goal

pub returns : goal.returns
returns c =
    let row = c.cut_line.result.0.now in
    let last : c.push.new.self.items ≡ row ++ (10 ∷ []) = rw (c.in_ok-push.ensures.items, c.in_ok-row.ensures.items) refl in
    current_row c.args.between c.args.model.now c.args.s c.args.rest.now row (lines c.cut_line.result.1.now) c.eq.result c.in_ok-due.due.items c.push.new.self.items
    c.cut_line.ensures.line c.in_ok-due.ensures last (search rules)
