use Rattle.model_types.proofs.Common.{None, is_some, get_or, ap, ◌∙◌, cell_count}
use Rattle.model_types.proofs.GivenTables.{last_is, lists_before, table_at}
use Rattle.model_types.proofs.given_heads.GivenHeads.kind.Goals as goal

pub returns : goal.returns
returns c =
    let m = c.args.model.now in
    let p = c.args.self.now.period in
    let last = ap (λ xs. get_or xs c.args.cell None) (last_is m c.args.self.now p c.requires.given) in
    c.kind_by.ensures p (c.is_some.ensures ∙ ap is_some (c.at.ensures ∙ last ∙ table_at (cell_count m.grid) c.args.cell (lists_before m p) None c.requires.cell))
