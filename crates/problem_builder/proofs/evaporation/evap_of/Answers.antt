use Rattle.problem_builder.proofs.Common.{◌≡◌, Some, None, cond, Bool, sym, ap, evap_at, evap_source, IsEvapValid}
use Rattle.problem_builder.proofs.BoundsOf.{in_option}
use Rattle.problem_builder.proofs.evaporation.evap_of.Goals as goal

pub evap_at-requires-clause-source : goal.evap_at-requires-clause-source
evap_at-requires-clause-source c =
    let m = c.args.model.now in
    let x = evap_source m c.args.number c.args.cell in
    let is : evap_at m c.args.number c.args.cell ≡ Some x = ap (λ (b : Bool). cond b (Some x) None) (sym c.if-not-evaporates.ensures) in
    in_option IsEvapValid (evap_at m c.args.number c.args.cell) x is (c.requires.model.evaps c.args.number c.args.cell c.requires.cell (sym c.if-not-is_active.ensures))
