use Rattle.conductance_bounds.proofs.{Capped.small_encloses, LayerBounds.branch_encloses}
use Rattle.conductance_bounds.proofs.vertical.vert_branch.Goals as goal

pub returns-clause-rounded : goal.returns-clause-rounded
returns-clause-rounded c = λ f g h. c.rounded_pair.ensures.bounds _
    (c.over.ensures.bounds _ _ c.area.ensures.bounds (c.joined_resistance.ensures.bounds _ _ h (c.half_resistance-first.ensures.bounds f)
    (c.half_resistance-second.ensures.bounds g)))

pub returns-clause-encloses : goal.returns-clause-encloses
returns-clause-encloses c = λ f g h x y z.
    small_encloses _ c.args.s _ _ (returns-clause-rounded c f g h)
    (branch_encloses c.args.a.now c.args.b.now c.args.bed.now c.args.delr c.args.delc c.args.s c.requires.first c.requires.second c.requires.bed f g h x y z)
