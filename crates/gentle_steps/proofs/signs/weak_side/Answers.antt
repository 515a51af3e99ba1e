use Rattle.model_types.specs.{variable_cells}
use Rattle.gentle_steps.proofs.Cells.{other_words}
use Rattle.gentle_steps.proofs.signs.weak_side.Goals as goal

pub has_sign_at-requires-else-not-has_sign_at-clause-bounds : goal.has_sign_at-requires-else-not-has_sign_at-clause-bounds
has_sign_at-requires-else-not-has_sign_at-clause-bounds c =
    let x = c.args.posed.now in
    other_words x.low x.high (variable_cells c.args.model.now c.args.at.period) c.args.bounds.now c.requires.posed.low_cells c.requires.posed.high_cells c.requires.words
