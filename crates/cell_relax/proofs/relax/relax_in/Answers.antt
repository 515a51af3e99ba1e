use Rattle.cell_relax.proofs.Common.{length, entries_at, heads_on}
use Rattle.cell_relax.proofs.{Relaxing.ends_in_range, Sides.heads_in_range}
use Rattle.cell_relax.proofs.relax.relax_in.Goals as goal

pub relax_to-requires-clause-values : goal.relax_to-requires-clause-values
relax_to-requires-clause-values c =
    let p = c.args.p.now in
    let links = (entries_at p c.args.cell).links in
    let within = (c.recall_conditions.ensures.fits.links c.args.cell c.requires.index).within in
    rw c.read_values-count.ensures.read (ends_in_range (length p) (heads_on c.args.side c.args.words.now) (heads_in_range c.args.side p c.args.words.now c.requires.words) links within)
