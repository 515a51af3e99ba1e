use Rattle.listing_summary.proofs.Common.{subst, sym, Summary, Fits}
use Rattle.listing_summary.proofs.Counts.{fits_more}
use Rattle.listing_summary.proofs.summary.Summary.count.Goals as goal

pub returns-clause-fits : goal.returns-clause-fits
returns-clause-fits c = let P : Summary → Type 0 = Fits in subst P (sym c.add.ensures) (fits_more c.args.self.now c.args.bound c.requires.fits c.requires.low c.requires.high)
