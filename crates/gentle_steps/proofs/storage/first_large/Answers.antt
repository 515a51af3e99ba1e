use Rattle.gentle_steps.proofs.Common.{below_more, ◌≡◌, true, false, sym, arith, ◌∙◌, false≢true, StoredWaterFits}
use Rattle.gentle_steps.proofs.storage.first_large.Goals as goal

pub returns-then-not-fits : goal.returns-then-not-fits
returns-then-not-fits c =
    let f : c.fits.result ≡ false = grind arith in
    record {
      within = omega (arith, c.cell_count-cell-end.ensures.count, c.loop-cell-test.true);
      fails = (λ h. false≢true (sym f ∙ c.fits.ensures.1 h));
      before = c.loop-cell.invariant;
    }

pub loop-cell-preserved : goal.loop-cell-preserved
loop-cell-preserved c =
    let t : c.fits.result ≡ true = grind arith in
    below_more (StoredWaterFits c.args.model.now c.args.layers.now c.args.tables.now.digits c.args.at) _ c.loop-cell.invariant (c.fits.ensures.0 t)

pub returns : goal.returns
returns c = λ d lt. c.loop-cell.invariant d (omega (arith, lt, c.cell_count-cell-end.ensures.count, c.loop-cell-test.false))
