use Rattle.std.proofs.Common.{refl, arith, below_more}
use Rattle.std.proofs.lemmas.Bool.{false≢true}
use Rattle.certificate_check.proofs.search.first_on.Goals as goal

pub returns-then-not-holds : goal.returns-then-not-holds
returns-then-not-holds c = record {
  within = omega (arith, c.loop-cell-test.true, c.len-cell-end.ensures.count);
  has = λ at. false≢true (c.if-not-holds.ensures.1 at);
  least = λ d less fails. fails (c.loop-cell.invariant d less);
}

pub loop-cell-preserved : goal.loop-cell-preserved
loop-cell-preserved c = below_more _ _ c.loop-cell.invariant (c.if-not-holds.ensures.0 refl)
