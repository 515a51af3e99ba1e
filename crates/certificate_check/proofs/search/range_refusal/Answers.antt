use Rattle.certificate_check.proofs.Cut.{words_enclose}
use Rattle.certificate_check.proofs.search.range_refusal.Goals as goal

pub returns-clause-encloses : goal.returns-clause-encloses
returns-clause-encloses c = λ _ held uncut.
    words_enclose c.args.p.now c.args.barrier.now c.args.bounds.now c.recall_conditions.ensures.fits c.requires.bounds held
    (record { low = c.in_default.ensures; high = c.in_default-first_on.ensures }) uncut
