use Rattle.listing_summary.proofs.Common.{rules, ◌≡◌, ◌∙◌, ap, arith, subst, sym, List, All, length, Bound, IsHead, times_left, with_heads, EndsAt, Summary, with_step, cell_count}
use Rattle.model_types.specs.declared.time_steps.TimeStep.{TimeStep}
use Rattle.listing_summary.proofs.Counts.{all_counted_to_end, none_counted, one_more_counted}
use Rattle.listing_summary.proofs.walking.count_steps.Goals as goal

pub loop-summary-init : goal.loop-summary-init
loop-summary-init g c =
    let steps = ap (λ (s : Summary). s.steps) c.nothing-summary.ensures.is in
    let heads = ap (λ (s : Summary). s.heads) c.nothing-summary.ensures.is in
    record {
      ready = c.requires.ready;
      rounds = c.requires.rounds;
      walk = c.requires.walk;
      steps = omega (arith, steps);
      heads = omega (arith, heads);
      fits = c.nothing-summary.ensures.fits;
      counted = none_counted c.args.task.now c.args.steps.now c.nothing-summary.result c.nothing-summary.ensures.is c.requires.walk c.requires.first;
    }

pub count_step-requires-clause-range : goal.count_step-requires-clause-range
count_step-requires-clause-range g c =
    let P : List Bound → Type 0 = All (λ b. IsHead b.low × IsHead b.high) in
    subst P (sym c.heads.ensures) c.in-Ok.ensures.next.grid.range

pub loop-summary-preserved-in-Ok : goal.loop-summary-preserved-in-Ok
loop-summary-preserved-in-Ok g c =
    let next = c.in-Ok.ensures.next in
    let whole : length c.heads.result.now ≡ cell_count c.args.task.now.decks.first.grid = ap (λ (hs : List Bound). length hs) c.heads.ensures ∙ next.grid.whole in
    let S : List Bound → Type 0 = λ hs. c.count_step.new.self ≡ with_step c.args.task.now.decks.first c.loop-summary.summary hs in
    record {
      ready = c.next.ensures.ready;
      rounds = c.next.ensures.rounds ∙ c.loop-summary.invariant.rounds;
      walk = c.next.ensures.walk;
      steps = omega (arith, c.loop-summary.invariant.steps, c.count_step.ensures.steps, next.done);
      heads = omega (arith, c.loop-summary.invariant.heads, c.count_step.ensures.few, whole, c.requires.task.decks.first.grid.size.cells, next.done);
      fits = c.count_step.ensures.fits;
      counted = one_more_counted c.args.task.now g.S.Settler.leads c.loop-summary.steps c.next.new.self c.loop-summary.settler c.next.new.settler
          (with_heads c.in-Ok.field-0 c.next.new.self.heads) c.loop-summary.summary c.count_step.new.self next
          (subst S c.heads.ensures c.count_step.ensures.is) c.loop-summary.invariant.counted;
    }

pub returns-in-Err-End : goal.returns-in-Err-End
returns-in-Err-End g c =
    let here : EndsAt c.args.task.now c.in-Err-End.end c.loop-summary.steps.heads (times_left c.loop-summary.steps) = search rules in
    rw c.in-Err-End.field-0-is (all_counted_to_end c.args.task.now c.loop-summary.steps c.loop-summary.summary c.in-Err-End.end here c.loop-summary.invariant.counted)

pub loop-summary-smaller : goal.loop-summary-smaller
loop-summary-smaller g c =
    let rest = ap (λ (ts : List TimeStep). length ts) c.in-Ok.ensures.next.time in
    omega (arith, rest)
