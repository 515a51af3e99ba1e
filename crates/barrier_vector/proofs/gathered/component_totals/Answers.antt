use Rattle.barrier_vector.proofs.Common.{arith, ◌≡◌, ◌<◌, ◌^◌, length, ap, ◌∙◌, drop, List, FitsSigned, w128, to_z-of_z, refl, rules, Total, slice_index, entries_at, deep_low}
use Rattle.barrier_vector.proofs.{Levels.take_of_append, Gathering.sum_more, Gathering.longest_more, Gathering.within_more, Gathering.sum_within}
use Rattle.barrier_vector.proofs.gathered.component_totals.Goals as goal

pub add_to-requires-clause-label : goal.add_to-requires-clause-label
add_to-requires-clause-label c = λ m e. let h = c.requires.labels c.loop-c.c m e in let w = ap (λ (z : List Total). length z) c.deref_mut.ensures.value in omega (arith, h, w, c.loop-c.invariant.whole)

pub add_to-requires-clause-sums : goal.add_to-requires-clause-sums
add_to-requires-clause-sums c =
    let small : c.loop-c.c < 2 ^ 32 = omega (arith, c.loop-c-test.true, c.recall_conditions.ensures.fits.few) in
    λ m. sum_within c.args.labels.now c.loop-c.totals.items c.deref_mut.result.now c.loop-c.totals.items c.loop-c.totals.items c.loop-c.c m
    c.deref_mut.ensures.value refl small (c.loop-c.invariant.within m)

pub loop-c-preserved : goal.loop-c-preserved
loop-c-preserved c =
    let n : c.loop-c.totals.len ≡ length c.add_to.new.totals = omega (arith, c.deref_mut.ensures.len, c.add_to.auto.totals) in
    let w = ap (λ (z : List Total). length z) c.deref_mut.ensures.value in
    let is = take_of_append c.add_to.new.totals (drop (length c.add_to.new.totals) c.loop-c.totals.items) c.loop-c.totals.len n in
    let fits : FitsSigned w128 c.deep_flow.result = search rules in
    let added = simp to_z-of_z at c.add_to.ensures.sums in
    record {
      whole = ap (λ (z : List Total). length z) is ∙ c.add_to.auto.totals ∙ w ∙ c.loop-c.invariant.whole;
      sums = λ m. sum_more c.args.labels.now c.loop-c.totals.items c.deref_mut.result.now c.add_to.new.totals _ c.loop-c.c m c.deref_mut.ensures.value is (λ k.
          deep_low (entries_at c.args.p.now k)) c.deep_flow.result (c.deep_flow.ensures.value ∙ ap deep_low c.cell.ensures) (c.loop-c.invariant.sums m)
          (added m);
      within = λ m. within_more c.args.labels.now c.loop-c.totals.items c.deref_mut.result.now c.add_to.new.totals _ c.loop-c.c m c.deref_mut.ensures.value is _
          c.deep_flow.result c.deep_flow.ensures.within (c.loop-c.invariant.within m) (added m);
      paths = λ m. longest_more c.args.labels.now c.loop-c.totals.items c.deref_mut.result.now c.add_to.new.totals _ c.loop-c.c m c.deref_mut.ensures.value is
          (slice_index c.args.paths.now) (c.loop-c.invariant.paths m) (c.add_to.ensures.paths m);
    }
