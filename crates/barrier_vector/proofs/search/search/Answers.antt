use Rattle.barrier_vector.proofs.Common.{arith, rules, ◌≡◌, ◌+◌, ◌≤◌, length, subst, ap, ℕ, List, All, ◌<◌, sym, ◌∙◌, drop, inl, inr, Some, Option, mark_at, count_unmarked, replicate}
use Rattle.std.specs.Prelude.{None}
use Rattle.barrier_vector.proofs.Starting.{all_none}
use Rattle.std.proofs.lemmas.Grind.{common_steps}
use Rattle.barrier_vector.proofs.Levels.{Search, up_to_start, step_reaches_next_level, front_within, next_within, next_past, searched_at_end, take_of_append}
use Rattle.barrier_vector.proofs.search.search.Goals.{then-loop-left-test+else-not-is_empty, else-loop-left-test}
use Rattle.barrier_vector.proofs.search.search.Goals as goal

pub overflow_sub-left : goal.overflow_sub-left
overflow_sub-left c =
    let none : c.deref_mut.result.now ≡ replicate c.len-count.result None = search rules in
    let all = (all_none c.len-count.result _ none).2 in
    let count = c.in_ok-frontier.ensures.marks.count in
    omega (arith, count, all, c.len.ensures)

pub loop-left-init : goal.loop-left-init
loop-left-init c =
    let none : c.deref_mut.result.now ≡ replicate c.len-count.result None = search rules in
    let (whole, none_at, all) = all_none c.len-count.result _ none in
    let n : c.in_ok-levels.levels.len ≡ length c.begin.new.levels = omega (arith, c.deref_mut.ensures.len, c.begin.auto.levels) in
    let m : c.in_ok-paths.paths.len ≡ length c.begin.new.paths = omega (arith, c.deref_mut-2.ensures.len, c.begin.auto.paths) in
    let levels = take_of_append c.begin.new.levels (drop (length c.begin.new.levels) c.in_ok-levels.levels.items) c.in_ok-levels.levels.len n in
    let paths = take_of_append c.begin.new.paths (drop (length c.begin.new.paths) c.in_ok-paths.paths.items) c.in_ok-paths.paths.len m in
    let count = c.in_ok-frontier.ensures.marks.count in
    record {
      up_to = rw (levels, paths) (up_to_start c.args.p.now c.len-count.ensures.fits c.args.q c.args.own.now c.deref_mut.result.now c.begin.new.levels
          c.begin.new.paths c.in_ok-frontier.frontier.items c.requires.own (whole ∙ c.len-count.ensures.count) none_at
          (all ∙ c.len-count.ensures.count) c.in_ok-frontier.ensures);
      left = let now = ap count_unmarked levels in omega (arith, count, now, all, c.len.ensures);
    }

pub spread-requires-clause-frontier : goal.spread-requires-clause-frontier
spread-requires-clause-frontier c = subst (λ (z : List ℕ). All (λ k. k < length c.args.p.now) z) (sym c.deref.ensures.value)
    (front_within c.args.p.now c.args.q c.args.own.now c.loop-left.level c.loop-left.levels.items c.loop-left.paths.items c.loop-left.frontier.items
    c.loop-left.invariant.up_to)

pub extend_paths-requires-clause-frontier : goal.extend_paths-requires-clause-frontier
extend_paths-requires-clause-frontier c =
    let whole : length c.deref_mut-in-loop-left.result.now ≡ length c.args.p.now =
    omega (arith, c.deref_mut-in-loop-left.ensures.value, c.deref_mut-in-loop-left.ensures.len, c.loop-left.invariant.up_to.levels_whole) in
    subst (λ (z : List ℕ). All (λ k. k < length c.args.p.now) z) (sym c.deref-in-loop-left-2.ensures.value)
    (next_within _ (length c.args.p.now) (c.loop-left.level + 1) c.deref_mut-in-loop-left.result.now c.spread.new.marks c.in_ok-frontier-2.frontier.items
    whole c.in_ok-frontier-2.ensures)

pub extend_paths-requires-clause-past : goal.extend_paths-requires-clause-past
extend_paths-requires-clause-past c =
    let n : c.loop-left.levels.len ≡ length c.spread.new.marks = omega (arith, c.deref_mut-in-loop-left.ensures.len, c.spread.auto.marks) in
    subst (λ (z : List ℕ). All (λ k. mark_at c.deref-in-loop-left.result.now k ≡ Some c.loop-left.level → ⊥) z) (sym c.deref-in-loop-left-2.ensures.value)
    (subst (λ (m : List (Option ℕ)). All (λ k. mark_at m k ≡ Some c.loop-left.level → ⊥) c.in_ok-frontier-2.frontier.items)
    (sym (c.deref-in-loop-left.ensures.value ∙ take_of_append c.spread.new.marks
    (drop (length c.spread.new.marks) c.loop-left.levels.items) c.loop-left.levels.len n))
    (next_past _ (c.loop-left.level + 1) c.loop-left.level c.deref_mut-in-loop-left.result.now c.spread.new.marks c.in_ok-frontier-2.frontier.items (λ e. omega (arith, e)) c.in_ok-frontier-2.ensures))

pub loop-left-preserved : goal.loop-left-preserved
loop-left-preserved c =
    let n : c.loop-left.levels.len ≡ length c.spread.new.marks = omega (arith, c.deref_mut-in-loop-left.ensures.len, c.spread.auto.marks) in
    let m : c.loop-left.paths.len ≡ length c.extend_paths.new.paths = omega (arith, c.deref_mut-in-loop-left-2.ensures.len, c.extend_paths.auto.paths) in
    let levels = take_of_append c.spread.new.marks (drop (length c.spread.new.marks) c.loop-left.levels.items) c.loop-left.levels.len n in
    let paths = take_of_append c.extend_paths.new.paths (drop (length c.extend_paths.new.paths) c.loop-left.paths.items) c.loop-left.paths.len m in
    let marked = c.deref-in-loop-left.ensures.value ∙ levels in
    let old : Search = record { levels = c.loop-left.levels.items; paths = c.loop-left.paths.items; front = c.loop-left.frontier.items } in
    let new : Search = record { levels = c.spread.new.marks; paths = c.extend_paths.new.paths; front = c.in_ok-frontier-2.frontier.items } in
    record {
      up_to = rw (levels, paths)
          (step_reaches_next_level c.args.p.now c.len-count.ensures.fits c.args.q c.args.own.now c.loop-left.level old new c.loop-left.invariant.up_to
          (record {
            spreads = rw (c.deref_mut-in-loop-left.ensures.value, c.deref.ensures.value) at c.in_ok-frontier-2.ensures;
            same = rw c.deref_mut-in-loop-left-2.ensures.value at c.extend_paths.auto.paths;
            others = rw (c.deref-in-loop-left-2.ensures.value, c.deref_mut-in-loop-left-2.ensures.value) at c.extend_paths.ensures.others;
            continues = rw (c.deref-in-loop-left-2.ensures.value, c.deref_mut-in-loop-left-2.ensures.value, marked) at c.extend_paths.ensures.paths;
          }));
      left =
          let count = c.in_ok-frontier-2.ensures.count in
          let now = ap count_unmarked levels in
          let was = ap count_unmarked c.deref_mut-in-loop-left.ensures.value in omega (arith, count, now, was, c.loop-left.invariant.left, c.len-left.ensures);
    }

pub returns : goal.returns
returns c = searched_at_end c.args.p.now c.len-count.ensures.fits c.args.q c.args.own.now c.loop-left.level c.loop-left.levels.items c.loop-left.paths.items
    c.loop-left.frontier.items c.loop-left.invariant.up_to
    (elim c.loop-left-test.branch [
      | then-loop-left-test+else-not-is_empty w ↦ inr
          (let empty = w.if-not-is_empty.ensures in grind (arith, common_steps, empty))
      | else-loop-left-test w ↦ inl
          (let h : c.loop-left.left ≤ 0 = w.loop-left-test.false in omega (arith, h, c.loop-left.invariant.left))
    ])
