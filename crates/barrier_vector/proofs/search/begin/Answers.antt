use Rattle.barrier_vector.proofs.Common.{◌≡◌, None, refl, rules, mark_at}
use Rattle.barrier_vector.proofs.Starting.{begun_root, begun_other}
use Rattle.barrier_vector.proofs.search.begin.Goals.{in-Some+in_ok-mark_cell, in_default}
use Rattle.barrier_vector.proofs.search.begin.Goals as goal

pub loop-c-preserved : goal.loop-c-preserved
loop-c-preserved c =
    elim c.match-own-c.branch [
      | in-Some+in_ok-mark_cell w ↦
          rw (w.levels-is, w.roots-is)
          (begun_root c.args.own.now c.loop-c.c c.args.levels.now c.loop-c.levels c.loop-c.paths c.loop-c.roots.items c.loop-c.invariant w.in-Some.drop
          w.longer_path.result w.mark_cell.new.marks c.match-own-c.paths w.mark_cell.new.next.items c.loop-c-test.true w.in-Some.is w.paths-is
          w.longer_path.ensures w.in_ok-mark_cell.ensures)
      | in_default w ↦
          let none : mark_at c.args.own.now c.loop-c.c ≡ None = search rules in
          rw (w.levels-is, w.paths-is, w.roots-is) (begun_other c.args.own.now c.loop-c.c c.args.levels.now c.loop-c.levels c.loop-c.paths c.loop-c.roots.items c.loop-c.invariant none)
    ]
