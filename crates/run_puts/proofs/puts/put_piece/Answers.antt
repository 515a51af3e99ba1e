use Rattle.run_puts.proofs.Common.{List, [], ◌∷◌, ◌++◌, subst, sym, Put, failed_put, memory_put, failed, sink_wanting, IsTail, Status}
use Rattle.run_puts.proofs.Grouped.{grouped}
use Rattle.outside.specs.declared.traits.SinkError.TheVariants as error
use Rattle.run_puts.proofs.puts.put_piece.Goals as goal

pub returns-in-Err-Write : goal.returns-in-Err-Write
returns-in-Err-Write g c = λ start puts h. (
  failed_put c.args.piece.now error.Write ∷ [],
  rw (← c.in-Err-Write.field-0-is) (c.in-Err-Write.ensures.leads start puts h),
  λ after.
      failed c.args.piece.now after,
)

pub returns-in-Err-Memory : goal.returns-in-Err-Memory
returns-in-Err-Memory g c = λ start puts h.
    let one = c.in-Err-Memory.ensures.leads start puts h in
    let two = c.put_memory.ensures start _ one in
    let wanting = two.2 in
    let L : List Put → Type 0 = λ puts. g.K.Sink.leads start puts c.put_memory.new.out in
    let T : List Put → Type 0 = λ more. L (puts ++ (failed_put c.args.piece.now c.in-Err-Memory.field-0 ∷ []) ++ more) in
    let tail : List Put = failed_put c.args.piece.now error.Memory ∷ memory_put wanting.0 ∷ [] in (
      tail,
      grouped L puts _ _ _ _ c.in-Err-Memory.field-0-is (subst T wanting.2 two.1),
      λ after.
          let P : Status → Type 0 = λ s. IsTail (c.args.piece.now ∷ after) s tail in subst P (sym wanting.1) (sink_wanting c.args.piece.now after wanting.0),
    )
