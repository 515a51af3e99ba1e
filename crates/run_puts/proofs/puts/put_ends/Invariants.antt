use Rattle.run_puts.proofs.Common.{List, ◌++◌, Put}
use Rattle.run_puts.proofs.Batches.{ArePut}
use Rattle.run_puts.proofs.puts.put_ends.Given as goal

abbrev pub invariant-loop-end : goal.invariant-loop-end
invariant-loop-end g l = (start : _) (puts : List Put) → g.K.Sink.leads start puts l.fn.out → (more : List Put) × g.K.Sink.leads start (puts ++ more) l.out × ArePut l.fn.ends.items l.end-index more
