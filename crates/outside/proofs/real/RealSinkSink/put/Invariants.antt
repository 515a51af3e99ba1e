use Rattle.outside.proofs.Common.{◌≡◌, ◌≤◌, ◌-◌, length, take, Some, Appends}
use Rattle.outside.proofs.real.RealSinkSink.put.Given as goal

abbrev pub invariant-loop-at : goal.invariant-loop-at
invariant-loop-at g l = (l.self-inside.faults ≡ l.fn.self.faults) × (l.at ≤ length l.piece) ×
    Appends l.fn.self.written (Some l.self-inside.accepted.bytes) (take l.at l.piece) ×
    Appends (g.W.Write.contents l.self-inside.accepted.first) (g.W.Write.contents l.self-inside.to) l.self-inside.accepted.bytes

abbrev pub decreases-loop-at : goal.decreases-loop-at
decreases-loop-at g l = length l.piece - l.at
