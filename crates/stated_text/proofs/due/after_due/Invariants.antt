use Rattle.stated_text.proofs.Common.{◌≡◌, drop, after_due}
use Rattle.stated_text.proofs.due.after_due.Given as goal

abbrev pub invariant-loop-byte : goal.invariant-loop-byte
invariant-loop-byte l = after_due l.number l.left (drop l.byte-index l.due) ≡ after_due l.line l.fn.text l.due
