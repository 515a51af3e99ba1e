use Rattle.listing_summary.proofs.Common.{◌≡◌, ◌+◌, ◌≤◌, drop, fold, with_head_line, Fits, printed_bounds}
use Rattle.listing_summary.proofs.summary.Summary.count_heads.Given as goal

abbrev pub invariant-loop-cell : goal.invariant-loop-cell
invariant-loop-cell l = record {
  is : fold with_head_line l.self (printed_bounds l.model l.cell (drop l.cell l.heads)) ≡ fold with_head_line l.fn.self (printed_bounds l.model 0 l.heads);
  fits : Fits l.self;
  few : l.self.heads ≤ l.fn.self.heads + l.cell;
}
