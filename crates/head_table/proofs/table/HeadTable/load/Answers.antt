use Rattle.head_table.proofs.Common.{rules, ◌<◌, List, length, sym, subst, arith, Entries, IsProblem}
use Rattle.head_table.proofs.{WordReads.word_within, Seeing.looks}
use Rattle.head_table.proofs.table.HeadTable.load.Goals as goal

pub load-found-requires : goal.load-found-requires
load-found-requires c = let t = c.args.self.now in let back = sym t.same in (
  search rules,
  omega (arith, t.words, c.word_of-word.ensures, word_within c.args.side c.args.cell (length t.problem.now) c.requires.cell),
  rw c.word_of-word.ensures (looks _ _ (subst IsProblem back c.recall_conditions.ensures.fits) c.args.side _ _ _ c.args.cell
      (subst (λ (cells : List Entries). c.args.cell < length cells) back c.requires.cell) c.args.seat.now.live),
)
