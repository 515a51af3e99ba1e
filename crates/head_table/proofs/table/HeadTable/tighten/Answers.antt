use Rattle.head_table.proofs.Common.{subst, Side, Allows, step, none, IsTableKept, exchange_play, tighter_word}
use Rattle.head_table.proofs.table.HeadTable.tighten.Goals as goal

pub fetch_max-requires : goal.fetch_max-requires
fetch_max-requires c = let t = c.args.self.now.table.shared in let seat = c.args.seat.now in
    let Allowed : Side → Type 0 = λ side. Allows (IsTableKept t.key.problem.value t.key.barrier.value) t.table_id.slots seat.id seat.me c.args.word (λ n.
    tighter_word side n c.args.to) (exchange_play (step t.table_id.slots c.args.word c.args.to 0 none) seat.me) in
    (c.requires.seat, c.requires.word, subst Allowed c.in-Low.is c.requires.allows)

pub fetch_min-requires : goal.fetch_min-requires
fetch_min-requires c = let t = c.args.self.now.table.shared in let seat = c.args.seat.now in
    let Allowed : Side → Type 0 = λ side. Allows (IsTableKept t.key.problem.value t.key.barrier.value) t.table_id.slots seat.id seat.me c.args.word (λ n.
    tighter_word side n c.args.to) (exchange_play (step t.table_id.slots c.args.word c.args.to 0 none) seat.me) in
    (c.requires.seat, c.requires.word, subst Allowed c.in-High.is c.requires.allows)
