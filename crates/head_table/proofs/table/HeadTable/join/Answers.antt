use Rattle.head_table.proofs.Common.{rules, ◌∙◌, length, sym, subst, ap, arith, Me, heads_on, Known, IsSound}
use Rattle.head_table.proofs.Joining.{joins, sound_joined, joined_at}
use Rattle.head_table.proofs.table.HeadTable.join.Goals as goal

pub join_seat-requires : goal.join_seat-requires
join_seat-requires c = let t = c.args.self.now in (search rules, search rules, search rules, omega (arith, t.words), joins _ _ _ _ _ _ c.args.seat.now.live c.args.other.live)

pub invariant_of-seat : goal.invariant_of-seat
invariant_of-seat c = let m = c.join_seat.ensures.2 in let a = c.args.seat.now in let b = c.args.other in record {
  live = ap (λ (x : Me (Unit {0}) Known). x.0.live) m ∙ a.live;
  holds_none = ap (λ (x : Me (Unit {0}) Known). x.1) m ∙ a.holds_none;
  sound = subst (λ (x : Me (Unit {0}) Known). IsSound x.0) (sym m) (sound_joined a.seat.me.0 b.seat.me.0 (c.requires.other.problem ∙ sym c.requires.seat.problem) a.sound b.sound);
}

pub returns-clause-tighter : goal.returns-clause-tighter
returns-clause-tighter c = let m = c.join_seat.ensures.2 in let a = c.args.seat.now in let b = c.args.other in let p = c.args.self.now.problem.now in
    let n = a.sound.whole ∙ ap length c.requires.seat.problem in let k = b.sound.whole ∙ ap length c.requires.other.problem in
    λ side d h. ap (λ (x : Me (Unit {0}) Known). heads_on side x.0.seen d) m ∙ joined_at side a.seat.me.0 b.seat.me.0 (length p) n k d h
