use Rattle.head_table.proofs.Common.{rules, ◌<◌, ◌∙◌, List, length, sym, subst, arith, ◌≡◌, Entries, IsHead, IsProblem, relaxed_head, IsRelaxedOn, IsAsTight, is_side, tighter_of, to_z-of_z, w64}
use Rattle.head_table.proofs.Common.{SFits, to_z, of_z, seen_on, head_of_word}
use Rattle.head_table.proofs.{Seeing.exchanges, Seeing.sound_seen, WordReads.tighter_is, WordReads.word_within}
use Rattle.head_table.proofs.table.HeadTable.exchange.Goals as goal

pub word_of_head-word-requires : goal.word_of_head-word-requires
word_of_head-word-requires c =
    let seat = c.args.seat.now in let side = c.args.side in
    let seen = seat.sound.heads side c.args.cell (subst (λ (cells : List Entries). c.args.cell < length cells) (sym c.requires.seat.problem) c.requires.cell) in
    subst IsHead (sym (to_z-of_z w64 c.args.to c.ranges.to)) (relaxed_head (is_side side c.args.self.now.problem.now c.recall_conditions.ensures.fits)
    (seen_on side seat) c.args.cell c.args.to seen c.requires.to)

pub tighten-found-requires-clause-word : goal.tighten-found-requires-clause-word
tighten-found-requires-clause-word c = let t = c.args.self.now in omega (arith, t.words, c.word_of-place.ensures, word_within c.args.side c.args.cell (length t.problem.now) c.requires.cell)

pub tighten-found-requires-clause-allows : goal.tighten-found-requires-clause-allows
tighten-found-requires-clause-allows c = let t = c.args.self.now in let back = sym t.same in let side = c.args.side in let seen = seen_on side c.args.seat.now in
    rw c.word_of-place.ensures (exchanges _ _ (subst IsProblem back c.recall_conditions.ensures.fits) side _ _ _ c.args.cell c.word_of_head-word.result
    (subst (λ (cells : List Entries). c.args.cell < length cells) back c.requires.cell) c.args.seat.now.live
    (subst (λ (cells : List Entries). IsRelaxedOn side cells seen c.args.cell (head_of_word c.word_of_head-word.result)) back
    (subst (IsRelaxedOn side t.problem.now seen c.args.cell) (sym (c.word_of_head-word.ensures.value ∙ to_z-of_z w64 c.args.to c.ranges.to)) c.requires.to)))

pub invariant_of-seat : goal.invariant_of-seat
invariant_of-seat c = let found = c.tighten-found.ensures.play c.args.side c.args.cell c.word_of-place.ensures in let s = found.3.stays in record {
  live = s.live ∙ c.args.seat.now.live;
  holds_none = s.slots ∙ c.args.seat.now.holds_none;
  sound = sound_seen c.args.side _ _ c.args.cell _ c.args.seat.now.sound found.1 found.3;
}

pub head_from_word-requires : goal.head_from_word-requires
head_from_word-requires c = (c.tighten-found.ensures.play c.args.side c.args.cell c.word_of-place.ensures).0

pub returns : goal.returns
returns c = let side = c.args.side in let found = c.tighten-found.ensures.play side c.args.cell c.word_of-place.ensures in let s = found.3.stays in let seat = c.requires.seat in
    let r = c.head_from_word.result in let f : SFits w64 r = search rules in
    let e : head_of_word c.tighten-found.result ≡ to_z w64 (of_z w64 r) = sym c.head_from_word.ensures ∙ sym (to_z-of_z w64 r f) in
    let to = c.word_of_head-word.ensures.value ∙ to_z-of_z w64 c.args.to c.ranges.to in record {
      seat = record { table = c.tighten-found.ensures.seat ∙ seat.table; problem = s.problem ∙ seat.problem; barrier = s.barrier ∙ seat.barrier };
      before = subst (IsAsTight side (seen_on side c.args.seat.now c.args.cell)) e found.2;
      seen = found.3.here ∙ (tighter_is side c.tighten-found.result c.word_of_head-word.result ∙ (λ i. tighter_of side (e i) (to i)));
      others = found.3.others;
      opposite = found.3.opposite;
    }
