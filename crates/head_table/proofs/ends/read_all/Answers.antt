use Rattle.head_table.proofs.Common.{rules, ◌≡◌, ℕ, ◌+◌, ◌*◌, List, length, sym, ap, ◌∙◌, subst, arith, to_z-of_z, w64, SFits, to_z, of_z, slots_items, Bound, Side, Low, High, IsHead, head_of}
use Rattle.head_table.proofs.Common.{heads_on, head_of_word, words_on}
use Rattle.head_table.proofs.WordReads.{at_get, row_next}
use Rattle.head_table.proofs.ends.read_all.Goals as goal

pub head_from_word-low-requires : goal.head_from_word-low-requires
head_from_word-low-requires c = let i = c.loop-cell.cell in let e = at_get _ (2 * i + 1) _ 0 c.word.ensures in subst (λ (n : ℕ). IsHead (head_of_word n)) e
    (c.requires.range Low i c.loop-cell-test.true)

pub head_from_word-high-requires : goal.head_from_word-high-requires
head_from_word-high-requires c = let i = c.loop-cell.cell in let e = at_get _ (2 * i + 2) _ 0 c.word-in-loop-cell.ensures in subst (λ (n : ℕ).
    IsHead (head_of_word n)) e (c.requires.range High i c.loop-cell-test.true)

pub loop-cell-preserved : goal.loop-cell-preserved
loop-cell-preserved c = let i = c.loop-cell.cell in let inv = c.loop-cell.invariant in let long : length c.loop-cell.bounds.items ≡ i = omega (arith, inv.len, c.loop-cell.bounds.ok) in
    let l = c.head_from_word-low.result in let h = c.head_from_word-high.result in let f : SFits w64 l = search rules in let g : SFits w64 h = search rules in
    let x : Bound = record { low = to_z w64 (of_z w64 l); high = to_z w64 (of_z w64 h) } in
    let ws : List ℕ = slots_items c.args.closed.now.words in let bs : List Bound = c.loop-cell.bounds.items in
    let here : (side : Side) → head_of side x ≡ words_on side ws i = elim [
      | Low ↦ to_z-of_z w64 l f ∙ (c.head_from_word-low.ensures ∙ ap head_of_word (sym (at_get _ (2 * i + 1) _ 0 c.word.ensures)))
      | High ↦ to_z-of_z w64 h g ∙ (c.head_from_word-high.ensures ∙ ap head_of_word (sym (at_get _ (2 * i + 2) _ 0 c.word-in-loop-cell.ensures)))
    ] in record {
      len = omega (arith, inv.len, c.in_ok-push.ensures.len);
      heads = λ side k l. subst (λ (b : List Bound). heads_on side b k ≡ words_on side ws k) (sym c.in_ok-push.ensures.items) (row_next side ws bs i x long (here side) (inv.heads side) k l);
    }
