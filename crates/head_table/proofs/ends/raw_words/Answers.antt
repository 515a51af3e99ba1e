use Rattle.head_table.proofs.Common.{rules, ◌≡◌, ℕ, ◌+◌, ◌*◌, ◌<◌, List, [], ◌∷◌, ◌++◌, length, get_or, ℤ, pos, sym, ap, ◌∙◌, subst, arith, to_z-of_z, w64, SFits, Bound, Side, Low, High, IsHead}
use Rattle.head_table.proofs.Common.{no_bound, head_of, heads_on, head_of_word, words_on}
use Rattle.head_table.proofs.WordReads.{any_default, place_of, row_more}
use Rattle.head_table.proofs.ends.raw_words.Goals as goal

pub word_of_head-requires : goal.word_of_head-requires
word_of_head-requires c = let i = c.loop-word.word-index in let h : i < length c.args.words.now = c.loop-word-test.true in
    let z : ℤ = (get_or c.args.words.now i (record { low = pos 0; high = pos 0 })).low in let f : SFits w64 z = search rules in
    subst IsHead (sym (to_z-of_z w64 z f)) (subst (λ (b : Bound). IsHead b.low) (any_default c.args.words.now i no_bound _ h) (c.requires Low i h))

pub word_of_head-requires-in-loop-word : goal.word_of_head-requires-in-loop-word
word_of_head-requires-in-loop-word c = let i = c.loop-word.word-index in let h : i < length c.args.words.now = c.loop-word-test.true in
    let z : ℤ = (get_or c.args.words.now i (record { low = pos 0; high = pos 0 })).high in let f : SFits w64 z = search rules in
    subst IsHead (sym (to_z-of_z w64 z f)) (subst (λ (b : Bound). IsHead b.high) (any_default c.args.words.now i no_bound _ h) (c.requires High i h))

pub loop-word-preserved : goal.loop-word-preserved
loop-word-preserved c = let i = c.loop-word.word-index in let h : i < length c.args.words.now = c.loop-word-test.true in
    let x : Bound = get_or c.args.words.now i (record { low = pos 0; high = pos 0 }) in let f : SFits w64 x.low = search rules in let g : SFits w64 x.high = search rules in
    let same : x ≡ get_or c.args.words.now i no_bound = any_default c.args.words.now i _ no_bound h in
    let inv = c.loop-word.invariant in let raw = c.loop-word.raw.items in let a = c.word_of_head.result in let b = c.word_of_head-in-loop-word.result in
    let long : length raw ≡ 2 * i + 1 = omega (arith, inv.len, c.loop-word.raw.ok) in
    let here : (side : Side) → head_of_word (get_or (a ∷ b ∷ []) (place_of side) 0) ≡ heads_on side c.args.words.now i = elim [
      | Low ↦ c.word_of_head.ensures.value ∙ (to_z-of_z w64 x.low f ∙ ap (head_of Low) same)
      | High ↦ c.word_of_head-in-loop-word.ensures.value ∙ (to_z-of_z w64 x.high g ∙ ap (head_of High) same)
    ] in
    let both : c.push-in-loop-word-2.new.self.items ≡ (raw ++ a ∷ []) ++ b ∷ [] = c.in_ok-push-3.ensures.items ∙ ap (λ (l : List ℕ). l ++ b ∷ []) c.in_ok-push-2.ensures.items in record {
      len = omega (arith, c.in_ok-push-3.ensures.len, c.in_ok-push-2.ensures.len, inv.len);
      heads = λ side k l. subst (λ (ws : List ℕ). words_on side ws k ≡ heads_on side c.args.words.now k) (sym both) (row_more c.args.words.now raw i a b long side (here side) (inv.heads side) k l);
    }
