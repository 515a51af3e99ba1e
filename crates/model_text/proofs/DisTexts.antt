-- The file of DIS is read as written.
use Rattle.model_text.proofs.Common.{◌≡◌, ℕ, ◌^◌, ◌<◌, ◌≤◌, ◌==◌, true, false, List, [], ◌∷◌, ◌++◌, append_assoc, length, map, All, Ok, refl, arith, ◌+◌, Result, codes, decimal, All-head}
use Rattle.model_text.proofs.Common.{All-from_recursion, All-cons, nat_tests, FileSet, words, is_comment, Left, without_comments, left_from, next_number, for_each, begins_with, ◌>>=◌, Numbered}
use Rattle.model_text.proofs.Common.{FlowModel, HasSize, without_stresses, beds_of, model_of_grid, head_of, dis_of, IsWord, Line, IsLine, line_text, text, number_after, Takes, numbered_lines}
use Rattle.model_text.proofs.Common.{left_of_lines, word_by_test, count_is_word, integer_is_word, each_layer, dis_item_1, dis_item_2, dis_item_3, dis_item_4, dis_item_5, dis_item_6, dis_item_7}
use Rattle.model_text.proofs.Common.{dis_lines, IsDiscretized, IsGridWithin, Limits, is_digit, digits_spell, then_takes, last_takes, line_takes, line_words, text_left, next_line, takes_none}
use Rattle.model_text.proofs.Common.{free_lists, append-nil, flat_map, AllZip, Refusal, item_line}
use Rattle.model_text.proofs.{GridTexts.grid_takes, FrameTexts.frame_reads, FrameTexts.beds_read, TimeTexts.periods_take}

-- A file of lines is read from its first line on, and a list of periods period by period.
-- the first line of a file of stresses, and what follows it
pub item_takes : {Z : Type 0} {line : Line} {back : List Line} {out : Left → Z} (f : Numbered × Left → Result Z Refusal) (file : List ℕ) → IsLine line → begins_with (codes "PARAMETER") line ≡ false
    → ((n : ℕ) → words (line_text line) ≡ line → Takes (λ left. f (record { number = n; bytes = line_text line }, left)) back out) → Takes (λ left. item_line file left >>= f) (line ∷ back) out
unfolding item_line number_after
item_takes {line = line} {back = back} f file h plain k = record {
  are = All-cons (λ x. IsLine x) line back h (k 0 (line_words line h.words)).are;
  reads = λ n rest. rw (next_line file n line (back ++ rest), line_words line h.words, plain) ((k n (line_words line h.words)).reads (next_number n) rest);
}

items_left : (n : ℕ) (line : Line) (others : List Line) → is_comment (line_text line) ≡ false → without_comments (left_of_lines n (line ∷ others)) ≡ left_of_lines n (line ∷ others)
unfolding left_of_lines numbered_lines
items_left n line others item = rw item refl

-- a file, from its first line on, where that is no comment
pub whole_file : {Z : Type 0} {read : Left → Result Z Refusal} {line : Line} {others : List Line} {z : Z} → is_comment (line_text line) ≡ false → Takes read (line ∷ others) (λ left. z)
    → read (without_comments (left_from 1 (text (line ∷ others)))) ≡ Ok z
whole_file {line = line} {others = others} item h =
    let end : (line ∷ others) ++ [] ≡ line ∷ others = append-nil (line ∷ others) in
    rw (text_left 1 (line ∷ others) h.are, items_left 1 line others item) (rw end at (h.reads 1 []))

-- the same by its first reading and what follows it
pub file_takes : {Y Z : Type 0} {read : Left → Result Y Refusal} {line : Line} {front back : List Line} {mid : Left → Y} {z : Z} (f : Y → Result Z Refusal) → is_comment (line_text line) ≡ false
    → Takes read (line ∷ front) mid → Takes (λ left. f (mid left)) back (λ left. z) → (read (without_comments (left_from 1 (text (line ∷ front ++ back)))) >>= f) ≡ Ok z
file_takes f item g h = whole_file item (then_takes f g h)

-- A reading for each of some periods takes the lines of each.
module _ {P Y Q S : Type 0} (read : P → S × Left → Result (Q × (S × Left)) Refusal) (lines : Y → List Line) (put : P → Y → Q) (next : S → Y → S) (IsGood : P → Y → Type 0) (I : S → Type 0)
    (one : (p : P) (y : Y) (s : S) → IsGood p y → I s → Takes (λ left. read p (s, left)) (lines y) (λ left. (put p y, (next s y, left)))) (keeps : (p : P) (y : Y) (s : S) → IsGood p y → I (next s y))
    (all : List P → List Y → List Q) (none : all [] [] ≡ []) (more : (p : P) (y : Y) (ps : List P) (ys : List Y) → all (p ∷ ps) (y ∷ ys) ≡ put p y ∷ all ps ys) where
  abbrev pub after_all : S → List Y → S
  after_all s [] = s
  after_all s (y ∷ ys) = after_all (next s y) ys

  pub each_takes : (ps : List P) (ys : List Y) → AllZip IsGood ps ys → (s : S) → I s → Takes (λ left. for_each read ps (s, left)) (flat_map lines ys) (λ left. (all ps ys, (after_all s ys, left)))
  unfolding for_each
  each_takes [] [] good s so = rw none takes_none
  each_takes [] (y ∷ ys) good s so = absurd good
  each_takes (p ∷ ps) [] good s so = absurd good
  each_takes (p ∷ ps) (y ∷ ys) good s so =
      rw (more p y ps ys) (then_takes _ (one p y s good.0 so) (last_takes _ (each_takes ps ys good.1 (next s y) (keeps p y s good.0)) (λ left. refl)))

-- a line whose first word is no comment
pub line_is_item : (w : List ℕ) (ws : Line) → 1 ≤ length w → is_comment w ≡ false → is_comment (line_text (w ∷ ws)) ≡ false
unfolding line_text
line_is_item [] ws some h = absurd (omega arith)
line_is_item (b ∷ bs) [] some h = h
line_is_item (b ∷ bs) (v ∷ ws) some h = h

pub decimal_is_item : (n : ℕ) → n < 10 ^ 18 → is_comment (decimal n) ≡ false
decimal_is_item n h = by_digits (decimal n) (digits_spell n h).digits
  where
    no_mark : (b : ℕ) → is_digit b ≡ true → (b == 35) ≡ false
    no_mark b k = grind (arith, nat_tests)

    by_digits : (ds : List ℕ) → All (λ b. is_digit b ≡ true) ds → is_comment ds ≡ false
    by_digits [] k = refl
    by_digits (b ∷ bs) k = no_mark b (All-head (λ x. is_digit x ≡ true) b bs k)

module _ (m : FlowModel) (h : IsDiscretized m) where
  frame_is_line : IsLine (dis_item_1 m)
  unfolding dis_item_1
  frame_is_line =
      let s : HasSize m.grid = h.grid.size in
      let layers = count_is_word m.grid.layers (omega (arith, s.layers.1)) in
      let rows = count_is_word m.grid.rows (omega (arith, s.rows.1)) in
      let cols = count_is_word m.grid.cols (omega (arith, s.cols.1)) in
      let periods = count_is_word (length m.periods) (omega (arith, h.few)) in
      record {
        some = omega arith;
        words = All-from_recursion (λ w. IsWord w) (dis_item_1 m) (layers, (rows, (cols, (periods, (word_by_test (codes "0") refl, (integer_is_word m.lenuni h.lenuni, tt))))));
      }

  frame_is_item : is_comment (line_text (dis_item_1 m)) ≡ false
  unfolding dis_item_1
  frame_is_item =
      let short : m.grid.layers < 10 ^ 18 = omega (arith, h.grid.size.layers.1) in
      line_is_item (decimal m.grid.layers) _ (digits_spell m.grid.layers short).some (decimal_is_item m.grid.layers short)

  beds_take : (file : List ℕ) → Takes (beds_of file m.grid.layers) (dis_item_2 m.grid ∷ []) (λ left. (m.grid.laycbd, left))
  unfolding number_after dis_item_2
  beds_take file = record {
    are = (free_lists.integers file m.grid.laycbd (omega (arith, h.grid.laycbd, h.grid.size.layers.0)) h.laycbd).are;
    reads = λ n rest. beds_read file n rest m.grid h.grid h.laycbd;
  }

  head_takes : (limits : Limits) (file : List ℕ) → IsGridWithin limits m.grid
      → Takes (head_of limits file) (dis_item_1 m ∷ dis_item_2 m.grid ∷ [])
      (λ left. ((record { size = record { layers = m.grid.layers; rows = m.grid.rows; cols = m.grid.cols }; periods = length m.periods; lenuni = m.lenuni }, m.grid.laycbd), left))
  unfolding head_of
  head_takes limits file w = line_takes _ file frame_is_line (λ n e. rw (e, frame_reads limits file n m h w) (last_takes _ (beds_take file) (λ left. refl)))

  pub dis_reads : (limits : Limits) (files : FileSet) (file : List ℕ) → IsGridWithin limits m.grid → dis_of limits files file (text (dis_lines m)) ≡
      Ok (model_of_grid m.grid m.lenuni (map without_stresses m.periods))
  unfolding dis_of dis_lines
  dis_reads limits files file w =
      let g = m.grid in
      let a = dis_item_3 g in
      let b = dis_item_4 g in
      let c = dis_item_5 g in
      let d = each_layer g (dis_item_6 g) in
      let e = map dis_item_7 m.periods in
      let lines : a ++ (b ++ (c ++ (d ++ e))) ≡ (a ++ (b ++ (c ++ d))) ++ e = simp append_assoc refl in
      rw lines (file_takes _ frame_is_item (head_takes limits file w)
      (then_takes _ (grid_takes files file g h.grid h.bed_bottom) (last_takes _ (periods_take file m.periods h.times h.steps) (λ left. refl))))
