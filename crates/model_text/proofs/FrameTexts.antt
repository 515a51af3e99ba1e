-- DIS items 1 and 2 are read as written.
use Rattle.model_text.proofs.Common.{◌≡◌, ℕ, suc, ◌+◌, ◌-◌, ◌*◌, ◌<◌, ◌≤◌, true, List, [], ◌∷◌, ◌++◌, length, take, map, nat_le, All, Ok, refl, sym, ap, ◌∙◌, arith, ℤ, pos, codes, decimal, map-append}
use Rattle.model_text.proofs.Common.{length-take-le, take_more, take_all, All-nil, All-cons, All-append, All-take, All-weaker, nat_tests, Left, next_number, repeated_reading, beginning, is_word}
use Rattle.model_text.proofs.Common.{integer, value_at, value_alone, zero_at, number, canonical, number_at, Grid, FlowModel, HasSize, IsGrid, int_at, most_layers, most_in_row, most_cells, no_number}
use Rattle.model_text.proofs.Common.{cell_count, layer_of, row_of, column_of, size_at, frame_of, beds_of, count_at, IsShort, IsWord, integer_word, Line, left_of_lines, row_line, number_word}
use Rattle.model_text.proofs.Common.{IsWrittenAs, on_line, value_reads, values_read, last_word, line_begins, alone_begins, same_start, row_is_words, integer_written, dis_item_1, dis_item_2}
use Rattle.model_text.proofs.Common.{IsDiscretized, IsGridWithin, Limits, layers_few, in_row_few, ◌^◌, nat_lt, Some, Dec, IsDec, is_digit, within, number_reads, integer_reads, ◌==◌, false, drop}
use Rattle.model_text.proofs.Common.{All-head, CellId, row_below, column_below, layer_below, place_gives, cell_at, is_left_out, digits_spell}
use Rattle.std.specs.Char.{to_ascii_lowercase}

-- Counts in lines.
-- the words of numbers are read where they stand
pub number_item : (file : List ℕ) (line : ℕ) (d : Dec) → IsDec d → (ws : Line) → number_at number file line (number_word d ∷ ws) ≡ Ok (d, ws)
unfolding number_at
number_item file line d h ws = rw (number_reads d h) refl

pub integer_item : (file : List ℕ) (line : ℕ) (z : ℤ) → IsShort z → (ws : Line) → number_at integer file line (integer_word z ∷ ws) ≡ Ok (z, ws)
unfolding number_at
integer_item file line z h ws = rw (integer_reads z h) refl

pub decimal_reads : (n : ℕ) → n < 10 ^ 18 → integer (decimal n) ≡ Ok (pos n)
unfolding integer_word
decimal_reads n h = integer_reads (pos n) (record { few = h })

pub decimal_item : (file : List ℕ) (line n : ℕ) → n < 10 ^ 18 → (ws : Line) → number_at integer file line (decimal n ∷ ws) ≡ Ok (pos n, ws)
unfolding number_at
decimal_item file line n h ws = rw (decimal_reads n h) refl

pub is_within : (n limit : ℕ) → 1 ≤ n → n ≤ limit → within (pos n) limit ≡ Some n
is_within n limit some few = grind (arith, nat_lt, nat_tests, nat_le)

pub count_reads : (file : List ℕ) (line limit n : ℕ) → 1 ≤ n → n ≤ limit → limit < 10 ^ 18 → (ws : Line) → count_at file line limit (decimal n ∷ ws) ≡ Ok (n, ws)
unfolding count_at
count_reads file line limit n some few small ws = rw (decimal_item file line n (omega arith), is_within n limit some few) refl

-- the word 0, as an integer and as a number
pub zero_item : (file : List ℕ) (line : ℕ) (ws : Line) → number_at integer file line (codes "0" ∷ ws) ≡ Ok (pos 0, ws)
unfolding number_at integer
zero_item file line ws = refl

pub zero_number_item : (file : List ℕ) (line : ℕ) (ws : Line) → number_at number file line (codes "0" ∷ ws) ≡ Ok (no_number, ws)
unfolding number_at number canonical
zero_number_item file line ws = refl

-- item 1
pub frame_reads : (limits : Limits) (file : List ℕ) (line : ℕ) (m : FlowModel) → IsDiscretized m → IsGridWithin limits m.grid
    → frame_of limits file line (dis_item_1 m) ≡ Ok (record { size = record { layers = m.grid.layers; rows = m.grid.rows; cols = m.grid.cols }; periods = length m.periods; lenuni = m.lenuni })
unfolding frame_of size_at dis_item_1
frame_reads limits file line m h w =
    let g = m.grid in
    let s : HasSize g = h.grid.size in
    let few : nat_le (g.layers * (g.rows * g.cols)) (most_cells limits) ≡ true = grind (arith, nat_tests, w.cells) in
    rw (
      count_reads file line (most_layers limits) g.layers s.layers.0 w.layers (omega (arith, layers_few limits)),
      count_reads file line (most_in_row limits) g.rows s.rows.0 w.rows (omega (arith, in_row_few limits)),
      count_reads file line (most_in_row limits) g.cols s.cols.0 w.cols (omega (arith, in_row_few limits)),
      few,
      count_reads file line 1000 (length m.periods) h.some h.few (omega arith),
      zero_item file line,
      integer_item file line m.lenuni h.lenuni,
    ) refl

-- a reading of one value begins on the next line
value_begins : (file : List ℕ) (n : ℕ) (line : Line) (others : List Line) → All (λ w. IsWord w) line
    → value_at integer file (beginning, left_of_lines n (line ∷ others)) ≡ value_at integer file (on_line n [] line, left_of_lines (next_number n) others)
unfolding value_at
value_begins file n line others h = rw (line_begins n line others h) refl

zero_begins : (file : List ℕ) (n : ℕ) (line : Line) (others : List Line) → All (λ w. IsWord w) line
    → zero_at file (beginning, left_of_lines n (line ∷ others)) ≡ zero_at file (on_line n [] line, left_of_lines (next_number n) others)
unfolding zero_at
zero_begins file n line others h = rw (value_begins file n line others h) refl

zero_written : IsWrittenAs integer integer_word (pos 0)
zero_written = integer_written (pos 0) (record { few = omega arith })

row_is_words_map : (zs : List ℤ) → All (λ x. IsWrittenAs integer integer_word x) zs → All (λ w. IsWord w) (map integer_word zs)
unfolding row_line
row_is_words_map zs h = row_is_words integer integer_word zs h

zero_reads : (file : List ℕ) (n : ℕ) (last : List ℕ) (left : Left) → zero_at file (on_line n last (integer_word (pos 0) ∷ []), left) ≡ Ok (pos 0, (on_line n (integer_word (pos 0)) [], left))
unfolding zero_at
zero_reads file n last left =
    rw (value_reads integer file n last (integer_word (pos 0)) [] left (pos 0) zero_written.is_word zero_written.reads) refl

module _ (file : List ℕ) (n : ℕ) (others : List Line) where
  abbrev end_word : Line
  end_word = integer_word (pos 0) ∷ []

  beds_after : (above : List ℤ) → All (λ z. IsShort z) above
      → beds_of file (length above + 1) (left_of_lines n ((map integer_word above ++ end_word) ∷ others)) ≡ Ok (above ++ (pos 0 ∷ []), left_of_lines (next_number n) others)
  unfolding beds_of repeated_reading
  beds_after [] h =
      let words = All-cons (λ w. IsWord w) (integer_word (pos 0)) [] (zero_written).is_word (All-nil (λ w. IsWord w)) in
      rw (zero_begins file n end_word others words, zero_reads file n [] (left_of_lines (next_number n) others)) refl
  beds_after (z ∷ zs) h =
      let written = All-weaker (λ x. IsShort x) (λ x. IsWrittenAs integer integer_word x) integer_written (z ∷ zs) h in
      let words = All-append (λ w. IsWord w) (map integer_word (z ∷ zs)) end_word (row_is_words_map (z ∷ zs) written)
      (All-cons (λ w. IsWord w) (integer_word (pos 0)) [] (zero_written).is_word (All-nil (λ w. IsWord w))) in
      let start = alone_begins integer file n (map integer_word (z ∷ zs) ++ end_word) others words in
      let count : length (z ∷ zs) + 1 - 1 ≡ suc (length zs) = omega arith in
      let first = same_start (length zs) (value_alone integer file) (beginning, left_of_lines n ((map integer_word (z ∷ zs) ++ end_word) ∷ others))
      (on_line n [] (map integer_word (z ∷ zs) ++ end_word), left_of_lines (next_number n) others) start in
      let read = values_read integer integer_word file n [] (z ∷ zs) end_word (left_of_lines (next_number n) others) written in
      rw (count, first, read, zero_reads file n (last_word integer_word [] (z ∷ zs)) (left_of_lines (next_number n) others)) refl

-- item 2
pub beds_read : (file : List ℕ) (n : ℕ) (others : List Line) (g : Grid) → IsGrid g → All (λ z. IsShort z) g.laycbd
    → beds_of file g.layers (left_of_lines n (dis_item_2 g ∷ others)) ≡ Ok (g.laycbd, left_of_lines (next_number n) others)
unfolding dis_item_2 row_line
beds_read file n others g h short =
    let some : 1 ≤ g.layers = h.size.layers.0 in
    let low : g.layers - 1 < length g.laycbd = omega (arith, h.laycbd) in
    let above = take (g.layers - 1) g.laycbd in
    let as_long : length above ≡ g.layers - 1 = length-take-le (g.layers - 1) g.laycbd (omega arith) in
    let count : length above + 1 ≡ g.layers = omega arith in
    let whole : take (g.layers - 1 + 1) g.laycbd ≡ g.laycbd = take_all (g.layers - 1 + 1) g.laycbd (omega (arith, h.laycbd)) in
    let parts : take (g.layers - 1 + 1) g.laycbd ≡ above ++ (int_at g.laycbd (g.layers - 1) ∷ []) = take_more g.laycbd (g.layers - 1) (pos 0) low in
    let split : above ++ (pos 0 ∷ []) ≡ g.laycbd = sym (sym whole ∙ (parts ∙ ap (λ (z : ℤ). above ++ (z ∷ [])) h.no_last_bed)) in
    let words : map integer_word above ++ (integer_word (pos 0) ∷ []) ≡ map integer_word g.laycbd =
    sym (map-append integer_word above (pos 0 ∷ [])) ∙ ap (λ (xs : List ℤ). map integer_word xs) split in
    let read = beds_after file n others above (All-take (λ z. IsShort z) (g.layers - 1) g.laycbd short) in
    rw (count, words, split) at read

-- The place of a cell is read as the cell.
-- a keyword that begins with no digit is no number
digit_stays : (b : ℕ) → is_digit b ≡ true → to_ascii_lowercase b ≡ b
digit_stays b h = let low : nat_lt b 65 ≡ true = grind (arith, nat_tests) in rw low refl

digits_are_no_keyword : (c : ℕ) (cs ds : List ℕ) → 1 ≤ length ds → All (λ b. is_digit b ≡ true) ds → 57 < to_ascii_lowercase c → is_word (c ∷ cs) ds ≡ false
digits_are_no_keyword c cs [] some h past = absurd (omega arith)
digits_are_no_keyword c cs (b ∷ bs) some h past =
    let digit : is_digit b ≡ true = All-head (λ x. is_digit x ≡ true) b bs h in
    let low : b ≤ 57 = grind (arith, nat_tests) in
    let other : (b == to_ascii_lowercase c) ≡ false = grind (arith, nat_tests) in
    rw (digit_stays b digit, other) refl

pub no_keyword : (c : ℕ) (cs : List ℕ) (n : ℕ) → n < 10 ^ 18 → 57 < to_ascii_lowercase c → is_word (c ∷ cs) (decimal n) ≡ false
no_keyword c cs n small past = let d = digits_spell n small in digits_are_no_keyword c cs (decimal n) d.some d.digits past

pub is_entry : (n : ℕ) (ws : Line) → n < 10 ^ 18 → is_left_out (decimal n ∷ ws) ≡ false
is_entry n ws small =
    let open_close : is_word (codes "OPEN/CLOSE") (decimal n) ≡ false = no_keyword 79 (drop 1 (codes "OPEN/CLOSE")) n small (omega arith) in
    let external : is_word (codes "EXTERNAL") (decimal n) ≡ false = no_keyword 69 (drop 1 (codes "EXTERNAL")) n small (omega arith) in
    let factor : is_word (codes "SFAC") (decimal n) ≡ false = no_keyword 83 (drop 1 (codes "SFAC")) n small (omega arith) in
    rw (open_close, external, factor) refl

module _ (g : Grid) (h : HasSize g) (file : List ℕ) (line : ℕ) (cell : CellId) (low : cell.0 < cell_count g) where
  pub cell_reads : cell_at file line g (pos (layer_of g cell.0 + 1)) (pos (row_of g cell.0 + 1)) (pos (column_of g cell.0 + 1)) ≡ Ok cell
  unfolding cell_at
  cell_reads =
      let k = is_within (layer_of g cell.0 + 1) g.layers (omega arith) (omega (arith, layer_below g h cell.0 low)) in
      let i = is_within (row_of g cell.0 + 1) g.rows (omega arith) (omega (arith, row_below g h cell.0 low)) in
      let j = is_within (column_of g cell.0 + 1) g.cols (omega arith) (omega (arith, column_below g h cell.0 low)) in
      let k0 : layer_of g cell.0 + 1 - 1 ≡ layer_of g cell.0 = omega arith in
      let i0 : row_of g cell.0 + 1 - 1 ≡ row_of g cell.0 = omega arith in
      let j0 : column_of g cell.0 + 1 - 1 ≡ column_of g cell.0 = omega arith in
      rw (k, i, j, k0, i0, j0, place_gives g h cell.0 low) refl
