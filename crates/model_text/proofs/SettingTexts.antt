-- LPF items 1 to 6 are read as written.
use Rattle.model_text.proofs.Common.{◌≡◌, ℕ, zero, suc, ◌+◌, ◌≤◌, Bool, true, false, List, [], ◌∷◌, length, replicate, All, Ok, refl, ap, arith, pos, codes, list_any, length-replicate, All-nil}
use Rattle.model_text.proofs.Common.{All-cons, All-append, All-replicate, Dec, Left, next_number, each_number, beginning, is_word, number, integer, canonical, significant, zeros, value_at, free_list}
use Rattle.model_text.proofs.Common.{zero_at, zero_step, zero_list, FlowModel, IsWord, Line, IsLine, left_of_lines, number_after, row_line, Takes, word_by_test, line_by_test, IsWrittenAs, on_line}
use Rattle.model_text.proofs.Common.{value_reads, line_begins, free_list_reads, free_lists, storage_option, lpf_item_1, lpf_zeros, lpf_item_4, lpf_item_5, IsDiscretized, HasFlow, settings_of}
use Rattle.model_text.proofs.Common.{one_line, takes_none, then_takes, last_takes, line_takes}
use Rattle.lpf_package.specs.{option_line}
use Rattle.model_text.proofs.FrameTexts.{zero_item, zero_number_item}

zero_word : IsWord (codes "0")
zero_word = word_by_test (codes "0") refl

zero_reads : integer (codes "0") ≡ Ok (pos 0)
unfolding integer
zero_reads = refl

step_reads : (file : List ℕ) (i n : ℕ) (last : List ℕ) (ws : Line) (left : Left) → zero_step file i (on_line n last (codes "0" ∷ ws), left) ≡ Ok (on_line n (codes "0") ws, left)
unfolding zero_step zero_at
step_reads file i n last ws left = rw (value_reads integer file n last (codes "0") ws left (pos 0) zero_word zero_reads) refl

steps_read : (file : List ℕ) (count i n : ℕ) (left : Left) → each_number (zero_step file) i count (on_line n (codes "0") (replicate count (codes "0")), left) ≡ Ok (on_line n (codes "0") [], left)
unfolding each_number
steps_read file zero i n left = refl
steps_read file (suc count) i n left = rw (step_reads file i n (codes "0") (replicate count (codes "0")) left, steps_read file count (i + 1) n left) refl

step_begins : (file : List ℕ) (i n : ℕ) (line : Line) (others : List Line) → All (λ w. IsWord w) line
    → zero_step file i (beginning, left_of_lines n (line ∷ others)) ≡ zero_step file i (on_line n [] line, left_of_lines (next_number n) others)
unfolding zero_step zero_at value_at
step_begins file i n line others h = rw (line_begins n line others h) refl

steps_begin : (file : List ℕ) (count n : ℕ) (others : List Line)
    → each_number (zero_step file) 0 (suc count) (beginning, left_of_lines n (replicate (suc count) (codes "0") ∷ others)) ≡ Ok (on_line n (codes "0") [], left_of_lines (next_number n) others)
unfolding each_number
steps_begin file count n others =
    let words = All-replicate (λ w. IsWord w) (suc count) (codes "0") zero_word in
    rw (
      step_begins file 0 n (replicate (suc count) (codes "0")) others words,
      step_reads file 0 n [] (replicate count (codes "0")) (left_of_lines (next_number n) others),
      steps_read file count (0 + 1) n (left_of_lines (next_number n) others),
    ) refl

zeros_by : (file : List ℕ) (count : ℕ) → 1 ≤ count → Takes (zero_list file count) (replicate count (codes "0") ∷ []) (λ left. (tt, left))
unfolding zero_list number_after
zeros_by file zero some = absurd (omega arith)
zeros_by file (suc count) some =
    let line : IsLine (replicate (suc count) (codes "0")) = record { some = omega arith; words = All-replicate (λ w. IsWord w) (suc count) (codes "0") zero_word } in
    record { are = one_line line; reads = λ n others. rw (steps_begin file count n others) refl }

-- the anisotropy that says that HANI follows
abbrev pub minus_one : Dec
minus_one = record { neg = true; digits = 1; exp = pos 0 }

abbrev minus_one_word : Dec → List ℕ
minus_one_word d = codes "-1"

minus_one_reads : number (codes "-1") ≡ Ok minus_one
unfolding number canonical significant zeros
minus_one_reads = refl

minus_one_row : (count : ℕ) → row_line minus_one_word (replicate count minus_one) ≡ replicate count (codes "-1")
unfolding row_line
minus_one_row zero = refl
minus_one_row (suc count) = ap (λ (ws : Line). codes "-1" ∷ ws) (minus_one_row count)

minus_one_written : IsWrittenAs number minus_one_word minus_one
minus_one_written = record { is_word = word_by_test (codes "-1") refl; reads = minus_one_reads }

module _ (file : List ℕ) (m : FlowModel) (d : IsDiscretized m) (f : HasFlow m) where
  zeros_take : Takes (zero_list file m.grid.layers) (lpf_zeros m ∷ []) (λ left. (tt, left))
  unfolding lpf_zeros
  zeros_take = zeros_by file m.grid.layers d.grid.size.layers.0

  chani_takes : Takes (free_list number file m.grid.layers) (lpf_item_4 m ∷ []) (λ left. (replicate m.grid.layers minus_one, left))
  unfolding lpf_item_4
  chani_takes =
      let xs = replicate m.grid.layers minus_one in
      let count : length xs ≡ m.grid.layers = length-replicate m.grid.layers minus_one in
      let some : 1 ≤ m.grid.layers = d.grid.size.layers.0 in
      let read = free_list_reads number minus_one_word file xs (omega arith) (All-replicate (λ x. IsWrittenAs number minus_one_word x) m.grid.layers minus_one minus_one_written) in
      rw (count, minus_one_row m.grid.layers) at read

  layvka_takes : Takes (free_list integer file m.grid.layers) (lpf_item_5 m ∷ []) (λ left. (m.layvka, left))
  unfolding lpf_item_5
  layvka_takes =
      let some : 1 ≤ length m.layvka = omega (arith, f.layvka.0, d.grid.size.layers.0) in
      rw f.layvka.0 at (free_lists.integers file m.layvka some f.layvka.1)

  -- items 2 to 6
  pub settings_take : Takes (settings_of file m.grid.layers) (lpf_zeros m ∷ lpf_zeros m ∷ lpf_item_4 m ∷ lpf_item_5 m ∷ lpf_zeros m ∷ []) (λ left.
      (record { chani = replicate m.grid.layers minus_one; layvka = m.layvka }, left))
  unfolding settings_of
  settings_take = then_takes _ zeros_take (then_takes _ zeros_take (then_takes _ chani_takes (then_takes _ layvka_takes (last_takes _ zeros_take (λ left. refl)))))

option_by : (b : Bool) → list_any (is_word (codes "STORAGECOEFFICIENT")) (storage_option b) ≡ b
option_by true = refl
option_by false = refl

option_is_words : (b : Bool) → All (λ w. IsWord w) (storage_option b)
option_is_words true = All-cons (λ w. IsWord w) (codes "STORAGECOEFFICIENT") [] (word_by_test (codes "STORAGECOEFFICIENT") refl) (All-nil (λ w. IsWord w))
option_is_words false = All-nil (λ w. IsWord w)

option_is_line : (m : FlowModel) → IsLine (lpf_item_1 m)
unfolding lpf_item_1
option_is_line m =
    let front = (line_by_test (codes "0" ∷ codes "0" ∷ codes "0" ∷ []) refl).words in
    record { some = omega arith; words = All-append (λ w. IsWord w) (codes "0" ∷ codes "0" ∷ codes "0" ∷ []) (storage_option m.coefficient) front (option_is_words m.coefficient) }

-- item 1
pub option_takes : (file : List ℕ) (m : FlowModel) → Takes (option_line file) (lpf_item_1 m ∷ []) (λ left. (m.coefficient, left))
unfolding option_line lpf_item_1
option_takes file m =
    let o = storage_option m.coefficient in
    line_takes _ file (option_is_line m) (λ n e. rw (e, zero_item file n (codes "0" ∷ codes "0" ∷ o), zero_number_item file n (codes "0" ∷ o), zero_item file n o, option_by m.coefficient) takes_none)
