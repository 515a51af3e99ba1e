-- Flags, arrays of one layer, and arrays of layers are read as written.
use Rattle.model_text.proofs.Common.{◌≡◌, ℕ, zero, suc, ◌+◌, ◌^◌, ◌<◌, ◌≤◌, Bool, true, false, ◌&&◌, nat_lt, nat_le, if◌then◌else◌, List, [], ◌∷◌, length, drop, All, Ok, refl, arith, ℤ, pos, negsuc}
use Rattle.model_text.proofs.Common.{codes, FileSet, is_comment, each_number, is_word, Grid, HasSize, is_int, layer_size, int_at, array_or, flag_at, flag_if, is_option, option_at, CoversLayer}
use Rattle.model_text.proofs.Common.{is_layer, layer_step, layers_tested, layers_at, IsShort, integer_word, Line, IsLine, integer_array, Takes, integer_is_word, word_by_test, IsLayers, number_at}
use Rattle.model_text.proofs.Common.{integer, arrays_read_back, digits_spell, takes_none, takes_where, last_takes, and_parts, leb-true}
use Rattle.model_text.proofs.{FrameTexts.integer_item, FrameTexts.no_keyword, DisTexts.decimal_is_item}

one_item : (file : List ℕ) (line : ℕ) (ws : Line) → number_at integer file line (codes "1" ∷ ws) ≡ Ok (pos 1, ws)
unfolding number_at integer
one_item file line ws = refl

-- an array is read anew
pub flag_reads : (file : List ℕ) (line : ℕ) (listed : Bool) (ws : Line) → flag_at file line listed (codes "1" ∷ ws) ≡ Ok (true, ws)
unfolding flag_at
flag_reads file line listed ws = rw (one_item file line ws) refl

pub option_reads : (file : List ℕ) (line : ℕ) (z : ℤ) (ws : Line) → IsShort z → is_option z ≡ true → option_at file line (integer_word z ∷ ws) ≡ Ok (z, ws)
unfolding option_at
option_reads file line z ws short good = rw (integer_item file line z short, good) refl

is_few : (n : ℕ) → (nat_lt 0 n && nat_le n 3) ≡ true → n ≤ 3
is_few n h = leb-true n 3 (and_parts (nat_lt 0 n) (nat_le n 3) h).1

pub option_is_short : (z : ℤ) → is_option z ≡ true → IsShort z
option_is_short (pos n) h = let few : n ≤ 3 = is_few n h in record { few = omega arith }
option_is_short (negsuc n) h = absurd (cc)

-- NRCHOP or NEVTOP is no comment and no keyword
pub option_is_item : (z : ℤ) → is_option z ≡ true → (1 ≤ length (integer_word z)) × (is_comment (integer_word z) ≡ false) × (is_word (codes "PARAMETER") (integer_word z) ≡ false)
unfolding integer_word
option_is_item (pos n) h =
    let few : n ≤ 3 = is_few n h in
    let small : n < 10 ^ 18 = omega arith in
    ((digits_spell n small).some, decimal_is_item n small, no_keyword 80 (drop 1 (codes "PARAMETER")) n small (omega arith))
option_is_item (negsuc n) h = absurd (cc)

pub option_is_line : (z : ℤ) → is_option z ≡ true → IsLine (integer_word z ∷ codes "0" ∷ [])
option_is_line z h = grind (arith, integer_is_word, option_is_short, word_by_test)

abbrev pub layers_lines : Grid → ℤ → List ℤ → List Line
layers_lines g option xs = if is_int option 2 then integer_array g.rows g.cols xs else []

-- a flag that the file has only where it has the array
pub flag_if_reads : (file : List ℕ) (line : ℕ) (present listed : Bool) → flag_if present file line listed (codes "1" ∷ []) ≡ Ok (present, if present then [] else codes "1" ∷ [])
flag_if_reads file line true listed = flag_reads file line listed []
flag_if_reads file line false listed = refl

module _ (files : FileSet) (file : List ℕ) (g : Grid) (size : HasSize g) where
  tests_pass : (xs : List ℤ) → ((i : ℕ) → i < layer_size g → is_layer g (int_at xs i) ≡ true) → (count i : ℕ) → i + count ≡ layer_size g → each_number (layer_step file g xs) i count tt ≡ Ok tt
  unfolding each_number
  tests_pass xs h zero i e = refl
  tests_pass xs h (suc count) i e =
      let low : i < layer_size g = omega arith in
      let good : is_layer g (int_at xs i) ≡ true = h i low in
      let more : (i + 1) + count ≡ layer_size g = omega arith in
      rw good (tests_pass xs h count (i + 1) more)

  layers_pass : (xs : List ℤ) → ((i : ℕ) → i < layer_size g → is_layer g (int_at xs i) ≡ true) → layers_tested file g xs ≡ Ok tt
  unfolding layers_tested
  layers_pass xs h = tests_pass xs h (layer_size g) 0 (omega arith)

  layers_anew : (xs : List ℤ) → CoversLayer g xs → All (λ z. IsShort z) xs → ((i : ℕ) → i < layer_size g → is_layer g (int_at xs i) ≡ true)
      → Takes (layers_at files file g) (integer_array g.rows g.cols xs) (λ left. (xs, left))
  unfolding layers_at
  layers_anew xs whole short good =
      last_takes _ (arrays_read_back.integer_layers files file g.rows g.cols xs size.cols.0 whole short)
      (λ left. rw (layers_pass xs good) refl)

  -- an array of layers, which a period has under option 2
  pub layers_take : (option : ℤ) (xs : List ℤ) → IsLayers g option xs → (last : List ℤ) → (is_int option 2 ≡ false → last ≡ [])
      → Takes (array_or (layers_at files file g) (is_int option 2) last) (layers_lines g option xs) (λ left. (xs, left))
  layers_take option xs h last none = takes_where (is_int option 2) (λ e. layers_anew xs (h.whole e) h.short (h.layers e)) (λ e. rw (none e, h.none e) takes_none)
