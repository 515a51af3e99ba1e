-- A line has its words, and a text its lines.
use Rattle.array_text.proofs.Common.{◌≡◌, ℕ, ◌≤◌, ◌==◌, true, false, List, [], ◌∷◌, ◌++◌, length, nat_lt, All, Ok, refl, ap, ◌∙◌, arith, zero, suc, ◌+◌, ◌<◌, Bool, if◌then◌else◌, Result, append_assoc}
use Rattle.array_text.proofs.Common.{join_with_byte, range_with_len, All-nil, All-cons, All-append, All-weaker, All-head, All-tail, nat_tests, is_separator, words, lines, has_word, left_from}
use Rattle.array_text.proofs.Common.{next_number, line_at, Left, ◌>>=◌, Numbered, IsWordByte, IsWord, Line, IsLine, line_text, text, numbered_lines, number_after, left_of_lines, Takes, flat_map}
use Rattle.array_text.proofs.Common.{Refusal, LinesReadAsWritten, append-nil}
use Rattle.std.proofs.lemmas.List.Splits.{slice_split_none, slice_split_at}
use Rattle.record_lines.proofs.LeftLemmas.{left_word, left_nothing}
use Rattle.array_text.proofs.WordTexts.{no_separator, no_feed}
unfoldable use Rattle.record_lines.specs.{each_number}

is_some : (w : List ℕ) → IsWord w → nat_lt 0 (length w) ≡ true
is_some w h = let some : 1 ≤ length w = h.some in grind (arith, nat_tests)

no_separators : (w : List ℕ) → IsWord w → All (λ b. is_separator b ≡ false) w
no_separators w h = All-weaker (λ b. IsWordByte b) (λ b. is_separator b ≡ false) no_separator w h.bytes

no_feeds : (w : List ℕ) → IsWord w → All (λ b. (b == 10) ≡ false) w
no_feeds w h = All-weaker (λ b. IsWordByte b) (λ b. (b == 10) ≡ false) no_feed w h.bytes

abbrev AreWords : Line → Type 0
AreWords line = All (λ w. IsWord w) line

first : (w : List ℕ) (others : Line) → AreWords (w ∷ others) → IsWord w
first w others h = All-head (λ x. IsWord x) w others h

rest : (w : List ℕ) (others : Line) → AreWords (w ∷ others) → AreWords others
rest w others h = All-tail (λ x. IsWord x) w others h

pub line_words : (line : Line) → AreWords line → words (line_text line) ≡ line
unfolding line_text words
line_words [] h = refl
line_words (w ∷ []) h =
    let one : IsWord w = first w [] h in
    rw (slice_split_none is_separator w (no_separators w one), is_some w one) refl
line_words (w ∷ v ∷ others) h =
    let one : IsWord w = first w (v ∷ others) h in
    rw (slice_split_at is_separator w 32 (join_with_byte 32 (v ∷ others)) (no_separators w one) refl, is_some w one)
    (ap (λ (x : Line). w ∷ x) (line_words (v ∷ others) (rest w (v ∷ others) h)))

text_no_feeds : (line : Line) → AreWords line → All (λ b. (b == 10) ≡ false) (line_text line)
unfolding line_text
text_no_feeds [] h = All-nil (λ b. (b == 10) ≡ false)
text_no_feeds (w ∷ []) h = no_feeds w (first w [] h)
text_no_feeds (w ∷ v ∷ others) h =
    All-append (λ b. (b == 10) ≡ false) w (32 ∷ join_with_byte 32 (v ∷ others)) (no_feeds w (first w (v ∷ others) h))
    (All-cons (λ b. (b == 10) ≡ false) 32 (join_with_byte 32 (v ∷ others)) refl (text_no_feeds (v ∷ others) (rest w (v ∷ others) h)))

word_begins : (w more : List ℕ) → IsWord w → has_word (w ++ more) ≡ true
unfolding has_word
word_begins [] more h = absurd (let some : 1 ≤ 0 = h.some in omega arith)
word_begins (b ∷ bs) more h = rw (no_separator b (All-head (λ x. IsWordByte x) b bs h.bytes)) refl

line_has_word : (line : Line) → 1 ≤ length line → AreWords line → has_word (line_text line) ≡ true
unfolding line_text
line_has_word [] some h = absurd (omega arith)
line_has_word (w ∷ []) some h = rw append-nil at (word_begins w [] (first w [] h))
line_has_word (w ∷ v ∷ others) some h = word_begins w (32 ∷ join_with_byte 32 (v ∷ others)) (first w (v ∷ others) h)

line_cut : (a after : List ℕ) → All (λ b. (b == 10) ≡ false) a → lines (a ++ (10 ∷ after)) ≡ a ∷ lines after
unfolding lines
line_cut [] after h = refl
line_cut (b ∷ a) after h =
    rw (All-head (λ x. (x == 10) ≡ false) b a h, line_cut a after (All-tail (λ x. (x == 10) ≡ false) b a h)) refl

pub text_left : (n : ℕ) (ls : List Line) → All (λ line. IsLine line) ls → left_from n (text ls) ≡ left_of_lines n ls
unfolding text left_of_lines numbered_lines number_after
text_left n [] h = left_nothing n [] refl
text_left n (line ∷ others) h =
    let one : IsLine line = All-head (λ x. IsLine x) line others h in
    let cut = line_cut (line_text line) (text others) (text_no_feeds line one.words) in
    let step = left_word n (line_text line ++ (10 ∷ text others)) (line_text line) (text others) cut (line_has_word line one.some one.words) in
    step ∙ rw (text_left (next_number n) others (All-tail (λ x. IsLine x) line others h)) refl

pub lines_read : LinesReadAsWritten
lines_read = record { words = λ line h. line_words line h.words; texts = text_left }

-- the next line of a text is read
pub next_line : (file : List ℕ) (n : ℕ) (line : Line) (others : List Line) → line_at file (left_of_lines n (line ∷ others)) ≡
    Ok (record { number = n; bytes = line_text line }, left_of_lines (next_number n) others)
unfolding line_at left_of_lines numbered_lines number_after
next_line file n line others = refl

-- A reading takes lines: from what its parts take.
pub number_after-append : (n : ℕ) (front back : List Line) → number_after n (front ++ back) ≡ number_after (number_after n front) back
unfolding number_after
number_after-append n [] back = refl
number_after-append n (line ∷ front) back = number_after-append (next_number n) front back

pub one_line : {line : Line} → IsLine line → All (λ x. IsLine x) (line ∷ [])
one_line {line = line} h = All-cons (λ x. IsLine x) line [] h (All-nil (λ x. IsLine x))

module _ {Z : Type 0} {out : Left → Z} where
  pub takes_none : Takes (λ left. Ok (out left)) [] out
  unfolding number_after
  takes_none = record { are = All-nil (λ line. IsLine line); reads = λ n rest. refl }

  -- one reading after another one
  pub then_takes : {Y : Type 0} {read : Left → Result Y Refusal} {front back : List Line} {mid : Left → Y} (f : Y → Result Z Refusal) → Takes read front mid → Takes (λ left. f (mid left)) back out
      → Takes (λ left. read left >>= f) (front ++ back) out
  then_takes {front = front} {back = back} f g h = record {
    are = All-append (λ line. IsLine line) front back g.are h.are;
    reads = λ n rest. rw (append_assoc front back rest, g.reads n (back ++ rest), number_after-append n front back) (h.reads (number_after n front) rest);
  }

  -- the last reading
  pub last_takes : {Y : Type 0} {read : Left → Result Y Refusal} {lines : List Line} {mid : Left → Y} (f : Y → Result Z Refusal) → Takes read lines mid → ((left : Left) → f (mid left) ≡ Ok (out left))
      → Takes (λ left. read left >>= f) lines out
  last_takes {lines = lines} f g h = record { are = g.are; reads = λ n rest. rw (g.reads n rest) (h (left_of_lines (number_after n lines) rest)) }

-- the same lines and readings, where the file has them
pub takes_where : {Z : Type 0} {read other : Left → Result Z Refusal} {lines : List Line} {out : Left → Z} (b : Bool) → (b ≡ true → Takes read lines out) → (b ≡ false → Takes other [] out)
    → Takes (λ left. if b then read left else other left) (if b then lines else []) out
takes_where true there none = there refl
takes_where false there none = none refl

-- a line, and what follows it
pub line_takes : {Z : Type 0} {line : Line} {back : List Line} {out : Left → Z} (f : Numbered × Left → Result Z Refusal) (file : List ℕ) → IsLine line
    → ((n : ℕ) → words (line_text line) ≡ line → Takes (λ left. f (record { number = n; bytes = line_text line }, left)) back out) → Takes (λ left. line_at file left >>= f) (line ∷ back) out
unfolding number_after
line_takes {line = line} {back = back} f file h k = record {
  are = All-cons (λ x. IsLine x) line back h (k 0 (line_words line h.words)).are;
  reads = λ n rest. rw (next_line file n line (back ++ rest)) ((k n (line_words line h.words)).reads (next_number n) rest);
}

-- Steps that each take the lines of their number take all of these lines.
module _ {S : Type 0} (step : ℕ → S → Result S Refusal) (lines : ℕ → List Line) (state : ℕ → Left → S) (total : ℕ)
    (each : (k : ℕ) → k < total → Takes (λ left. step k (state k left)) (lines k) (state (k + 1))) where
  steps_take : (count k : ℕ) → k + count ≡ total → Takes (λ left. each_number step k count (state k left)) (flat_map lines (range_with_len k count)) (state total)
  unfolding each_number
  steps_take zero k e = let same : k ≡ total = omega arith in rw same takes_none
  steps_take (suc count) k e = then_takes _ (each k (omega arith)) (steps_take count (k + 1) (omega arith))

  pub counted_take : Takes (λ left. each_number step 0 total (state 0 left)) (flat_map lines (range_with_len 0 total)) (state total)
  counted_take = steps_take total 0 (omega arith)
