-- What the words of a table, and bounds, read on each side after one of them is set.
use Rattle.head_table.proofs.Common.{◌≡◌, ℕ, ◌+◌, ◌*◌, ◌<◌, ◌⊎◌, List, length, set, ap, arith, get_or-set_other, get_or-set_same, ints, clamps, Side, Low, High, IsAsTight, other, tighter_of}
use Rattle.head_table.proofs.Common.{head_of_word, word_of, words_on, tighter_word, tighter_first, tighter_second, tighter_is_one, zero, suc, [], ◌∷◌, ◌++◌, get_or, sym, refl, ◌∙◌, subst}
use Rattle.head_table.proofs.Common.{length-append, some, some-injective, some-ne-none, get_elem?, Bound, no_bound, head_of, heads_on, ℤ, Entries, AreNoLooser, each_side, seen_on, seen_of, SameOn}
use Rattle.head_table.proofs.Common.{SameOnBut}
use mathlib.Core.Logic.{dite}
use native.Mathlib.Decide.{ℕ_discrete}
use Rattle.std.proofs.{lemmas.List.get_or_at, Math.ListN.get_or-append}
use Rattle.head_table.specs.declared.table.HeadSeat.{HeadSeat}

-- each word is of one cell and one side
pub one_cell : (side : Side) (c d : ℕ) → word_of side c ≡ word_of side d → c ≡ d
one_cell Low c d e = omega (arith, e)
one_cell High c d e = omega (arith, e)

apart : (side : Side) (c d : ℕ) → word_of (other side) d ≡ word_of side c → ⊥
apart Low c d e = omega (arith, e)
apart High c d e = omega (arith, e)

-- what holds at a word's side and cell holds at any that have this word
pub at_word : (side t : Side) (c d : ℕ) (P : Side → ℕ → Type 0) → word_of t d ≡ word_of side c → P side c → P t d
at_word Low Low c d P e h = subst (P Low) (one_cell Low c d (sym e)) h
at_word Low High c d P e h = absurd (apart Low c d e)
at_word High Low c d P e h = absurd (apart High c d e)
at_word High High c d P e h = subst (P High) (one_cell High c d (sym e)) h

not_first : (side : Side) (c : ℕ) → word_of side c ≡ 0 → ⊥
not_first Low c e = omega (arith, e)
not_first High c e = omega (arith, e)

pub word_within : (side : Side) (c n : ℕ) → c < n → word_of side c < 2 * n + 1
word_within Low c n h = omega (arith, h)
word_within High c n h = omega (arith, h)

pub word_here : (side : Side) (ws : List ℕ) (c x : ℕ) → word_of side c < length ws → words_on side (set ws (word_of side c) x) c ≡ head_of_word x
word_here side ws c x l = ap head_of_word (get_or-set_same ws (word_of side c) x 0 l)

pub word_else : (side : Side) (ws : List ℕ) (c x d : ℕ) → (d ≡ c → ⊥) → words_on side (set ws (word_of side c) x) d ≡ words_on side ws d
word_else side ws c x d ne = ap head_of_word (get_or-set_other ws (word_of side c) (word_of side d) x 0 (λ e. ne (one_cell side d c e)))

pub other_words : (side : Side) (ws : List ℕ) (c x : ℕ) → words_on (other side) (set ws (word_of side c) x) ≡ words_on (other side) ws
other_words side ws c x = λ i d. ap head_of_word (get_or-set_other ws (word_of side c) (word_of (other side) d) x 0 (λ e. apart side c d e)) i

-- the counter is no cell's word
pub counted_words : (side : Side) (ws : List ℕ) (x : ℕ) → words_on side (set ws 0 x) ≡ words_on side ws
counted_words side ws x = λ i d. ap head_of_word (get_or-set_other ws 0 (word_of side d) x 0 (λ e. not_first side d e)) i

-- the head of the tighter word
pub tighter_is : (side : Side) (x k : ℕ) → head_of_word (tighter_word side x k) ≡ tighter_of side (head_of_word x) (head_of_word k)
tighter_is Low x k = omega (arith, ints, clamps)
tighter_is High x k = omega (arith, ints, clamps)

pub tighter_old : (side : Side) (x k : ℕ) → IsAsTight side (head_of_word x) (head_of_word (tighter_word side x k))
tighter_old side x k = rw (tighter_is side x k) (tighter_first side _ _)

pub tighter_new : (side : Side) (x k : ℕ) → IsAsTight side (head_of_word k) (head_of_word (tighter_word side x k))
tighter_new side x k = rw (tighter_is side x k) (tighter_second side _ _)

pub tighter_one : (side : Side) (x k : ℕ) → (head_of_word (tighter_word side x k) ≡ head_of_word x) ⊎ (head_of_word (tighter_word side x k) ≡ head_of_word k)
tighter_one side x k = rw (tighter_is side x k) (tighter_is_one side _ _)

-- The words of a table, made and read.
pub any_default : {A : Type 0} (xs : List A) (i : ℕ) (d e : A) → i < length xs → get_or xs i d ≡ get_or xs i e
any_default [] i d e h = absurd (omega arith)
any_default (x ∷ xs) zero d e h = refl
any_default (x ∷ xs) (suc i) d e h = any_default xs i d e (omega arith)

-- where a side's word stands among the two of a cell
abbrev pub place_of : Side → ℕ
place_of Low = 0
place_of High = 1

module _ (bs : List Bound) (raw : List ℕ) (i a b : ℕ) (long : length raw ≡ 2 * i + 1) where
  abbrev more : List ℕ
  more = (raw ++ a ∷ []) ++ b ∷ []

  longer : length (raw ++ a ∷ []) ≡ 2 * i + 2
  longer = omega (arith, length-append raw (a ∷ []))

  kept : (k : ℕ) → k < 2 * i + 1 → get_or more k 0 ≡ get_or raw k 0
  kept k h = get_or-append (raw ++ a ∷ []) (b ∷ []) 0 k (omega (arith, longer)) ∙ get_or-append raw (a ∷ []) 0 k (omega arith)

  pub row_more : (side : Side) → head_of_word (get_or (a ∷ b ∷ []) (place_of side) 0) ≡ heads_on side bs i →
      ((c : ℕ) → c < i → words_on side raw c ≡ heads_on side bs c) → (c : ℕ) → c < i + 1 → words_on side more c ≡ heads_on side bs c
  row_more side here old c h = dite (ℕ_discrete c i)
      (λ e. subst (λ (k : ℕ). words_on side more k ≡ heads_on side bs k) (sym e) (ap head_of_word (put side) ∙ here))
      (λ ne. ap head_of_word (kept (word_of side c) (word_within side c i (omega arith))) ∙ old c (omega arith))
    where
      put : (s : Side) → get_or more (word_of s i) 0 ≡ get_or (a ∷ b ∷ []) (place_of s) 0
      put Low = get_or-append (raw ++ a ∷ []) (b ∷ []) 0 (2 * i + 1) (omega (arith, longer)) ∙ get_or_at raw a [] 0 (2 * i + 1) long
      put High = get_or_at (raw ++ a ∷ []) b [] 0 (2 * i + 2) longer

pub at_get : {A : Type 0} (xs : List A) (i : ℕ) (a d : A) → get_elem? xs i ≡ some a → get_or xs i d ≡ a
at_get [] i a d e = absurd (some-ne-none a (sym e))
at_get (x ∷ xs) zero a d e = some-injective x a e
at_get (x ∷ xs) (suc i) a d e = at_get xs i a d e

-- one more bound, read of the words
pub row_next : (side : Side) (ws : List ℕ) (bs : List Bound) (i : ℕ) (x : Bound) → length bs ≡ i → head_of side x ≡ words_on side ws i →
    ((c : ℕ) → c < i → heads_on side bs c ≡ words_on side ws c) → (c : ℕ) → c < i + 1 → heads_on side (bs ++ x ∷ []) c ≡ words_on side ws c
row_next side ws bs i x long here old c h = grind (arith, get_or_at, get_or-append)

-- Seats that loosen nothing.
pub tight_refl : (side : Side) (x : ℤ) → IsAsTight side x x
tight_refl Low x = omega (arith, ints)
tight_refl High x = omega (arith, ints)

tight_trans : (side : Side) (x y z : ℤ) → IsAsTight side x y → IsAsTight side y z → IsAsTight side x z
tight_trans Low x y z p q = omega (arith, ints)
tight_trans High x y z p q = omega (arith, ints)

pub moves_no_looser : (side : Side) (cells : List Entries) (a b : HeadSeat) (c : ℕ) (r : ℤ) → seen_on side b c ≡ r → IsAsTight side (seen_on side a c) r →
    SameOnBut side c a b → SameOn (other side) a b → AreNoLooser cells (seen_of a) (seen_of b)
moves_no_looser side cells a b c r here later others opposite = grind (arith, each_side, tight_refl)

pub same_no_looser : (cells : List Entries) (a b : HeadSeat) → seen_of b ≡ seen_of a → AreNoLooser cells (seen_of a) (seen_of b)
same_no_looser cells a b e side d h = subst (IsAsTight side (seen_on side a d)) (ap (λ (l : List Bound). heads_on side l d) (sym e)) (tight_refl side _)

pub no_looser_trans : (cells : List Entries) (a b c : List Bound) → AreNoLooser cells a b → AreNoLooser cells b c → AreNoLooser cells a c
no_looser_trans cells a b c p q side d h = tight_trans side _ _ _ (p side d h) (q side d h)

-- one more bound was written
pub shows_step : (at : Bound → ℤ) (seen seen' : ℕ → ℤ) (bs : List Bound) (i : ℕ) (x : Bound) → i < length bs → at x ≡ seen' i → ((d : ℕ) → (d ≡ i → ⊥) → seen' d ≡ seen d)
    → ((c : ℕ) → c < i → at (get_or bs c no_bound) ≡ seen c) → (c : ℕ) → c < i + 1 → at (get_or (set bs i x) c no_bound) ≡ seen' c
shows_step at seen seen' bs i x inside here else old c h = grind (arith, set, get_or-set_same, get_or-set_other)

-- one more bound was written, which has what the others have
pub holds_step : (P : ℕ → ℤ → Type 0) (at : Bound → ℤ) (bs : List Bound) (i : ℕ) (x : Bound) → i < length bs → P i (at x)
    → ((c : ℕ) → c < i → P c (at (get_or bs c no_bound))) → (c : ℕ) → c < i + 1 → P c (at (get_or (set bs i x) c no_bound))
holds_step P at bs i x inside here old c h = grind (arith, set, get_or-set_same, get_or-set_other)
