-- The heads of links are loaded one by one.
use Rattle.relax_worker.proofs.Common.{◌≡◌, ℕ, zero, suc, ◌+◌, ◌<◌, List, [], ◌∷◌, length, take, slice_set, ℤ, refl, sym, ◌∙◌, arith, ints, clamps, Link, Entries, link_at, ends_in, read_more}
use Rattle.relax_worker.proofs.Common.{HeadSeat, Side, Low, High, AreNoLooser, IsAsTight, other, seen_on, seen_of, SameOn, SameOnBut, tighter_of, moves_no_looser}

-- heads that are equal at the first ends are so in their list
ends_same : (h k : ℕ → ℤ) (links : List Link) (i : ℕ) → ((j : ℕ) → j < i → j < length links → k (link_at links j).cell ≡ h (link_at links j).cell) → ends_in k (take i links) ≡ ends_in h (take i links)
ends_same h k links zero each = refl
ends_same h k [] (suc i) each = refl
ends_same h k (x ∷ xs) (suc i) each = rw (each zero (omega arith) (omega arith), ends_same h k xs i (λ j a b. each (suc j) (omega arith) (omega arith))) refl

-- one more head is loaded, and what was seen of the others stays
pub load_more : (values : List ℤ) (links : List Link) (h k : ℕ → ℤ) (i : ℕ) (z : ℤ) → i < length values → i < length links →
    ((a b : ℕ) → a < b → b < length links → (link_at links a).cell ≡ (link_at links b).cell → ⊥)
    → ((d : ℕ) → (d ≡ (link_at links i).cell → ⊥) → k d ≡ h d) → take i values ≡ ends_in h (take i links) → z ≡ k (link_at links i).cell →
    take (i + 1) (slice_set values i z) ≡ ends_in k (take (i + 1) links)
load_more values links h k i z room here apart else before is =
    read_more values links k i z room here (before ∙ sym (ends_same h k links i (λ j a b. else (link_at links j).cell (apart j i a here)))) is

-- an exchange for the tighter of the word found and the relaxed head loosens nothing
pub tighter_no_looser : (side : Side) (cells : List Entries) (a b : HeadSeat) (c : ℕ) (found to : ℤ) → IsAsTight side (seen_on side a c) found →
    seen_on side b c ≡ tighter_of side found to → SameOnBut side c a b → SameOn (other side) a b → AreNoLooser cells (seen_of a) (seen_of b)
tighter_no_looser side cells a b c found to before is others opposite = moves_no_looser side cells a b c (tighter_of side found to) is (tight side (seen_on side a c) before) others opposite
  where
    tight : (s : Side) (x : ℤ) → IsAsTight s x found → IsAsTight s x (tighter_of s found to)
    tight Low x h = omega (arith, ints, clamps, h)
    tight High x h = omega (arith, ints, clamps, h)
