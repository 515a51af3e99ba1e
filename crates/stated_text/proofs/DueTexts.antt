-- What follows a text that is due.
use Rattle.stated_text.proofs.Common.{◌≡◌, ◌<◌, ◌≤◌, ◌+◌, ℕ, Bool, true, false, List, [], ◌∷◌, ◌++◌, Result, Ok, Err, refl, ap, drop, length, subst, after_due, arith, get_or, drop_all, next_of}
use Rattle.stated_text.proofs.Common.{after_byte, first_is, DifferFirst, FirstDifferences, MatchResult, if◌then◌else◌, line_after, ◌==◌, ◌∙◌}
use Rattle.std.proofs.lemmas.Bool.Decides.{nat_tests}

-- the next byte that is due, by its index
pub due_stops : (n : ℕ) (text due : List ℕ) (i : ℕ) → i < length due → first_is (get_or due i 0) text ≡ false → after_due n text (drop i due) ≡ Err n
unfolding after_due
due_stops n text due i low e = rw (next_of due i 0 low, e) refl

pub due_goes : (n : ℕ) (text rest due : List ℕ) (i : ℕ) → i < length due → first_is (get_or due i 0) text ≡ true → rest ≡ drop 1 text
    → after_due (after_byte n (get_or due i 0)) rest (drop (i + 1) due) ≡ after_due n text (drop i due)
unfolding after_due
due_goes n text rest due i low e is = rw (next_of due i 0 low, e, is) refl

pub due_ends : (n : ℕ) (text due : List ℕ) (i : ℕ) → length due ≤ i → after_due n text (drop i due) ≡ Ok (text, n)
unfolding after_due
due_ends n text due i over = rw (drop_all i due over) refl

-- what follows is there after the text that is due
first_byte : (d : ℕ) (text : List ℕ) → first_is d text ≡ true → text ≡ d ∷ drop 1 text
first_byte d [] e = absurd (let clash : false ≡ true = e in cc)
first_byte d (b ∷ text) e = let same : b ≡ d = grind (arith, nat_tests) in rw same refl

pub due_stands : (n : ℕ) (text due rest : List ℕ) (m : ℕ) → after_due n text due ≡ Ok (rest, m) → text ≡ due ++ rest
unfolding after_due
due_stands n text [] rest m h = let same : Path (Result (List ℕ × ℕ) ℕ) (Ok (text, n)) (Ok (rest, m)) = h in let pair : Path (List ℕ × ℕ) (text, n) (rest, m) = cc in ap (λ (p : List ℕ × ℕ). p.0) pair
due_stands n text (d ∷ due) rest m h = by_test (λ more. due_stands (after_byte n d) (drop 1 text) due rest m more) (first_is d text) refl
  where
    by_test : (after_due (after_byte n d) (drop 1 text) due ≡ Ok (rest, m) → drop 1 text ≡ due ++ rest) → (t : Bool) → first_is d text ≡ t → text ≡ d ∷ due ++ rest
    by_test further true e =
        let more : after_due (after_byte n d) (drop 1 text) due ≡ Ok (rest, m) = rw e at h in
        let is : drop 1 text ≡ due ++ rest = further more in
        let first : text ≡ d ∷ drop 1 text = first_byte d text e in
        let S : List ℕ → Type 0 = λ t. text ≡ d ∷ t in subst S is first
    by_test further false e = absurd (let clash : Path (Result (List ℕ × ℕ) ℕ) (Err n) (Ok (rest, m)) = rw e at h in cc)

-- A text compared with the one that is due, up to the first difference.
abbrev Compared : ℕ → List ℕ → List ℕ → Result (List ℕ × ℕ) ℕ → Type 0
Compared n text due r = MatchResult r (λ after. (text ≡ due ++ after.0) × (after.1 ≡ line_after n due)) (DifferFirst n text due)

one_more : (n d : ℕ) (text due : List ℕ) → text ≡ d ∷ drop 1 text → (r : Result (List ℕ × ℕ) ℕ) → Compared (after_byte n d) (drop 1 text) due r → Compared n text (d ∷ due) r
unfolding line_after
one_more n d text due first (Ok after) h = (first ∙ ap (λ (t : List ℕ). d ∷ t) h.0, h.1)
one_more n d text due first (Err k) h = record {
  same = d ∷ h.same;
  byte = h.byte;
  more = h.more;
  others = h.others;
  of_due = ap (λ (t : List ℕ). d ∷ t) h.of_due;
  of_text = first ∙ ap (λ (t : List ℕ). d ∷ t) h.of_text;
  differs = h.differs;
  line = h.line;
}

pub first_differences : FirstDifferences
unfolding after_due line_after
first_differences n text [] = (refl, refl)
first_differences n text (d ∷ due) = by_test (first_differences (after_byte n d) (drop 1 text) due) (first_is d text) refl
  where
    by_test : Compared (after_byte n d) (drop 1 text) due (after_due (after_byte n d) (drop 1 text) due) → (t : Bool) → first_is d text ≡ t →
        Compared n text (d ∷ due) (if t then after_due (after_byte n d) (drop 1 text) due else Err n)
    by_test further true e = one_more n d text due (first_byte d text e) (after_due (after_byte n d) (drop 1 text) due) further
    by_test further false e = record { same = []; byte = d; more = due; others = text; of_due = refl; of_text = refl; differs = e; line = refl }

-- what is due is there
pub due_there : (n : ℕ) (due rest : List ℕ) → after_due n (due ++ rest) due ≡ Ok (rest, line_after n due)
unfolding after_due line_after
due_there n [] rest = refl
due_there n (d ∷ due) rest = let same : (d == d) ≡ true = grind (arith, nat_tests) in rw same (due_there (after_byte n d) due rest)
