-- The value of a free list's last word, and of its repeats.
use Rattle.array_reader.proofs.Common.{◌≡◌, ℕ, ◌-◌, List, Result, Ok, Err, refl, ap, NumFault, Left, ◌>>=◌, Taking, source, word_taken, next_value, FreeFault, at_line, in_file, value_at, value_alone}
use Rattle.outside.specs.declared.inputs.Refusal.{Refusal}

abbrev got : {X E : Type 0} → X → Result X E → X
got x (Ok y) = y
got x (Err e) = x

-- a value with its line, and what is left
abbrev with_line : {X : Type 0} → ℕ → (Taking × Left) → Result X Refusal → Result ((X × ℕ) × (Taking × Left)) Refusal
with_line line s r = r >>= λ x. Ok ((x, line), s)

-- the value of the word that was taken
abbrev with_value : {X : Type 0} → (List ℕ → Result X NumFault) → List ℕ → Result ((List ℕ × ℕ) × (Taking × Left)) Refusal → Result ((X × ℕ) × (Taking × Left)) Refusal
with_value read file r = r >>= λ v. with_line v.0.1 v.1 (at_line file v.0.1 (read v.0.0))

-- the value read is that of the word which the list then stands on
pub value_word : {X : Type 0} (read : List ℕ → Result X NumFault) (file : List ℕ) (s after : Taking × Left) (x : X) (line : ℕ) → value_at read file s ≡ Ok ((x, line), after) → read after.0.word ≡ Ok x
unfolding value_at next_value
value_word {X = X} read file s after x line e = by_source (source s.0 s.1) e
  where
    by_word : (t : Taking) (left : Left) (y : Result X NumFault) → read t.word ≡ y → with_line t.number (t, left) (at_line file t.number y) ≡ Ok ((x, line), after) → read after.0.word ≡ Ok x
    by_word t left (Ok y) h e =
        let both : ((y, t.number), (t, left)) ≡ ((x, line), after) = ap (got ((x, line), after)) e in
        let word : t.word ≡ after.0.word = ap (λ p. p.1.0.word) both in
        let value : y ≡ x = ap (λ p. p.0.0) both in
        rw (← word, h, value) refl
    by_word t left (Err fault) h e = cc

    by_source : (r : Result (Taking × Left) FreeFault) → with_value read file (in_file file (word_taken r)) ≡ Ok ((x, line), after) → read after.0.word ≡ Ok x
    by_source (Ok (t, left)) e = by_word (record t { repeat = t.repeat - 1 }) left (read t.word) refl e
    by_source (Err fault) e = cc

-- a repeat has the same value
pub value_again : {X : Type 0} (read : List ℕ → Result X NumFault) (file : List ℕ) (t after : Taking) (left : Left) (x : X) → next_value t left ≡
    Ok ((t.word, t.number), (after, left)) → read t.word ≡ Ok x
    → value_alone read file (t, left) ≡ Ok (x, (after, left))
unfolding value_at value_alone
value_again read file t after left x e h = rw (e, h) refl
