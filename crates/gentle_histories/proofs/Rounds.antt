-- Rounds over whole vectors below a top: while some cell calls for more, it is raised by one. They end, since the room below the top shrinks.
use Rattle.gentle_histories.proofs.Common.{◌≡◌, ℕ, zero, suc, ◌+◌, ◌<◌, ◌≤◌, ◌⊎◌, inl, inr, ℤ, pos, ◌+ℤ◌, ◌-ℤ◌, ◌≤ℤ◌, ◌<ℤ◌, List, [], ◌∷◌, All, sym, subst, arith, cond, cases_eq, eq-eqb, ne_eqb, ints}
use Rattle.gentle_histories.proofs.Common.{All-cons, All-nil, nat_eq, unsigned_abs, In}

-- the vector X with the head of cell c raised by one
abbrev pub raised : (ℕ → ℤ) → ℕ → ℕ → ℤ
raised X c k = cond (nat_eq k c) (X k +ℤ pos 1) (X k)

pub raised_at : (X : ℕ → ℤ) (c : ℕ) → raised X c c ≡ X c +ℤ pos 1
raised_at X c = rw (eq-eqb c c (λ i. c)) (λ i. X c +ℤ pos 1)

pub raised_else : (X : ℕ → ℤ) (c k : ℕ) → (k ≡ c → ⊥) → raised X c k ≡ X k
raised_else X c k other = rw (ne_eqb k c other) (λ i. X k)

-- it lies from X to X and one
pub raised_by : (X : ℕ → ℤ) (c k : ℕ) → (X k ≤ℤ raised X c k) × (raised X c k ≤ℤ (X k +ℤ pos 1))
raised_by X c k = elim (cases_eq k c) [
  | inl is ↦ let e : raised X c k ≡ X k +ℤ pos 1 = subst (λ (j : ℕ). raised X c j ≡ X j +ℤ pos 1) (sym is) (raised_at X c) in (omega (arith, ints, e), omega (arith, ints, e))
  | inr other ↦ let e = raised_else X c k other in (omega (arith, ints, e), omega (arith, ints, e))
]

-- the room of these cells below the top T
abbrev pub room : (ℕ → ℤ) → (ℕ → ℤ) → List ℕ → ℕ
room T X [] = 0
room T X (c ∷ cs) = unsigned_abs (T c -ℤ X c) + room T X cs

module _ (T X Z : ℕ → ℤ) where
  room_falls : (cs : List ℕ) → ((c : ℕ) → In cs c → (X c ≤ℤ Z c) × (Z c ≤ℤ T c)) → room T Z cs ≤ room T X cs
  room_falls [] each = omega arith
  room_falls (c ∷ cs) each =
      let (up, under) = each c (inl (λ i. c)) in
      omega (arith, ints, up, under, room_falls cs (λ k i. each k (inr i)))

  room_shrinks : (cs : List ℕ) (c : ℕ) → In cs c → X c <ℤ Z c → ((c : ℕ) → In cs c → (X c ≤ℤ Z c) × (Z c ≤ℤ T c)) → room T Z cs < room T X cs
  room_shrinks [] c here less each = absurd here
  room_shrinks (k ∷ cs) c (inl is) less each =
      let less' : X k <ℤ Z k = subst (λ (j : ℕ). X j <ℤ Z j) (sym is) less in
      let (up, under) = each k (inl (λ i. k)) in
      omega (arith, ints, less', under, room_falls cs (λ j i. each j (inr i)))
  room_shrinks (k ∷ cs) c (inr there) less each =
      let (up, under) = each k (inl (λ i. k)) in
      omega (arith, ints, up, under, room_shrinks cs c there less (λ j i. each j (inr i)))

-- all are done, or one isn't
pub find : (P Q : ℕ → Type 0) → ((c : ℕ) → P c ⊎ Q c) → (cs : List ℕ) → All P cs ⊎ ((c : ℕ) × In cs c × Q c)
find P Q test [] = inl (All-nil P)
find P Q test (c ∷ cs) = elim (find P Q test cs) [
  | inl rest ↦ elim (test c) [
    | inl done ↦ inl (All-cons P c cs done rest)
    | inr calls ↦ inr (c, inl (λ i. c), calls)
  ]
  | inr (k, i, calls) ↦ inr (k, inr i, calls)
]

-- Good vectors lie below the top. Where a cell calls for more, the vector raised there is good. Then there is a good one at which no cell calls.
module _ (T : ℕ → ℤ) (cs : List ℕ) (Good : (ℕ → ℤ) → Type 0) (Done Calls : (ℕ → ℤ) → ℕ → Type 0) (test : (X : ℕ → ℤ) (c : ℕ) → Done X c ⊎ Calls X c)
    (below : (X : ℕ → ℤ) (c : ℕ) → Good X → In cs c → X c ≤ℤ T c) (raises : (X : ℕ → ℤ) (c : ℕ) → Good X → In cs c → Calls X c → Good (raised X c)) where
  ends : (n : ℕ) (X : ℕ → ℤ) → Good X → room T X cs < n → (Z : ℕ → ℤ) × Good Z × All (Done Z) cs
  ends zero X good k = absurd (omega (arith, k))
  ends (suc n) X good k = elim (find (Done X) (Calls X) (test X) cs) [
    | inl done ↦ (X, good, done)
    | inr (c, i, calls) ↦
        let next = raises X c good i calls in
        let shrinks = room_shrinks T X (raised X c) cs c i (omega (arith, ints, raised_at X c)) (λ k j. ((raised_by X c k).0, below (raised X c) k next j)) in
        ends n (raised X c) next (omega (arith, k, shrinks))
  ]

  pub rounds_end : (X : ℕ → ℤ) → Good X → (Z : ℕ → ℤ) × Good Z × All (Done Z) cs
  rounds_end X good = ends (suc (room T X cs)) X good (omega arith)
