-- Ends in their places.
use Rattle.batch_book.proofs.Common.{◌≡◌, ℕ, zero, suc, ◌+◌, ◌-◌, ◌<◌, List, [], ◌∷◌, ◌++◌, length, refl, sym, ap, ◌∙◌, subst, get_or, false, true≢false, inl, inr, arith, IfSome, is_none, slice_get}
use Rattle.batch_book.proofs.Common.{end_at, first_of, AreOwn, HasEnd, IsPut, IsMissing, AreJobEnds, those_there, Some}
use Rattle.std.proofs.{lemmas.Bool.cases_eq, lemmas.Bool.cases_lt, lemmas.List.append-nil, lemmas.List.get_or_read}
use Rattle.std.specs.Prelude.{Option, None}

some_of : {E : Type 0} (x : Option E) → is_none x ≡ false → (e : E) × (x ≡ Some e)
some_of None h = absurd (true≢false h)
some_of (Some e) h = (e, refl)

-- one more place has an end
pub has_more : {E : Type 0} (places : List (Option E)) (place : ℕ) (x : Option E) → place < length places → x ≡ get_or places place x → is_none x ≡ false →
    ((k : ℕ) → k < place → HasEnd places k) → (k : ℕ) → k < place + 1 → HasEnd places k
has_more places place x h read test before k l =
    let (e, is) = some_of x test in
    elim (cases_eq k place) [
      | inl same ↦ (e, ap (end_at places) same ∙ (sym (get_or_read places place x h read None) ∙ is))
      | inr ne ↦ before k (omega arith)
    ]

pub none_left : {E : Type 0} (ends : List E) (rest : List (Option E)) → length rest ≡ 0 → ends ++ those_there rest ≡ ends
none_left ends [] h = append-nil ends
none_left ends (x ∷ rest) h = absurd (omega arith)

module _ {E : Type 0} where
  abbrev AllThere : List (Option E) → Type 0
  AllThere places = (job : ℕ) → job < length places → HasEnd places job

  not_there : (e : E) → None ≡ Some e → ⊥
  not_there e h = absurd cc

  count_ends : (places : List (Option E)) → AllThere places → length (those_there places) ≡ length places
  count_ends [] all = refl
  count_ends (None ∷ xs) all = let (e, is) = all 0 (omega arith) in absurd (not_there e is)
  count_ends (Some x ∷ xs) all = let e = count_ends xs (λ k l. all (suc k) (omega arith)) in omega arith

  same_end : (places : List (Option E)) → AllThere places → (job : ℕ) (e : E) → slice_get (those_there places) job ≡ Some e → end_at places job ≡ Some e
  same_end [] all job e h = h
  same_end (None ∷ xs) all job e h = let (x, is) = all 0 (omega arith) in absurd (not_there x is)
  same_end (Some x ∷ xs) all zero e h = h
  same_end (Some x ∷ xs) all (suc job) e h = same_end xs (λ k l. all (suc k) (omega arith)) job e h

  -- where each job has an end, the ends in order are those of the jobs
  pub are_ends : (IsEnd : ℕ → E → Type 0) (count : ℕ) (places : List (Option E)) → length places ≡ count → AreOwn IsEnd places →
      ((job : ℕ) → job < count → HasEnd places job) → AreJobEnds IsEnd count (those_there places)
  are_ends IsEnd count places whole own all =
      let there : AllThere places = λ job h. all job (omega arith) in record {
        whole = count_ends places there ∙ whole;
        each = λ job e h. let P : Option E → Type 0 = λ o. IfSome o (IsEnd job) in subst P (same_end places there job e h) (own job);
      }

-- the number of jobs from the least one without an end on
abbrev pub to_go : ℕ → Option ℕ → ℕ
to_go count None = 0
to_go count (Some job) = count - job

module _ {E : Type 0} (old new : List (Option E)) (count job : ℕ) (e : E) where
  later : (k : ℕ) → end_at old job ≡ None → ((i : ℕ) → i < job → HasEnd old i) → IsPut old job e new → end_at new k ≡ None → job < k
  later k here before put none =
      elim (cases_eq k job) [
        | inl same ↦ absurd (not_there e (sym none ∙ (ap (end_at new) same ∙ (put.here ∙ ap (λ o. first_of o (Some e)) here))))
        | inr ne ↦ elim (cases_lt k job) [
          | inl below ↦ let (x, is) = before k below in absurd (not_there x (sym none ∙ (put.others k ne ∙ is)))
          | inr above ↦ omega arith
        ]
      ]

  -- once it has an end, fewer are left
  pub goes_down : (next : Option ℕ) → IsMissing old count (Some job) → IsPut old job e new → IsMissing new count next → to_go count next < to_go count (Some job)
  goes_down None (within, here, before) put all = omega arith
  goes_down (Some k) (within, here, before) put (inside, none, more) = let l = later k here before put none in omega arith
