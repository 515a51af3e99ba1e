-- The bounds of the entries of lists, appended cell by cell.
use Rattle.problem_builder.proofs.Common.{◌≡◌, ℕ, ◌+◌, ◌<◌, inl, inr, Bool, true, false, cond, List, [], ◌∷◌, ◌++◌, length, get_or, set, take, refl, sym, ap, ◌∙◌, subst, All, zero, suc, Option, None}
use Rattle.problem_builder.proofs.Common.{map, replicate, arith, ◌==◌, get_or-set_same, get_or-set_other, append-nil, append_assoc, take_more, get_or-map, length-map, map-set, filter-append, cases_eq}
use Rattle.problem_builder.proofs.Common.{eq-eqb, ne_eqb, Entry, cell_of, entries_of, LocalBounds, AreLocalBounds, AreAppended, IsEntryIn, local_in, no_bounds, kept_bounds}
use Rattle.std.specs.Global.{Box}

no_entries : (c : ℕ) → [] ≡ entries_of c []
unfolding entries_of
no_entries c = refl

entries_join : (c : ℕ) (xs ys : List Entry) → entries_of c xs ++ entries_of c ys ≡ entries_of c (xs ++ ys)
unfolding entries_of
entries_join c xs ys = sym (filter-append (λ x. cell_of x == c) xs ys)

one_entry : (c : ℕ) (e : Entry) (b : Bool) → (cell_of e == c) ≡ b → cond b (e ∷ []) [] ≡ entries_of c (e ∷ [])
unfolding entries_of
one_entry c e b is = ap (λ t. cond t (e ∷ []) []) (sym is)

pub appended_none : (s : ℕ) (old : List LocalBounds) → AreAppended s old old []
appended_none s old = λ c es h. subst (AreLocalBounds s c (local_in old c)) (sym (append-nil es) ∙ ap (λ zs. es ++ zs) (no_entries c)) h

pub appended_both : (s : ℕ) (old between new : List LocalBounds) (xs ys : List Entry) → AreAppended s old between xs → AreAppended s between new ys → AreAppended s old new (xs ++ ys)
appended_both s old between new xs ys f g = λ c es h.
    subst (AreLocalBounds s c (local_in new c)) (append_assoc es (entries_of c xs) (entries_of c ys) ∙ ap (λ zs. es ++ zs) (entries_join c xs ys)) (g c (es ++ entries_of c xs) (f c es h))

-- an entry more of a list
pub appended_next : (s : ℕ) (old between new : List LocalBounds) (xs : List Entry) (i : ℕ) (d : Entry) → i < length xs →
    AreAppended s old between (take i xs) → AreAppended s between new (get_or xs i d ∷ []) → AreAppended s old new (take (i + 1) xs)
appended_next s old between new xs i d lt f g = subst (AreAppended s old new) (sym (take_more xs i d lt)) (appended_both s old between new (take i xs) (get_or xs i d ∷ []) f g)

-- an entry of cell k, whose bounds x become y
module _ (s : ℕ) (old : List LocalBounds) (k : ℕ) (x y : LocalBounds) (e : Entry) (lt : k < length old) (cell : k ≡ cell_of e) (read : x ≡ local_in old k) where
  here : ((es : List Entry) → AreLocalBounds s k x es → AreLocalBounds s k y (es ++ e ∷ [])) → (es : List Entry) → AreLocalBounds s k (local_in old k) es →
      AreLocalBounds s k (local_in (set old k y) k) (es ++ entries_of k (e ∷ []))
  here next es h =
      subst (λ z. AreLocalBounds s k z (es ++ entries_of k (e ∷ []))) (sym (get_or-set_same old k y no_bounds lt))
      (subst (λ zs. AreLocalBounds s k y (es ++ zs)) (one_entry k e true (eq-eqb (cell_of e) k (sym cell))) (next es (subst (λ z. AreLocalBounds s k z es) (sym read) h)))

  others : (c : ℕ) → (c ≡ k → ⊥) → (es : List Entry) → AreLocalBounds s c (local_in old c) es → AreLocalBounds s c (local_in (set old k y) c) (es ++ entries_of c (e ∷ []))
  others c ne es h =
      subst (λ z. AreLocalBounds s c z (es ++ entries_of c (e ∷ []))) (sym (get_or-set_other old k c y no_bounds ne))
      (subst (AreLocalBounds s c (local_in old c)) (sym (append-nil es) ∙ ap (λ zs. es ++ zs) (one_entry c e false (ne_eqb (cell_of e) c (λ r. ne (sym r ∙ sym cell))))) h)

  pub appended_one : ((es : List Entry) → AreLocalBounds s k x es → AreLocalBounds s k y (es ++ e ∷ [])) → AreAppended s old (set old k y) (e ∷ [])
  appended_one next = λ c es h. elim (cases_eq c k) [
    | inl q ↦ (let P : ℕ → Type 0 = λ d. AreLocalBounds s d (local_in old d) es → AreLocalBounds s d (local_in (set old k y) d) (es ++ entries_of d (e ∷ [])) in
        subst P (sym q) (here next es) h)
    | inr ne ↦ others c ne es h
  ]

-- as one call names the list and the number, and another
pub renamed : (n k : ℕ) (xs ys : List Entry) → k ≡ n → ys ≡ xs → All (IsEntryIn n) xs → All (IsEntryIn k) ys
renamed n k xs ys e f h = subst (λ q. All (IsEntryIn q) ys) (sym e) (subst (All (IsEntryIn n)) (sym f) h)

-- The bounds of cells that keep them only if they have entries.
pub none_kept : (n c : ℕ) → local_in (map kept_bounds (replicate n None)) c ≡ no_bounds
none_kept zero c = refl
none_kept (suc n) zero = refl
none_kept (suc n) (suc c) = none_kept n c

-- an entry of cell k, whose kept bounds x become y
pub kept_one : (s : ℕ) (cells : List (Option (Box LocalBounds))) (k : ℕ) (x y : Option (Box LocalBounds)) (e : Entry) → k < length cells → k ≡ cell_of e → x ≡ get_or cells k None →
    ((es : List Entry) → AreLocalBounds s k (kept_bounds x) es → AreLocalBounds s k (kept_bounds y) (es ++ e ∷ [])) →
    AreAppended s (map kept_bounds cells) (map kept_bounds (set cells k y)) (e ∷ [])
kept_one s cells k x y e lt cell read next =
    let all : List LocalBounds = map kept_bounds cells in
    let within : k < length all = omega (arith, length-map cells kept_bounds, lt) in
    subst (λ (new : List LocalBounds). AreAppended s all new (e ∷ [])) (sym (map-set kept_bounds cells k y))
    (appended_one s all k (kept_bounds x) (kept_bounds y) e within cell (ap kept_bounds read ∙ sym (get_or-map kept_bounds cells k None no_bounds lt)) next)
