-- What a cell without a refusal is.
use Rattle.problem_builder.proofs.Common.{filter_map, option_map, refusal_of, or_parts, ◌≡◌, ℕ, zero, suc, ◌+◌, ◌<◌, ◌≤◌, ◌^◌, inl, inr, Bool, true, false, cond, Option, Some, None, List, [], ◌∷◌}
use Rattle.problem_builder.proofs.Common.{refl, sym, ap, subst, arith, nat_le, ◌==◌, sum_by, list_any, fold, leb-false, false≢true, Entries, conductance_of, flow_magnitude, In, fault_of}
use Rattle.problem_builder.proofs.Common.{has_small_branch, NoBound, Cell, Low, In-filter_map}

cond_none : (b : Bool) (x : ℕ) (o : Option ℕ) → cond b (Some x) o ≡ None → (b ≡ false) × (o ≡ None)
cond_none true x o e = absurd cc
cond_none false x o e = (refl, e)

pub record IsSound (e : Entries) : Type 0 where
  pub branches : has_small_branch e ≡ false
  pub conductances : conductance_of e < 2 ^ 60
  pub flows : flow_magnitude e < 2 ^ 109

pub no_fault_is_sound : (e : Entries) → fault_of e ≡ None → IsSound e
unfolding fault_of
no_fault_is_sound e h =
    let (a, h₁) = cond_none (has_small_branch e) 21 _ h in
    let (b, h₂) = cond_none (nat_le (2 ^ 60) (conductance_of e)) 22 _ h₁ in
    let (c, h₃) = cond_none (nat_le (2 ^ 109) (flow_magnitude e)) 23 _ h₂ in
    record { branches = a; conductances = leb-false (2 ^ 60) (conductance_of e) b; flows = leb-false (2 ^ 109) (flow_magnitude e) c }

-- a cell among cells without a refusal has none
unfaulted : (e : Entries) (o : Option ℕ) → fault_of e ≡ o → (ns : List NoBound) → ns ≡ [] → ((n : NoBound) → refusal_of e ≡ Some n → In ns n) → fault_of e ≡ None
unfaulted e None is ns none among = is
unfaulted e (Some code) is ns none among =
    absurd (subst (λ xs. In xs (record { code = code; place = Cell e.id Low })) none
    (among _ (ap (option_map (λ k. record { code = k; place = Cell e.id Low })) is)))

pub no_refusal_is_no_fault : (es : List Entries) → filter_map refusal_of es ≡ [] → (e : Entries) → In es e → fault_of e ≡ None
no_refusal_is_no_fault es none e i = unfaulted e (fault_of e) refl (filter_map refusal_of es) none (λ n is. In-filter_map refusal_of es e n i is)

pub none_passes : {X : Type 0} (test : X → Bool) (xs : List X) → list_any test xs ≡ false → (x : X) → In xs x → test x ≡ false
none_passes test [] e x i = absurd i
none_passes test (y ∷ ys) e x (inl same) = subst (λ z. test z ≡ false) same (or_parts (test y) (list_any test ys) e).0
none_passes test (y ∷ ys) e x (inr i) = none_passes test ys (or_parts (test y) (list_any test ys) e).1 x i

pub positive_unless_zero : (n : ℕ) → (n == 0) ≡ false → 0 < n
positive_unless_zero zero e = absurd (false≢true (sym e))
positive_unless_zero (suc n) e = omega arith

fold_least : {X : Type 0} (f : X → ℕ) (xs : List X) (a : ℕ) → a ≤ fold (λ b x. b + f x) a xs
fold_least f [] a = omega arith
fold_least f (x ∷ xs) a = omega (arith, fold_least f xs (a + f x))

fold_part : {X : Type 0} (f : X → ℕ) (xs : List X) (a : ℕ) (x : X) → In xs x → f x ≤ fold (λ b y. b + f y) a xs
fold_part f [] a x i = absurd i
fold_part f (y ∷ ys) a x (inl e) = let k : f y ≡ f x = ap f e in omega (arith, k, fold_least f ys (a + f y))
fold_part f (y ∷ ys) a x (inr i) = fold_part f ys (a + f y) x i

-- one of a list is at most the sum
pub sum_part : {X : Type 0} (f : X → ℕ) (xs : List X) (x : X) → In xs x → f x ≤ sum_by f xs
sum_part f xs x i = fold_part f xs 0 x i
