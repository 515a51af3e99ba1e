-- A problem with a barrier has a settled pair as a list, and the heads of all cells by that pair.
use Rattle.step_or_refusal.proofs.Common.{◌≡◌, ℕ, ◌<◌, ◌∙◌, inl, inr, Bool, true, false, List, length, map, refl, sym, ap, subst, arith, ℤ, Bound, Edges, no_bound, lower_at, upper_at, IsSettledPair}
use Rattle.step_or_refusal.proofs.Common.{FlowModel, TimeStep, one_deck, Entries, range_with_len, cases_Bool, false≢true, length-map-range_with_len, get_or-map-range_with_len, IsProblem}
use Rattle.step_or_refusal.proofs.Common.{IsConstantPair, bound_at, AreHeadsOf, AreSettled, IsFirstSettled, cell_count, is_variable, index_of, is_active, not, ◌&&◌}
use Rattle.step_problem.proofs.{BothSides.low_side, BothSides.high_side, Sides.IsSide, Sides.same_as_tight, Sides.as_tight_trans, Sides.same_settled}
use Rattle.problem_builder.proofs.Members.{variable_active, constant_active}

-- being the first settled vector is of the cells below n alone
same_first : {Le : ℤ → ℤ → Type 0} {Moves : ℕ → ℤ → (ℕ → ℤ) → Type 0} {n : ℕ} (s : IsSide Le Moves n) (edge l m : ℕ → ℤ) → ((c : ℕ) → c < n → m c ≡ l c) →
    IsFirstSettled Le Moves n edge l → IsFirstSettled Le Moves n edge m
same_first {Le} s edge l m e k = grind (arith, as_tight_trans, same_as_tight, same_settled)

module _ (n : ℕ) (f : ℕ → Bound) where
  pub bounds_of : List Bound
  bounds_of = map f (range_with_len 0 n)

  pub bounds_count : length bounds_of ≡ n
  unfolding bounds_of
  bounds_count = length-map-range_with_len f 0 n

  pub bounds_at : (c : ℕ) → c < n → bound_at bounds_of c ≡ f c
  unfolding bounds_of
  bounds_at c h = get_or-map-range_with_len f 0 n c c no_bound h (omega arith)

abbrev bound : ℤ → ℤ → Bound
bound lo hi = record { low = lo; high = hi }

pub settled_list : (p : List Entries) (b : Edges) (l u : ℕ → ℤ) → IsProblem p → IsSettledPair p b l u → (bounds : List Bound) × AreSettled p b bounds
settled_list p b l u ok pair =
    let f : ℕ → Bound = λ c. bound (l c) (u c) in
    let bounds = bounds_of (length p) f in (
      bounds,
      record {
        whole = bounds_count (length p) f;
        pair = record {
          low = same_first (low_side p ok) _ l (lower_at bounds) (λ c h. ap (λ (x : Bound). x.low) (bounds_at (length p) f c h)) pair.low;
          high = same_first (high_side p ok) _ u (upper_at bounds) (λ c h. ap (λ (x : Bound). x.high) (bounds_at (length p) f c h)) pair.high;
        };
      },
    )

not_variable : (a v : Bool) → (a && not v) ≡ true → v ≡ false
not_variable true true e = absurd (false≢true e)
not_variable true false e = refl
not_variable false v e = absurd (false≢true e)

module _ (m : FlowModel) (at : TimeStep) (pairs : (c : ℕ) → (lo : ℤ) × (hi : ℤ) × IsConstantPair m at c lo hi) (bounds : List Bound) where
  abbrev head_by : Bool → Bool → ℕ → Bound
  head_by true a c = bound_at bounds (index_of m at.period c)
  head_by false true c = bound (pairs c).0 (pairs c).1
  head_by false false c = no_bound

  abbrev head_of : ℕ → Bound
  head_of c = head_by (is_variable m at.period c) (is_active m c) c

  heads : List Bound
  heads = bounds_of (cell_count m.grid) head_of

  head_is : (c : ℕ) → c < cell_count m.grid → (v a : Bool) → is_variable m at.period c ≡ v → is_active m c ≡ a → bound_at heads c ≡ head_by v a c
  unfolding heads
  head_is c h v a e g = bounds_at (cell_count m.grid) head_of c h ∙ ap (λ (z : Bool). head_by z (is_active m c) c) e ∙ ap (λ (z : Bool). head_by v z c) g

  no_variable : (c : ℕ) → is_active m c ≡ false → is_variable m at.period c ≡ false
  no_variable c e = elim (cases_Bool (is_variable m at.period c)) [ inl v ↦ absurd (false≢true (sym e ∙ variable_active m at.period c v)) | inr none ↦ none ]

  pub heads_list : (hs : List Bound) × AreHeadsOf (one_deck m) at bounds hs
  unfolding heads
  heads_list = (
    heads,
    record {
      whole = bounds_count (cell_count m.grid) head_of;
      variable = λ c h v. head_is c h true true v (variable_active m at.period c v);
      constant = λ c h k. subst (λ (b : Bound). IsConstantPair m at c b.low b.high)
          (sym (head_is c h false true (not_variable (is_active m c) (is_variable m at.period c) k) (constant_active m at.period c k))) (pairs c).2;
      no_flow = λ c h e. head_is c h false false (no_variable c e) e;
    },
  )
