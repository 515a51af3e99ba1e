-- The budget of one side at its listed heads.
use Rattle.gentle_budget.proofs.Common.{◌≡◌, ℕ, ℤ, ◌+◌, ◌<◌, ◌^◌, true, List, Ok, length, get_or, map, refl, sym, ap, ◌∙◌, subst, arith, get_or-map, length-map, EnclosesSigned, Fraction, entries_at}
use Rattle.gentle_budget.proofs.Common.{lower_at, no_bound, no_entries, upper_at, Entries, Bound, Side, Dir, Term, heads_on, TermPair, Budget, AreWithin, bounds_in, IsModel, is_variable}
use Rattle.gentle_budget.proofs.Common.{variable_cells, FlowModel, TimeStep, ConvertibleLayers, convertible_step, listed_heads, variable_cell, variable_at, one_head, id_is, problem_length}
use Rattle.gentle_budget.proofs.Common.{side_budget, side_words}
use Rattle.cell_balance.specs.{EnclosesStep}
use Rattle.budget_bounds.proofs.Enclosed.{bounds_are, term_enclosed}
use Rattle.water_enclosure.proofs.Order.{variable_at_head}
use Rattle.gentle_check.proofs.Balances.{own_bounds}
unfoldable use Rattle.budget_bounds.specs.{exact_term}

module _ (m : FlowModel) (w : ConvertibleLayers) (s : ℕ) (at : TimeStep) (listed : List Bound) (side : Side) (p : List Entries) (valid : IsModel m)
    (cells : map (λ e. e.id) p ≡ variable_cells m at.period) where
  abbrev x : ℕ → ℤ
  x = heads_on side listed

  abbrev h : ℕ → Fraction
  h = listed_heads m at x

  abbrev words : List Bound
  words = side_words listed side p

  -- a variable cell has its listed head
  pub own_head : (c : ℕ) → is_variable m at.period c ≡ true → EnclosesSigned (x c) (x c) 9 (h c)
  own_head c v = subst (EnclosesSigned (x c) (x c) 9) (sym (variable_at_head m at (10 ^ 9) x c v)) (own_bounds (x c))

  word_is : (i : ℕ) → i < length p → get_or words i no_bound ≡ one_head (x (variable_cell m at.period i))
  word_is i lt = get_or-map (λ (e : Entries). one_head (x e.id)) p i no_entries no_bound lt ∙ ap (λ c. one_head (x c)) (id_is m at valid p cells i lt)

  within : AreWithin (length p) (λ k. h (variable_cell m at.period k)) (lower_at words) (upper_at words)
  within i lt =
      let c = variable_cell m at.period i in
      let there = variable_at m at valid.grid.size i (omega (arith, lt, problem_length m at valid p cells)) in
      let P : Bound → Type 0 = λ b. EnclosesSigned b.low b.high 9 (h c) in
      subst P (sym (word_is i lt)) (own_head c there.passes)

  -- each term but storage
  pub side_term : EnclosesStep s p (convertible_step m w at h) → (b : Budget) → side_budget listed side p ≡ Ok b → (dir : Dir) (t : Term) →
      EnclosesSigned (bounds_in b dir t).lo (bounds_in b dir t).hi (s + 9) (exact_term (convertible_step m w at h) (λ k. h (variable_cell m at.period k)) dir t)
  side_term encloses b is dir t =
      let P : TermPair → Type 0 = λ y. EnclosesSigned y.lo y.hi (s + 9) (exact_term (convertible_step m w at h) (λ k. h (variable_cell m at.period k)) dir t) in
      subst P (sym (bounds_are p (lower_at words) (upper_at words) b is dir t))
      (term_enclosed p (lower_at words) (upper_at words) s (convertible_step m w at h) (λ k. h (variable_cell m at.period k)) encloses within dir t)
