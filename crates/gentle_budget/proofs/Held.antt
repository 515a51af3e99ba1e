-- The budget at listed heads that hold.
use Rattle.gentle_budget.proofs.Common.{◌≡◌, ℕ, ℤ, ◌+◌, ◌<◌, Bool, true, false, cond, List, Result, Ok, Err, All, length, map, refl, sym, ap, ◌∙◌, subst, arith, All-from_get_or, EnclosesSigned}
use Rattle.gentle_budget.proofs.Common.{Fraction, lower_at, upper_at, Entries, Bound, Side, High, Low, Dir, In, Out, Term, Storage, NoBound, heads_on, TermPair, Budget, bounds_in, is_term, ◌>>=◌}
use Rattle.gentle_budget.proofs.Common.{Contains, IsModel, times, variable_cells, FlowModel, TimeStep, variable_active, ConvertibleLayers, listed_heads, variable_cell, heads_at, with_yield}
use Rattle.gentle_budget.proofs.Common.{variable_at, HaveSide, side_cells, BudgetsHold, budget_at, joined_budget, joined_pair, joined_term, side_budget, storage_term, stored_or_large}
use Rattle.problem_builder.proofs.TimesOf.{time_of}
use Rattle.gentle_problem.proofs.Enclosed.{problems_enclose}
use Rattle.gentle_steps.specs.{side_bounds}
use Rattle.gentle_steps.proofs.Held.{high_side, low_side}
use Rattle.gentle_budget.proofs.{Joined.joined_bounds, Joined.joined_holds, Joined.passed_on, Sides.own_head, Sides.side_term, StoredTerm.IsStored, StoredTerm.joined_storage, StoredTerm.parts_on}
use Rattle.gentle_budget.proofs.{StoredTerm.side_storage}
unfoldable use Rattle.gentle_terms.specs.{water_term}

abbrev value_or : {A E : Type 0} → A → Result A E → A
value_or d (Ok x) = x
value_or d (Err e) = d

-- the budgets that a budget joins
record AreJoined (listed : List Bound) (p q : List Entries) (stored : Dir → TermPair) (b : Budget) : Type 0 where
  low : Budget
  high : Budget
  is_low : side_budget listed Low p ≡ Ok low
  is_high : side_budget listed High q ≡ Ok high
  is : joined_budget low high stored ≡ b

module _ (m : FlowModel) (w : ConvertibleLayers) (s : ℕ) (at : TimeStep) (old listed : List Bound) (p q : List Entries) where
  abbrev stored : Dir → TermPair
  stored = storage_term m w s at old listed p

  abbrev tested : Budget → Budget → Result Budget NoBound
  tested low high = stored_or_large m w s at old listed p In >>= (λ into. stored_or_large m w s at old listed p Out >>= (λ out. Ok (joined_budget low high stored)))

  are_joined : (b : Budget) → budget_at m w s at old listed p q ≡ Ok b → AreJoined listed p q stored b
  are_joined b e =
      let (low, is_low, after_low) = passed_on (side_budget listed Low p) (λ low. side_budget listed High q >>= (λ high. tested low high)) b e in
      let (high, is_high, after_high) = passed_on (side_budget listed High q) (λ high. tested low high) b after_low in
      let (x, is_x, after_in) =
      passed_on (stored_or_large m w s at old listed p In) (λ into. stored_or_large m w s at old listed p Out >>= (λ out. Ok (joined_budget low high stored))) b after_high in
      let (y, is_y, after_out) = passed_on (stored_or_large m w s at old listed p Out) (λ out. Ok (joined_budget low high stored)) b after_in in
      record { low = low; high = high; is_low = is_low; is_high = is_high; is = ap (value_or b) after_out }

module _ (m : FlowModel) (w : ConvertibleLayers) (s : ℕ) (at : TimeStep) (old listed : List Bound) (side : Side) (p : List Entries) (valid : IsModel m)
    (yields : IsModel (with_yield m w)) (there : Contains (times m) at) (cells : map (λ e. e.id) p ≡ variable_cells m at.period) where
  abbrev x : ℕ → ℤ
  x = heads_on side listed

  -- the term of a budget of a side, with that of stored water
  abbrev term_on : Budget → Dir → Term → TermPair
  term_on b dir t = cond (is_term t Storage) (parts_on m w s at old listed dir side (variable_cells m at.period)) (bounds_in b dir t)

  stored_cells : (before : ℕ → Fraction) (H : ℕ → ℤ) → HaveSide m w s at p (side_bounds m at listed side) old x H before → All (IsStored m w s at old listed side before) (variable_cells m at.period)
  stored_cells before H h = All-from_get_or (IsStored m w s at old listed side before) (variable_cells m at.period) 0 (λ i lt.
      let place = variable_at m at valid.grid.size i lt in
      let c = variable_cell m at.period i in
      record {
        active = record { within = place.within; active = variable_active m at.period c place.passes };
        fits = h.stored i lt;
        head = own_head m w s at listed side p valid cells c place.passes;
      })

  by_term : (storage : Bool) (k : ℕ) (A B : TermPair) (F G : Fraction) → EnclosesSigned A.lo A.hi k F → EnclosesSigned B.lo B.hi k G →
      EnclosesSigned (cond storage A B).lo (cond storage A B).hi k (cond storage F G)
  by_term true k A B F G a b = a
  by_term false k A B F G a b = b

  side_holds : (before : ℕ → Fraction) (H : ℕ → ℤ) → HaveSide m w s at p (side_bounds m at listed side) old x H before → (b : Budget) → side_budget listed side p ≡ Ok b →
      (dir : Dir) (t : Term) → EnclosesSigned (term_on b dir t).lo (term_on b dir t).hi (s + 9) (water_term m w at before (listed_heads m at x) dir t)
  unfolding water_term
  side_holds before H h b is dir t =
      let step = problems_enclose m w s at (side_bounds m at listed side) (listed_heads m at x) p valid there h.ordered h.within h.problem in
      by_term (is_term t Storage) (s + 9) _ _ _ _ (side_storage m w s at old listed side dir before valid yields there h.old_within (stored_cells before H h))
      (side_term m w s at listed side p valid cells step b is dir t)

-- a term of joined budgets is the joined term
join_cases : (storage : Bool) (dir : Dir) (A B C D S : TermPair) → joined_pair dir A C ≡ S → joined_pair dir (cond storage A B) (cond storage C D) ≡ cond storage S (joined_pair dir B D)
join_cases true dir A B C D S e = e
join_cases false dir A B C D S e = refl

pub budget_held : BudgetsHold
budget_held m w s at old listed p q b low before high d X valid yields there grid low_old high_old hold is lie dir t =
    let time = time_of m at valid there in
    let j = are_joined m w s at old listed p q b is in
    let p_cells = side_cells m w s at listed Low p hold.posed.low in
    let q_cells = side_cells m w s at listed High q hold.posed.high in
    let cs = variable_cells m at.period in
    let at_low = side_holds m w s at old listed Low p valid yields there p_cells high _ (low_side m w s at old listed p q valid time grid hold high high_old) j.low j.is_low dir t in
    let at_high = side_holds m w s at old listed High q valid yields there q_cells low _ (high_side m w s at old listed p q valid time grid hold low low_old) j.high j.is_high dir t in
    let between = lie dir t in
    let joined = joined_holds dir _ _ (s + 9) _ (water_term m w at before (heads_at m at d X) dir t) _ at_low at_high between.upper_heads between.lower_heads in
    let same = join_cases (is_term t Storage) dir (parts_on m w s at old listed dir Low cs) (bounds_in j.low dir t) (parts_on m w s at old listed dir High cs) (bounds_in j.high dir t)
    (storage_term m w s at old listed p dir) (joined_storage m w s at old listed dir p cs p_cells) in
    let P : TermPair → Type 0 = λ y. EnclosesSigned y.lo y.hi (s + 9) (water_term m w at before (heads_at m at d X) dir t) in
    let Q : Budget → Type 0 = λ y. P (bounds_in y dir t) in
    subst Q j.is (subst P (sym (joined_bounds j.low j.high (storage_term m w s at old listed p) dir t)) (subst P same joined))
