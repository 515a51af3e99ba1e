-- A certified listing has the signs, and encloses histories.
use Rattle.gentle_run.proofs.Common.{All, List, Option, [], ◌∷◌, inl, inr, map, ◌≡◌, ℕ, ℤ, ◌+◌, Bool, true, false, refl, sym, subst, All-contains_itself, All-head, All-tail, AllZip, Contains, Bound}
use Rattle.gentle_run.proofs.Common.{FlowModel, TimeStep, IsModel, start_head, times, AreGridHeads, HeadsEnclose, IsListedAt, ListedStep, pairs_in, ConvertibleLayers, starts_enclose, Certified}
use Rattle.gentle_run.proofs.Common.{CertifiedIsEnclosed, Checks, StepEncloses, StepsEnclose, Passes, All-get_or, lower_at, upper_at, High, Low, constant_head, index_of, is_variable, variable_cells}
use Rattle.gentle_run.proofs.Common.{IsActive, IsTimeOf, time_of, grid_of, ConstantsReach, HasSignsFrom, LieInPairs, LiesInPair, convertible_step, heads_at, listed_heads, with_yield, flow_unit}
use Rattle.gentle_run.proofs.Common.{pair_of}
use Rattle.decimal_input.specs.{EnclosesSigned, Fraction}
use Rattle.problem_builder.proofs.BoundsOf.{constant_head_is_enclosed}
use Rattle.check_run.proofs.Passing.{wide_enclose}
use Rattle.water_enclosure.proofs.{Histories.signs_enclose_histories, Linked.index_names_cell, Linked.index_within, Order.known_at, Order.variable_at_head}
use Rattle.gentle_terms.specs.{TermsLieFrom}
use Rattle.gentle_terms.proofs.StepTerms.{history_terms_lie_between}
use Rattle.gentle_steps.proofs.{Held.held_steps_have_signs, Held.wider_encloses, SideHeads.active_constant}
use Rattle.gentle_budget.proofs.Held.{budget_held}
use Rattle.gentle_zones.proofs.Held.{flows_hold}

-- Heads that lie between the listed ones in the variable cells do so in each active cell.
module _ (m : FlowModel) (at : TimeStep) (d : ℕ) (X : ℕ → ℤ) (listed : List Bound) (valid : IsModel m) (time : IsTimeOf m at) (reach : ConstantsReach m at listed)
    (lie : All (LiesInPair d X (pair_of listed)) (variable_cells m at.period)) where
  in_cell : (c : ℕ) → IsActive m c → (v : Bool) → is_variable m at.period c ≡ v → EnclosesSigned (lower_at listed c) (upper_at listed c) 9 (heads_at m at d X c)
  in_cell c here true e =
      let P : ℕ → Type 0 = LiesInPair d X (pair_of listed) in
      let between = subst P (index_names_cell m at valid.grid.size c e here.within)
      (All-get_or P (variable_cells m at.period) (index_of m at.period c) 0 (index_within m at valid.grid.size c e here.within) lie) in
      subst (EnclosesSigned (lower_at listed c) (upper_at listed c) 9) (sym (variable_at_head m at d X c e))
      (record { lower = between.low.at_most; upper = between.high.at_most })
  in_cell c here false e =
      let k = active_constant m at.period c here.active e in
      subst (EnclosesSigned (lower_at listed c) (upper_at listed c) 9) (sym (known_at m at d X c k))
      (wider_encloses (lower_at listed c) (upper_at listed c) _ _ 9 (constant_head m at.period at.step c) (reach c here.within Low k) (reach c here.within High k)
      (constant_head_is_enclosed m at valid time c))

  pub in_cells : HeadsEnclose m listed (heads_at m at d X)
  in_cells c here = in_cell c here (is_variable m at.period c) refl

-- the listed heads of all steps
abbrev pub listed_of : List ListedStep → List (List Bound)
listed_of steps = map (λ x. x.heads) steps

module _ (m : FlowModel) (w : ConvertibleLayers) (s : ℕ) (zones : Option (List ℕ)) (valid : IsModel m) (yields : IsModel (with_yield m w)) where
  pub have_signs : (ats : List TimeStep) (steps : List ListedStep) (old : List Bound) (low high : ℕ → Fraction) → All (Contains (times m)) ats →
      AllZip (IsListedAt m (pairs_in m zones)) ats steps → HeadsEnclose m old low → HeadsEnclose m old high → Checks m w s zones old ats steps Certified →
      HasSignsFrom (flow_unit s) m w low high ats (map pair_of (listed_of steps))
  have_signs [] [] old low high there listed p q h = tt
  have_signs [] (x ∷ steps) old low high there listed p q h = absurd h
  have_signs (at ∷ ats) [] old low high there listed p q h = absurd h
  have_signs (at ∷ ats) (x ∷ steps) old low high there listed p q (inl (passes, more)) =
      let moves = held_steps_have_signs m w s at old x.heads passes.low passes.high low high valid yields
      (All-head (Contains (times m)) at ats there) (grid_of m x listed.0.0) p q passes.terms.hold in (
        moves.signs,
        have_signs ats steps x.heads (listed_heads m at (lower_at x.heads)) (listed_heads m at (upper_at x.heads))
            (All-tail (Contains (times m)) at ats there) listed.1 moves.low_within moves.high_within more,
      )
  have_signs (at ∷ ats) (x ∷ steps) old low high there listed p q (inr stop) = absurd stop

  module _ (d : ℕ) where
    step_encloses : (at : TimeStep) (old : List Bound) (x : ListedStep) (low before high : ℕ → Fraction) (X : ℕ → ℤ) → Contains (times m) at → AreGridHeads m x.heads →
        HeadsEnclose m old low → HeadsEnclose m old high → Passes m w s zones at old x → All (LiesInPair d X (pair_of x.heads)) (variable_cells m at.period) →
        TermsLieFrom m w d low before high (at ∷ []) (X ∷ []) (pair_of x.heads ∷ []) → StepEncloses s m w zones at x before d X
    step_encloses at old x low before high X there grid p q passes lie terms =
        let covered = passes.terms in
        let hold = covered.hold in
        let h = heads_at m at d X in
        let inside = in_cells m at d X x.heads valid (time_of m at valid there) hold.constants lie in
        let budget = budget_held m w s at old x.heads passes.low passes.high covered.budget low before high d X valid yields there grid p q hold covered.is terms.0 in
        let flows = flows_hold m w s at x.heads zones passes.wide.flows h valid there grid hold.gently.ordered passes.wide.are inside in
        record {
          heads = inside;
          budget = λ dir t. wider_encloses _ _ _ _ (s + 9) _ (covered.covers dir t).lower (covered.covers dir t).upper (budget dir t);
          flows = wide_enclose s (convertible_step m w at h) zones h x.zones passes.wide.flows passes.wide.wide flows;
        }

    enclose_from : (ats : List TimeStep) (steps : List ListedStep) (Xs : List (ℕ → ℤ)) (old : List Bound) (low before high : ℕ → Fraction) → All (Contains (times m)) ats →
        AllZip (IsListedAt m (pairs_in m zones)) ats steps → HeadsEnclose m old low → HeadsEnclose m old high → Checks m w s zones old ats steps Certified →
        LieInPairs m d ats Xs (map pair_of (listed_of steps)) → TermsLieFrom m w d low before high ats Xs (map pair_of (listed_of steps)) →
        StepsEnclose s m w zones d before ats steps Xs
    enclose_from [] [] [] old low before high there listed p q h lie terms = tt
    enclose_from [] [] (X ∷ Xs) old low before high there listed p q h lie terms = absurd lie
    enclose_from [] (x ∷ steps) Xs old low before high there listed p q h lie terms = absurd h
    enclose_from (at ∷ ats) [] Xs old low before high there listed p q h lie terms = absurd h
    enclose_from (at ∷ ats) (x ∷ steps) [] old low before high there listed p q h lie terms = absurd lie
    enclose_from (at ∷ ats) (x ∷ steps) (X ∷ Xs) old low before high there listed p q (inl (passes, more)) lie terms =
        let here = All-head (Contains (times m)) at ats there in
        let grid = grid_of m x listed.0.0 in
        let moves = held_steps_have_signs m w s at old x.heads passes.low passes.high low high valid yields here grid p q passes.terms.hold in (
          step_encloses at old x low before high X here grid p q passes lie.0 (terms.0, tt),
          enclose_from ats steps Xs x.heads (listed_heads m at (lower_at x.heads)) (heads_at m at d X) (listed_heads m at (upper_at x.heads))
              (All-tail (Contains (times m)) at ats there) listed.1 moves.low_within moves.high_within more lie.1 terms.1,
        )
    enclose_from (at ∷ ats) (x ∷ steps) (X ∷ Xs) old low before high there listed p q (inr stop) lie terms = absurd stop

pub certified_is_enclosed : CertifiedIsEnclosed
certified_is_enclosed s m w zones listing valid yields listed verdict = λ d Xs near.
    let start = starts_enclose m verdict.start verdict.is_start in
    let there = All-contains_itself (times m) in
    let signs = have_signs m w s zones valid yields (times m) listing verdict.start (start_head m) (start_head m) there listed.steps start start verdict.checks in
    let pairs = map pair_of (listed_of listing) in
    enclose_from m w s zones valid yields d (times m) listing Xs verdict.start (start_head m) (start_head m) (start_head m) there listed.steps start start verdict.checks
    (signs_enclose_histories (flow_unit s) m w pairs d Xs valid signs near) (history_terms_lie_between (flow_unit s) m w pairs d Xs valid signs near)
