-- A listed step that passes bounds every solution.
use Rattle.check_run.proofs.Common.{◌≡◌, ℕ, ◌+◌, ◌<◌, true, List, length, Contains, Option, Some, None, sym, subst, arith, ℤ, ◌≤ℤ◌, AllZip, IfSome, Fraction, Bound, Low, High, ZoneFlow, Entries}
use Rattle.check_run.proofs.Common.{lower_at, upper_at, Budget, CoverEncloses, Covers, EnclosesBudgets, HeadsAreWithin, EnclosesSolutions, heads_of, variable_heads, TimeStep, cell_count, is_constant}
use Rattle.check_run.proofs.Common.{times, Choice, step_from, chosen_cells, IsActive, bound_at, EncloseExact, exact_faces, exact_flow, ZonePair, CoversFlow, AreWide, ConstantsReach, IsConstantCell}
use Rattle.check_run.proofs.Common.{variable_bounds, checked_task, step_of, Decks, AreDecks, EnclosesChoices, IsChoiceOf, AreConstantHeadsFor, ConstantPairEncloses, BoundsMovesOf, AllZip-at}
use Rattle.check_run.proofs.Common.{AllZip-length, get_or, EnclosesSigned, ExactCell, follows, EnclosesMoves, Solved, lies_encloses, IsCellNamed}
use Rattle.decimal_input.specs.Fractions.{den}
use Rattle.decimal_input.proofs.FloorLaws.{mul_mono_right}
use Rattle.cell_balance.proofs.Deep.{le_trans_z}
use Rattle.listing_run.proofs.Moves.{flows_enclose, heads_named}
use Rattle.check_run.proofs.RunText.{variable_listed}

-- wider bounds enclose what narrower ones do
pub wider : (lo hi l u : ℤ) (k : ℕ) (f : Fraction) → l ≤ℤ lo → hi ≤ℤ u → EnclosesSigned lo hi k f → EnclosesSigned l u k f
wider lo hi l u k f low high h = record { lower = le_trans_z _ _ _ (mul_mono_right (den f) l lo low) h.lower; upper = le_trans_z _ _ _ h.upper (mul_mono_right (den f) hi u high) }

-- a wider flow between the same zones encloses what the narrower one does
flow_wider : (s : ℕ) (e : List ExactCell) (zones : List ℕ) (h : ℕ → Fraction) (v w : ZoneFlow) → CoversFlow v w →
    EnclosesSigned w.lo w.hi (s + 9) (exact_flow w.from w.to (exact_faces zones h e)) → EnclosesSigned v.lo v.hi (s + 9) (exact_flow v.from v.to (exact_faces zones h e))
flow_wider s e zones h v w covers encloses =
    let F : ZonePair → Type 0 = λ z. EnclosesSigned w.lo w.hi (s + 9) (exact_flow z.from z.to (exact_faces zones h e)) in
    wider w.lo w.hi v.lo v.hi (s + 9) _ covers.lower covers.upper (subst F (sym covers.zones) encloses)

pub wide_enclose : (s : ℕ) (e : List ExactCell) (o : Option (List ℕ)) (h : ℕ → Fraction) (listed flows : List ZoneFlow) → AllZip CoversFlow listed flows →
    IfSome o (λ zones. EncloseExact s e zones h flows) → IfSome o (λ zones. EncloseExact s e zones h listed)
wide_enclose s e None h listed flows covers encloses = tt
wide_enclose s e (Some zones) h listed flows covers encloses = λ k d lt.
    flow_wider s e zones h (get_or listed k d) (get_or flows k d) (AllZip-at CoversFlow listed flows k d d covers lt) (encloses k d (omega (arith, lt, AllZip-length CoversFlow listed flows covers)))

module _ (ds : Decks) (s : ℕ) (at : TimeStep) (old : List Bound) (p : List Entries) (constant_heads heads : List Bound)
    (valid : AreDecks ds) (time : Contains (times ds.first) at) (are : AreConstantHeadsFor ds at constant_heads) (pair_encloses : ConstantPairEncloses)
    (all_enclose : EnclosesChoices ds s at old p)
    (named : (c : ℕ) → IsCellNamed p c → IsActive ds.first c)
    (constants : ConstantsReach ds at heads)
    (solutions : EnclosesSolutions p (lower_at (variable_bounds ds at heads)) (upper_at (variable_bounds ds at heads)))
    (y : Choice) (chosen : IsChoiceOf ds.first ds.second at y) where
  constant : (c : ℕ) → c < cell_count ds.first.grid → is_constant ds.first at.period c ≡ true → EnclosesSigned (lower_at heads c) (upper_at heads c) 9 (y.heads c)
  constant c lt e =
      let pair = bound_at constant_heads c in
      let held = (are.each c lt).constant e in
      let here = pair_encloses ds at c pair.low pair.high (record { decks = valid; time = time; within = lt; constant = e }) held y chosen in
      let cell : IsConstantCell ds at c = record { within = lt; constant = e } in
      wider pair.low pair.high (lower_at heads c) (upper_at heads c) 9 (y.heads c) (constants c cell Low pair held) (constants c cell High pair held) here

  abbrev solved : Solved
  solved = record { problem = p; bounds = variable_bounds ds at heads; heads = heads }

  moves : EnclosesMoves ds.first s at y old solved
  moves = follows ds s at old solved y (chosen_cells ds at y chosen) (all_enclose y chosen) (λ c lt v. sym (variable_listed ds at heads c v lt)) constant solutions

  -- the listed step bounds each move of the choice
  pub choice_moves : CoverEncloses → HeadsAreWithin → (listed computed : Budget) → Covers listed computed →
      EnclosesBudgets p (lower_at (variable_bounds ds at heads)) (upper_at (variable_bounds ds at heads)) computed →
      (zones : Option (List ℕ)) (flows : List ZoneFlow) → AreWide p heads zones flows →
      BoundsMovesOf (checked_task ds s zones) ds.first at old (step_of at (record { heads = heads; budget = listed; zones = flows })) y
  choice_moves cover within listed computed covers terms zones flows wide before d X move =
      let e : List ExactCell = step_from before y.cells in
      let moved = moves before d X move in
      let Y : ℕ → ℤ = variable_heads e X in
      let inside = within (length p) d Y (lower_at (variable_bounds ds at heads)) (upper_at (variable_bounds ds at heads)) move.some moved.variables in
      record {
        heads = moved.heads;
        budget = cover listed computed s e (heads_of d Y) covers (terms s e (heads_of d Y) moved.step inside);
        zones = wide_enclose s e zones (heads_of d X) flows wide.flows wide.wide
            (flows_enclose zones p heads wide.flows wide.encloses s e (heads_of d X) moved.step
            (heads_named ds.first p named heads (heads_of d X) (lies_encloses ds.first heads d X move.some moved.heads)));
      }
