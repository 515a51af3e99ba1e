-- The bounds of each term enclose its exact value.
use Rattle.budget_bounds.proofs.Common.{◌≡◌, ℕ, suc, ◌+◌, ◌-◌, ap, subst, arith, List, length, map, ℤ, zero, ◌<◌, refl, sym, ◌∙◌, Bool, true, false, [], ◌∷◌, get_or, AllZip, filter, Fixed, Flow, Dir}
use Rattle.budget_bounds.proofs.Common.{In, Out, Term, Storage, ConstantHead, Wells, Drains, RiverLeakage, HeadDepBounds, Recharge, Et, Entries, entries_at, no_entries, TermPair, fixed_term}
use Rattle.budget_bounds.proofs.Common.{flow_term, is_term, part, singles, flow_pair, parts, term_pair, AreWithin, HeadsAreWithin, exact_part, entry_pair, exact_singles, exact_term, place_of, ◌>>=◌}
use Rattle.budget_bounds.proofs.Common.{all_terms, bounds_in, budget_of, is_small, no_pair, term_of, terms_of, too_large, EnclosesBudgets, CoverEncloses, ReachesAsFar, total_below, ExactFlow}
use Rattle.budget_bounds.proofs.Common.{ExactFixed, ExactCell, cell_at, no_cell, fixed_flow, river_flow, drain_flow, evap_flow, FlowEncloses, FixedEncloses, RiverEncloses, DrainEncloses, EvapEncloses}
use Rattle.budget_bounds.proofs.Common.{CellEncloses, EnclosesStep, FixedKind, FlowKind}
use Rattle.decimal_input.specs.{Fraction, fraction_total, EnclosesSigned, Fractions.den}
use Rattle.cell_balance.proofs.{EntryBounds.bounds_hold, Zips.AllZip-at, Zips.AllZip-length, Enclosing.in_encloses, Enclosing.out_encloses, Enclosing.total_encloses, Enclosing.below_encloses}
use Rattle.cell_balance.proofs.{Enclosing.AllZip-filter, Enclosing.AllZip-map, Deep.le_trans_z}
use Rattle.budget_bounds.specs.declared.pair.Budget.{Budget}
use Rattle.std.specs.Prelude.{Result, Ok, Err, if◌then◌else◌, IfOk}
use Rattle.step_problem.specs.{declared.place.NoBound.NoBound, drain_flow as drain_bound, evap_flow as evap_bound, fixed_flow as fixed_bound, river_flow as river_bound}
use Rattle.decimal_input.proofs.FloorLaws.{mul_mono_right}

part_encloses : (dir : Dir) (k : ℕ) (x : TermPair) (f : Fraction) → EnclosesSigned x.lo x.hi k f → EnclosesSigned (part dir x).lo (part dir x).hi k (exact_part dir f)
part_encloses In k x f h = in_encloses x.lo x.hi k f h
part_encloses Out k x f h = out_encloses x.lo x.hi k f h

-- a single flow and its bounds
pub record PairEncloses (k : ℕ) (x : TermPair) (f : Fraction) : Type 0 where
  pub within : EnclosesSigned x.lo x.hi k f

module _ (s : ℕ) (v : Fraction) (l u : ℤ) (own : EnclosesSigned l u 9 v) where
  fixed_singles : (t : Term) (xs : List Fixed) (ys : List ExactFixed) → AllZip (FixedEncloses s) xs ys →
      AllZip (PairEncloses (s + 9)) (map (entry_pair fixed_bound l u) (filter (λ x. is_term t (fixed_term x.kind)) xs))
      (map (fixed_flow v) (filter (λ x. is_term t (fixed_term x.kind)) ys))
  fixed_singles t xs ys h =
      AllZip-map (FixedEncloses s) (PairEncloses (s + 9)) (entry_pair fixed_bound l u) (fixed_flow v) (λ x y e. record { within = (bounds_hold s v l u own).fixed x y e }) _ _
      (AllZip-filter (FixedEncloses s) (λ (x : Fixed). is_term t (fixed_term x.kind)) (λ (x : ExactFixed). is_term t (fixed_term x.kind)) (λ x y e.
      ap (λ (k : FixedKind). is_term t (fixed_term k)) e.kind) xs ys h)

  flow_singles : (t : Term) (xs : List Flow) (ys : List ExactFlow) → AllZip (FlowEncloses s) xs ys →
      AllZip (PairEncloses (s + 9)) (map flow_pair (filter (λ x. is_term t (flow_term x.kind)) xs))
      (map (λ x. x.flow) (filter (λ x. is_term t (flow_term x.kind)) ys))
  flow_singles t xs ys h =
      AllZip-map (FlowEncloses s) (PairEncloses (s + 9)) flow_pair (λ (x : ExactFlow). x.flow) (λ x y e. record { within = e.flow }) _ _
      (AllZip-filter (FlowEncloses s) (λ (x : Flow). is_term t (flow_term x.kind)) (λ (x : ExactFlow). is_term t (flow_term x.kind)) (λ x y e.
      ap (λ (k : FlowKind). is_term t (flow_term k)) e.kind) xs ys h)

  cell_singles : (t : Term) (p : Entries) (e : ExactCell) → CellEncloses s p e → AllZip (PairEncloses (s + 9)) (singles t p l u) (exact_singles t e v)
  unfolding singles exact_singles
  cell_singles Storage p e h = fixed_singles Storage p.fixed e.fixed h.fixed
  cell_singles ConstantHead p e h = fixed_singles ConstantHead p.fixed e.fixed h.fixed
  cell_singles Wells p e h = flow_singles Wells p.flows e.flows h.flows
  cell_singles Drains p e h = AllZip-map (DrainEncloses s) (PairEncloses (s + 9)) (entry_pair drain_bound l u) (drain_flow v) (λ x y e.
      record { within = (bounds_hold s v l u own).drains x y e }) p.drains e.drains h.drains
  cell_singles RiverLeakage p e h = AllZip-map (RiverEncloses s) (PairEncloses (s + 9)) (entry_pair river_bound l u) (river_flow v) (λ x y e.
      record { within = (bounds_hold s v l u own).rivers x y e }) p.rivers e.rivers h.rivers
  cell_singles HeadDepBounds p e h = fixed_singles HeadDepBounds p.fixed e.fixed h.fixed
  cell_singles Recharge p e h = flow_singles Recharge p.flows e.flows h.flows
  cell_singles Et p e h = AllZip-map (EvapEncloses s) (PairEncloses (s + 9)) (entry_pair evap_bound l u) (evap_flow v) (λ x y e.
      record { within = (bounds_hold s v l u own).evaps x y e }) p.evaps e.evaps h.evaps

  cell_parts : (dir : Dir) (t : Term) (p : Entries) (e : ExactCell) → CellEncloses s p e →
      EnclosesSigned (parts dir (singles t p l u)).lo (parts dir (singles t p l u)).hi (s + 9) (fraction_total (exact_part dir) (exact_singles t e v))
  unfolding parts
  cell_parts dir t p e h = total_encloses (PairEncloses (s + 9)) (λ (x : TermPair). (part dir x).lo) (λ (x : TermPair). (part dir x).hi) (s + 9)
      (exact_part dir) (λ x f q. part_encloses dir (s + 9) x f q.within) (singles t p l u) (exact_singles t e v) (cell_singles t p e h)

over_cells : (p : List Entries) (l u : ℕ → ℤ) (s : ℕ) (e : List ExactCell) (h : ℕ → Fraction) → AllZip (CellEncloses s) p e → AreWithin (length p) h l u →
    (dir : Dir) (t : Term) → EnclosesSigned (term_pair p l u dir t).lo (term_pair p l u dir t).hi (s + 9)
    (total_below (length p) (λ c. fraction_total (exact_part dir) (exact_singles t (cell_at e c) (h c))))
unfolding term_pair
over_cells p l u s e h cells within dir t =
    below_encloses (length p) (λ c. (parts dir (singles t (entries_at p c) (l c) (u c))).lo) (λ c. (parts dir (singles t (entries_at p c) (l c) (u c))).hi)
    (s + 9) (λ c. fraction_total (exact_part dir) (exact_singles t (cell_at e c) (h c)))
    (λ c lt. cell_parts s (h c) (l c) (u c) (within c lt) dir t (entries_at p c) (cell_at e c) (AllZip-at (CellEncloses s) p e c no_entries no_cell cells lt))

pub term_enclosed : (p : List Entries) (l u : ℕ → ℤ) (s : ℕ) (e : List ExactCell) (h : ℕ → Fraction) → EnclosesStep s p e → AreWithin (length p) h l u →
    (dir : Dir) (t : Term) → EnclosesSigned (term_pair p l u dir t).lo (term_pair p l u dir t).hi (s + 9) (exact_term e h dir t)
unfolding exact_term
term_enclosed p l u s e h encloses within dir t =
    subst (λ (n : ℕ). EnclosesSigned (term_pair p l u dir t).lo (term_pair p l u dir t).hi (s + 9)
    (total_below n (λ c. fraction_total (exact_part dir) (exact_singles t (cell_at e c) (h c))))) (AllZip-length (CellEncloses s) p e encloses.cells)
    (over_cells p l u s e h encloses.cells within dir t)

pub heads_within : HeadsAreWithin
heads_within n d X l u some between = grind (arith)

-- The terms of a budget in the order of the listing: what its bounds are, and what they enclose.
-- the term at each place
pub at_place : (t d : Term) → get_or all_terms (place_of t) d ≡ t
at_place Storage d = refl
at_place x d = refl

pub place_within : (t : Term) → place_of t < length all_terms
place_within Storage = omega arith
place_within x = omega arith

-- the value of a bind that is Ok, and of its first part
bound : {A B E : Type 0} (x : Result A E) (f : A → Result B E) (b : B) → (x >>= f) ≡ Ok b → (a : A) × (x ≡ Ok a) × (f a ≡ Ok b)
bound (Ok a) f b e = (a, refl, e)
bound (Err r) f b e = absurd cc

abbrev value_or : {A E : Type 0} → A → Result A E → A
value_or d (Ok x) = x
value_or d (Err e) = d

chosen : (small : Bool) (x y : TermPair) (e : NoBound) → (if small then Ok y else Err e) ≡ Ok x → x ≡ y
chosen true x y e h = sym (ap (value_or y) h)
chosen false x y e h = absurd cc

module _ (p : List Entries) (l u : ℕ → ℤ) (dir : Dir) where
  term_is : (t : Term) (x : TermPair) → term_of p l u dir t ≡ Ok x → x ≡ term_pair p l u dir t
  unfolding term_of
  term_is t x e = chosen (is_small (term_pair p l u dir t)) x (term_pair p l u dir t) (too_large dir t) e

  here : (t d : Term) (ts : List Term) (x : TermPair) (ys : List TermPair) → x ≡ term_pair p l u dir t →
      ((j : ℕ) → j < length ts → get_or ys j no_pair ≡ term_pair p l u dir (get_or ts j d)) → (i : ℕ) → i < suc (length ts) → get_or (x ∷ ys) i no_pair ≡
      term_pair p l u dir (get_or (t ∷ ts) i d)
  here t d ts x ys is rest zero h = is
  here t d ts x ys is rest (suc j) h = rest j (omega arith)

  terms_are : (d : Term) (ts : List Term) (xs : List TermPair) → terms_of p l u dir ts ≡ Ok xs → (i : ℕ) → i < length ts → get_or xs i no_pair ≡ term_pair p l u dir (get_or ts i d)
  unfolding terms_of
  terms_are d [] xs e i h = absurd (omega arith)
  terms_are d (t ∷ ts) xs e i h =
      let (x, is_x, rest) = bound (term_of p l u dir t) (λ y. terms_of p l u dir ts >>= (λ ys. Ok (y ∷ ys))) xs e in
      let (ys, are_ys, whole) = bound (terms_of p l u dir ts) (λ ys. Ok (x ∷ ys)) xs rest in
      subst (λ (zs : List TermPair). get_or zs i no_pair ≡ term_pair p l u dir (get_or (t ∷ ts) i d)) (ap (value_or (x ∷ ys)) whole)
      (here t d ts x ys (term_is t x is_x) (terms_are d ts ys are_ys) i h)

  term_at : (xs : List TermPair) (t : Term) → terms_of p l u dir all_terms ≡ Ok xs → get_or xs (place_of t) no_pair ≡ term_pair p l u dir t
  term_at xs t e = terms_are t all_terms xs e (place_of t) (place_within t) ∙ ap (term_pair p l u dir) (at_place t t)

pub bounds_are : (p : List Entries) (l u : ℕ → ℤ) (b : Budget) → budget_of p l u ≡ Ok b → (dir : Dir) (t : Term) → bounds_in b dir t ≡ term_pair p l u dir t
unfolding budget_of
bounds_are p l u b e dir t =
    let (into, is_into, rest) = bound (terms_of p l u In all_terms) (λ into. terms_of p l u Out all_terms >>= (λ out. Ok (record { into = into; out = out }))) b e in
    let (out, is_out, whole) = bound (terms_of p l u Out all_terms) (λ out. Ok (record { into = into; out = out })) b rest in
    subst (λ (x : Budget). bounds_in x dir t ≡ term_pair p l u dir t) (ap (value_or (record { into = into; out = out })) whole) (either into out is_into is_out dir)
  where
    either : (into out : List TermPair) → terms_of p l u In all_terms ≡ Ok into → terms_of p l u Out all_terms ≡ Ok out → (d : Dir) →
        bounds_in (record { into = into; out = out }) d t ≡ term_pair p l u d t
    either into out is_into is_out In = term_at p l u In into t is_into
    either into out is_into is_out Out = term_at p l u Out out t is_out

pub budget_encloses : (p : List Entries) (l u : ℕ → ℤ) (r : Result Budget NoBound) → r ≡ budget_of p l u → IfOk r (λ b. EnclosesBudgets p l u b)
budget_encloses p l u (Ok b) e = λ s x h encloses within dir t.
    subst (λ (y : TermPair). EnclosesSigned y.lo y.hi (s + 9) (exact_term x h dir t)) (sym (bounds_are p l u b (sym e) dir t)) (term_enclosed p l u s x h encloses within dir t)
budget_encloses p l u (Err r) e = tt

-- Bounds that reach as far, term by term.
-- terms at one place are one
pub same_place : (s t : Term) → place_of s ≡ place_of t → s ≡ t
same_place s t e = sym (at_place s s) ∙ ap (λ (i : ℕ). get_or all_terms i s) e ∙ at_place t s

wider : (a b : TermPair) (k : ℕ) (f : Fraction) → ReachesAsFar a b → EnclosesSigned b.lo b.hi k f → EnclosesSigned a.lo a.hi k f
wider a b k f r h = record {
  lower = le_trans_z _ _ _ (mul_mono_right (den f) a.lo b.lo r.lower) h.lower;
  upper = le_trans_z _ _ _ h.upper (mul_mono_right (den f) b.hi a.hi r.upper);
}

pub cover_encloses : CoverEncloses
cover_encloses listed computed s e h covers encloses = λ dir t. wider (bounds_in listed dir t) (bounds_in computed dir t) (s + 9) _ (covers dir t) (encloses dir t)
