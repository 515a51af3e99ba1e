-- The flows of a cell's entries, list by list, are the single flows of each term; so each sum gains those of its term.
use Rattle.budget_bounds.proofs.Common.{◌≡◌, ◌+ℤ◌, refl, sym, ap, ◌∙◌, arith, false, List, [], ◌∷◌, map, ℤ, pos, ints, filter, Fixed, Flow, Dir, Term, Storage, ConstantHead, Wells, Drains}
use Rattle.budget_bounds.proofs.Common.{RiverLeakage, HeadDepBounds, Recharge, Et, Entries, TermPair, singles, parts, part, fixed_term, flow_term, is_term, flow_pair, capped_term, plus_pair, fixed_of}
use Rattle.budget_bounds.proofs.Common.{entry_pair, flows_of, ◌++◌, append-nil, FixedKind, FlowKind}
use Rattle.budget_bounds.proofs.Caps.{capped_twice, filter_all, parts_lo, parts_hi}
use Rattle.step_problem.specs.{drain_flow as drain_bound, evap_flow as evap_bound, fixed_flow as fixed_bound, river_flow as river_bound}
use Rattle.step_problem.specs.declared.entry.FixedKind.TheVariants as kinds
use Rattle.step_problem.specs.declared.entry.FlowKind.TheVariants as packages

filter_none : {X : Type 0} (xs : List X) → filter (λ x. false) xs ≡ []
filter_none [] = refl
filter_none (x ∷ xs) = filter_none xs

-- no entries to known heads, and no constant flows, are of another term
no_fixed : (t : Term) → is_term t Storage ≡ false → is_term t ConstantHead ≡ false → is_term t HeadDepBounds ≡ false → (xs : List Fixed) → fixed_of t xs ≡ []
no_fixed t a b d [] = refl
no_fixed t a b d (x ∷ xs) = rw (by_kind x.kind) (no_fixed t a b d xs)
  where
    by_kind : (k : FixedKind) → is_term t (fixed_term k) ≡ false
    by_kind kinds.Storage = a
    by_kind kinds.Constant = b
    by_kind kinds.General = d

no_flows : (t : Term) → is_term t Wells ≡ false → is_term t Recharge ≡ false → (xs : List Flow) → flows_of t xs ≡ []
no_flows t a b [] = refl
no_flows t a b (x ∷ xs) = rw (by_kind x.kind) (no_flows t a b xs)
  where
    by_kind : (k : FlowKind) → is_term t (flow_term k) ≡ false
    by_kind packages.Wells = a
    by_kind packages.Recharge = b

module _ (c : Entries) (l u : ℤ) where
  abbrev five_lists : Term → List TermPair
  five_lists t =
      map (entry_pair fixed_bound l u) (fixed_of t c.fixed) ++ map flow_pair (flows_of t c.flows) ++ map (entry_pair drain_bound l u) (filter (λ x. is_term t Drains) c.drains)
      ++ map (entry_pair river_bound l u) (filter (λ x. is_term t RiverLeakage) c.rivers) ++ map (entry_pair evap_bound l u) (filter (λ x. is_term t Et) c.evaps)

  are_singles : (t : Term) → five_lists t ≡ singles t c l u
  unfolding singles
  are_singles Storage = simp (no_flows Storage refl refl c.flows, filter_none c.drains, filter_none c.rivers, filter_none c.evaps, append-nil) refl
  are_singles ConstantHead = simp (no_flows ConstantHead refl refl c.flows, filter_none c.drains, filter_none c.rivers, filter_none c.evaps, append-nil) refl
  are_singles Wells = simp (no_fixed Wells refl refl refl c.fixed, filter_none c.drains, filter_none c.rivers, filter_none c.evaps, append-nil) refl
  are_singles Drains = simp (no_fixed Drains refl refl refl c.fixed, no_flows Drains refl refl c.flows, filter_all c.drains, filter_none c.rivers, filter_none c.evaps, append-nil) refl
  are_singles RiverLeakage = simp (
    no_fixed RiverLeakage refl refl refl c.fixed,
    no_flows RiverLeakage refl refl c.flows,
    filter_none c.drains,
    filter_all c.rivers,
    filter_none c.evaps,
    append-nil,
  ) refl
  are_singles HeadDepBounds = simp (no_flows HeadDepBounds refl refl c.flows, filter_none c.drains, filter_none c.rivers, filter_none c.evaps, append-nil) refl
  are_singles Recharge = simp (no_fixed Recharge refl refl refl c.fixed, filter_none c.drains, filter_none c.rivers, filter_none c.evaps, append-nil) refl
  are_singles Et = simp (no_fixed Et refl refl refl c.fixed, no_flows Et refl refl c.flows, filter_none c.drains, filter_none c.rivers, filter_all c.evaps) refl

module _ (dir : Dir) where
  -- a sum with the parts of these flows
  abbrev pub with_flows : TermPair → List TermPair → TermPair
  with_flows s xs = capped_term (plus_pair s (parts dir xs))

  none_added : (x : ℤ) → pos 0 +ℤ x ≡ x
  none_added x = omega (arith, ints)

  grouped : (a b c : ℤ) → a +ℤ (b +ℤ c) ≡ (a +ℤ b) +ℤ c
  grouped a b c = omega (arith, ints)

  parts-append : (xs ys : List TermPair) → parts dir (xs ++ ys) ≡ plus_pair (parts dir xs) (parts dir ys)
  unfolding parts
  parts-append [] ys = rw (none_added (parts dir ys).lo, none_added (parts dir ys).hi) refl
  parts-append (x ∷ xs) ys =
      ap (plus_pair (part dir x)) (parts-append xs ys) ∙ rw (grouped (part dir x).lo (parts dir xs).lo (parts dir ys).lo, grouped (part dir x).hi (parts dir xs).hi (parts dir ys).hi) refl

  more : (s m n : TermPair) (xs ys : List TermPair) → m ≡ with_flows s xs → n ≡ with_flows m ys → n ≡ with_flows s (xs ++ ys)
  more s m n xs ys first then_ =
      then_ ∙ ap (λ (z : TermPair). with_flows z ys) first ∙ capped_twice s (parts dir xs) (parts dir ys) (parts_lo dir ys) (parts_hi dir ys) ∙ ap
      (λ (z : TermPair). capped_term (plus_pair s z)) (sym (parts-append xs ys))

  pub cell_added : (c : Entries) (l u : ℤ) (t : Term) (s₀ s₁ s₂ s₃ s₄ s₅ : TermPair) → s₁ ≡
      with_flows s₀ (map (entry_pair fixed_bound l u) (fixed_of t c.fixed)) → s₂ ≡ with_flows s₁ (map flow_pair (flows_of t c.flows)) →
      s₃ ≡ with_flows s₂ (map (entry_pair drain_bound l u) (filter (λ x. is_term t Drains) c.drains)) → s₄ ≡
      with_flows s₃ (map (entry_pair river_bound l u) (filter (λ x. is_term t RiverLeakage) c.rivers)) →
      s₅ ≡ with_flows s₄ (map (entry_pair evap_bound l u) (filter (λ x. is_term t Et) c.evaps)) → s₅ ≡ with_flows s₀ (singles t c l u)
  cell_added c l u t s₀ s₁ s₂ s₃ s₄ s₅ fixed flows drains rivers evaps =
      let a = map (entry_pair fixed_bound l u) (fixed_of t c.fixed) in
      let b = map flow_pair (flows_of t c.flows) in
      let d = map (entry_pair drain_bound l u) (filter (λ x. is_term t Drains) c.drains) in
      let e = map (entry_pair river_bound l u) (filter (λ x. is_term t RiverLeakage) c.rivers) in
      let f = map (entry_pair evap_bound l u) (filter (λ x. is_term t Et) c.evaps) in
      more s₀ s₄ s₅ (a ++ b ++ d ++ e) f (more s₀ s₃ s₄ (a ++ b ++ d) e (more s₀ s₂ s₃ (a ++ b) d (more s₀ s₁ s₂ a b fixed flows) drains) rivers) evaps ∙ ap (with_flows s₀) (are_singles c l u t)
