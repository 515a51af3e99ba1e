-- What all terms give more sums to 0: over all cells the flows over links cancel, and the balance of each cell of the differences is zero.
use Rattle.plan_enclosed.proofs.Common.{All, AllZip, AllZip-at, AllZip-length, AreLinked, Bool, ConstantHead, Drains, Et, ExactCell, ExactFixed, ExactFlow, FixedKind, Fraction, HeadDepBounds, IsOver}
use Rattle.plan_enclosed.proofs.Common.{List, Recharge, RiverLeakage, SolvesStep, Storage, Term, Wells, [], all_terms, ap, arith, cell_at, cond, drop, exact_fixed_of, false, filter, fixed_flow}
use Rattle.plan_enclosed.proofs.Common.{fixed_term, fraction_total, ints, is_term, length, link_flow, map, mul-pos, neg_ℤ, no_cell, opposite, pos, refl, share, suc, sym, take, total, total_below}
use Rattle.plan_enclosed.proofs.Common.{true, zero, ℕ, ℤ, ◌*ℤ◌, ◌*◌, ◌+ℤ◌, ◌<◌, ◌∙◌, ◌∷◌, ◌≡◌, step_common, IsOver-negated, IsOver-none, IsOver-plus, IsOver-total, zero_over, WholeCell, WholeEntry}
use Rattle.plan_enclosed.proofs.Common.{no_whole, whole_at, whole_balance, whole_fixed, whole_link, no_link, All-from_get_or, total_neg}
use Rattle.cell_balance.proofs.{Encloses.whole_solves, Encloses.whole_step, ExactLaws.heads_over, ExactLaws.links_cancel, Over.CellOver, Over.FixedOver, Over.FlowOver, Over.LinkOver, Over.fixed_over}
use Rattle.cell_balance.proofs.{Over.link_over}
use Rattle.plan_enclosed.proofs.Gains.{after_rivers, exact_drains, exact_evaps, exact_known, exact_ramps, exact_rivers, gain, exact_gains}
use Rattle.plan_enclosed.proofs.Lists.{AllZip-drop, AllZip-take, total_map}
use Rattle.step_problem.specs.declared.entry.FixedKind.TheVariants as kinds

-- sums over parts of a list
total-parts : {X : Type 0} (f : X → ℤ) (n : ℕ) (xs : List X) → total f (take n xs) +ℤ total f (drop n xs) ≡ total f xs
total-parts f zero xs = omega (arith, ints)
total-parts f (suc n) [] = refl
total-parts f (suc n) (x ∷ xs) = omega (arith, ints, total-parts f n xs)

-- the sum of the second elements whose first ones a test keeps
abbrev pub among : (ExactFixed → Bool) → (WholeEntry → ℤ) → List ExactFixed → List WholeEntry → ℤ
among p f [] ys = pos 0
among p f (x ∷ xs) [] = pos 0
among p f (x ∷ xs) (y ∷ ys) = cond (p x) (f y) (pos 0) +ℤ among p f xs ys

abbrev of : Term → ExactFixed → Bool
of t x = is_term t (fixed_term x.kind)

module _ (D : ℕ) (R : ExactFixed → WholeEntry → Type 0) (f : ExactFixed → Fraction) (g : WholeEntry → ℤ) (each : (x : ExactFixed) (y : WholeEntry) → R x y → IsOver D (f x) (g y))
  where
    one_among : (p : ExactFixed → Bool) (x : ExactFixed) (y : WholeEntry) (xs : List ExactFixed) (ys : List WholeEntry) → R x y →
        IsOver D (fraction_total f (filter p xs)) (among p g xs ys) → (b : Bool) → p x ≡ b → IsOver D (fraction_total f (filter p (x ∷ xs))) (among p g (x ∷ xs) (y ∷ ys))
    one_among p x y xs ys r rest true e = rw e (IsOver-plus D (f x) (fraction_total f (filter p xs)) (g y) (among p g xs ys) (each x y r) rest)
    one_among p x y xs ys r rest false e = rw (e, none_more (among p g xs ys)) rest
      where
        none_more : (z : ℤ) → pos 0 +ℤ z ≡ z
        none_more z = omega (arith, ints)

    among_over : (p : ExactFixed → Bool) (xs : List ExactFixed) (ys : List WholeEntry) → AllZip R xs ys → IsOver D (fraction_total f (filter p xs)) (among p g xs ys)
    among_over p [] [] h = IsOver-none D
    among_over p [] (y ∷ ys) h = absurd h
    among_over p (x ∷ xs) [] h = absurd h
    among_over p (x ∷ xs) (y ∷ ys) h = one_among p x y xs ys h.0 (among_over p xs ys h.1) (p x) refl

one_of_three : (k : FixedKind) (a : ℤ) → cond (is_term Storage (fixed_term k)) a (pos 0) +ℤ (cond (is_term ConstantHead (fixed_term k)) a (pos 0)
    +ℤ cond (is_term HeadDepBounds (fixed_term k)) a (pos 0)) ≡ a
one_of_three kinds.Storage a = omega (arith, ints)
one_of_three kinds.Constant a = omega (arith, ints)
one_of_three kinds.General a = omega (arith, ints)

three_kinds : (R : ExactFixed → WholeEntry → Type 0) (g : WholeEntry → ℤ) (xs : List ExactFixed) (ys : List WholeEntry) → AllZip R xs ys →
    among (of Storage) g xs ys +ℤ among (of ConstantHead) g xs ys +ℤ among (of HeadDepBounds) g xs ys ≡ total g ys
three_kinds R g [] [] h = refl
three_kinds R g [] (y ∷ ys) h = absurd h
three_kinds R g (x ∷ xs) [] h = absurd h
three_kinds R g (x ∷ xs) (y ∷ ys) h = omega (arith, ints, one_of_three x.kind (g y), three_kinds R g xs ys h.1)

-- a cell of the differences without ramps, over whole numbers
module _ (k m : ℕ) (z : Fraction) (y : ℤ) (own : IsOver m z y) (x g : ExactCell) (w : WholeCell) (over : CellOver k m g w) where
  abbrev taken : WholeEntry → ℤ
  taken e = neg_ℤ (whole_fixed y e)

  abbrev w_known : List WholeEntry
  w_known = take (length x.fixed) w.fixed

  abbrev w_ramps : List WholeEntry
  w_ramps = drop (length x.fixed) w.fixed

  abbrev w_others : List WholeEntry
  w_others = drop (length x.rivers) w_ramps

  -- what a term gives more
  abbrev pub gain_of : Term → ℤ
  gain_of Storage = among (of Storage) taken (exact_known x g) w_known
  gain_of ConstantHead = among (of ConstantHead) taken (exact_known x g) w_known
  gain_of Wells = total (λ q. neg_ℤ q) w.flows
  gain_of Drains = total taken (take (length x.drains) w_others)
  gain_of RiverLeakage = total taken (take (length x.rivers) w_ramps)
  gain_of HeadDepBounds = among (of HeadDepBounds) taken (exact_known x g) w_known
  gain_of Recharge = pos 0
  gain_of Et = total taken (drop (length x.drains) w_others)

  one_over : (b : ExactFixed) (e : WholeEntry) → FixedOver k m b e → IsOver (k * m) (gain z b) (taken e)
  one_over b e r = IsOver-negated (k * m) (fixed_flow z b) (whole_fixed y e) (fixed_over k m z y own b e r)

  known_over : AllZip (FixedOver k m) (exact_known x g) w_known
  known_over = AllZip-take (FixedOver k m) (length x.fixed) g.fixed w.fixed over.fixed

  ramps_over : AllZip (FixedOver k m) (exact_ramps x g) w_ramps
  ramps_over = AllZip-drop (FixedOver k m) (length x.fixed) g.fixed w.fixed over.fixed

  others_over : AllZip (FixedOver k m) (after_rivers x g) w_others
  others_over = AllZip-drop (FixedOver k m) (length x.rivers) (exact_ramps x g) w_ramps ramps_over

  all_over : (bs : List ExactFixed) (es : List WholeEntry) → AllZip (FixedOver k m) bs es → IsOver (k * m) (fraction_total (λ q. q) (map (gain z) bs)) (total taken es)
  all_over bs es h = rw (total_map (gain z) bs) (IsOver-total (FixedOver k m) (k * m) (gain z) taken one_over bs es h)

  kind_over : (t : Term) → IsOver (k * m) (fraction_total (λ q. q) (map (gain z) (exact_fixed_of t (exact_known x g)))) (among (of t) taken (exact_known x g) w_known)
  kind_over t = rw (total_map (gain z) (exact_fixed_of t (exact_known x g)))
      (among_over (k * m) (FixedOver k m) (gain z) taken one_over (of t) (exact_known x g) w_known known_over)

  pub gains_over : (t : Term) → IsOver (k * m) (fraction_total (λ q. q) (exact_gains t x g z)) (gain_of t)
  unfolding exact_gains
  gains_over Storage = kind_over Storage
  gains_over ConstantHead = kind_over ConstantHead
  gains_over Wells =
      rw (total_map (λ (q : ExactFlow). opposite q.flow) g.flows)
      (IsOver-total (FlowOver k m) (k * m) (λ (q : ExactFlow). opposite q.flow) (λ (q : ℤ). neg_ℤ q) (λ e q r. IsOver-negated (k * m) e.flow q r.flow) g.flows w.flows over.flows)
  gains_over Drains = all_over (exact_drains x g) (take (length x.drains) w_others) (AllZip-take (FixedOver k m) (length x.drains) (after_rivers x g) w_others others_over)
  gains_over RiverLeakage = all_over (exact_rivers x g) (take (length x.rivers) w_ramps) (AllZip-take (FixedOver k m) (length x.rivers) (exact_ramps x g) w_ramps ramps_over)
  gains_over HeadDepBounds = kind_over HeadDepBounds
  gains_over Recharge = IsOver-none (k * m)
  gains_over Et = all_over (exact_evaps x g) (drop (length x.drains) w_others) (AllZip-drop (FixedOver k m) (length x.drains) (after_rivers x g) w_others others_over)

  -- together they give what flows in over links, where the balance is 0 and there are no ramps
  no_entries_total : (f : WholeEntry → ℤ) (es : List WholeEntry) → length es ≡ 0 → total f es ≡ pos 0
  no_entries_total f [] e = refl
  no_entries_total f (e ∷ es) h = absurd (omega arith)

  pub gains_balance : (Y : ℕ → ℤ) → g.rivers ≡ [] → g.drains ≡ [] → g.evaps ≡ [] → whole_balance w y Y ≡ pos 0 → total gain_of all_terms ≡ total (whole_link Y y) w.links
  gains_balance Y r d e none =
      let rivers = no_entries_total (Rattle.cell_balance.proofs.Zips.whole_river y) w.rivers (sym (AllZip-length _ g.rivers w.rivers over.rivers) ∙ ap length r) in
      let drains = no_entries_total (Rattle.cell_balance.proofs.Zips.whole_drain y) w.drains (sym (AllZip-length _ g.drains w.drains over.drains) ∙ ap length d) in
      let evaps = no_entries_total (Rattle.cell_balance.proofs.Zips.whole_evap y) w.evaps (sym (AllZip-length _ g.evaps w.evaps over.evaps) ∙ ap length e) in
      omega (
        arith,
        ints,
        none,
        rivers,
        drains,
        evaps,
        three_kinds (FixedOver k m) taken (exact_known x g) w_known known_over,
        total-parts taken (length x.fixed) w.fixed,
        total-parts taken (length x.rivers) w_ramps,
        total-parts taken (length x.drains) w_others,
        total_neg (whole_fixed y) w.fixed,
        total_neg (λ (q : ℤ). q) w.flows,
      )

-- the terms of a step of differences over a denominator, which sum to 0
pub record GainsOver (e g : List ExactCell) (zs : ℕ → Fraction) : Type 0 where
  pub D : ℕ
  pub some : 0 < D
  pub value : Term → ℤ
  pub are : (t : Term) → IsOver D (total_below (length g) (λ c. fraction_total (λ q. q) (exact_gains t (cell_at e c) (cell_at g c) (zs c)))) (value t)
  pub none : total value all_terms ≡ pos 0

-- the terms and the links of the first n cells
record CellsOver (e g : List ExactCell) (zs : ℕ → Fraction) (D n : ℕ) : Type 0 where
  value : Term → ℤ
  links : ℤ
  are : (t : Term) → IsOver D (total_below n (λ c. fraction_total (λ q. q) (exact_gains t (cell_at e c) (cell_at g c) (zs c)))) (value t)
  are_links : IsOver D (total_below n (λ c. fraction_total (link_flow zs (zs c)) (cell_at g c).links)) links
  same : total value all_terms ≡ links

total-plus : (f h : Term → ℤ) (ts : List Term) → total (λ t. f t +ℤ h t) ts ≡ total f ts +ℤ total h ts
total-plus f h [] = refl
total-plus f h (t ∷ ts) = omega (arith, ints, total-plus f h ts)

module _ (e g : List ExactCell) (d : ℕ) (Z : ℕ → ℤ) (linked : AreLinked g) (some : 0 < d) (solves : SolvesStep g d Z)
    (no_rivers : (c : ℕ) → c < length g → (cell_at g c).rivers ≡ []) (no_drains : (c : ℕ) → c < length g → (cell_at g c).drains ≡ [])
    (no_evaps : (c : ℕ) → c < length g → (cell_at g c).evaps ≡ []) where
  abbrev zs : ℕ → Fraction
  zs c = share d (Z c)

  module _ (k m : ℕ) (w : List WholeCell) (over : AllZip (CellOver k m) g w) (Y : ℕ → ℤ) (heads : (c : ℕ) → IsOver m (zs c) (Y c)) where
    cell_more : (n : ℕ) → n < length g → CellsOver e g zs (k * m) n → CellsOver e g zs (k * m) (suc n)
    cell_more n here rest = record {
      value = λ t. rest.value t +ℤ gains t;
      links = rest.links +ℤ flows_over_links;
      are = λ t. IsOver-plus (k * m) _ _ _ _ (rest.are t) (gains_over k m (zs n) (Y n) (heads n) (cell_at e n) (cell_at g n) (whole_at w n) cell t);
      are_links = IsOver-plus (k * m) _ _ _ _ rest.are_links
          (IsOver-total (LinkOver k m) (k * m) _ _ (link_over k m (zs n) (Y n) (heads n) zs Y heads) (cell_at g n).links (whole_at w n).links cell.links);
      same = total-plus rest.value gains all_terms ∙ joined _ _ _ _ rest.same here_same;
    }
      where
        cell : CellOver k m (cell_at g n) (whole_at w n)
        cell = AllZip-at (CellOver k m) g w n no_cell no_whole over here

        gains : Term → ℤ
        gains t = gain_of k m (zs n) (Y n) (heads n) (cell_at e n) (cell_at g n) (whole_at w n) cell t

        flows_over_links : ℤ
        flows_over_links = total (whole_link Y (Y n)) (whole_at w n).links

        here_same : total gains all_terms ≡ flows_over_links
        here_same = gains_balance k m (zs n) (Y n) (heads n) (cell_at e n) (cell_at g n) (whole_at w n) cell Y (no_rivers n here) (no_drains n here) (no_evaps n here)
            (whole_solves k m g w d Z Y over solves heads n (omega (arith, here, AllZip-length (CellOver k m) g w over)))

        joined : (a b l p : ℤ) → a ≡ l → b ≡ p → a +ℤ b ≡ l +ℤ p
        joined a b l p s t = omega (arith, ints)

    cells_over : (n : ℕ) → ((c : ℕ) → c < n → c < length g) → CellsOver e g zs (k * m) n
    cells_over zero inside = record {
      value = λ t. pos 0;
      links = pos 0;
      are = λ t. IsOver-none (k * m);
      are_links = IsOver-none (k * m);
      same = refl;
    }
    cells_over (suc n) inside = cell_more n (inside n (omega arith)) (cells_over n (λ c i. inside c (omega arith)))

    all_gains : 0 < k * m → GainsOver e g zs
    all_gains some_product = record {
      D = k * m;
      some = some_product;
      value = all.value;
      are = all.are;
      none = all.same ∙ zero_over (k * m) _ all.links all.are_links (links_cancel g (λ c. true) d Z linked (λ c i t. all_true (cell_at g c)) some);
    }
      where
        all : CellsOver e g zs (k * m) (length g)
        all = cells_over (length g) (λ c i. i)

        all_true : (c : ExactCell) → All (λ x. true ≡ true) c.links
        all_true c = All-from_get_or (λ x. true ≡ true) c.links no_link (λ i h. refl)

  pub gains_none : GainsOver e g zs
  gains_none =
      let (n, some_n, common) = step_common g in
      let (w, over) = whole_step n 1 d g common in
      all_gains (n * 1) (n * d) w over (λ c. Z c *ℤ pos n) (λ c. heads_over n d some (Z c)) (mul-pos {m = n * 1} {n = n * d} (omega arith) (mul-pos some_n some))
