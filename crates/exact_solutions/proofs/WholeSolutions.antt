-- Heads solve an exact step just where they solve its whole numbers.
use Rattle.exact_solutions.proofs.Common.{[], ◌*ℤ◌, ◌*◌, ◌<◌, ◌∙◌, ◌∷◌, ◌≡◌, List, ap, arith, length, map, pos, refl, subst, suc, sym, zero, ℕ, ℤ, mul-pos, ◌+ℤ◌, ◌-ℤ◌, inl, inr, All, Bool, true}
use Rattle.exact_solutions.proofs.Common.{false, cond, AllZip, Fraction, IsOver, Ratio, den, mul_assoc, SolvesStep, share, ExactCell, cell_at, no_cell, balance, HasLinkBack, AreLinked, ExactLink}
use Rattle.exact_solutions.proofs.Common.{IsMutual, whole_solves, CellOver, DrainOver, EvapOver, FixedOver, FlowOver, LinkOver, RiverOver, balance_over, EntryOver, over_zero, WholeCell, WholeEntry}
use Rattle.exact_solutions.proofs.Common.{no_whole, whole_at, whole_balance, AllZip-at, AllZip-length, WholeLink, whole_link, All-zip, last_factors_swap, IsSolution, ramps_from, a_of, b_of, q_of}
use Rattle.exact_solutions.proofs.Common.{scaled, scaled_entry, scaled_balance, true≢false, cases_Bool, ints, All-nil, All-cons, All-head, All-tail, All-contains, total, total-same, heads_over}
use Rattle.cell_balance.specs.{IsClosed}

AllZip-map : {X Y Z : Type 0} (R : X → Y → Type 0) (S : X → Z → Type 0) (f : Y → Z) → ((x : X) (y : Y) → R x y → S x (f y)) → (xs : List X) (ys : List Y) → AllZip R xs ys → AllZip S xs (map f ys)
AllZip-map R S f each [] [] h = tt
AllZip-map R S f each (x ∷ xs) (y ∷ ys) h = (each x y h.0, AllZip-map R S f each xs ys h.1)
AllZip-map _ _ f each _ _ h = absurd h

pub IsOver-scaled : (m d : ℕ) (f : Fraction) (z : ℤ) → IsOver m f z → IsOver (m * d) f (z *ℤ pos d)
IsOver-scaled m d f z h = record { is = sym (mul_assoc f.num (pos m) (pos d)) ∙ ap (λ (y : ℤ). y *ℤ pos d) h.is ∙ last_factors_swap z (pos (den f)) (pos d) }

module _ (k m d : ℕ) where
  entry_scaled : (r : Ratio) (top foot : Fraction) (w : WholeEntry) → EntryOver k m r top foot w → EntryOver k (m * d) r top foot (scaled_entry d w)
  entry_scaled r top foot w h = record { c = h.c; top = IsOver-scaled m d top w.top h.top; foot = IsOver-scaled m d foot w.foot h.foot }

  cell_scaled : (e : ExactCell) (w : WholeCell) → CellOver k m e w → CellOver k (m * d) e (scaled d w)
  cell_scaled e w h = record {
    flows = AllZip-map (FlowOver k m) (FlowOver k (m * d)) (λ z. z *ℤ pos d) (λ x y r.
        record { flow = subst (λ (n : ℕ). IsOver n x.flow (y *ℤ pos d)) (assoc k m d) (IsOver-scaled (k * m) d x.flow y r.flow) }) e.flows w.flows h.flows;
    links = AllZip-links e.links w.links h.links;
    fixed = AllZip-map (FixedOver k m) (FixedOver k (m * d)) (scaled_entry d) (λ x y r. entry_scaled x.conductance x.head x.head y r) e.fixed w.fixed h.fixed;
    rivers = AllZip-map (RiverOver k m) (RiverOver k (m * d)) (scaled_entry d) (λ x y r. entry_scaled x.conductance x.stage x.bottom y r) e.rivers w.rivers h.rivers;
    drains = AllZip-map (DrainOver k m) (DrainOver k (m * d)) (scaled_entry d) (λ x y r. entry_scaled x.conductance x.elevation x.elevation y r) e.drains w.drains h.drains;
    evaps = AllZip-map (EvapOver k m) (EvapOver k (m * d)) (scaled_entry d) (λ x y r. entry_scaled x.conductance x.surface x.extinction y r) e.evaps w.evaps h.evaps;
  }
    where
      assoc : (a b c : ℕ) → a * b * c ≡ a * (b * c)
      assoc a b c = omega arith

      AllZip-links : (xs : List _) (ys : List _) → AllZip (LinkOver k m) xs ys → AllZip (LinkOver k (m * d)) xs ys
      AllZip-links [] [] h = tt
      AllZip-links (x ∷ xs) (y ∷ ys) h = (record { same = h.0.same; c = h.0.c }, AllZip-links xs ys h.1)
      AllZip-links _ _ h = absurd h

  step_scaled : (e : List ExactCell) (w : List WholeCell) → AllZip (CellOver k m) e w → AllZip (CellOver k (m * d)) e (map (scaled d) w)
  step_scaled e w h = AllZip-map (CellOver k m) (CellOver k (m * d)) (scaled d) cell_scaled e w h

map_at : (d : ℕ) (w : List WholeCell) (i : ℕ) → whole_at (map (scaled d) w) i ≡ scaled d (whole_at w i)
map_at d [] i = refl
map_at d (u ∷ w) zero = refl
map_at d (u ∷ w) (suc i) = map_at d w i

map_length : (d : ℕ) (w : List WholeCell) → length (map (scaled d) w) ≡ length w
map_length d [] = refl
map_length d (u ∷ w) = ap suc (map_length d w)

pub share_is_over : (d : ℕ) (z : ℤ) → 0 < d → IsOver d (share d z) z
share_is_over d z some = record { is = ap (λ (k : ℕ). z *ℤ pos k) (omega arith) }

-- heads over d at which the balances of a step's whole numbers are zero solve the step
pub whole_balances_solve : (k d : ℕ) (e : List ExactCell) (w : List WholeCell) (X : ℕ → ℤ) → 0 < k → 0 < d → AllZip (CellOver k d) e w →
    ((c : ℕ) → c < length w → whole_balance (whole_at w c) (X c) X ≡ pos 0) → SolvesStep e d X
whole_balances_solve k d e w X some_k some_d over balanced c i =
    let sum = balance_over k d (share d (X c)) (X c) (share_is_over d (X c) some_d) (λ z. share d (X z)) X (λ z. share_is_over d (X z) some_d) (cell_at e c)
    (whole_at w c) (AllZip-at (CellOver k d) e w c no_cell no_whole over i) in
    over_zero (k * d) _ (mul-pos some_k some_d)
    (subst (λ (z : ℤ). IsOver (k * d) (balance (cell_at e c) (share d (X c)) (λ z. share d (X z))) z) (balanced c (omega (arith, i, AllZip-length (CellOver k d) e w over))) sum)

module _ (k m : ℕ) (some_k : 0 < k) (some_m : 0 < m) (e : List ExactCell) (w : List WholeCell) (over : AllZip (CellOver k m) e w) (both : IsMutual w) where
  -- heads over d that solve the whole numbers, over m * d solve the step
  pub solves_step : (d : ℕ) (X : ℕ → ℤ) → IsSolution (length w) (a_of w) (b_of w) (q_of w) (ramps_from 0 w) d X → SolvesStep e (m * d) X
  solves_step d X is = whole_balances_solve k (m * d) e (map (scaled d) w) X some_k (mul-pos some_m is.some) (step_scaled k m d e w over) (λ c i. at c (omega (arith, i, map_length d w)))
    where
      at : (c : ℕ) → c < length w → whole_balance (whole_at (map (scaled d) w) c) (X c) X ≡ pos 0
      at c i = subst (λ (u : WholeCell). whole_balance u (X c) X ≡ pos 0) (sym (map_at d w c)) (scaled_balance w d X c (both.range c i) ∙ is.solves c i)

  -- and heads over d that solve the step, times m, solve the whole numbers
  pub solves_whole : (d : ℕ) (X : ℕ → ℤ) → 0 < d → SolvesStep e d X → IsSolution (length w) (a_of w) (b_of w) (q_of w) (ramps_from 0 w) d (λ c. X c *ℤ pos m)
  solves_whole d X some solves = record { some = some; solves = λ c i. sym (scaled_balance w d (λ z. X z *ℤ pos m) c (both.range c i)) ∙ at c i }
    where
      heads : (c : ℕ) → IsOver (m * d) (share d (X c)) (X c *ℤ pos m)
      heads c = heads_over m d some (X c)

      at : (c : ℕ) → c < length w → whole_balance (scaled d (whole_at w c)) (X c *ℤ pos m) (λ z. X z *ℤ pos m) ≡ pos 0
      at c i =
          subst (λ (u : WholeCell). whole_balance u (X c *ℤ pos m) (λ z. X z *ℤ pos m) ≡ pos 0) (map_at d w c)
          (whole_solves k (m * d) e (map (scaled d) w) d X (λ z. X z *ℤ pos m) (step_scaled k m d e w over) solves heads c (omega (arith, i, map_length d w)))

-- Heads that are one lower over a set of cells that no link leaves: the flows over links stay, so the heads solve the step where all other flows of these cells stay too.
-- a cell without its links
abbrev pub without_links : WholeCell → WholeCell
without_links u = record { flows = u.flows; links = []; fixed = u.fixed; rivers = u.rivers; drains = u.drains; evaps = u.evaps }

abbrev pub lowered : (ℕ → Bool) → (ℕ → ℤ) → ℕ → ℤ
lowered inside Y k = Y k -ℤ cond (inside k) (pos 1) (pos 0)

pub balance-links : (u : WholeCell) (v : ℤ) (h : ℕ → ℤ) → whole_balance u v h ≡ total (whole_link h v) u.links +ℤ whole_balance (without_links u) v h
balance-links u v h = omega (arith, ints)

module _ (e : List ExactCell) (inside : ℕ → Bool) (linked : AreLinked e) (closed : IsClosed e inside) where
  -- no link leads out of the set, and none into it
  links_stay : (c : ℕ) → c < length e → All (λ x. inside x.cell ≡ inside c) (cell_at e c).links
  links_stay c i = elim (cases_Bool (inside c)) [
    | inl t ↦ rw t (closed c i t)
    | inr f ↦ rw f (outside f (cell_at e c).links (linked.ends c i) (linked.range c i))
  ]
    where
      one : inside c ≡ false → (x : ExactLink) → HasLinkBack e c x → x.cell < length e → inside x.cell ≡ false
      one f x back range = elim (cases_Bool (inside x.cell)) [
        | inl t ↦ absurd (true≢false (sym (All-contains (λ y. inside y.cell ≡ true) (cell_at e x.cell).links back.back (closed x.cell range t) back.is_there) ∙ ap inside back.leads_back ∙ f))
        | inr out ↦ out
      ]

      outside : inside c ≡ false → (xs : List ExactLink) → All (HasLinkBack e c) xs → All (λ x. x.cell < length e) xs → All (λ x. inside x.cell ≡ false) xs
      outside f [] back range = All-nil (λ x. inside x.cell ≡ false)
      outside f (x ∷ xs) back range =
          All-cons (λ x. inside x.cell ≡ false) x xs (one f x (All-head (HasLinkBack e c) x xs back) (All-head (λ x. x.cell < length e) x xs range))
          (outside f xs (All-tail (HasLinkBack e c) x xs back) (All-tail (λ x. x.cell < length e) x xs range))

  module _ (k m : ℕ) (w : List WholeCell) (over : AllZip (CellOver k m) e w) (Y : ℕ → ℤ) where
    links_same : (c : ℕ) → c < length e → total (whole_link (lowered inside Y) (lowered inside Y c)) (whole_at w c).links ≡ total (whole_link Y (Y c)) (whole_at w c).links
    links_same c i =
        let cell = AllZip-at (CellOver k m) e w c no_cell no_whole over i in
        total-same (λ x. inside x.cell ≡ inside c) (whole_link (lowered inside Y) (lowered inside Y c)) (whole_link Y (Y c)) (whole_at w c).links each
        (All-zip (LinkOver k m) (λ x. inside x.cell ≡ inside c) (λ x. inside x.cell ≡ inside c) (λ x y r h. sym (ap inside r.same) ∙ h) (cell_at e c).links
        (whole_at w c).links cell.links (links_stay c i))
      where
        level : (x y : ℤ) (s : Bool) → x -ℤ cond s (pos 1) (pos 0) -ℤ (y -ℤ cond s (pos 1) (pos 0)) ≡ x -ℤ y
        level x y true = omega (arith, ints)
        level x y false = omega (arith, ints)

        each : (x : WholeLink) → inside x.cell ≡ inside c → whole_link (lowered inside Y) (lowered inside Y c) x ≡ whole_link Y (Y c) x
        each x h = ap (λ (z : ℤ). pos x.c *ℤ z) (rw h (level (Y x.cell) (Y c) (inside c)))

    -- the other flows stay outside the set by themselves
    pub lowered_balances : ((c : ℕ) → c < length e → inside c ≡ true → whole_balance (without_links (whole_at w c)) (Y c -ℤ pos 1) Y ≡ whole_balance (without_links (whole_at w c)) (Y c) Y) →
        ((c : ℕ) → c < length w → whole_balance (whole_at w c) (Y c) Y ≡ pos 0) → (c : ℕ) → c < length w → whole_balance (whole_at w c) (lowered inside Y c) (lowered inside Y) ≡ pos 0
    lowered_balances stays zeros c i =
        let u = whole_at w c in
        let here : c < length e = omega (arith, i, AllZip-length (CellOver k m) e w over) in
        balance-links u (lowered inside Y c) (lowered inside Y) ∙ both _ _ _ _ (links_same c here) (elim (cases_Bool (inside c)) [
          | inl t ↦ rw t (stays c here t)
          | inr f ↦ rw f (ap (λ (z : ℤ). whole_balance (without_links u) z Y) (same (Y c)))
        ]) ∙ sym (balance-links u (Y c) Y) ∙ zeros c i
      where
        same : (y : ℤ) → y -ℤ pos 0 ≡ y
        same y = omega (arith, ints)

        both : (a b x y : ℤ) → a ≡ b → x ≡ y → a +ℤ x ≡ b +ℤ y
        both a b x y e f = omega (arith, ints)
