-- The law of exact steps, from their whole numbers over common denominators.
use Rattle.plan_conductances.proofs.Common.{AreStepsOfAWell, by_lt_z, ints, AreMutual, ramp_flow, IsOver-plus, IsOver-none, IsOver-signed, IsOver-total, positive_times, zero_over, All-zip}
use Rattle.plan_conductances.proofs.Common.{AllZip-compose, WholeCell, WholeEntry, WholeLink, whole_at, AtMost, den, ◌≡◌, ℕ, Bool, true, false, ◌*◌, ◌<◌, ◌≤◌, sym, refl, subst, ◌∙◌, arith, inl, inr}
use Rattle.plan_conductances.proofs.Common.{cond, nat_eq, mul-pos, ℤ, pos, ◌+ℤ◌, ◌-ℤ◌, ◌*ℤ◌, ◌≤ℤ◌, ◌<ℤ◌, List, [], ◌∷◌, length, AllZip, ExactCell, ExactLink, SolvesStep, cell_at, share, Same-sym}
use Rattle.plan_conductances.proofs.Common.{le-antisym, le-of, mul_mono_right, Fraction, IsOver, as_fraction, whole, DrawdownFalls, IsCellOfFlow, IsOfOneWell, LinkConductsAtMost, at_well}
use Rattle.plan_conductances.proofs.Common.{known_conductance, whole_conductance, mul_assoc, same_is_over, total}
use Rattle.cell_balance.proofs.{Denominators.product, Denominators.cell_den, Denominators.step_common, Denominators.Goes-first, Denominators.Goes-second, Denominators.Goes-trans, Enclosing.over_le}
use Rattle.cell_balance.proofs.{Enclosing.le_over, Conducting.both_ways, Dry.weight, Dry.IsMutual, Dry.total-none, Encloses.whole_step, ExactLaws.cell_over, ExactLaws.same_length}
use Rattle.cell_balance.proofs.{ExactLaws.heads_over, Mutual.mutual_whole, Over.CellOver, Over.FixedOver, Over.FlowOver, Over.LinkOver, Over.RiverOver, Over.DrainOver, Over.EvapOver}
use Rattle.cell_balance.proofs.{WholeBalances.a_of, WholeBalances.b_of, WholeBalances.known_flow, WholeBalances.own_flow, WholeBalances.q_of, WholeBalances.ramp_gives, WholeBalances.ramps_at_cell}
use Rattle.cell_balance.proofs.{WholeBalances.ramps_from, WholeBalances.known_conductance as known_whole}
use Rattle.std.proofs.Math.IntN.{zero-*ℤ, *ℤ-zero, *ℤ_comm}
use Rattle.std.proofs.lemmas.Bool.{cases_eq, eq-eqb, ne_eqb}
use Rattle.exact_solutions.proofs.{LinearSteps.net_flow-scaled, WholeSolutions.solves_whole}
use Rattle.plan_conductances.proofs.Energy.{head_falls, leaving}

-- one fraction has one numerator over a denominator
one_numerator : (d : ℕ) (f : Fraction) (y z : ℤ) → IsOver d f y → IsOver d f z → y ≡ z
one_numerator d f y z p o = le-antisym y z (over_le d f f y z p o self) (over_le d f f z y o p self)
  where
    self : AtMost f f
    self = record { at_most = le-of _ _ refl }

none_right : {X Y : Type 0} (R : X → Y → Type 0) (xs : List X) (ys : List Y) → xs ≡ [] → AllZip R xs ys → ys ≡ []
none_right R xs ys e h = none ys (subst (λ (zs : List _). AllZip R zs ys) e h)
  where
    none : (ys : List _) → AllZip R [] ys → ys ≡ []
    none [] h = refl
    none (y ∷ ys) h = absurd h

known_total : (xs : List WholeEntry) → total (λ x. pos x.c) xs ≡ pos (known_whole xs)
known_total [] = refl
known_total (x ∷ xs) = rw (known_total xs) (omega (arith, ints))

module _ (k m : ℕ) (x : ExactCell) (u : WholeCell) (over : CellOver k m x u) where
  -- what a cell's branches to known heads conduct
  known_over : IsOver k (known_conductance x) (pos (known_whole u.fixed))
  known_over = subst (λ (z : ℤ). IsOver k (known_conductance x) z) (known_total u.fixed)
      (IsOver-total (FixedOver k m) k (λ b. as_fraction b.conductance) (λ y. pos y.c) (λ b y r. IsOver-signed k b.conductance y.c r.c) x.fixed u.fixed over.fixed)

  module _ (q : Fraction) (is : IsCellOfFlow q x) where
    no_rivers : u.rivers ≡ []
    no_rivers = none_right (RiverOver k m) x.rivers u.rivers is.no_ramps.0 over.rivers

    no_drains : u.drains ≡ []
    no_drains = none_right (DrainOver k m) x.drains u.drains is.no_ramps.1 over.drains

    no_evaps : u.evaps ≡ []
    no_evaps = none_right (EvapOver k m) x.evaps u.evaps is.no_ramps.2 over.evaps

    -- its constant flow
    flow_over : IsOver (k * m) q (own_flow u)
    flow_over =
        rw no_rivers (rw (total-none (λ (y : WholeEntry). y.top ≡ pos 0) known_flow u.fixed (λ y e. rw e (*ℤ-zero (pos y.c)))
        (All-zip (FixedOver k m) (λ b. b.head.num ≡ pos 0) (λ y. y.top ≡ pos 0) (λ b y r h. zero_over m b.head y.top r.top h) x.fixed u.fixed over.fixed is.known))
        (rw (plain (total (λ q. q) u.flows)) (same_is_over (k * m) q _ _ (Same-sym is.flow)
        (IsOver-total (FlowOver k m) (k * m) (λ f. f.flow) (λ q. q) (λ f z r. r.flow) x.flows u.flows over.flows))))
      where
        plain : (z : ℤ) → z +ℤ pos 0 +ℤ pos 0 ≡ z
        plain z = omega (arith, ints)

    whole_over : IsOver k (whole_conductance x) (pos (known_whole u.fixed))
    whole_over =
        rw (is.no_ramps.0, is.no_ramps.1, is.no_ramps.2) (rw (plain (pos (known_whole u.fixed)))
        (IsOver-plus k _ _ _ _ known_over (IsOver-plus k _ _ _ _ (IsOver-none k) (IsOver-plus k _ _ _ _ (IsOver-none k) (IsOver-none k)))))
      where
        plain : (z : ℤ) → z ≡ z +ℤ (pos 0 +ℤ (pos 0 +ℤ pos 0))
        plain z = omega (arith, ints)

-- what links conduct to a cell
record IsMore (u v : WholeLink) : Type 0 where
  same : v.cell ≡ u.cell
  most : u.c ≤ v.c

weight_grows : (us vs : List WholeLink) (j : ℕ) → AllZip IsMore us vs → weight us j ≤ℤ weight vs j
weight_grows [] [] j h = omega (arith, ints)
weight_grows (u ∷ us) (v ∷ vs) j h =
    rw h.0.same (elim (cases_eq u.cell j) [
      | inl e ↦ rw (eq-eqb u.cell j e) (omega (arith, ints, h.0.most, weight_grows us vs j h.1))
      | inr e ↦ rw (ne_eqb u.cell j e) (omega (arith, ints, weight_grows us vs j h.1))
    ])
weight_grows _ _ j h = absurd h

-- of two links of which the one conducts at most what the other does, so do their whole numbers
module _ (k m : ℕ) where
  record IsWithin (u : WholeLink) (r : ExactLink) : Type 0 where
    same : r.cell ≡ u.cell
    within : (c : ℕ) → IsOver k (as_fraction r.conductance) (pos c) → u.c ≤ c

  links_within : (xs : List ExactLink) (us : List WholeLink) (ys : List ExactLink) → AllZip (LinkOver k m) xs us → AllZip LinkConductsAtMost xs ys → AllZip IsWithin us ys
  links_within [] [] [] h l = tt
  links_within (x ∷ xs) (u ∷ us) (y ∷ ys) h l = (record { same = l.0.0 ∙ h.0.same; within = at_most }, links_within xs us ys h.1 l.1)
    where
      at_most : (c : ℕ) → IsOver k (as_fraction y.conductance) (pos c) → u.c ≤ c
      at_most c over = let le = over_le k _ _ _ _ (IsOver-signed k x.conductance u.c h.0.c) over l.0.1 in omega (arith, ints)
  links_within [] [] (y ∷ ys) h l = absurd l
  links_within [] (u ∷ us) ys h l = absurd h
  links_within (x ∷ xs) [] ys h l = absurd h
  links_within (x ∷ xs) (u ∷ us) [] h l = absurd l

  links_more : (x y : ExactCell) (u v : WholeCell) → CellOver k m x u → CellOver k m y v → AllZip LinkConductsAtMost x.links y.links → AllZip IsMore u.links v.links
  links_more x y u v less more links =
      AllZip-compose IsWithin (LinkOver k m) IsMore (λ u. Unit {0}) (λ u r v h s p. record { same = sym s.same ∙ h.same; most = h.within v.c (IsOver-signed k r.conductance v.c s.c) })
      u.links y.links v.links (links_within x.links u.links y.links less.links links) more.links (λ k d i. tt)

-- The network of a step of one well over `count` cells: the flow t leaves cell w at the heads X.
record IsNetwork (count : ℕ) (ws : List WholeCell) (w : ℕ) (t : ℤ) (X : ℕ → ℤ) : Type 0 where
  both : AreMutual count (a_of ws)
  leaves : (c : ℕ) → c < count → leaving count (a_of ws) (b_of ws) X c ≡ cond (nat_eq w c) t (pos 0)

module _ (k m : ℕ) (some_k : 0 < k) (some_m : 0 < m) (e : List ExactCell) (ws : List WholeCell) (over : AllZip (CellOver k m) e ws) (w : ℕ) (q : Fraction) (is : IsOfOneWell w q e) where
  cell : (c : ℕ) → c < length e → CellOver k m (cell_at e c) (whole_at ws c)
  cell c i = cell_over k m e ws over c i

  flow_at : (c : ℕ) → c < length e → IsOver (k * m) (at_well w q c) (q_of ws c)
  flow_at c i = flow_over k m (cell_at e c) (whole_at ws c) (cell c i) (at_well w q c) (is.cells c i)

  -- the flow at the well's cell, and at the others
  at_the_well : IsOver (k * m) q (q_of ws w)
  at_the_well = subst (λ (f : Fraction). IsOver (k * m) f (q_of ws w)) (rw (eq-eqb w w refl) refl) (flow_at w is.inside)

  flow_is : (t : ℤ) → q_of ws w ≡ t → (c : ℕ) → c < length e → q_of ws c ≡ cond (nat_eq w c) t (pos 0)
  flow_is t same c i = elim (cases_eq w c) [
    | inl e ↦ rw (eq-eqb w c e) (subst (λ (z : ℕ). q_of ws z ≡ t) e same)
    | inr e ↦ rw (ne_eqb w c e) (zero_over (k * m) (whole (pos 0)) (q_of ws c) (subst (λ (f : Fraction). IsOver (k * m) f (q_of ws c)) (rw (ne_eqb w c e) refl) (flow_at c i)) refl)
  ]

  -- heads over d that solve the step, as whole numbers over m * d * j
  network : (d j : ℕ) (X : ℕ → ℤ) (t : ℤ) → 0 < d → SolvesStep e d X → q_of ws w ≡ t → IsNetwork (length e) ws w (pos (d * j) *ℤ t) (λ c. (X c *ℤ pos m) *ℤ pos j)
  network d j X t some solves same = record {
    both = subst (λ (n : ℕ). AreMutual n (a_of ws)) count (both_ways ws is_mutual);
    leaves = λ c i. leaves c i ∙ rw (flow_is t same c i) (within (nat_eq w c) (pos (d * j)) t);
  }
    where
      count : length ws ≡ length e
      count = sym (same_length k m e ws over)

      is_mutual : IsMutual ws
      is_mutual = mutual_whole k m e ws is.linked over

      within : (s : Bool) (x t : ℤ) → x *ℤ cond s t (pos 0) ≡ cond s (x *ℤ t) (pos 0)
      within true x t = refl
      within false x t = *ℤ-zero x

      no_ramps : (c : ℕ) → c < length e → total (ramp_flow (d * j) ((X c *ℤ pos m) *ℤ pos j) c) (ramps_from 0 ws) ≡ pos 0
      no_ramps c i =
          ramps_at_cell (ramp_gives (d * j) ((X c *ℤ pos m) *ℤ pos j)) c ws
          ∙ rw (
            no_rivers k m (cell_at e c) (whole_at ws c) (cell c i) (at_well w q c) (is.cells c i),
            no_drains k m (cell_at e c) (whole_at ws c) (cell c i) (at_well w q c) (is.cells c i),
            no_evaps k m (cell_at e c) (whole_at ws c) (cell c i) (at_well w q c) (is.cells c i),
          ) refl

      leaves : (c : ℕ) → c < length e → leaving (length e) (a_of ws) (b_of ws) (λ z. (X z *ℤ pos m) *ℤ pos j) c ≡ pos (d * j) *ℤ q_of ws c
      leaves c i = subst (λ (n : ℕ). leaving n (a_of ws) (b_of ws) (λ z. (X z *ℤ pos m) *ℤ pos j) c ≡ pos (d * j) *ℤ q_of ws c) count
          (out _ _ _ _ (net_flow-scaled (length ws) (a_of ws) (b_of ws) (q_of ws) (ramps_from 0 ws) d j (λ z. X z *ℤ pos m) c
          ∙ rw ((solves_whole k m some_k some_m e ws over is_mutual d X some solves).solves c (omega (arith, i, count))) (zero-*ℤ (pos j))) (no_ramps c i))
        where
          out : (l t b r : ℤ) → l +ℤ (t -ℤ b) +ℤ r ≡ pos 0 → r ≡ pos 0 → b -ℤ l ≡ t
          out l t b r e f = omega (arith, ints)

-- a fraction above 0 has a numerator above 0
positive_over : (d : ℕ) (f : Fraction) (z : ℤ) → 0 < d → pos 0 <ℤ f.num → IsOver d f z → pos 0 <ℤ z
positive_over d f z some h over = by_lt_z (pos 0) z (λ lt. lt) (λ le.
    let less = mul_mono_right (den f) z (pos 0) le in
    absurd (clash _ _ _ (positive_times f.num d some h) over.is less (zero-*ℤ (pos (den f)))))
  where
    clash : (x y o : ℤ) → pos 0 <ℤ x → x ≡ y → y ≤ℤ o → o ≡ pos 0 → ⊥
    clash x y o h e k f = omega (arith, ints)

-- Two such networks of which the one conducts at most what the other does: by the whole numbers of both steps.
module _ (h m : ℕ) (some_h : 0 < h) (some_m : 0 < m) (w : ℕ) (q : Fraction) (e f : List ExactCell) (d k : ℕ) (X Y : ℕ → ℤ) (are : AreStepsOfAWell w q e f d k X Y)
    (ws vs : List WholeCell) (over_e : AllZip (CellOver h m) e ws) (over_f : AllZip (CellOver h m) f vs) where
  many : length f ≡ length e
  many = are.conducts.as_many

  right : (i : ℕ) → i < length e → CellOver h m (cell_at f i) (whole_at vs i)
  right i here = cell_over h m f vs over_f i (omega (arith, here, many))

  links_grow : (i j : ℕ) → i < length e → j < length e → a_of ws i j ≤ℤ a_of vs i j
  links_grow i j here there = weight_grows (whole_at ws i).links (whole_at vs i).links j
      (links_more h m (cell_at e i) (cell_at f i) (whole_at ws i) (whole_at vs i) (cell_over h m e ws over_e i here) (right i here) (are.conducts.links i here))

  known_grows : (i : ℕ) → i < length e → b_of ws i ≤ b_of vs i
  known_grows i here = from_whole (over_le h _ _ _ _
      (whole_over h m (cell_at e i) (whole_at ws i) (cell_over h m e ws over_e i here) (at_well w q i) (are.less.cells i here))
      (known_over h m (cell_at f i) (whole_at vs i) (right i here)) (are.conducts.known i here))
    where
      from_whole : {x y : ℕ} → pos x ≤ℤ pos y → x ≤ y
      from_whole h = omega (arith, ints)

  falls : ((Y w *ℤ pos m) *ℤ pos d) ≤ℤ ((X w *ℤ pos m) *ℤ pos k)
  falls =
      let t = q_of ws w in
      let here = at_the_well h m some_h some_m e ws over_e w q are.less in
      let same = one_numerator (h * m) q (q_of vs w) t (at_the_well h m some_h some_m f vs over_f w q are.more) here in
      let less = network h m some_h some_m e ws over_e w q are.less d k X t are.some.0 are.solves.0 refl in
      let more = network h m some_h some_m f vs over_f w q are.more k d Y t are.some.1 are.solves.1 same in
      let other = subst (λ (n : ℕ). IsNetwork n vs w (pos (k * d) *ℤ t) (λ c. (Y c *ℤ pos m) *ℤ pos d)) many more in
      head_falls (length e) (a_of ws) (a_of vs) (b_of ws) (b_of vs) (λ c. (X c *ℤ pos m) *ℤ pos k) (λ c. (Y c *ℤ pos m) *ℤ pos d) w (pos (d * k) *ℤ t) less.both other.both
      links_grow known_grows are.less.inside (rw (*ℤ_comm (pos (d * k)) t)
      (positive_times t (d * k) (mul-pos are.some.0 are.some.1) (positive_over (h * m) q t (mul-pos some_h some_m) are.takes here))) less.leaves
      (subst (λ (n : ℕ). (c : ℕ) → c < length e → leaving (length e) (a_of vs) (b_of vs) (λ c. (Y c *ℤ pos m) *ℤ pos d) c ≡ cond (nat_eq w c) (pos n *ℤ t) (pos 0)) (turn k d) other.leaves)
    where
      turn : (x y : ℕ) → x * y ≡ y * x
      turn x y = omega arith

  compared : AtMost (share k (Y w)) (share d (X w))
  compared =
      le_over (m * k * d) (share k (Y w)) (share d (X w)) (Y w *ℤ pos (m * d)) (X w *ℤ pos (m * k)) (mul-pos (mul-pos some_m are.some.1) are.some.0)
      (subst (λ (n : ℕ). IsOver n (share k (Y w)) (Y w *ℤ pos (m * d))) turned (heads_over (m * d) k are.some.1 (Y w))) (heads_over (m * k) d are.some.0 (X w))
      (rw (mul_assoc (Y w) (pos m) (pos d), mul_assoc (X w) (pos m) (pos k)) at falls)
    where
      turned : m * d * k ≡ m * k * d
      turned = omega arith

pub drawdown_falls : DrawdownFalls
drawdown_falls w q e f d k X Y are =
    let (a, some_a, goes_a) = step_common e in
    let (b, some_b, goes_b) = step_common f in
    let n = a * b in
    let some : 0 < n * 1 = mul-pos (mul-pos some_a some_b) (omega arith) in
    let (ws, over_e) = whole_step n 1 1 e (Goes-trans (product cell_den e) a n goes_a (Goes-first a b)) in
    let (vs, over_f) = whole_step n 1 1 f (Goes-trans (product cell_den f) b n goes_b (Goes-second a b)) in
    compared (n * 1) (n * 1) some some w q e f d k X Y are ws vs over_e over_f
