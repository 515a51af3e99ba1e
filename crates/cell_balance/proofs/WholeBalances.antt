-- The balance of a cell in whole numbers is its net flow in the step with ramps.
use Rattle.cell_balance.proofs.Common.{[], ◌*ℤ◌, ◌+ℤ◌, ◌-ℤ◌, ◌<◌, ◌∷◌, ◌≡◌, All, List, arith, length, map, neg_ℤ, pos, refl, sym, ℕ, ℤ, int_max, *ℤ-zero, clamps, ints, total, as_diff, diffs}
use Rattle.cell_balance.proofs.Common.{same_diff, sum_below, ◌+◌, ◌∙◌, cond, nat_eq, subst, suc, zero, eq-eqb, ne_eqb, ◌++◌, None, Some}
use Rattle.cell_balance.proofs.{Dry.weight, Dry.by_weight, Zips.WholeCell, Zips.WholeEntry, Zips.whole_at, Zips.whole_balance, Zips.whole_deep_river, Zips.whole_drain, Zips.whole_evap}
use Rattle.cell_balance.proofs.{Zips.whole_fixed, Zips.whole_river, Ramps.Ramp, Ramps.rise, Ramps.net_flow}

-- The ramps of a step in whole numbers: those of each cell are its rivers, drains and evapotranspirations.
-- a cell's conductance to known heads, and what they and its constant and deep flows give at a head of 0
abbrev pub known_conductance : List WholeEntry → ℕ
known_conductance [] = 0
known_conductance (x ∷ xs) = x.c + known_conductance xs

abbrev pub known_flow : WholeEntry → ℤ
known_flow x = pos x.c *ℤ x.top

abbrev pub own_flow : WholeCell → ℤ
own_flow w = total (λ q. q) w.flows +ℤ total known_flow w.fixed +ℤ total whole_deep_river w.rivers

abbrev pub open_ramp : ℕ → WholeEntry → Ramp
open_ramp i x = record { cell = i; c = x.c; foot = x.foot; top = None }

abbrev pub evap_ramp : ℕ → WholeEntry → Ramp
evap_ramp i x = record { cell = i; c = x.c; foot = x.foot; top = Some x.top }

abbrev pub cell_ramps : ℕ → WholeCell → List Ramp
cell_ramps i w = map (open_ramp i) w.rivers ++ (map (open_ramp i) w.drains ++ map (evap_ramp i) w.evaps)

abbrev pub ramps_from : ℕ → List WholeCell → List Ramp
ramps_from k [] = []
ramps_from k (w ∷ ws) = cell_ramps k w ++ ramps_from (suc k) ws

abbrev pub a_of : List WholeCell → ℕ → ℕ → ℤ
a_of w i j = weight (whole_at w i).links j

abbrev pub b_of : List WholeCell → ℕ → ℕ
b_of w i = known_conductance (whole_at w i).fixed

abbrev pub q_of : List WholeCell → ℕ → ℤ
q_of w i = own_flow (whole_at w i)

-- g of each ramp of cell i, and 0 of the others
abbrev pub at_cell : (Ramp → ℤ) → ℕ → Ramp → ℤ
at_cell g i r = cond (nat_eq r.cell i) (g r) (pos 0)

abbrev pub cell_sum : (Ramp → ℤ) → ℕ → WholeCell → ℤ
cell_sum g i w = total (λ x. g (open_ramp i x)) w.rivers +ℤ (total (λ x. g (open_ramp i x)) w.drains +ℤ total (λ x. g (evap_ramp i x)) w.evaps)

total-append : {X : Type 0} (f : X → ℤ) (xs ys : List X) → total f (xs ++ ys) ≡ total f xs +ℤ total f ys
total-append f [] ys = omega (arith, ints)
total-append f (x ∷ xs) ys = rw (total-append f xs ys) (omega (arith, ints))

total-here : {X : Type 0} (g : Ramp → ℤ) (i : ℕ) (f : X → Ramp) (xs : List X) → ((x : X) → (f x).cell ≡ i) → total (at_cell g i) (map f xs) ≡ total (λ x. g (f x)) xs
total-here g i f [] cells = refl
total-here g i f (x ∷ xs) cells = rw (eq-eqb (f x).cell i (cells x), total-here g i f xs cells) refl

total-away : {X : Type 0} (g : Ramp → ℤ) (i : ℕ) (f : X → Ramp) (xs : List X) → ((x : X) → (f x).cell ≡ i → ⊥) → total (at_cell g i) (map f xs) ≡ pos 0
total-away g i f [] cells = refl
total-away g i f (x ∷ xs) cells = rw (ne_eqb (f x).cell i (cells x), total-away g i f xs cells) refl

cell_ramps-here : (g : Ramp → ℤ) (i : ℕ) (w : WholeCell) → total (at_cell g i) (cell_ramps i w) ≡ cell_sum g i w
cell_ramps-here g i w = grind (arith, total-append, total-here)

cell_ramps-away : (g : Ramp → ℤ) (i k : ℕ) (w : WholeCell) → (k ≡ i → ⊥) → total (at_cell g i) (cell_ramps k w) ≡ pos 0
cell_ramps-away g i k w apart = grind (arith, total-append, total-away)

ramps_from-away : (g : Ramp → ℤ) (i k : ℕ) (ws : List WholeCell) → i < k → total (at_cell g i) (ramps_from k ws) ≡ pos 0
ramps_from-away g i k [] h = refl
ramps_from-away g i k (w ∷ ws) h = grind (arith, total-append, cell_ramps-away, ramps_from-away g i (suc k) ws (omega arith))

ramps_from-at : (g : Ramp → ℤ) (k j i : ℕ) (ws : List WholeCell) → i ≡ k + j → total (at_cell g i) (ramps_from k ws) ≡ cell_sum g i (whole_at ws j)
ramps_from-at g k j i [] e = refl
ramps_from-at g k zero i (w ∷ ws) e =
    let same : k ≡ i = omega arith in
    total-append (at_cell g i) (cell_ramps k w) (ramps_from (suc k) ws)
    ∙ rw (ramps_from-away g i (suc k) ws (omega arith)) (omega (arith, ints))
    ∙ subst (λ (z : ℕ). total (at_cell g i) (cell_ramps z w) ≡ cell_sum g i w) (sym same) (cell_ramps-here g i w)
ramps_from-at g k (suc j) i (w ∷ ws) e = grind (arith, total-append, cell_ramps-away, ramps_from-at g (suc k) j i ws (omega arith))

-- over all ramps of a step the sum at cell i is that over the cell's own
pub ramps_at_cell : (g : Ramp → ℤ) (i : ℕ) (ws : List WholeCell) → total (at_cell g i) (ramps_from 0 ws) ≡ cell_sum g i (whole_at ws i)
ramps_at_cell g i ws = ramps_from-at g 0 i i ws (omega arith)

-- a cell's entries with heads and flows times d
abbrev pub scaled_entry : ℕ → WholeEntry → WholeEntry
scaled_entry d x = record { c = x.c; top = x.top *ℤ pos d; foot = x.foot *ℤ pos d }

abbrev pub scaled : ℕ → WholeCell → WholeCell
scaled d w = record {
  flows = map (λ z. z *ℤ pos d) w.flows;
  links = w.links;
  fixed = map (scaled_entry d) w.fixed;
  rivers = map (scaled_entry d) w.rivers;
  drains = map (scaled_entry d) w.drains;
  evaps = map (scaled_entry d) w.evaps;
}

total-map : {X Y : Type 0} (f : Y → ℤ) (g : X → Y) (xs : List X) → total f (map g xs) ≡ total (λ x. f (g x)) xs
total-map f g [] = refl
total-map f g (x ∷ xs) = rw (total-map f g xs) refl

flows_scaled_total : (d : ℕ) (xs : List ℤ) → total (λ q. q) (map (λ z. z *ℤ pos d) xs) ≡ pos d *ℤ total (λ q. q) xs
flows_scaled_total d [] = sym (*ℤ-zero (pos d))
flows_scaled_total d (x ∷ xs) = rw (flows_scaled_total d xs) (ring x (pos d) (total (λ q. q) xs))
  where
    ring : (x d t : ℤ) → x *ℤ d +ℤ d *ℤ t ≡ d *ℤ (x +ℤ t)
    ring x d t = rw (as_diff x, as_diff d, as_diff t) (simp diffs (same_diff _ _ _ _ (omega arith)))

fixed_scaled_total : (d : ℕ) (y : ℤ) (xs : List WholeEntry) → total (whole_fixed y) (map (scaled_entry d) xs) ≡ pos d *ℤ total known_flow xs -ℤ pos (known_conductance xs) *ℤ y
fixed_scaled_total d y [] = grind (arith)
fixed_scaled_total d y (x ∷ xs) = rw (fixed_scaled_total d y xs) (ring (pos x.c) x.top (pos d) y (total known_flow xs) (pos (known_conductance xs)))
  where
    ring : (c h d y t g : ℤ) → c *ℤ (h *ℤ d -ℤ y) +ℤ (d *ℤ t -ℤ g *ℤ y) ≡ d *ℤ (c *ℤ h +ℤ t) -ℤ (c +ℤ g) *ℤ y
    ring c h d y t g = rw (as_diff c, as_diff h, as_diff d, as_diff y, as_diff t, as_diff g) (simp diffs (same_diff _ _ _ _ (omega arith)))

abbrev pub ramp_gives : ℕ → ℤ → Ramp → ℤ
ramp_gives d y r = neg_ℤ (pos r.c *ℤ rise r.foot r.top d y)

rivers_scaled_total : (d i : ℕ) (y : ℤ) (xs : List WholeEntry) → total (whole_river y) (map (scaled_entry d) xs) ≡ pos d *ℤ total whole_deep_river xs +ℤ total (λ x. ramp_gives d y (open_ramp i x)) xs
rivers_scaled_total d i y [] = none (pos d)
  where
    none : (d : ℤ) → pos 0 ≡ d *ℤ pos 0 +ℤ pos 0
    none d = rw (*ℤ-zero d) refl
rivers_scaled_total d i y (x ∷ xs) = rw (rivers_scaled_total d i y xs, apart y (x.foot *ℤ pos d))
    (ring (pos x.c) x.top x.foot (pos d) (int_max (y -ℤ x.foot *ℤ pos d) (pos 0)) (total whole_deep_river xs) (total (λ x. ramp_gives d y (open_ramp i x)) xs))
  where
    apart : (y b : ℤ) → int_max y b ≡ b +ℤ int_max (y -ℤ b) (pos 0)
    apart y b = omega (arith, ints, clamps)

    ring : (c s b d m t g : ℤ) → c *ℤ (s *ℤ d -ℤ (b *ℤ d +ℤ m)) +ℤ (d *ℤ t +ℤ g) ≡ d *ℤ (c *ℤ (s -ℤ b) +ℤ t) +ℤ (neg_ℤ (c *ℤ m) +ℤ g)
    ring c s b d m t g = rw (as_diff c, as_diff s, as_diff b, as_diff d, as_diff m, as_diff t, as_diff g) (simp diffs (same_diff _ _ _ _ (omega arith)))

-- a cell's balance at heads over d
pub scaled_balance : (w : List WholeCell) (d : ℕ) (X : ℕ → ℤ) (i : ℕ) → All (λ x. x.cell < length w) (whole_at w i).links →
    whole_balance (scaled d (whole_at w i)) (X i) X ≡ net_flow (length w) (a_of w) (b_of w) (q_of w) (ramps_from 0 w) d X i
scaled_balance w d X i range =
    let u = whole_at w i in
    rw (
      flows_scaled_total d u.flows,
      fixed_scaled_total d (X i) u.fixed,
      rivers_scaled_total d i (X i) u.rivers,
      total-map (whole_drain (X i)) (scaled_entry d) u.drains,
      total-map (whole_evap (X i)) (scaled_entry d) u.evaps,
      by_weight (length w) u.links (λ k. X k -ℤ X i) range,
      ramps_at_cell (ramp_gives d (X i)) i w,
    )
    (ring (pos d) (total (λ q. q) u.flows) (sum_below (length w) (λ k. weight u.links k *ℤ (X k -ℤ X i))) (total known_flow u.fixed)
    (pos (known_conductance u.fixed) *ℤ X i) (total whole_deep_river u.rivers) (total (λ x. ramp_gives d (X i) (open_ramp i x)) u.rivers)
    (total (λ x. ramp_gives d (X i) (open_ramp i x)) u.drains) (total (λ x. ramp_gives d (X i) (evap_ramp i x)) u.evaps))
  where
    ring : (d f l g b s r o e : ℤ) → d *ℤ f +ℤ l +ℤ (d *ℤ g -ℤ b) +ℤ (d *ℤ s +ℤ r) +ℤ o +ℤ e ≡ l +ℤ (d *ℤ (f +ℤ g +ℤ s) -ℤ b) +ℤ (r +ℤ (o +ℤ e))
    ring d f l g b s r o e = rw (as_diff d, as_diff f, as_diff l, as_diff g, as_diff b, as_diff s, as_diff r, as_diff o, as_diff e) (simp diffs (same_diff _ _ _ _ (omega arith)))

-- and at heads over 1
map-same : {X : Type 0} (f : X → X) (xs : List X) → ((x : X) → f x ≡ x) → map f xs ≡ xs
map-same f [] same = refl
map-same f (x ∷ xs) same = rw (same x, map-same f xs same) refl

pub times_one : (z : ℤ) → z *ℤ pos 1 ≡ z
times_one z = omega (arith, ints)

scaled_one : (u : WholeCell) → scaled 1 u ≡ u
scaled_one u = grind (arith, map-same, times_one)

pub balance_is_net_flow : (w : List WholeCell) (X : ℕ → ℤ) (i : ℕ) → All (λ x. x.cell < length w) (whole_at w i).links → whole_balance (whole_at w i) (X i) X ≡
    net_flow (length w) (a_of w) (b_of w) (q_of w) (ramps_from 0 w) 1 X i
balance_is_net_flow w X i range = subst (λ (u : WholeCell). whole_balance u (X i) X ≡ net_flow (length w) (a_of w) (b_of w) (q_of w) (ramps_from 0 w) 1 X i)
    (scaled_one (whole_at w i)) (scaled_balance w 1 X i range)
