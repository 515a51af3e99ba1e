-- Two plans of one time step in the same weather: heads X and Y that solve it with two lists of constant flows, all else being
-- the same. The step is in whole numbers with ramps, as cell_balance makes of each exact step: a river is a constant flow less a
-- ramp, a drain a ramp, an evapotranspiration a ramp with a top.
use Rattle.std.specs.Prelude.{◌≡◌, ◌⊎◌, ℕ, ◌<◌, ◌≤◌, ◌*◌, ℤ, pos, neg_ℤ, ◌+ℤ◌, ◌-ℤ◌, ◌*ℤ◌, ◌≤ℤ◌, cond, nat_eq, List, Option}
use Rattle.step_problem.specs.{least, most, total}
use Rattle.cell_balance.proofs.Ramps.{Ramp, rise, link_flow, net_flow, AreMutual, IsHeldFromBelow}

-- The most and the least that a ramp gives cell i more at a head that is higher by u: what a branch to a known head of 0 gives
-- at the head u, over a conductance from 0 to the ramp's own.
abbrev pub most_of_ramp : ℤ → ℕ → Ramp → ℤ
most_of_ramp u i r = cond (nat_eq r.cell i) (most 0 r.c (neg_ℤ u)) (pos 0)

abbrev pub least_of_ramp : ℤ → ℕ → Ramp → ℤ
least_of_ramp u i r = cond (nat_eq r.cell i) (least 0 r.c (neg_ℤ u)) (pos 0)

-- Of n cells, a i j is the conductance from cell i to cell j, and b i that from cell i to known heads.
module _ (n : ℕ) (a : ℕ → ℕ → ℤ) (b : ℕ → ℕ) (ramps : List Ramp) where
  -- What cell i gets at the differences U over d by its links, by known heads of 0, and by the flow e i that the base plan has more.
  abbrev pub linear_balance : (ℕ → ℤ) → ℕ → (ℕ → ℤ) → ℕ → ℤ
  linear_balance e d U i = link_flow n a U i +ℤ (pos d *ℤ e i -ℤ pos (b i) *ℤ U i)

  -- The greatest and the least balance of cell i at the differences U over d. Neither names a constant flow of the weather, a
  -- known head, or a ramp's foot or top: so it is the same in every weather.
  abbrev pub greatest_balance : (ℕ → ℤ) → ℕ → (ℕ → ℤ) → ℕ → ℤ
  greatest_balance e d U i = linear_balance e d U i +ℤ total (most_of_ramp (U i) i) ramps

  abbrev pub least_balance : (ℕ → ℤ) → ℕ → (ℕ → ℤ) → ℕ → ℤ
  least_balance e d U i = linear_balance e d U i +ℤ total (least_of_ramp (U i) i) ramps

  -- X over d solves the base plan's step, of the flows q + e, and Y the other plan's, of the flows q. Known flows hold the base
  -- plan's components from below.
  pub record SolveBothPlans (q e : ℕ → ℤ) (d : ℕ) (X Y : ℕ → ℤ) : Type 0 where
    pub both_ways : AreMutual n a
    pub held : IsHeldFromBelow n a b (λ k. q k +ℤ e k) ramps
    pub some : 0 < d
    pub base : (i : ℕ) → i < n → net_flow n a b (λ k. q k +ℤ e k) ramps d X i ≡ pos 0
    pub other : (i : ℕ) → i < n → net_flow n a b q ramps d Y i ≡ pos 0

-- Differences U that at each cell bound X - Y from above already, or have a greatest balance of at most 0, bound it from above everywhere.
abbrev pub DifferencesLieBelow : Type 0
DifferencesLieBelow =
    (n : ℕ) (a : ℕ → ℕ → ℤ) (b : ℕ → ℕ) (ramps : List Ramp) (q e : ℕ → ℤ) (d : ℕ) (X Y U : ℕ → ℤ) → SolveBothPlans n a b ramps q e d X Y →
    ((i : ℕ) → i < n → ((X i -ℤ Y i) ≤ℤ U i) ⊎ (greatest_balance n a b ramps e d U i ≤ℤ pos 0)) → (i : ℕ) → i < n → (X i -ℤ Y i) ≤ℤ U i

-- Differences L that at each cell bound X - Y from below already, or have a least balance of at least 0, bound it from below everywhere.
abbrev pub DifferencesLieAbove : Type 0
DifferencesLieAbove =
    (n : ℕ) (a : ℕ → ℕ → ℤ) (b : ℕ → ℕ) (ramps : List Ramp) (q e : ℕ → ℤ) (d : ℕ) (X Y L : ℕ → ℤ) → SolveBothPlans n a b ramps q e d X Y →
    ((i : ℕ) → i < n → (L i ≤ℤ (X i -ℤ Y i)) ⊎ (pos 0 ≤ℤ least_balance n a b ramps e d L i)) → (i : ℕ) → i < n → L i ≤ℤ (X i -ℤ Y i)

-- A conductance num / den of at most c which, times the difference of two heads x and y, is the difference of two losses: the
-- share of the way between the heads that lies on the ramp, times c. Where the heads are the same, any will do.
pub record IsRampShare (c : ℕ) (x y loss other : ℤ) : Type 0 where
  pub num : ℕ
  pub den : ℕ
  pub some : 0 < den
  pub at_most : num ≤ c * den
  pub same : pos den *ℤ (loss -ℤ other) ≡ pos num *ℤ (x -ℤ y)

-- What a ramp takes at one head more than at another is the difference of the heads over a conductance from 0 to its own.
abbrev pub RampsShare : Type 0
RampsShare = (c : ℕ) (foot : ℤ) (top : Option ℤ) (d : ℕ) (x y : ℤ) → IsRampShare c x y (pos c *ℤ rise foot top d x) (pos c *ℤ rise foot top d y)
