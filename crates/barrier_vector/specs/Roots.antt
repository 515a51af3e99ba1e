-- The roots of the searches, and the data that the bounds are found from.
use Rattle.std.specs.Prelude.{MatchOption, ◌≡◌, ℕ, ◌<◌, List, length, min, Option, None, Some, slice_index, slice_index_or, ℤ, pos, zero, suc, cond, drop, take}
use Rattle.std.specs.Prelude.{map, sum_by}
use Rattle.std.specs.Option.{unwrap_or}
use Rattle.step_problem.specs.{declared.heads.Side.Side, Entries.Entries, entries_at, IsHead, head_at, declared.refusal.BoundFault.BoundFault}
use Rattle.step_problem.specs.{declared.refusal.BoundFault.TheVariants.NoBound, declared.refusal.BoundFault.TheVariants.Memory}
use Rattle.cell_balance.specs.{sum_inside, deep_low}
use Rattle.barrier_vector.specs.Bounds.{IsAnchorPath, IsInnerPath, IsUnanchored, IsAnchoredBound, ceil_over, IsBoundOn, anchor_on}
use Rattle.barrier_vector.specs.Cuts.{HasNoBound, IsOutOfRange, LeavesRange, no_barrier_on, Nowhere, IsRefusedOn, cut_on, IsCutBoundOn, RefusesOn}
use Rattle.barrier_vector.specs.Searches.{mark_at, path_limit, AreLabels, HasEach, is_label, has_label, sum_at, longest_at, greatest_inside}
use Rattle.barrier_vector.specs.Marks.{cell_mark, outer_of, outermost, need_on, capped_flow}
use Rattle.barrier_vector.specs.declared.gathered.Total.{Total}

-- the own drop of a root by its greatest anchor; None where that is 0
abbrev pub anchor_drop : ℕ → ℕ → Option ℕ
anchor_drop q zero = None
anchor_drop q (suc n) = Some (ceil_over q (suc n))

-- a cell labelled with itself is a root without a drop
abbrev pub self_drop : Option ℕ → ℕ → Option ℕ
self_drop label c = cond (is_label label c) (Some 0) None

-- the own drops of the anchored cells of a side
abbrev pub AreAnchorDrops : Side → List Entries → ℕ → List (Option ℕ) → Type 0
AreAnchorDrops side p q = HasEach None (λ c o. o ≡ anchor_drop q (anchor_on side (entries_at p c))) (length p)

-- the own drops of the cells that are labelled with themselves
abbrev pub AreSelfDrops : List (Option ℕ) → ℕ → List (Option ℕ) → Type 0
AreSelfDrops labels = HasEach None (λ c o. o ≡ self_drop (mark_at labels c) c)

-- What a side needs of the cells, found in one pass over them.
-- one side of the first n cells: the outermost mark, the sum of what they add to the lack or the surplus, at most 2 ^ 126, and the greatest anchor of each
pub record IsOutline (side : Side) (p : List Entries) (n : ℕ) (mark : Option ℤ) (need : ℕ) (anchors : List ℕ) : Type 0 where
  pub outermost_mark : outer_of side mark (outermost side (cell_mark side) (drop n p)) ≡ outermost side (cell_mark side) p
  pub sum : need ≡ capped_flow (sum_by (need_on side) (take n p))
  pub anchors_are : HasEach 0 (λ c a. a ≡ anchor_on side (entries_at p c)) n anchors

-- what a search finds on a side: each cell's level, and its path to the anchors
pub record AreAnchorPaths (side : Side) (p : List Entries) (levels : List (Option ℕ)) (paths : List ℕ) : Type 0 where
  pub anchored : (c k : ℕ) → mark_at levels c ≡ Some k → (s : ℕ) × IsAnchorPath side p c s × (slice_index paths c ≡ min s path_limit)
  pub unanchored : (c : ℕ) → c < length p → mark_at levels c ≡ None → IsUnanchored side p c
  pub levels_whole : length levels ≡ length p
  pub paths_whole : length paths ≡ length p

-- the components: labels of cells, paths to the least cell of each component, and by label the totals: the sum of deep flows and the longest of these paths
pub record AreComponents (p : List Entries) (labels : List (Option ℕ)) (inner : List ℕ) (totals : List Total) : Type 0 where
  pub labelling : AreLabels p labels (length p)
  pub inner_paths : (c : ℕ) → c < length p → (s : ℕ) × IsInnerPath p c s × (slice_index inner c ≡ min s path_limit)
  pub component_sums : (m : ℕ) → sum_at totals m ≡ sum_inside (length p) (has_label labels m) (λ k. deep_low (entries_at p k))
  pub tops : (m : ℕ) → longest_at totals m ≡ greatest_inside (length p) (has_label labels m) (slice_index inner)
  pub inner_whole : length inner ≡ length p
  pub totals_whole : length totals ≡ length p

abbrev pub bound_at : List (Option ℤ) → ℕ → Option ℤ
bound_at xs c = slice_index_or xs c None

-- the bound of cell c, cut off; None where no anchor of the side holds its component
abbrev pub IsAnchoredOrNone : Side → List Entries → ℕ → Option ℤ → Type 0
IsAnchoredOrNone side p c o = MatchOption o (IsUnanchored side p c) (λ v. (f : ℤ) × IsAnchoredBound side p c f × (v ≡ cut_on side f))

-- the bound of cell c, cut off; None where it has none
abbrev pub IsBoundOrNone : Side → List Entries → ℕ → Option ℤ → Type 0
IsBoundOrNone side p c o = MatchOption o (HasNoBound side p c) (IsCutBoundOn side p c)

-- one for each cell
abbrev pub AreBounds : List Entries → (ℕ → Option ℤ → Type 0) → List (Option ℤ) → Type 0
AreBounds p Is = HasEach None Is (length p)

-- The tests of the bounds of cells before they are a barrier.
-- the first number below n with the property, or none has it
abbrev pub IsFirst : (ℕ → Type 0) → ℕ → Option ℕ → Type 0
IsFirst P n None = (d : ℕ) → d < n → P d → ⊥
IsFirst P n (Some c) = (c < n) × P c × ((d : ℕ) → d < c → P d → ⊥)

-- cell c has no bound
abbrev pub IsMissing : List (Option ℤ) → ℕ → Type 0
IsMissing xs c = bound_at xs c ≡ None

-- the bound of cell c is out of the range of heads
abbrev pub LiesOut : Side → List ℤ → ℕ → Type 0
LiesOut side vs c = IsOutOfRange side (head_at vs c)

-- the heads where there are some, 0 elsewhere
abbrev pub AreHeadsOf : List (Option ℤ) → List ℤ → Type 0
AreHeadsOf xs hs = hs ≡ map (λ o. unwrap_or o (pos 0)) xs

-- one side of a barrier: a bound in range for each cell, and no cause of a refusal anywhere
pub record IsWholeSide (side : Side) (p : List Entries) (hs : List ℤ) : Type 0 where
  pub whole : length hs ≡ length p
  pub is : (c : ℕ) → c < length p → IsBoundOn side p c (head_at hs c)
  pub head : (c : ℕ) → c < length p → IsHead (head_at hs c)
  pub held : Nowhere p (HasNoBound side p)
  pub in_range : Nowhere p (LeavesRange side p)

-- a fault of one side: its refusal, or lack of memory
abbrev pub IsFaultOn : Side → List Entries → BoundFault → Type 0
IsFaultOn side p (NoBound n) = IsRefusedOn side p n
IsFaultOn side p Memory = Unit {0}

-- a fault of one side that is cut
abbrev pub IsCutFaultOn : Side → List Entries → BoundFault → Type 0
IsCutFaultOn side p (NoBound n) = RefusesOn no_barrier_on (λ side. HasNoBound side p) side p n
IsCutFaultOn side p Memory = Unit {0}
