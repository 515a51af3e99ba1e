-- What a search by levels finds: how far each cell lies from the roots, and its path, cut off at a limit.
use Rattle.std.specs.Prelude.{◌≡◌, ℕ, ◌+◌, ◌<◌, ◌≤◌, ◌⊎◌, List, length, Contains, min, Option, None, Some, slice_index, suc, [], ◌∷◌, slice_index_or, ◌^◌, Bool}
use Rattle.std.specs.Prelude.{false, nat_eq, ℤ, pos, ◌+ℤ◌, ◌*ℤ◌, max, cond, zero}
use Rattle.step_problem.specs.{declared.entry.Link.Link, Entries.Entries, entries_at, link_at}
use Rattle.barrier_vector.specs.{Bounds.ceil_over, Bounds.LeadsToRoot, Bounds.IsPath, declared.gathered.Total.Total}
use Rattle.cell_balance.specs.{LeadsTo}

-- What a list has at each of its n places; d stands past its end.
pub record HasEach {X : Type 0} (d : X) (Is : ℕ → X → Type 0) (n : ℕ) (xs : List X) : Type 0 where
  pub whole : length xs ≡ n
  pub each : (c : ℕ) → c < n → Is c (slice_index_or xs c d)

-- One step of a search: marks go to the cells that have none yet among those that links lead to.
-- the mark of cell c; None past the end
abbrev pub mark_at : List (Option ℕ) → ℕ → Option ℕ
mark_at m c = slice_index_or m c None

-- how many cells have no mark
abbrev pub count_unmarked : List (Option ℕ) → ℕ
count_unmarked [] = 0
count_unmarked (None ∷ xs) = suc (count_unmarked xs)
count_unmarked (Some x ∷ xs) = count_unmarked xs

-- one of the first i links leads to cell k
abbrev pub LinkLeads : List Link → ℕ → ℕ → Type 0
LinkLeads links i k = (j : ℕ) × (j < i) × ((link_at links j).cell ≡ k)

-- a link of one of the first i of these cells leads to cell k
abbrev pub FrontLeads : List Entries → List ℕ → ℕ → ℕ → Type 0
FrontLeads p front i k = (j : ℕ) × (j < i) × LinkLeads (entries_at p (slice_index front j)).links (length (entries_at p (slice_index front j)).links) k

-- The cells with the property Target are marked: those that had no mark with this one, and they, and no others, join the list.
pub record Spreads (Target : ℕ → Type 0) (mark : ℕ) (old new : List (Option ℕ)) (before after : List ℕ) : Type 0 where
  pub same : length new ≡ length old
  pub each : (k : ℕ) → (mark_at new k ≡ mark_at old k) ⊎ ((mark_at old k ≡ None) × (mark_at new k ≡ Some mark) × Target k × Contains after k)
  pub covers : (k : ℕ) → Target k → (m : ℕ) × (mark_at new k ≡ Some m)
  pub listed : (k : ℕ) → Contains after k → Contains before k ⊎ ((mark_at old k ≡ None) × (mark_at new k ≡ Some mark))
  pub keeps : (k : ℕ) → Contains before k → Contains after k
  pub count : count_unmarked new + length after ≡ count_unmarked old + length before

-- twice the greatest head plus one: a path of this length leads out of range
abbrev pub path_limit : ℕ
path_limit = 8000000000000000001

-- the roots by a list: cell c has its own drop d there
abbrev pub ListRoot : List (Option ℕ) → ℕ → ℕ → Type 0
ListRoot own c d = mark_at own c ≡ Some d

-- among the first i links, x leads to the cell with the least number of those of this level
pub record IsNearest (links : List Link) (levels : List (Option ℕ)) (level i : ℕ) (x : Link) : Type 0 where
  pub has : Contains links x
  pub level_is : mark_at levels x.cell ≡ Some level
  pub least : (j : ℕ) → j < i → mark_at levels (link_at links j).cell ≡ Some level → x.cell ≤ (link_at links j).cell

abbrev pub IsNearestOrNone : List Link → List (Option ℕ) → ℕ → ℕ → Option Link → Type 0
IsNearestOrNone links levels level i None = (j : ℕ) → j < i → mark_at levels (link_at links j).cell ≡ Some level → ⊥
IsNearestOrNone links levels level i (Some x) = IsNearest links levels level i x

-- s is the drop from cell c to its nearest neighbour of this level plus that neighbour's path; or c has no neighbour of this level
abbrev pub ContinuesTo : List Entries → ℕ → List (Option ℕ) → ℕ → List ℕ → ℕ → ℕ → Type 0
ContinuesTo p q levels level paths c s =
    ((x : Link) × IsNearest (entries_at p c).links levels level (length (entries_at p c).links) x
    × (s ≡ min (ceil_over q x.lo + slice_index paths x.cell) path_limit))
    ⊎ ((j : ℕ) → j < length (entries_at p c).links → mark_at levels (link_at (entries_at p c).links j).cell ≡ Some level → ⊥)

-- The levels mark the cells from which links lead to a root, and no others; each of these has its path there, cut off at the limit.
pub record IsSearched (p : List Entries) (q : ℕ) (own levels : List (Option ℕ)) (paths : List ℕ) : Type 0 where
  pub levels_whole : length levels ≡ length p
  pub paths_whole : length paths ≡ length p
  pub none : (c : ℕ) → c < length p → mark_at levels c ≡ None → (j : ℕ) → LeadsToRoot p q (ListRoot own) j c → ⊥
  pub some : (c k : ℕ) → mark_at levels c ≡ Some k → (s : ℕ) × IsPath p q (ListRoot own) c s × (slice_index paths c ≡ min s path_limit)

-- The roots among the first i cells are marked, at level 0, and listed; each has its own drop as its path.
pub record AreBegun (own : List (Option ℕ)) (i : ℕ) (old new : List (Option ℕ)) (paths roots : List ℕ) : Type 0 where
  pub marks : Spreads (λ k. (k < i) × (d : ℕ) × (mark_at own k ≡ Some d)) 0 old new [] roots
  pub paths_are : (c d : ℕ) → c < i → mark_at own c ≡ Some d → slice_index paths c ≡ min d path_limit
  pub whole : length paths ≡ length own

-- The components of a problem, each cell labelled with the least cell of its component, and sums over them.
-- Labels are the same at both ends of a link; each is the least cell of its component; and the cells below i have one.
pub record AreLabels (p : List Entries) (labels : List (Option ℕ)) (i : ℕ) : Type 0 where
  pub whole : length labels ≡ length p
  pub spread : (a m : ℕ) (x : Link) → mark_at labels a ≡ Some m → Contains (entries_at p a).links x → mark_at labels x.cell ≡ Some m
  pub reached : (a m : ℕ) → mark_at labels a ≡ Some m → (j : ℕ) × LeadsTo p j m a
  pub least : (a m j k : ℕ) → mark_at labels a ≡ Some m → LeadsTo p j m k → m ≤ k
  pub all : (a : ℕ) → a < i → (m : ℕ) × (mark_at labels a ≡ Some m)

-- The component of cell c, which had no label, is labelled with c.
pub record Fills (p : List Entries) (c : ℕ) (old new : List (Option ℕ)) : Type 0 where
  pub whole : length new ≡ length old
  pub each : (k : ℕ) → (mark_at new k ≡ mark_at old k) ⊎ ((mark_at old k ≡ None) × (mark_at new k ≡ Some c) × (j : ℕ) × LeadsTo p j c k)
  pub begun : mark_at new c ≡ Some c
  pub closed : (k : ℕ) (x : Link) → mark_at old k ≡ None → mark_at new k ≡ Some c → Contains (entries_at p k).links x → (m : ℕ) × (mark_at new x.cell ≡ Some m)

-- whether a label is m
abbrev pub is_label : Option ℕ → ℕ → Bool
is_label None m = false
is_label (Some k) m = nat_eq k m

-- the test for the cells with the label m
abbrev pub has_label : List (Option ℕ) → ℕ → ℕ → Bool
has_label labels m k = is_label (mark_at labels k) m

-- the sum that the two words of a total make, and the sum and the longest path of the label k in a list of totals
abbrev pub flow_sum : Total → ℤ
flow_sum t = t.high *ℤ pos (2 ^ 64) +ℤ pos t.low

abbrev pub no_total : Total
no_total = record { high = pos 0; low = 0; longest = 0 }

abbrev pub sum_at : List Total → ℕ → ℤ
sum_at totals k = flow_sum (slice_index_or totals k no_total)

abbrev pub longest_at : List Total → ℕ → ℕ
longest_at totals k = (slice_index_or totals k no_total).longest

-- the greatest of the numbers of the cells below n that pass the test, 0 if there is none
abbrev pub greatest_inside : ℕ → (ℕ → Bool) → (ℕ → ℕ) → ℕ
greatest_inside zero inside f = 0
greatest_inside (suc n) inside f = max (greatest_inside n inside f) (cond (inside n) (f n) 0)
