-- The floor and the ceiling of a cell, by the base of its side and its path to an anchor.
use Rattle.std.specs.Prelude.{◌≡◌, ℕ, ◌+◌, ◌<◌, ◌≤◌, ◌⊎◌, List, [], ◌∷◌, length, max, ℤ, pos, ◌+ℤ◌, ◌-ℤ◌, zero, suc, ◌-◌, ◌/◌, Contains}
use Rattle.step_problem.specs.{declared.heads.Side.Side, declared.heads.Side.TheVariants.Low, declared.heads.Side.TheVariants.High, Entries.Entries, entries_at}
use Rattle.step_problem.specs.{declared.entry.Link.Link}
use Rattle.cell_balance.specs.{LeadsTo, IsCarried}
use Rattle.barrier_vector.specs.Marks.{base_on, need}

-- Paths along the branches of a problem to its roots, which are the cells that bound the others, and the drops of head on them. Each branch carries at most q.
-- the least whole number not below q / lo
abbrev pub ceil_over : ℕ → ℕ → ℕ
ceil_over q lo = (q + (lo - 1)) / lo

-- `Root c d` says that cell c is a root, whose own drop is d
module _ (p : List Entries) (q : ℕ) (Root : ℕ → ℕ → Type 0) where
  -- k links lead from cell c to a root
  pub record LeadsToRoot (k c : ℕ) : Type 0 where
    pub root : ℕ
    pub drop : ℕ
    pub is_root : Root root drop
    pub reaches : LeadsTo p k c root

  -- The level of cell c is k: the least number of links that lead to a root.
  pub record IsLevel (c k : ℕ) : Type 0 where
    pub leads : LeadsToRoot k c
    pub least : (j : ℕ) → LeadsToRoot j c → k ≤ j

  -- x leads from cell c to its parent, the neighbour of level k with the least number.
  pub record IsParent (k c : ℕ) (x : Link) : Type 0 where
    pub has : Contains (entries_at p c).links x
    pub level : IsLevel x.cell k
    pub least : (z : Link) → Contains (entries_at p c).links z → IsLevel z.cell k → x.cell ≤ z.cell

  -- s is the sum of the drops from cell c, of level k, through its parents, including the root's own drop
  abbrev pub SumsTo : ℕ → ℕ → ℕ → Type 0
  SumsTo zero c s = Root c s
  SumsTo (suc k) c s = (x : Link) × IsParent k c x × (rest : ℕ) × SumsTo k x.cell rest × (s ≡ ceil_over q x.lo + rest)

  -- The path of cell c is s.
  pub record IsPath (c s : ℕ) : Type 0 where
    pub level : ℕ
    pub is_level : IsLevel c level
    pub sums : SumsTo level c s

-- the greatest of f over a list, 0 if it is empty
abbrev pub greatest : {X : Type 0} → (X → ℕ) → List X → ℕ
greatest f [] = 0
greatest f (x ∷ xs) = max (f x) (greatest f xs)

-- the greatest lower conductance of a cell's anchors on a side: its fixed links; on the high side its rivers and drains too
abbrev pub anchor_on : Side → Entries → ℕ
anchor_on Low c = greatest (λ x. x.lo) c.fixed
anchor_on High c = max (greatest (λ x. x.lo) c.fixed) (max (greatest (λ x. x.lo) c.rivers) (greatest (λ x. x.lo) c.drains))

-- An anchored cell is a root; its own drop is that of its greatest anchor.
abbrev pub AnchorRoot : Side → List Entries → ℕ → ℕ → ℕ → Type 0
AnchorRoot side p q c d = (c < length p) × (0 < anchor_on side (entries_at p c)) × (d ≡ ceil_over q (anchor_on side (entries_at p c)))

-- The least cell of its component is a root, without a drop of its own.
abbrev pub LeastRoot : List Entries → ℕ → ℕ → Type 0
LeastRoot p c d = (c < length p) × ((j k : ℕ) → LeadsTo p j c k → c ≤ k) × (d ≡ 0)

-- the path of cell c to the anchors of a side
abbrev pub IsAnchorPath : Side → List Entries → ℕ → ℕ → Type 0
IsAnchorPath side p = IsPath p (need side p) (AnchorRoot side p (need side p))

-- the path of cell c to the least cell of its component
abbrev pub IsInnerPath : List Entries → ℕ → ℕ → Type 0
IsInnerPath p = IsPath p (need Low p) (LeastRoot p)

-- t is the longest inner path of the component of cell c
pub record IsLongest (p : List Entries) (c t : ℕ) : Type 0 where
  pub cell : ℕ
  pub links : ℕ
  pub reached : LeadsTo p links c cell
  pub is_path : IsInnerPath p cell t
  pub longest : (j k s : ℕ) → LeadsTo p j c k → IsInnerPath p k s → s ≤ t

-- No anchor of the side holds the component of cell c.
abbrev pub IsUnanchored : Side → List Entries → ℕ → Type 0
IsUnanchored side p c = (j k : ℕ) → LeadsTo p j c k → anchor_on side (entries_at p k) ≡ 0

-- a head less a path on the low side, plus a path on the high side
abbrev pub moved_out : Side → ℤ → ℕ → ℤ
moved_out Low b s = b -ℤ pos s
moved_out High b s = b +ℤ pos s

-- f is the base of the side and the path of cell c to the side's anchors
abbrev pub IsAnchoredBound : Side → List Entries → ℕ → ℤ → Type 0
IsAnchoredBound side p c f = (s : ℕ) × IsAnchorPath side p c s × (f ≡ moved_out side (base_on side p) s)

-- f is the base of the low side less the inner path of cell c and the longest one, in a component that is carried and has no anchor
abbrev pub IsCarriedFloor : List Entries → ℕ → ℤ → Type 0
IsCarriedFloor p c f =
    IsUnanchored Low p c × IsCarried p c × (s : ℕ) × IsInnerPath p c s × (t : ℕ) × IsLongest p c t × (f ≡ base_on Low p -ℤ pos (s + t))

-- The floor of cell c: the base less its path to an anchor; in a carried component less its inner path and the longest one.
abbrev pub IsCellFloor : List Entries → ℕ → ℤ → Type 0
IsCellFloor p c f = IsAnchoredBound Low p c f ⊎ IsCarriedFloor p c f

-- The ceiling of cell c: the base of the high side and its path.
abbrev pub IsCellCeiling : List Entries → ℕ → ℤ → Type 0
IsCellCeiling p c f = IsAnchoredBound High p c f

-- the bound of cell c on a side
abbrev pub IsBoundOn : Side → List Entries → ℕ → ℤ → Type 0
IsBoundOn Low = IsCellFloor
IsBoundOn High = IsCellCeiling
