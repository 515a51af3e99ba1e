-- No solution lies below a floor, and none above a ceiling.
use Rattle.barrier_vector.proofs.Common.{base_on, ◌≡◌, ℕ, ◌+◌, ◌*◌, ◌^◌, ◌<◌, ◌≤◌, inl, inr, refl, subst, arith, ℤ, pos, ◌+ℤ◌, ◌-ℤ◌, ◌*ℤ◌, ◌≤ℤ◌, ◌<ℤ◌, List, length, Contains, zero, suc, ap, ◌⊎◌}
use Rattle.barrier_vector.proofs.Common.{AllZip, mul-le-mul_right, ints, Link, Side, Low, High, Entries, entries_at, IsProblem, total, IsCarried, ExactCell, LeadsTo, Leads, IsHeldBelow, SolvesStep}
use Rattle.barrier_vector.proofs.Common.{LiesBetween, EnclosesStep, add_mul, sub_mul, same_z, IsMutual, WholeCell, whole_at, whole_balance, whole_link, CellWithin, cell_within, Bounds, need, need_on}
use Rattle.barrier_vector.proofs.Common.{anchor_on, LeastRoot, IsAnchorPath, IsInnerPath, IsLongest, IsAnchoredBound, IsBoundOn, FloorsEnclose, CeilingsEnclose, IsSolution, ceil_over, SumsTo}
use Rattle.barrier_vector.proofs.Common.{IsCellFloor, FloorsHold, IsCellCeiling}
use Rattle.cell_balance.proofs.Encloses.{whole_head, whole_solution, bound_back}
use Rattle.barrier_vector.proofs.{CarriedRoots.join_ways, CarriedRoots.leads_within, CarriedRoots.link_conducts, CarriedRoots.links_are_mutual, CarriedRoots.same_root, Components.inner_path}
use Rattle.barrier_vector.proofs.{FloorsLinks.ceil_enough, FloorsLinks.joined_low, FloorsLinks.falls_over, FloorsLinks.falls_at, FloorsLinks.somewhere_above, Gains.inward, Gains.rest_of}
use Rattle.barrier_vector.proofs.{Gains.inward_balance, Gains.gives, Marking.IsMarkBelow, Marking.base_outside, Rooting.anchored_by}

-- Along a path heads fall by at most its sum, from its root to its cell and back.
module _ (p : List Entries) (ok : IsProblem p) (n q : ℕ) (Y : ℕ → ℤ) (top : ℤ)
    (falls_over : (t : ℤ) → t ≤ℤ top → (drop c : ℕ) → c < length p → (x : Link) → Contains (entries_at p c).links x → q ≤ drop * x.lo → t ≤ℤ Y x.cell → (t -ℤ pos (drop * n)) ≤ℤ Y c)
    (Root : ℕ → ℕ → Type 0) (t : ℤ) (low : t ≤ℤ top)
  where
    under : (k : ℕ) → (t -ℤ pos k) ≤ℤ top
    under k = omega (arith, ints, low)

    -- from the roots that links lead to, along a path
    pub falls_along : (k c s : ℕ) → c < length p → SumsTo p q Root k c s → ((r d j : ℕ) → Root r d → LeadsTo p j c r → (t -ℤ pos (d * n)) ≤ℤ Y r) → (t -ℤ pos (s * n)) ≤ℤ Y c
    falls_along zero c s i root at = at c s 0 root refl
    falls_along (suc k) c s i (x, parent, rest, sums, is) at =
        let far = falls_along k x.cell rest (leads_within p ok c x parent.has) sums (λ r d j root way. at r d (suc j) root (x, parent.has, way)) in
        joined_low t (Y c) n (ceil_over q x.lo) rest s is
        (falls_over (t -ℤ pos (rest * n)) (under (rest * n)) (ceil_over q x.lo) c i x parent.has (ceil_enough q x.lo (link_conducts p ok c x parent.has)) far)

    -- from a cell back along its path to its root
    pub falls_to_root : (k c s e : ℕ) → c < length p → SumsTo p q Root k c s → (t -ℤ pos (e * n)) ≤ℤ Y c → (r : ℕ) × (d : ℕ) × (j : ℕ) × Root r d × LeadsTo p j c r × ((t -ℤ pos ((e + s) * n)) ≤ℤ Y r)
    falls_to_root zero c s e i root h = (c, s, 0, root, refl, omega (arith, ints, h))
    falls_to_root (suc k) c s e i (x, parent, rest, sums, is) h =
        let next = falls_over (t -ℤ pos (e * n)) (under (e * n)) (ceil_over q x.lo) x.cell (leads_within p ok c x parent.has)
        (record { cell = c; lo = x.lo; hi = x.hi }) (links_are_mutual p ok c x parent.has) (ceil_enough q x.lo (link_conducts p ok c x parent.has)) h in
        let (r, d, j, root, way, deep) = falls_to_root k x.cell rest (e + ceil_over q x.lo) (leads_within p ok c x parent.has) sums
        (joined_low t (Y x.cell) n (ceil_over q x.lo) e (e + ceil_over q x.lo) (omega arith) next) in
        (r, d, suc j, root, (x, parent.has, way), omega (arith, ints, deep, ap (λ (k : ℕ). k * n) is))

module _ (m n : ℕ) (some_m : 0 < m) (some_n : 0 < n) (p : List Entries) (w : List WholeCell) (Y : ℕ → ℤ)
    (within : AllZip (CellWithin m n (length p)) p w) (both : IsMutual w)
    (solves : (c : ℕ) → c < length w → whole_balance (whole_at w c) (Y c) Y ≡ pos 0)
    (ok : IsProblem p)
  where
    module _ (side : Side) (b : ℤ) (base : (v : ℤ) → IsMarkBelow side p (length p) v → Bounds side b v) where
      solved : (c : ℕ) → c < length w → total (whole_link (λ k. inward side (Y k)) (inward side (Y c))) (whole_at w c).links +ℤ inward side (rest_of (whole_at w c) (Y c)) ≡ pos 0
      solved c i = inward_balance side (whole_at w c) (Y c) Y (solves c i)

      gives_here : (c : ℕ) → c < length p → inward side (Y c) <ℤ inward side (b *ℤ pos n) →
          (pos (anchor_on side (entries_at p c) * m) *ℤ (inward side (b *ℤ pos n) -ℤ inward side (Y c))) ≤ℤ
          (inward side (rest_of (whole_at w c) (Y c)) +ℤ pos (need_on side (entries_at p c)) *ℤ pos (m * n))
      gives_here c i = gives m n (length p) b (entries_at p c) (whole_at w c) (cell_within m n p w within c i) (Y c) side (λ v mark. base v (c, i, mark))

      over : (t : ℤ) → t ≤ℤ inward side (b *ℤ pos n) → (drop c : ℕ) → c < length p → (x : Link) → Contains (entries_at p c).links x →
          need side p ≤ drop * x.lo → t ≤ℤ inward side (Y x.cell) → (t -ℤ pos (drop * n)) ≤ℤ inward side (Y c)
      over = falls_over m n some_m p w within both (λ k. inward side (Y k)) (λ k. inward side (rest_of (whole_at w k) (Y k))) (need_on side) (anchor_on side)
          (inward side (b *ℤ pos n)) solved gives_here

      -- a cell with a path to an anchor
      anchored_bound : (c s : ℕ) → c < length p → IsAnchorPath side p c s → (inward side (b *ℤ pos n) -ℤ pos (s * n)) ≤ℤ inward side (Y c)
      anchored_bound c s i path =
          falls_along p ok n (need side p) (λ k. inward side (Y k)) (inward side (b *ℤ pos n)) over _ (inward side (b *ℤ pos n)) (same_z _) path.level c s i path.sums
          (λ r d j (r_in, some, is) way.
          falls_at m n some_m p w within both (λ k. inward side (Y k)) (λ k. inward side (rest_of (whole_at w k) (Y k))) (need_on side) (anchor_on side) (inward side (b *ℤ pos n)) solved gives_here
          d r r_in some (rw is (ceil_enough (need side p) (anchor_on side (entries_at p r)) some)))

    -- a cell of a carried component: up to a cell at the base, down to the least cell, and on to the cell
    carried_floor : (b : ℤ) (base : (v : ℤ) → IsMarkBelow Low p (length p) v → b ≤ℤ v) → (c s t : ℕ) → c < length p → IsCarried p c → IsInnerPath p c s →
        IsLongest p c t → ((b *ℤ pos n) -ℤ pos ((s + t) * n)) ≤ℤ Y c
    carried_floor b base c s t i carried path longest =
        let leads = path.is_level.leads in
        let root : LeastRoot p leads.root 0 = (leads.is_root.0, leads.is_root.1, refl) in
        let (k, k_in, inside, high) = somewhere_above m n some_m some_n p w Y within both solves b base c carried in
        let (j, to_k) = carried.component.reached k inside in
        let (e, path_k) = inner_path p ok k k_in in
        let short = longest.longest j k e to_k path_k in
        let (r, d, l, is_root, way, deep) = falls_to_root p ok n (need Low p) Y (b *ℤ pos n) (over Low b base) (LeastRoot p) (b *ℤ pos n)
        (same_z _) path_k.level k e 0 k_in path_k.sums (none (b *ℤ pos n) (Y k) high) in
        let r_is = same_root p ok leads.root root c path.level (j + l) r d leads.reaches (join_ways p ok j l c k r to_k way) is_root in
        let low = deeper (b *ℤ pos n) e t (Y r) short deep in
        omega (
          arith,
          ints,
          falls_along p ok n (need Low p) Y (b *ℤ pos n) (over Low b base) (LeastRoot p) ((b *ℤ pos n) -ℤ pos (t * n)) (omega (arith, ints)) path.level c s i path.sums
              (λ r' d' l' other way'.
              let r'_is = same_root p ok leads.root root c path.level l' r' d' leads.reaches way' other in
              at_root ((b *ℤ pos n) -ℤ pos (t * n)) d' r r' leads.root other.2 r_is r'_is low),
        )
      where
        none : (a y : ℤ) → a ≤ℤ y → (a -ℤ pos (0 * n)) ≤ℤ y
        none a y h = omega (arith, ints)

        deeper : (a : ℤ) (e t : ℕ) (y : ℤ) → e ≤ t → (a -ℤ pos ((0 + e) * n)) ≤ℤ y → (a -ℤ pos (t * n)) ≤ℤ y
        deeper a e t y h k = let q : e * n ≤ t * n = mul-le-mul_right n h in omega (arith, ints, q, k)

        at_root : (a : ℤ) (d r r' top : ℕ) → d ≡ 0 → r ≡ top → r' ≡ top → a ≤ℤ Y r → (a -ℤ pos (d * n)) ≤ℤ Y r'
        at_root a d r r' top none_there e e' h = rw (none_there, e') (none a (Y top) (subst (λ (z : ℕ). a ≤ℤ Y z) e h))

    -- the bound of a cell on a side
    anchored_encloses : (side : Side) (c : ℕ) (f : ℤ) → c < length p → IsAnchoredBound side p c f → Bounds side (f *ℤ pos n) (Y c)
    anchored_encloses Low c f i (s, path, is) = let h = anchored_bound Low (base_on Low p) (base_outside Low p) c s i path in rw (is, sub_mul (base_on Low p) (pos s) (pos n)) (omega (arith, ints, h))
    anchored_encloses High c f i (s, path, is) = let h = anchored_bound High (base_on High p) (base_outside High p) c s i path in rw (
      is,
      add_mul (base_on High p) (pos s) (pos n),
    ) (omega (arith, ints, h))

    pub bound_encloses : (side : Side) (c : ℕ) (f : ℤ) → c < length p → IsBoundOn side p c f → Bounds side (f *ℤ pos n) (Y c)
    bound_encloses Low c f i (inl anchored) = anchored_encloses Low c f i anchored
    bound_encloses Low c f i (inr (free, carried, s, path, t, longest, is)) =
        let h = carried_floor (base_on Low p) (base_outside Low p) c s t i carried path longest in rw (is, sub_mul (base_on Low p) (pos (s + t)) (pos n)) (omega (arith, ints, h))
    bound_encloses High c f i anchored = anchored_encloses High c f i anchored

-- No solution lies outside a bound.
pub bounds_enclose : (side : Side) (p : List Entries) (s : ℕ) (e : List ExactCell) (d : ℕ) (X : ℕ → ℤ) → IsSolution p s e d X → (c : ℕ) (f : ℤ) → c < length p →
    IsBoundOn side p c f → Bounds side (f *ℤ pos d) (X c *ℤ pos (10 ^ 9))
bounds_enclose side p s e d X given c f i bound =
    let (n, w, whole) = whole_solution p s e d X given.problem given.encloses given.some given.solves in
    links_are_mutual side n whole.some (bound_encloses n (n * d) whole.some whole.some_heads p w (whole_head n X) whole.within whole.both whole.solves given.problem side c f i bound)
  where
    links_are_mutual : (side : Side) (n : ℕ) → 0 < n → Bounds side (f *ℤ pos (n * d)) (whole_head n X c) → Bounds side (f *ℤ pos d) (X c *ℤ pos (10 ^ 9))
    links_are_mutual Low n some h = bound_back n d f (X c *ℤ pos (10 ^ 9)) Low some h
    links_are_mutual High n some h = bound_back n d f (X c *ℤ pos (10 ^ 9)) High some h

pub floors_enclose : FloorsEnclose
floors_enclose p = bounds_enclose Low p

pub ceilings_enclose : CeilingsEnclose
ceilings_enclose p = bounds_enclose High p

-- A problem whose cells all have floors is held below.
pub held_cell : (p : List Entries) (c : ℕ) (f : ℤ) → IsCellFloor p c f → ((j : ℕ) × Leads p j c) ⊎ IsCarried p c
held_cell p c f (inl (s, path, is)) = let leads = path.is_level.leads in inl (path.level, (leads.root, leads.reaches, anchored_by p leads.root leads.is_root.1))
held_cell p c f (inr y) = inr y.1

pub floors_hold : FloorsHold
floors_hold p floors c i = let (f, floor) = floors c i in held_cell p c f floor

-- What a barrier's floors and ceilings give to its caller.
pub encloses_all : (p : List Entries) (low high : ℕ → ℤ) → IsProblem p → ((c : ℕ) → c < length p → IsCellFloor p c (low c)) →
    ((c : ℕ) → c < length p → IsCellCeiling p c (high c)) → (s : ℕ) (e : List ExactCell) (d : ℕ) (X : ℕ → ℤ) → EnclosesStep s p e → 0 < d → SolvesStep e d X →
    LiesBetween (length p) d X low high
encloses_all p low high ok floors ceilings s e d X encloses some solves =
    let given : IsSolution p s e d X = record { problem = ok; encloses = encloses; some = some; solves = solves } in
    record { low = λ c i. floors_enclose p s e d X given c (low c) i (floors c i); high = λ c i. ceilings_enclose p s e d X given c (high c) i (ceilings c i) }

pub held_all : (p : List Entries) (low : ℕ → ℤ) → ((c : ℕ) → c < length p → IsCellFloor p c (low c)) → IsHeldBelow p
held_all p low floors c i = held_cell p c (low c) (floors c i)
