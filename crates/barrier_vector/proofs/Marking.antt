-- The outermost mark of a list, of a cell, of a problem: one entry more, and that it lies outside each mark and is a head.
use Rattle.barrier_vector.proofs.Common.{◌≡◌, ℕ, zero, suc, ◌+◌, ◌<◌, ◌⊎◌, inl, inr, refl, sym, ◌∙◌, ap, subst, arith, List, [], ◌∷◌, length, drop, at_drop_more, get_or, Contains, Option, None, Some}
use Rattle.barrier_vector.proofs.Common.{ℤ, pos, ◌≤ℤ◌, ◌*◌, ◌≤◌, ◌*ℤ◌, int_max, int_min, unwrap_or, ints, All, clamps, Contains-get_or, Side, Low, High, All-head, All-tail, get_or_default, IsHead}
use Rattle.barrier_vector.proofs.Common.{IsProblem, no_entries, Bounds, Entries, entries_at, if_some, fixed_mark, river_mark, drain_mark, outer_of, outermost, cell_mark, base_on, bound_on}
use Rattle.barrier_vector.proofs.Common.{bounds_same, CellFits, FixedFits, RiverFits, DrainFits, le_trans_z, All-zip, WholeCell, FixedWithin, RiverWithin, DrainWithin, CellWithin, IsDry}
use Rattle.barrier_vector.proofs.Common.{mul_mono_right}

pub some_at : (hi : ℕ) (v : ℤ) → 0 < hi → if_some hi v ≡ Some v
some_at zero v h = absurd (omega arith)
some_at (suc n) v h = refl

-- The outer of marks, one after another.
pub outer_none : (side : Side) (o : Option ℤ) → outer_of side o None ≡ o
outer_none side None = refl
outer_none side (Some a) = refl

pub outer_joins : (side : Side) (a b c : Option ℤ) → outer_of side (outer_of side a b) c ≡ outer_of side a (outer_of side b c)
outer_joins side None b c = refl
outer_joins side (Some a) None c = refl
outer_joins Low (Some a) (Some b) None = refl
outer_joins High (Some a) (Some b) None = refl
outer_joins Low (Some a) (Some b) (Some c) = let e : int_min (int_min a b) c ≡ int_min a (int_min b c) = omega (arith, ints, clamps) in ap Some e
outer_joins High (Some a) (Some b) (Some c) = let e : int_max (int_max a b) c ≡ int_max a (int_max b c) = omega (arith, ints, clamps) in ap Some e

-- one element more
pub marks_more : {X : Type 0} (side : Side) (mark : X → Option ℤ) (xs : List X) (i : ℕ) (d x : X) (best o new : Option ℤ) → i < length xs → x ≡ get_or xs i d →
    o ≡ mark x → new ≡ outer_of side best o → outer_of side best (outermost side mark (drop i xs)) ≡ outermost side mark xs →
    outer_of side new (outermost side mark (drop (i + 1) xs)) ≡ outermost side mark xs
marks_more side mark xs i d x best o new h is from joined so_far =
    ap (λ z. outer_of side z (outermost side mark (drop (i + 1) xs))) (joined ∙ ap (outer_of side best) (from ∙ ap mark is))
    ∙ outer_joins side best (mark (get_or xs i d)) (outermost side mark (drop (i + 1) xs)) ∙ sym (ap (outer_of side best) (at_drop_more (outermost side mark) xs i d h)) ∙ so_far

-- The outermost mark lies outside each mark.
-- the mark o lies at v, or outside it
abbrev LiesOutside : Side → Option ℤ → ℤ → Type 0
LiesOutside side None v = ⊥
LiesOutside side (Some b) v = Bounds side b v

outer_outside : (side : Side) (a b : Option ℤ) (v : ℤ) → LiesOutside side a v ⊎ LiesOutside side b v → LiesOutside side (outer_of side a b) v
outer_outside side None b v (inr h) = h
outer_outside side (Some a) None v (inl h) = h
outer_outside Low (Some a) (Some b) v (inl h) = omega (arith, ints, clamps, h)
outer_outside Low (Some a) (Some b) v (inr h) = omega (arith, ints, clamps, h)
outer_outside High (Some a) (Some b) v (inl h) = omega (arith, ints, clamps, h)
outer_outside High (Some a) (Some b) v (inr h) = omega (arith, ints, clamps, h)
outer_outside side None b v (inl h) = absurd h
outer_outside side (Some a) None v (inr h) = absurd h

list_outside : {X : Type 0} (side : Side) (mark : X → Option ℤ) (xs : List X) (v : ℤ) (k : ℕ) (d : X) → k < length xs →
    LiesOutside side (mark (get_or xs k d)) v → LiesOutside side (outermost side mark xs) v
list_outside side mark [] v k d h at = absurd (omega arith)
list_outside side mark (x ∷ xs) v zero d h at = outer_outside side (mark x) (outermost side mark xs) v (inl at)
list_outside side mark (x ∷ xs) v (suc k) d h at = outer_outside side (mark x) (outermost side mark xs) v (inr (list_outside side mark xs v k d (omega arith) at))

-- some entry of the list, of the cell, of the first n cells has the mark v
abbrev pub IsMarkIn : {X : Type 0} → (X → Option ℤ) → List X → ℤ → Type 0
IsMarkIn {X = X} mark xs v = (x : X) × Contains xs x × (mark x ≡ Some v)

abbrev pub IsCellMark : Side → Entries → ℤ → Type 0
IsCellMark side c v = IsMarkIn (fixed_mark side) c.fixed v ⊎ (IsMarkIn (river_mark side) c.rivers v ⊎ IsMarkIn (drain_mark side) c.drains v)

abbrev pub IsMarkBelow : Side → List Entries → ℕ → ℤ → Type 0
IsMarkBelow side p n v = (c : ℕ) × (c < n) × IsCellMark side (entries_at p c) v

marked_outside : {X : Type 0} (side : Side) (mark : X → Option ℤ) (xs : List X) (v : ℤ) → IsMarkIn mark xs v → LiesOutside side (outermost side mark xs) v
marked_outside side mark xs v (x, (k, h, is), e) = list_outside side mark xs v k x h (subst (λ o. LiesOutside side o v) (sym (ap mark is ∙ e)) (bounds_same side v))

cell_outside : (side : Side) (c : Entries) (v : ℤ) → IsCellMark side c v → LiesOutside side (cell_mark side c) v
cell_outside side c v m = grind (arith, outer_outside, marked_outside)

pub base_outside : (side : Side) (p : List Entries) (v : ℤ) → IsMarkBelow side p (length p) v → Bounds side (base_on side p) v
base_outside side p v (c, h, m) = some (outermost side (cell_mark side) p) (list_outside side (cell_mark side) p v c no_entries h (cell_outside side (entries_at p c) v m))
  where
    some : (o : Option ℤ) → LiesOutside side o v → Bounds side (unwrap_or o (pos 0)) v
    some None h = absurd h
    some (Some b) h = h

-- The base is a head.
abbrev IsHeadIfAny : Option ℤ → Type 0
IsHeadIfAny None = Unit {0}
IsHeadIfAny (Some v) = IsHead v

outer_head : (side : Side) (a b : Option ℤ) → IsHeadIfAny a → IsHeadIfAny b → IsHeadIfAny (outer_of side a b)
outer_head side None b h k = k
outer_head side (Some a) None h k = h
outer_head Low (Some a) (Some b) h k = record { above = omega (arith, ints, clamps, h.above, k.above); below = omega (arith, ints, clamps, h.below, k.below) }
outer_head High (Some a) (Some b) h k = record { above = omega (arith, ints, clamps, h.above, k.above); below = omega (arith, ints, clamps, h.below, k.below) }

list_head : {X : Type 0} (side : Side) (mark : X → Option ℤ) (P : X → Type 0) → ((x : X) → P x → IsHeadIfAny (mark x)) → (xs : List X) → All P xs → IsHeadIfAny (outermost side mark xs)
list_head side mark P each [] all = tt
list_head side mark P each (x ∷ xs) all = outer_head side (mark x) (outermost side mark xs) (each x (All-head P x xs all)) (list_head side mark P each xs (All-tail P x xs all))

pub base_head : (side : Side) (p : List Entries) → IsProblem p → IsHead (base_on side p)
base_head side p ok = some (outermost side (cell_mark side) p) (list_head side (cell_mark side) CellFits cell p (λ k d h. subst CellFits (get_or_default p k no_entries d h) (ok.cells k h)))
  where
    of : (hi : ℕ) (v : ℤ) → IsHead v → IsHeadIfAny (if_some hi v)
    of zero v h = tt
    of (suc n) v h = h

    bound : (side : Side) (lo hi : ℤ) → IsHead lo → IsHead hi → IsHead (bound_on side lo hi)
    bound Low lo hi h k = h
    bound High lo hi h k = k

    greater : (a b : ℤ) → IsHead a → IsHead b → IsHead (int_max a b)
    greater a b h k = record { above = omega (arith, ints, clamps, h.above); below = omega (arith, ints, clamps, h.below, k.below) }

    cell : (c : Entries) → CellFits c → IsHeadIfAny (cell_mark side c)
    cell c fits = outer_head side _ _ (list_head side (fixed_mark side) FixedFits (λ x f. of x.hi _ (bound side _ _ f.head_lo f.head_hi)) c.fixed fits.fixed)
        (outer_head side _ _ (list_head side (river_mark side) RiverFits (λ x f. of x.hi _ (bound side _ _ f.bottom_lo (greater _ _ f.stage_hi f.bottom_hi))) c.rivers fits.rivers)
        (list_head side (drain_mark side) DrainFits (λ x f. of x.hi _ (bound side _ _ f.elev_lo f.elev_hi)) c.drains fits.drains))

    some : (o : Option ℤ) → IsHeadIfAny o → IsHead (unwrap_or o (pos 0))
    some None h = record { above = omega (arith, ints); below = omega (arith, ints) }
    some (Some v) h = h

-- No head, bottom or elevation that conducts lies below the base of the low side.
module _ (m n cells : ℕ) (b : ℤ) where
  dry_head : (hi c : ℕ) (v z : ℤ) → (0 < hi → b ≤ℤ v) → c ≤ hi * m → (v *ℤ pos n) ≤ℤ z → (c ≡ 0) ⊎ ((b *ℤ pos n) ≤ℤ z)
  dry_head zero c v z h k q = inl (omega arith)
  dry_head (suc hi) c v z h k q = inr (le_trans_z _ _ _ (mul_mono_right n b v (h (omega arith))) q)

  pub cell_dry : (p : Entries) (w : WholeCell) → CellWithin m n cells p w → ((v : ℤ) → IsCellMark Low p v → b ≤ℤ v) → IsDry (b *ℤ pos n) w
  cell_dry p w e marks = record {
    fixed = All-zip (FixedWithin m n) (λ x. 0 < x.hi → b ≤ℤ x.head_lo) (λ z. (z.c ≡ 0) ⊎ ((b *ℤ pos n) ≤ℤ z.top)) (λ x z r h.
        dry_head x.hi z.c x.head_lo z.top h r.c.upper r.top.lower) p.fixed w.fixed e.fixed
        (λ k d i some. marks _ (inl (get_or p.fixed k d, Contains-get_or p.fixed k d i, some_at _ _ some)));
    rivers = All-zip (RiverWithin m n) (λ x. 0 < x.hi → b ≤ℤ x.bottom_lo) (λ z. (z.c ≡ 0) ⊎ ((b *ℤ pos n) ≤ℤ z.foot)) (λ x z r h.
        dry_head x.hi z.c x.bottom_lo z.foot h r.c.upper r.foot.lower) p.rivers w.rivers e.rivers
        (λ k d i some. marks _ (inr (inl (get_or p.rivers k d, Contains-get_or p.rivers k d i, some_at _ _ some))));
    drains = All-zip (DrainWithin m n) (λ x. 0 < x.hi → b ≤ℤ x.elev_lo) (λ z. (z.c ≡ 0) ⊎ ((b *ℤ pos n) ≤ℤ z.foot)) (λ x z r h.
        dry_head x.hi z.c x.elev_lo z.foot h r.c.upper r.foot.lower) p.drains w.drains e.drains
        (λ k d i some. marks _ (inr (inr (get_or p.drains k d, Contains-get_or p.drains k d i, some_at _ _ some))));
  }
