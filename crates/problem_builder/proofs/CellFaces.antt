-- The faces of a variable cell: both their cells lie in the grid, and are active where the cell behind is.
use Rattle.problem_builder.proofs.Common.{◌≡◌, ℕ, ◌+◌, ◌<◌, inl, inr, true, Option, sym, ap, ◌∙◌, arith, All, List, Face, Grid, FlowModel, cell_count, stride, span, has_after, faces, HasSize}
use Rattle.problem_builder.proofs.Common.{is_active, IsFaceOf, first_within, after_within, before_le, before_back, HasConductance, HasPairs, IsBranch, IsInGrid, face_pair, pair_at, AreTables, Axis}
use Rattle.problem_builder.proofs.Common.{Row, Column, Vertical, get_or, length, subst, Tables, faces_within}
use Rattle.std.proofs.Math.Nat.{mod-le}

-- What the tables of a run say of faces.
pub face_in : (m : FlowModel) (s : ℕ) (t : Tables) → AreTables m s t → (axis : Axis) (a : ℕ) → a < cell_count m.grid → HasConductance m s axis a (pair_at t.pairs axis a)
face_in m s t are Row a lt = are.row.each a lt
face_in m s t are Column a lt = are.column.each a lt
face_in m s t are Vertical a lt = are.vertical.each a lt

-- both cells of a face lie in the grid
pub face_range : (g : Grid) (c : ℕ) (f : Face) → HasSize g → c < cell_count g → IsFaceOf g c f → f.first + stride g f.axis < cell_count g
face_range g c f size lt (inl (e, q, r)) = omega (arith, q, lt, before_le g f.axis c e, mod-le c (span g f.axis))
face_range g c f size lt (inr (e, q, r)) = omega (arith, q, after_within g f.axis c size lt e)

-- and the other cell of a face comes after its first one
pub first_after : (g : Grid) (c : ℕ) (f : Face) → HasSize g → IsFaceOf g c f → has_after g f.axis f.first ≡ true
first_after g c f size (inl (e, q, r)) = ap (has_after g f.axis) q ∙ before_back g f.axis c size e
first_after g c f size (inr (e, q, r)) = ap (has_after g f.axis) q ∙ e

-- and both are active
pub face_active : (m : FlowModel) (c : ℕ) (f : Face) → IsFaceOf m.grid c f → is_active m c ≡ true → is_active m f.end ≡ true → (is_active m f.first ≡ true) ×
    (is_active m (f.first + stride m.grid f.axis) ≡ true)
face_active m c f (inl (e, q, r)) a b = grind (arith, before_le, mod-le)
face_active m c f (inr (e, q, r)) a b = (ap (is_active m) q ∙ a, ap (is_active m) (ap (λ k. k + stride m.grid f.axis) q ∙ sym r) ∙ b)

-- so it is a branch
pub face_branch : (m : FlowModel) (c : ℕ) (f : Face) → HasSize m.grid → c < cell_count m.grid → IsFaceOf m.grid c f → is_active m c ≡ true →
    is_active m f.end ≡ true → IsBranch m f.axis f.first
face_branch m c f size lt g here there =
    let (x, y) = face_active m c f g here there in
    record { within = face_range m.grid c f size lt g; first = x; second = y }

-- a face of a cell of the grid, under another name of its faces, lies in the grid, if there is one
pub face_within : (g : Grid) (c : ℕ) (xs : List (Option Face)) (k : ℕ) (d : Option Face) → HasSize g → c < cell_count g → xs ≡ faces g c → k < length xs →
    IsInGrid g (get_or xs k d)
face_within g c xs k d size within e lt = subst (All (IsInGrid g)) (sym e) (faces_within g c size within) k d lt

-- the tables of a run have the pairs of the model's faces
pub tables_have_pairs : (m : FlowModel) (s : ℕ) (t : Tables) → AreTables m s t → HasPairs m.grid t.pairs
tables_have_pairs m s t are = record { row = are.row.count; column = are.column.count; vertical = are.vertical.count }

pub pairs_are : (m : FlowModel) (s : ℕ) (t : Tables) → HasSize m.grid → AreTables m s t → (c : ℕ) (f : Face) → c < cell_count m.grid → IsFaceOf m.grid c f →
    is_active m c ≡ true → is_active m f.end ≡ true → pair_at t.pairs f.axis f.first ≡ face_pair m s f.axis f.first
pairs_are m s t size are c f lt g here there =
    let (x, y) = face_active m c f g here there in
    face_in m s t are f.axis f.first (first_within m.grid c f lt g) (first_after m.grid c f size g) x y
