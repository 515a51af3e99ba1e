-- Faces: where they lead, that they lead back, and that their ends ascend.
use Rattle.model_types.proofs.Common.{◌≡◌, ℕ, suc, ◌+◌, ◌*◌, ◌-◌, ◌%◌, ◌<◌, ◌≤◌, ◌⊎◌, inl, inr, Bool, true, Option, Some, None, List, [], ◌∷◌, refl, sym, ap, subst, arith, length, All, filter_map}
use Rattle.model_types.proofs.Common.{leb-true, le-leb, cond-true, mod_below, mul-le-mul_right, Grid, Face, Row, Column, Vertical, cell_count, stride, span, has_before, has_after, face_before}
use Rattle.model_types.proofs.Common.{face_after, faces, through, HasSize, IsInGrid, mul-pos, mod-le}
use Rattle.std.proofs.lemmas.Option.{cond_some, none-some}
use Rattle.model_types.specs.declared.face.Axis.{Axis}
use Rattle.model_types.proofs.Remainders.{mod_minus, mod_plus, plus_below}
use Rattle.model_types.proofs.Members.{In, All-In, In-filter_map, filter_map-In, Ordered, Ordered-filter_map, length-filter_map}

pub stride_positive : (g : Grid) (axis : Axis) → HasSize g → 0 < stride g axis
stride_positive g Row h = omega arith
stride_positive g Column h = omega (arith, h.cols.0)
stride_positive g Vertical h = mul-pos (omega (arith, h.rows.0)) (omega (arith, h.cols.0))

pub span_positive : (g : Grid) (axis : Axis) → HasSize g → 0 < span g axis
span_positive g Row h = omega (arith, h.cols.0)
span_positive g Column h = mul-pos (omega (arith, h.rows.0)) (omega (arith, h.cols.0))
span_positive g Vertical h = mul-pos (omega (arith, h.layers.0)) (mul-pos (omega (arith, h.rows.0)) (omega (arith, h.cols.0)))

-- the grid has a whole number of spans
abbrev spans : Grid → Axis → ℕ
spans g Row = g.layers * g.rows
spans g Column = g.layers
spans g Vertical = 1

whole : (g : Grid) (axis : Axis) → cell_count g ≡ spans g axis * span g axis
whole g Row = omega arith
whole g Column = refl
whole g Vertical = omega arith

pub before_le : (g : Grid) (axis : Axis) (c : ℕ) → has_before g axis c ≡ true → stride g axis ≤ c % span g axis
before_le g axis c e = leb-true (stride g axis) (c % span g axis) e

pub after_lt : (g : Grid) (axis : Axis) (c : ℕ) → has_after g axis c ≡ true → c % span g axis + stride g axis < span g axis
after_lt g axis c e = leb-true (suc (c % span g axis + stride g axis)) (span g axis) e

-- a face before the cell is one after the cell behind it, and the other way round
pub before_back : (g : Grid) (axis : Axis) (c : ℕ) → HasSize g → has_before g axis c ≡ true → has_after g axis (c - stride g axis) ≡ true
before_back g axis c h e = grind (arith, before_le, mod_minus, span_positive, le-leb, mod_below)

pub after_back : (g : Grid) (axis : Axis) (c : ℕ) → HasSize g → has_after g axis c ≡ true → has_before g axis (c + stride g axis) ≡ true
after_back g axis c h e = grind (arith, after_lt, mod_plus, le-leb)

pub after_within : (g : Grid) (axis : Axis) (c : ℕ) → HasSize g → c < cell_count g → has_after g axis c ≡ true → c + stride g axis < cell_count g
after_within g axis c h lt e =
    let w = whole g axis in
    let r = plus_below c (stride g axis) (span g axis) (spans g axis) (span_positive g axis h) (omega (arith, w, lt)) (after_lt g axis c e) in
    omega (arith, w, r)

-- what a face of cell c is
abbrev pub IsFaceOf : Grid → ℕ → Face → Type 0
IsFaceOf g c x =
    ((has_before g x.axis c ≡ true) × (x.first ≡ c - stride g x.axis) × (x.end ≡ c - stride g x.axis))
    ⊎ ((has_after g x.axis c ≡ true) × (x.first ≡ c) × (x.end ≡ c + stride g x.axis))

pub end_within : (g : Grid) (c : ℕ) (x : Face) → HasSize g → c < cell_count g → IsFaceOf g c x → x.end < cell_count g
end_within g c x h lt (inl (e, p, q)) = omega (arith, q)
end_within g c x h lt (inr (e, p, q)) = omega (arith, q, after_within g x.axis c h lt e)

pub first_within : (g : Grid) (c : ℕ) (x : Face) → c < cell_count g → IsFaceOf g c x → x.first < cell_count g
first_within g c x lt (inl (e, p, q)) = omega (arith, p)
first_within g c x lt (inr (e, p, q)) = omega (arith, p)

pub end_other : (g : Grid) (c : ℕ) (x : Face) → HasSize g → IsFaceOf g c x → x.end ≡ c → ⊥
end_other g c x h (inl (e, p, q)) same = omega (arith, q, same, stride_positive g x.axis h, before_le g x.axis c e, mod-le c (span g x.axis))
end_other g c x h (inr (e, p, q)) same = omega (arith, q, same, stride_positive g x.axis h)

-- the same face seen from its other end
abbrev pub turned : ℕ → Face → Face
turned c x = record { axis = x.axis; first = x.first; end = c }

pub face_back : (g : Grid) (c : ℕ) (x : Face) → HasSize g → IsFaceOf g c x → IsFaceOf g x.end (turned c x)
face_back g c x h (inl (e, p, q)) = grind (arith, before_le, mod-le, before_back)
face_back g c x h (inr (e, p, q)) = grind (arith, after_back)

-- an optional face that is one
before_is : (g : Grid) (axis : Axis) (c : ℕ) (x : Face) → face_before g axis c ≡ Some x → IsFaceOf g c x
before_is g axis c x e = grind (arith, cond_some)

after_is : (g : Grid) (axis : Axis) (c : ℕ) (x : Face) → face_after g axis c ≡ Some x → IsFaceOf g c x
after_is g axis c x e = grind (arith, cond_some)

before_some : (g : Grid) (c : ℕ) (x : Face) → has_before g x.axis c ≡ true → x.first ≡ c - stride g x.axis → x.end ≡ c - stride g x.axis → face_before g x.axis c ≡ Some x
before_some g c x e p q = grind (arith, cond-true)

after_some : (g : Grid) (c : ℕ) (x : Face) → has_after g x.axis c ≡ true → x.first ≡ c → x.end ≡ c + stride g x.axis → face_after g x.axis c ≡ Some x
after_some g c x e p q = grind (arith, cond-true)

before_place : (g : Grid) (axis : Axis) (c : ℕ) → In (faces g c) (face_before g axis c)
before_place g Row c = inr (inr (inl refl))
before_place g Column c = inr (inl refl)
before_place g Vertical c = inl refl

after_place : (g : Grid) (axis : Axis) (c : ℕ) → In (faces g c) (face_after g axis c)
after_place g Row c = inr (inr (inr (inl refl)))
after_place g Column c = inr (inr (inr (inr (inl refl))))
after_place g Vertical c = inr (inr (inr (inr (inr (inl refl)))))

pub faces_are : (g : Grid) (c : ℕ) (x : Face) → In (faces g c) (Some x) → IsFaceOf g c x
faces_are g c x (inl e) = before_is g Vertical c x e
faces_are g c x (inr (inl e)) = before_is g Column c x e
faces_are g c x (inr (inr (inl e))) = before_is g Row c x e
faces_are g c x (inr (inr (inr (inl e)))) = after_is g Row c x e
faces_are g c x (inr (inr (inr (inr (inl e))))) = after_is g Column c x e
faces_are g c x (inr (inr (inr (inr (inr (inl e)))))) = after_is g Vertical c x e
faces_are g c x (inr (inr (inr (inr (inr (inr e)))))) = absurd e

pub faces_have : (g : Grid) (c : ℕ) (x : Face) → IsFaceOf g c x → In (faces g c) (Some x)
faces_have g c x (inl (e, p, q)) = subst (In (faces g c)) (before_some g c x e p q) (before_place g x.axis c)
faces_have g c x (inr (e, p, q)) = subst (In (faces g c)) (after_some g c x e p q) (after_place g x.axis c)

-- a face that passes a test
through_some : (test : ℕ → Bool) (o : Option Face) (x : Face) → through test o ≡ Some x → (o ≡ Some x) × (test x.end ≡ true)
through_some test None x e = absurd (none-some x e)
through_some test (Some y) x e = grind (arith, cond_some)

through_is : (test : ℕ → Bool) (x : Face) → test x.end ≡ true → through test (Some x) ≡ Some x
through_is test x e = cond-true (test x.end) (Some x) None e

pub passing_are : (g : Grid) (test : ℕ → Bool) (c : ℕ) (x : Face) → In (filter_map (through test) (faces g c)) x → IsFaceOf g c x × (test x.end ≡ true)
passing_are g test c x i =
    let (o, j, e) = filter_map-In (through test) (faces g c) x i in
    let (p, q) = through_some test o x e in
    (faces_are g c x (subst (In (faces g c)) p j), q)

pub passing_have : (g : Grid) (test : ℕ → Bool) (c : ℕ) (x : Face) → IsFaceOf g c x → test x.end ≡ true → In (filter_map (through test) (faces g c)) x
passing_have g test c x f e = In-filter_map (through test) (faces g c) (Some x) x (faces_have g c x f) (through_is test x e)

-- the ends ascend
module _ (g : Grid) (c : ℕ) (test : ℕ → Bool) (h : HasSize g) where
  abbrev IsBelow : Option Face → Option Face → Type 0
  IsBelow a b = (x y : Face) → through test a ≡ Some x → through test b ≡ Some y → x.end < y.end

  abbrev BelowEach : Option Face → List (Option Face) → Type 0
  BelowEach a [] = Unit {0}
  BelowEach a (b ∷ bs) = IsBelow a b × BelowEach a bs

  abbrev Ascends : List (Option Face) → Type 0
  Ascends [] = Unit {0}
  Ascends (a ∷ bs) = BelowEach a bs × Ascends bs

  each_below : (a : Option Face) (bs : List (Option Face)) → BelowEach a bs → (b : Option Face) → In bs b → IsBelow a b
  each_below a [] k b i = absurd i
  each_below a (d ∷ bs) k b (inl e) = subst (IsBelow a) e k.0
  each_below a (d ∷ bs) k b (inr i) = each_below a bs k.1 b i

  ordered : (bs : List (Option Face)) → Ascends bs → Ordered IsBelow bs
  ordered [] k = tt
  ordered (a ∷ bs) k = (each_below a bs k.0, ordered bs k.1)

  is_before : (axis : Axis) (x : Face) → through test (face_before g axis c) ≡ Some x → (x.end ≡ c - stride g axis) × (stride g axis ≤ c % span g axis)
  is_before axis x e =
      let (p, q) = through_some test (face_before g axis c) x e in
      let (t, same) = cond_some (has_before g axis c) _ x p in
      (ap (λ (z : Face). z.end) (sym same), before_le g axis c t)

  is_after : (axis : Axis) (x : Face) → through test (face_after g axis c) ≡ Some x → (x.end ≡ c + stride g axis) × (c % span g axis + stride g axis < span g axis)
  is_after axis x e =
      let (p, q) = through_some test (face_after g axis c) x e in
      let (t, same) = cond_some (has_after g axis c) _ x p in
      (ap (λ (z : Face). z.end) (sym same), after_lt g axis c t)

  both_before : (a b : Axis) → span g b ≤ stride g a → IsBelow (face_before g a c) (face_before g b c)
  both_before a b le x y ex ey =
      let (p, q) = is_before a x ex in
      let (r, t) = is_before b y ey in
      omega (arith, p, q, r, t, le, mod-le c (span g a), mod_below c (span g b) (span_positive g b h))

  before_after : (a b : Axis) → IsBelow (face_before g a c) (face_after g b c)
  before_after a b x y ex ey =
      let (p, q) = is_before a x ex in
      let (r, t) = is_after b y ey in
      omega (arith, p, q, r, stride_positive g a h, stride_positive g b h, mod-le c (span g a))

  both_after : (a b : Axis) → span g a ≤ stride g b → IsBelow (face_after g a c) (face_after g b c)
  both_after a b le x y ex ey =
      let (p, q) = is_after a x ex in
      let (r, t) = is_after b y ey in
      omega (arith, p, q, r, le)

  row_column : span g Row ≤ stride g Column
  row_column = omega arith

  column_vertical : span g Column ≤ stride g Vertical
  column_vertical = omega arith

  row_vertical : span g Row ≤ stride g Vertical
  row_vertical = omega (arith, mul-le-mul_right g.cols h.rows.0)

  faces_ascend : Ascends (faces g c)
  faces_ascend = (
    (
      both_before Vertical Column column_vertical,
      (both_before Vertical Row row_vertical, (before_after Vertical Row, (before_after Vertical Column, (before_after Vertical Vertical, tt)))),
    ),
    (
      (both_before Column Row row_column, (before_after Column Row, (before_after Column Column, (before_after Column Vertical, tt)))),
      (
        (before_after Row Row, (before_after Row Column, (before_after Row Vertical, tt))),
        ((both_after Row Column row_column, (both_after Row Vertical row_vertical, tt)), ((both_after Column Vertical column_vertical, tt), (tt, tt))),
      ),
    ),
  )

  pub ends_ascend : Ordered (λ (x y : Face). x.end < y.end) (filter_map (through test) (faces g c))
  ends_ascend = Ordered-filter_map (λ (x y : Face). x.end < y.end) (through test) (faces g c) (ordered (faces g c) faces_ascend)

pub few_faces : (g : Grid) (test : ℕ → Bool) (c : ℕ) → length (filter_map (through test) (faces g c)) ≤ 6
few_faces g test c = omega (arith, length-filter_map (through test) (faces g c))

pub faces_within : (g : Grid) (c : ℕ) → HasSize g → c < cell_count g → All (IsInGrid g) (faces g c)
faces_within g c h lt = All-In (IsInGrid g) (faces g c) (λ f i. each f i)
  where
    each : (f : Option Face) → In (faces g c) f → IsInGrid g f
    each None i = tt
    each (Some x) i = (first_within g c x lt (faces_are g c x i), end_within g c x h lt (faces_are g c x i))

pub within_of : (g : Grid) (c : ℕ) (p q r x y z : Option Face) → HasSize g → c < cell_count g →
    p ≡ face_before g Vertical c → q ≡ face_before g Column c → r ≡ face_before g Row c → x ≡ face_after g Row c → y ≡ face_after g Column c → z ≡ face_after g Vertical c →
    All (IsInGrid g) (p ∷ q ∷ r ∷ x ∷ y ∷ z ∷ [])
within_of g c p q r x y z h lt e₁ e₂ e₃ e₄ e₅ e₆ =
    let same : faces g c ≡ (p ∷ q ∷ r ∷ x ∷ y ∷ z ∷ []) = λ i. sym e₁ i ∷ sym e₂ i ∷ sym e₃ i ∷ sym e₄ i ∷ sym e₅ i ∷ sym e₆ i ∷ [] in
    subst (λ xs. All (IsInGrid g) xs) same (faces_within g c h lt)
