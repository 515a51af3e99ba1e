-- What it says that a face joins two zones, and that zones share a face.
use Rattle.zone_pairs.proofs.Common.{◌≡◌, ℕ, zero, suc, ◌<◌, ◌≤◌, ◌⊎◌, inl, inr, Bool, true, false, ◌&&◌, refl, ap, ◌∙◌, arith, List, [], ◌∷◌, All, Option, Some, None, AllByRecursion, list_any}
use Rattle.zone_pairs.proofs.Common.{and_from, and_parts, eqb-true, leb-true, or_cases, or_left, or_right, FlowModel, faces, variable_cells, is_active, ZonePair, joins, joins_by, share_face}
use Rattle.zone_pairs.proofs.Common.{pairs_below, pairs_in, zone_pairs, AreNumbers}
use Rattle.std.proofs.lemmas.List.Elements.{recursion_from_All, All-nil, All-weaker, filter_passes}
use Rattle.std.specs.Prelude.{◌==◌, slice_index}
use Rattle.model_types.specs.declared.face.Face.{Face}
use Rattle.model_types.proofs.Members.{In}

-- an element that passes, out of a list of which one does
pub any_in : {X : Type 0} (test : X → Bool) (xs : List X) → list_any test xs ≡ true → (x : X) × In xs x × (test x ≡ true)
any_in test [] h = absurd (let bad : false ≡ true = h in cc)
any_in test (x ∷ xs) h = elim (or_cases (test x) (list_any test xs) h) [
  | inl t ↦ (x, inl refl, t)
  | inr t ↦ (let (y, i, p) = any_in test xs t in (y, inr i, p))
]

pub in_any : {X : Type 0} (test : X → Bool) (xs : List X) (x : X) → In xs x → test x ≡ true → list_any test xs ≡ true
in_any test [] x i t = absurd i
in_any test (y ∷ ys) x (inl e) t = or_left (test y) (list_any test ys) (ap test e ∙ t)
in_any test (y ∷ ys) x (inr i) t = or_right (test y) (list_any test ys) (in_any test ys x i t)

-- two cells in zones a and b join the pair
pub record Join (z : ZonePair) (a b : ℕ) : Type 0 where
  pub zones : (0 < z.from) × (z.from < z.to)
  pub ends : ((a ≡ z.from) × (b ≡ z.to)) ⊎ ((a ≡ z.to) × (b ≡ z.from))

both_are : (a b c d : ℕ) → (a == b) && (c == d) ≡ true → (a ≡ b) × (c ≡ d)
both_are a b c d h = let (x, y) = and_parts (a == b) (c == d) h in (eqb-true a b x, eqb-true c d y)

pub join_of : (z : ZonePair) (a b : ℕ) → joins z a b ≡ true → Join z a b
join_of z a b h = grind (arith, and_parts, leb-true, or_cases, both_are)

module _ (m : FlowModel) (zones : List ℕ) where
  abbrev zone : ℕ → ℕ
  zone c = slice_index zones c

  -- a face of a variable cell to an active neighbour joins the pair
  pub record SharedFace (p : ℕ) (z : ZonePair) : Type 0 where
    pub cell : ℕ
    pub face : Face
    pub variable : In (variable_cells m p) cell
    pub neighbour : In (faces m.grid cell) (Some face)
    pub active : is_active m face.end ≡ true
    pub join : joins z (zone cell) (zone face.end) ≡ true

  of_face : (p : ℕ) (z : ZonePair) (c : ℕ) (o : Option Face) → In (variable_cells m p) c → In (faces m.grid c) o → joins_by m zones z c o ≡ true → SharedFace p z
  of_face p z c None v i h = absurd (let bad : false ≡ true = h in cc)
  of_face p z c (Some f) v i h =
      let (active, join) = and_parts (is_active m f.end) (joins z (zone c) (zone f.end)) h in
      record { cell = c; face = f; variable = v; neighbour = i; active = active; join = join }

  pub face_of : (p : ℕ) (z : ZonePair) → share_face m zones p z ≡ true → SharedFace p z
  unfolding share_face
  face_of p z h =
      let (c, v, t) = any_in (λ c. list_any (joins_by m zones z c) (faces m.grid c)) (variable_cells m p) h in
      let (o, i, j) = any_in (joins_by m zones z c) (faces m.grid c) t in
      of_face p z c o v i j

  pub shares : (p : ℕ) (z : ZonePair) → SharedFace p z → share_face m zones p z ≡ true
  unfolding share_face
  shares p z h =
      let face : joins_by m zones z h.cell (Some h.face) ≡ true = and_from (is_active m h.face.end) (joins z (zone h.cell) (zone h.face.end)) h.active h.join in
      let cell : list_any (joins_by m zones z h.cell) (faces m.grid h.cell) ≡ true = in_any (joins_by m zones z h.cell) (faces m.grid h.cell) (Some h.face) h.neighbour face in
      in_any (λ c. list_any (joins_by m zones z c) (faces m.grid c)) (variable_cells m p) h.cell h.variable cell

  -- zones that share a face are at most 999
  module _ (small : All (λ z. z ≤ 999) zones) where
    pub zone_small : (c : ℕ) → zone c ≤ 999
    zone_small c = by_recursion zones c (recursion_from_All (λ z. z ≤ 999) zones small)
      where
        by_recursion : (zs : List ℕ) (c : ℕ) → AllByRecursion (λ z. z ≤ 999) zs → slice_index zs c ≤ 999
        by_recursion [] c h = omega arith
        by_recursion (z ∷ zs) zero h = h.0
        by_recursion (z ∷ zs) (suc c) h = by_recursion zs c h.1

    pub shared_small : (p : ℕ) (z : ZonePair) → share_face m zones p z ≡ true → (z.from ≤ 999) × (z.to ≤ 999)
    shared_small p z h =
        let s = face_of p z h in
        let a = zone_small s.cell in
        let b = zone_small s.face.end in
        elim (join_of z (zone s.cell) (zone s.face.end) s.join).ends [
          | inl (x, y) ↦ (omega (arith, x, a), omega (arith, y, b))
          | inr (x, y) ↦ (omega (arith, y, b), omega (arith, x, a))
        ]

-- The zones of a pair are at most 999.
-- the zones of a pair
abbrev pub IsPair : ZonePair → Type 0
IsPair z = (z.from ≤ 999) × (z.to ≤ 999)

pub pairs_small : (m : FlowModel) (zones : Option (List ℕ)) (p : ℕ) → AreNumbers zones → All IsPair (pairs_in m zones p)
unfolding zone_pairs
pairs_small m None p h = All-nil IsPair
pairs_small m (Some zones) p h = All-weaker _ IsPair (shared_small m zones h p) _ (filter_passes (share_face m zones p) (pairs_below 1000))
