-- The branches of a step's problem, and of a hull of two, are those of the first deck's cells; so its faces join the pairs of zones that share a face.
use Rattle.check_run.proofs.Common.{cell_hull, cell_shape, fixed_hull, fixed_shape, map, zip_with, ◌≡◌, inl, inr, ℕ, suc, ◌<◌, ◌++◌, ◌⊎◌, Bool, true, false, cond, List, [], ◌∷◌, length, get_or}
use Rattle.check_run.proofs.Common.{Option, Some, None, refl, sym, ap, ◌∙◌, subst, arith, ℤ, AllZip, flat_map, filter_map, nat_lt, slice_index, and_from, and_parts, cases_Bool, leb-true, lt-ltb}
use Rattle.check_run.proofs.Common.{nat_tests, Bound, Entries, entries_at, no_entries, FlowModel, TimeStep, cell_count, HasSize, is_variable, is_constant, is_active, index_of, variable_cells}
use Rattle.check_run.proofs.Common.{FixedSource, as_general, constant_faces, fixed_sources, local_entries, storage_at, variable_faces, passing, at_rank, below_is, index_is, index_below, IsProblemBy}
use Rattle.check_run.proofs.Common.{Face, share, any_in, in_any, cell_faces, face_between, face_from, faces, faces_by_kind, fixed_faces, link_faces, is_lower_zone, ZonePair, share_face, joins}
use Rattle.check_run.proofs.Common.{face_of, join_of, shares, AllZip-at, AllZip-length, flat-In, IsProblemOf, ToConstant, ToGeneral, FromStorage, is_between, eqb-true, ◌==◌, left_of, right_of}
use Rattle.check_run.proofs.Common.{zip_image, cells_of, whole_cell, whole_link, whole_fixed, IsModel, IfSome, IsSecond, hull_parts}
use Rattle.model_types.proofs.{Members.In-map, Members.In, Leads.end_within, Leads.face_back, Leads.faces_are, Leads.faces_have, Leads.passing_are, Leads.turned, Leads.IsFaceOf, Leads.passing_have}
use Rattle.problem_builder.proofs.Members.{In-append, In-variable, variable-In, fixed_source, constant_active, variable_active}
use Rattle.step_problem.specs.{declared.entry.Fixed.Fixed, declared.entry.FixedKind.TheVariants.Constant, declared.entry.FixedKind.TheVariants.Storage, declared.entry.FixedKind.TheVariants.General}
use Rattle.step_problem.specs.{declared.entry.Link.Link}
use Rattle.model_types.specs.declared.face.Face.{Face as ModelFace}
use Rattle.std.specs.Option.{option_to_list}

-- Members of lists that are made of others.

left_in : {X : Type 0} (xs ys : List X) (x : X) → In xs x → In (xs ++ ys) x
left_in [] ys x i = absurd i
left_in (z ∷ xs) ys x (inl e) = inl e
left_in (z ∷ xs) ys x (inr i) = inr (left_in xs ys x i)

right_in : {X : Type 0} (xs ys : List X) (x : X) → In ys x → In (xs ++ ys) x
right_in [] ys x i = i
right_in (z ∷ xs) ys x i = inr (right_in xs ys x i)

flat_in : {X Y : Type 0} (f : X → List Y) (xs : List X) (x : X) (y : Y) → In xs x → In (f x) y → In (flat_map f xs) y
flat_in f [] x y i j = absurd i
flat_in f (z ∷ xs) x y (inl e) j = left_in (f z) (flat_map f xs) y (subst (λ w. In (f w) y) (sym e) j)
flat_in f (z ∷ xs) x y (inr i) j = right_in (f z) (flat_map f xs) y (flat_in f xs x y i j)

only : (b : Bool) (x y : Face) → In (cond b (x ∷ []) []) y → (b ≡ true) × (x ≡ y)
only true x y (inl e) = (refl, e)
only true x y (inr i) = absurd i
only false x y i = absurd i

-- what holds of the items of a list beside another holds of those of a hull with it
pub hull_zip : {X Y : Type 0} (shape : X → X) (hull : X → X → X) (R : X → Y → Type 0) → ((x y : X) (w : Y) → shape y ≡ shape x → R x w → R (hull x y) w) →
    (xs ys : List X) (ws : List Y) → map shape ys ≡ map shape xs → AllZip R xs ws → AllZip R (zip_with hull xs ys) ws
hull_zip shape hull R f [] ys [] e k = tt
hull_zip shape hull R f [] ys (w ∷ ws) e k = absurd k
hull_zip shape hull R f (x ∷ xs) ys [] e k = absurd k
hull_zip shape hull R f (x ∷ xs) [] (w ∷ ws) e k = absurd (cc)
hull_zip shape hull R f (x ∷ xs) (y ∷ ys) (w ∷ ws) e k =
    let here : shape y ≡ shape x = cc in
    let rest : map shape ys ≡ map shape xs = cc in
    (f x y w here k.0, hull_zip shape hull R f xs ys ws rest k.1)

module _ (m : FlowModel) (p : ℕ) where
  -- a link leads to the cell at a face, and a branch to a known head is of a source
  abbrev pub LeadsTo : Link → ModelFace → Type 0
  LeadsTo x f = x.cell ≡ index_of m p f.end

  abbrev pub IsTo : Fixed → FixedSource → Type 0
  IsTo x (ToConstant f) = (x.kind ≡ Constant) × (x.source ≡ f.end)
  IsTo x (ToGeneral head k) = x.kind ≡ General
  IsTo x FromStorage = x.kind ≡ Storage

  -- the branches of a problem's cell are those of the model's
  pub record HasBranches (e : Entries) (c : ℕ) : Type 0 where
    pub id : e.id ≡ c
    pub links : AllZip LeadsTo e.links (variable_faces m p c)
    pub fixed : AllZip IsTo e.fixed (fixed_sources m p c)

  hull_is_to : (x y : Fixed) (t : FixedSource) → IsTo x t → IsTo (fixed_hull x y) t
  hull_is_to x y (ToConstant f) k = k
  hull_is_to x y (ToGeneral head conductance) k = k
  hull_is_to x y FromStorage k = k

  hull_branches : (a b : Entries) (c : ℕ) → cell_shape b ≡ cell_shape a → HasBranches a c → HasBranches (cell_hull a b) c
  hull_branches a b c e k = record {
    id = k.id;
    links = k.links;
    fixed = hull_zip fixed_shape fixed_hull IsTo (λ x y t same. hull_is_to x y t) a.fixed b.fixed (fixed_sources m p c) (ap (λ (x : Entries). x.fixed) e) k.fixed;
  }

  -- all variable cells, by ascending number
  abbrev pub HaveBranches : List Entries → Type 0
  HaveBranches es = AllZip HasBranches es (variable_cells m p)

module _ (m : FlowModel) (s : ℕ) (at : TimeStep) (old : List Bound) (es : List Entries) where
  of_problem : IsProblemOf m s at old es → HaveBranches m at.period es
  of_problem is =
      subst (HaveBranches m at.period) (sym (cells_of m s at old es is).each) (zip_image (HasBranches m at.period) (whole_cell m s at old) (variable_cells m at.period) (λ c i. record {
        id = refl;
        links = zip_image (LeadsTo m at.period) (whole_link m s at old) (variable_faces m at.period c) (λ f j. refl);
        fixed = zip_image (IsTo m at.period) (whole_fixed m s at old c) (fixed_sources m at.period c) (λ y j. is_to c y);
      }))
    where
      is_to : (c : ℕ) (t : FixedSource) → IsTo m at.period (whole_fixed m s at old c t) t
      is_to c (ToConstant f) = (refl, refl)
      is_to c (ToGeneral head conductance) = refl
      is_to c FromStorage = refl

pub have_branches : (a : FlowModel) (o : Option FlowModel) (s : ℕ) (at : TimeStep) (old : List Bound) (es : List Entries) → IsModel a → IfSome o (IsSecond a) →
    IsProblemBy a o s at old es → HaveBranches a at.period es
have_branches a None s at old es valid second is = of_problem a s at old es is
have_branches a (Some b) s at old es valid second is =
    let k = hull_parts a b s at old es valid second.alike is in
    subst (HaveBranches a at.period) (sym k.hull.is)
    (hull_zip cell_shape cell_hull (HasBranches a at.period) (hull_branches a at.period) k.first k.second (variable_cells a at.period) k.hull.alike (of_problem a s at old k.first k.is_first))

shown : (fs : List Face) (z : ZonePair) (f : Face) → In fs f → f.from ≡ z.from → f.to ≡ z.to → share fs z ≡ true
shown fs z f i from to = in_any (is_between z.from z.to) fs f i (grind (arith, nat_tests))

-- the two zones of a face
abbrev pub zones_of_face : Face → ZonePair
zones_of_face f = record { from = f.from; to = f.to }

module _ (zones : List ℕ) (l u : ℕ → ℤ) where
  abbrev zone : ℕ → ℕ
  zone c = slice_index zones c

  -- z is the pair of the zones of two cells, the lower zone first
  record Crosses (x y : ℕ) (z : ZonePair) : Type 0 where
    lower : (0 < z.from) × (z.from < z.to)
    from : zone x ≡ z.from
    to : zone y ≡ z.to

  crosses : (x y lo hi c d : ℕ) (f : Face) → x ≡ c → y ≡ d → In (face_from zones l u x y lo hi) f → Crosses c d (zones_of_face f)
  unfolding face_from
  crosses x y lo hi c d f e k i =
      let (t, same) = only (is_lower_zone (zone x) (zone y)) (face_between zones l u x y lo hi) f i in
      let (a, b) = and_parts (nat_lt 0 (zone x)) (nat_lt (zone x) (zone y)) t in
      let P : Face → Type 0 = λ g. Crosses c d (zones_of_face g) in
      subst P same (record { lower = (leb-true 1 (zone x) a, leb-true (suc (zone x)) (zone y) b); from = ap zone (sym e); to = ap zone (sym k) })

  crossed : (x y lo hi c d : ℕ) (z : ZonePair) → x ≡ c → y ≡ d → Crosses c d z → (f : Face) × In (face_from zones l u x y lo hi) f × (f.from ≡ z.from) × (f.to ≡ z.to)
  unfolding face_from
  crossed x y lo hi c d z e k h =
      let from : zone x ≡ z.from = ap zone e ∙ h.from in
      let to : zone y ≡ z.to = ap zone k ∙ h.to in
      let above = lt-ltb 0 (zone x) (omega (arith, h.lower, from)) in
      let below = lt-ltb (zone x) (zone y) (omega (arith, h.lower, from, to)) in
      let lower : is_lower_zone (zone x) (zone y) ≡ true = and_from (nat_lt 0 (zone x)) (nat_lt (zone x) (zone y)) above below in
      (face_between zones l u x y lo hi, rw lower (inl refl), from, to)

  module _ (m : FlowModel) (p : ℕ) (size : HasSize m.grid) (es : List Entries) (are : HaveBranches m p es) where
    -- the cell of the index of a variable cell
    end_is : (c : ℕ) → is_variable m p c ≡ true → c < cell_count m.grid → (entries_at es (index_of m p c)).id ≡ c
    end_is c v lt =
        let k = index_of m p c in
        let inside : k < length es = omega (arith, index_below m p c v lt, AllZip-length (HasBranches m p) es (variable_cells m p) are) in
        (AllZip-at (HasBranches m p) es (variable_cells m p) k no_entries 0 are inside).id
        ∙ ap (λ cs. get_or cs k 0) (below_is m p (cell_count m.grid))
        ∙ ap (λ i. get_or (passing (is_variable m p) (cell_count m.grid)) i 0) (index_is m p c)
        ∙ at_rank (is_variable m p) (cell_count m.grid) c v lt

    -- the end of a link through a face
    link_end : (c : ℕ) (x : Link) (g : ModelFace) → In (variable_cells m p) c → IsFaceOf m.grid c g → is_variable m p g.end ≡ true → LeadsTo m p x g → (entries_at es x.cell).id ≡ g.end
    link_end c x g i face v e = ap (λ k. (entries_at es k).id) e ∙ end_is g.end v (end_within m.grid c g size (variable-In m p (cell_count m.grid) c i).1 face)

    -- A face joins a pair that share_face names.
    joins_pair : (c : ℕ) (g : ModelFace) (z : ZonePair) → In (variable_cells m p) c → IsFaceOf m.grid c g → is_active m g.end ≡ true → Crosses c g.end z ⊎
        Crosses g.end c z → share_face m zones p z ≡ true
    joins_pair c g z i face active h =
        shares m zones p z (record { cell = c; face = g; variable = i; neighbour = faces_have m.grid c g face; active = active; join = joined h })
      where
        joined : Crosses c g.end z ⊎ Crosses g.end c z → joins z (zone c) (zone g.end) ≡ true
        joined (inl k) = (let a = k.from in let b = k.to in let d = k.lower in grind (arith, nat_tests))
        joined (inr k) = (let a = k.from in let b = k.to in let d = k.lower in grind (arith, nat_tests))

    fixed_shares : (e : Entries) (c : ℕ) (x : Fixed) (t : FixedSource) (f : Face) → e.id ≡ c → In (variable_cells m p) c → In (fixed_sources m p c) t →
        IsTo m p x t → In (fixed_faces zones l u e x) f → share_face m zones p (zones_of_face f) ≡ true
    fixed_shares e c x (ToConstant g) f id i j is k =
        let (face, constant) = passing_are m.grid (is_constant m p) c g (fixed_source m p c (ToConstant g) j) in
        joins_pair c g (zones_of_face f) i face (constant_active m p g.end constant)
        (elim (In-append (face_from zones l u e.id x.source x.lo x.hi) (face_from zones l u x.source e.id x.lo x.hi) f
        (subst (λ kind. In (faces_by_kind zones l u kind e.id x.source x.lo x.hi) f) is.0 k)) [
          | inl n ↦ inl (crosses e.id x.source x.lo x.hi c g.end f id is.1 n)
          | inr n ↦ inr (crosses x.source e.id x.lo x.hi g.end c f is.1 id n)
        ])
    fixed_shares e c x (ToGeneral head conductance) f id i j is k = absurd (subst (λ kind. In (faces_by_kind zones l u kind e.id x.source x.lo x.hi) f) is k)
    fixed_shares e c x FromStorage f id i j is k = absurd (subst (λ kind. In (faces_by_kind zones l u kind e.id x.source x.lo x.hi) f) is k)

    face_shares : (f : Face) → In (faces zones l u es) f → share_face m zones p (zones_of_face f) ≡ true
    unfolding faces cell_faces
    face_shares f i =
        let (e, j, k) = flat-In (cell_faces zones l u es) es f i in
        let (c, v, is) = left_of (HasBranches m p) es (variable_cells m p) e are j in
        elim (In-append (flat_map (link_faces zones l u es e) e.links) (flat_map (fixed_faces zones l u e) e.fixed) f k) [
          | inl n ↦
              (let (x, a, b) = flat-In (link_faces zones l u es e) e.links f n in
              let (g, d, leads) = left_of (LeadsTo m p) e.links (variable_faces m p c) x is.links a in
              let (face, variable) = passing_are m.grid (is_variable m p) c g d in
              joins_pair c g (zones_of_face f) v face (variable_active m p g.end variable)
              (inl (crosses e.id (entries_at es x.cell).id x.lo x.hi c g.end f is.id (link_end c x g v face variable leads) b)))
          | inr n ↦
              (let (x, a, b) = flat-In (fixed_faces zones l u e) e.fixed f n in
              let (t, d, to) = left_of (IsTo m p) e.fixed (fixed_sources m p c) x is.fixed a in
              fixed_shares e c x t f is.id v d to b)
        ]

    pub pair_shares : (z : ZonePair) → share (faces zones l u es) z ≡ true → share_face m zones p z ≡ true
    pair_shares z h =
        let (f, i, t) = any_in (is_between z.from z.to) (faces zones l u es) h in
        let (same_from, same_to) = and_parts (f.from == z.from) (f.to == z.to) t in
        let from = eqb-true f.from z.from same_from in
        let to = eqb-true f.to z.to same_to in
        subst (λ (w : ZonePair). share_face m zones p w ≡ true) (λ i. record { from = from i; to = to i }) (face_shares f i)

    -- A pair that share_face names has a face.
    link_has : (c : ℕ) (g : ModelFace) (z : ZonePair) → In (variable_cells m p) c → IsFaceOf m.grid c g → is_variable m p g.end ≡ true → Crosses c g.end z → share (faces zones l u es) z ≡ true
    unfolding faces cell_faces
    link_has c g z i face variable h =
        let (e, j, is) = right_of (HasBranches m p) es (variable_cells m p) c are i in
        let (x, k, leads) = right_of (LeadsTo m p) e.links (variable_faces m p c) g is.links (passing_have m.grid (is_variable m p) c g face variable) in
        let (f, n, from, to) = crossed e.id (entries_at es x.cell).id x.lo x.hi c g.end z is.id (link_end c x g i face variable leads) h in
        let among = left_in (flat_map (link_faces zones l u es e) e.links) (flat_map (fixed_faces zones l u e) e.fixed) f (flat_in (link_faces zones l u es e) e.links x f k n) in
        shown (faces zones l u es) z f (flat_in (cell_faces zones l u es) es e f j among) from to

    fixed_has : (c : ℕ) (g : ModelFace) (z : ZonePair) → In (variable_cells m p) c → IsFaceOf m.grid c g → is_constant m p g.end ≡ true → Crosses c g.end z ⊎
        Crosses g.end c z → share (faces zones l u es) z ≡ true
    unfolding faces cell_faces
    fixed_has c g z i face constant h =
        let (e, j, is) = right_of (HasBranches m p) es (variable_cells m p) c are i in
        let source = left_in _ (filter_map as_general (local_entries m p c)) (ToConstant g)
        (right_in (option_to_list (storage_at m p)) _ (ToConstant g)
        (In-map ToConstant (constant_faces m p c) g (passing_have m.grid (is_constant m p) c g face constant))) in
        let (x, k, to) = right_of (IsTo m p) e.fixed (fixed_sources m p c) (ToConstant g) is.fixed source in
        let ahead = face_from zones l u e.id x.source x.lo x.hi in
        let back = face_from zones l u x.source e.id x.lo x.hi in
        let (f, n, ends) = either e c x g z is.id to.1 h in
        let among = right_in (flat_map (link_faces zones l u es e) e.links) (flat_map (fixed_faces zones l u e) e.fixed) f
        (flat_in (fixed_faces zones l u e) e.fixed x f k (subst (λ kind. In (faces_by_kind zones l u kind e.id x.source x.lo x.hi) f) (sym to.0) n)) in
        shown (faces zones l u es) z f (flat_in (cell_faces zones l u es) es e f j among) ends.0 ends.1
      where
        either : (e : Entries) (c : ℕ) (x : Fixed) (g : ModelFace) (z : ZonePair) → e.id ≡ c → x.source ≡ g.end → Crosses c g.end z ⊎ Crosses g.end c z →
            (f : Face) × In (face_from zones l u e.id x.source x.lo x.hi ++ face_from zones l u x.source e.id x.lo x.hi) f × ((f.from ≡ z.from) × (f.to ≡ z.to))
        either e c x g z id to (inl h) = let (f, n, a, b) = crossed e.id x.source x.lo x.hi c g.end z id to h in (
          f,
          left_in (face_from zones l u e.id x.source x.lo x.hi) (face_from zones l u x.source e.id x.lo x.hi) f n,
          (a, b),
        )
        either e c x g z id to (inr h) = let (f, n, a, b) = crossed x.source e.id x.lo x.hi g.end c z to id h in (
          f,
          right_in (face_from zones l u e.id x.source x.lo x.hi) (face_from zones l u x.source e.id x.lo x.hi) f n,
          (a, b),
        )

    pub shared_has : (z : ZonePair) → share_face m zones p z ≡ true → share (faces zones l u es) z ≡ true
    shared_has z t =
        let s = face_of m zones p z t in
        let c = s.cell in
        let g = s.face in
        let join = join_of z (zone c) (zone g.end) s.join in
        let (v, within) = variable-In m p (cell_count m.grid) c s.variable in
        let face = faces_are m.grid c g s.neighbour in
        let end = end_within m.grid c g size within face in
        elim (cases_Bool (is_variable m p g.end)) [
          | inl variable ↦ (elim join.ends [
            | inl (a, b) ↦ link_has c g z s.variable face variable (record { lower = join.zones; from = a; to = b })
            | inr (a, b) ↦ link_has g.end (turned c g) z (In-variable m p (cell_count m.grid) g.end variable end) (face_back m.grid c g size face) v (record { lower = join.zones; from = b; to = a })
          ])
          | inr other ↦ fixed_has c g z s.variable face (rw (s.active, other) refl)
              (elim join.ends [ inl (a, b) ↦ inl (record { lower = join.zones; from = a; to = b }) | inr (a, b) ↦ inr (record { lower = join.zones; from = b; to = a }) ])
        ]
