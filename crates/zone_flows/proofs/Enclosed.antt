-- The bounds of the flows between zones enclose the exact ones.
use Rattle.zone_flows.proofs.Common.{◌≡◌, ℕ, zero, suc, ◌+◌, ◌<◌, Bool, true, false, refl, ap, ◌∙◌, subst, List, [], ◌∷◌, ◌++◌, length, map, get_or, All, ℤ, ◌-ℤ◌, AllZip, filter, flat_map, All-head}
use Rattle.zone_flows.proofs.Common.{All-tail, All-from_get_or, All-weaker, Fraction, as_fraction, Encloses, EnclosesSigned, Storage, Constant, General, Fixed, Link, IsProblem, Entries, entries_at}
use Rattle.zone_flows.proofs.Common.{no_entries, least, most, total, ExactLink, ExactFixed, ExactCell, cell_at, LinkEncloses, FixedEncloses, CellEncloses, EnclosesStep, TermPair, Face, is_lower_zone}
use Rattle.zone_flows.proofs.Common.{face_from, link_faces, faces_by_kind, fixed_faces, cell_faces, faces, is_between, flows_between, ExactFace, exact_from, exact_link, exact_by_kind, exact_fixed}
use Rattle.zone_flows.proofs.Common.{exact_cell, exact_faces, is_exact_between, exact_flow, HeadsLieWithin, Ratio, minus}
use Rattle.step_problem.specs.declared.entry.FixedKind.{FixedKind}
use Rattle.decimal_input.specs.Fractions.{times}
use Rattle.cell_balance.proofs.{EntryBounds.bounds_hold, Enclosing.total_encloses, Enclosing.AllZip-filter}

pub AllZip-append : {X Y : Type 0} (R : X → Y → Type 0) (xs : List X) (ys : List Y) (vs : List X) (ws : List Y) → AllZip R xs ys → AllZip R vs ws → AllZip R (xs ++ vs) (ys ++ ws)
AllZip-append R [] [] vs ws h k = k
AllZip-append R [] (y ∷ ys) vs ws h k = absurd h
AllZip-append R (x ∷ xs) [] vs ws h k = absurd h
AllZip-append R (x ∷ xs) (y ∷ ys) vs ws h k = (h.0, AllZip-append R xs ys vs ws h.1 k)

pub AllZip-flat_map : {X Y V W : Type 0} (R : X → Y → Type 0) (S : V → W → Type 0) (f : X → List V) (g : Y → List W) →
    ((x : X) (y : Y) → R x y → AllZip S (f x) (g y)) → (xs : List X) (ys : List Y) → AllZip R xs ys → AllZip S (flat_map f xs) (flat_map g ys)
AllZip-flat_map R S f g each [] [] h = tt
AllZip-flat_map R S f g each [] (y ∷ ys) h = absurd h
AllZip-flat_map R S f g each (x ∷ xs) [] h = absurd h
AllZip-flat_map R S f g each (x ∷ xs) (y ∷ ys) h = AllZip-append S (f x) (g y) (flat_map f xs) (flat_map g ys) (each x y h.0) (AllZip-flat_map R S f g each xs ys h.1)

-- the cells of one index have one number, past the end too
ids_agree : (s : ℕ) (p : List Entries) (e : List ExactCell) (k : ℕ) → AllZip (CellEncloses s) p e → (entries_at p k).id ≡ (cell_at e k).id
ids_agree s [] [] k h = refl
ids_agree s [] (y ∷ e) k h = absurd h
ids_agree s (x ∷ p) [] k h = absurd h
ids_agree s (x ∷ p) (y ∷ e) zero h = h.0.id
ids_agree s (x ∷ p) (y ∷ e) (suc k) h = ids_agree s p e k h.1

-- a face and its bounds
pub record FaceEncloses (k : ℕ) (f : Face) (g : ExactFace) : Type 0 where
  pub from : f.from ≡ g.from
  pub to : f.to ≡ g.to
  pub within : EnclosesSigned f.flow.lo f.flow.hi k g.flow

-- each place of two lists, with what holds of the first one's alone
AllZip-both : {X Y : Type 0} (P : X → Type 0) (R : X → Y → Type 0) (xs : List X) (ys : List Y) → All P xs → AllZip R xs ys → AllZip (λ x y. P x × R x y) xs ys
AllZip-both P R [] [] g h = tt
AllZip-both P R [] (y ∷ ys) g h = absurd h
AllZip-both P R (x ∷ xs) [] g h = absurd h
AllZip-both P R (x ∷ xs) (y ∷ ys) g h = ((All-head P x xs g, h.0), AllZip-both P R xs ys (All-tail P x xs g) h.1)

module _ (s : ℕ) (zones : List ℕ) (l u : ℕ → ℤ) (h : ℕ → Fraction) where
  -- the exact head of a cell lies between its bounds
  abbrev Lies : ℕ → Type 0
  Lies c = EnclosesSigned (l c) (u c) 9 (h c)

  flow_between : (x y lo hi : ℕ) (c : Ratio) → Encloses lo hi s c → Lies x → Lies y →
      EnclosesSigned (least lo hi (l x -ℤ u y)) (most lo hi (u x -ℤ l y)) (s + 9) (times (as_fraction c) (minus (h x) (h y)))
  flow_between x y lo hi c e at_x at_y =
      (bounds_hold s (h y) (l y) (u y) at_y).links (record { cell = 0; lo = lo; hi = hi }) (record { cell = 0; conductance = c }) (λ k. h x) (λ k. l x) (λ k.
      u x) (record { cell = refl; conductance = e }) at_x

  if_holds : (x y lo hi : ℕ) (c : Ratio) (b : Bool) → is_lower_zone (get_or zones x 0) (get_or zones y 0) ≡ b → Encloses lo hi s c → Lies x → Lies y →
      AllZip (FaceEncloses (s + 9)) (face_from zones l u x y lo hi) (exact_from zones h x y c)
  unfolding face_from exact_from
  if_holds x y lo hi c true is e at_x at_y = rw is (record { from = refl; to = refl; within = flow_between x y lo hi c e at_x at_y }, tt)
  if_holds x y lo hi c false is e at_x at_y = rw is tt

  kind_holds : (kind : FixedKind) (x y lo hi : ℕ) (c : Ratio) → Encloses lo hi s c → Lies x → Lies y →
      AllZip (FaceEncloses (s + 9)) (faces_by_kind zones l u kind x y lo hi) (exact_by_kind zones h kind x y c)
  kind_holds Storage x y lo hi c e at_x at_y = tt
  kind_holds Constant x y lo hi c e at_x at_y = AllZip-append (FaceEncloses (s + 9)) (face_from zones l u x y lo hi) (exact_from zones h x y c)
      (face_from zones l u y x lo hi) (exact_from zones h y x c) (if_holds x y lo hi c _ refl e at_x at_y) (if_holds y x lo hi c _ refl e at_y at_x)
  kind_holds General x y lo hi c e at_x at_y = tt

  -- what of a cell's numbers is known
  record IsLying (p : List Entries) (c : Entries) : Type 0 where
    own : Lies c.id
    ends : All (λ x. Lies (entries_at p x.cell).id) c.links
    sources : All (λ x. Lies x.source) c.fixed

  link_holds : (p : List Entries) (e : List ExactCell) → AllZip (CellEncloses s) p e → (c : Entries) (d : ExactCell) → c.id ≡ d.id → Lies c.id →
      (x : Link) (y : ExactLink) → Lies (entries_at p x.cell).id × LinkEncloses s x y →
      AllZip (FaceEncloses (s + 9)) (link_faces zones l u p c x) (exact_link zones h e d y)
  link_holds p e cells c d id own x y r =
      let other : (entries_at p x.cell).id ≡ (cell_at e y.cell).id = ids_agree s p e x.cell cells ∙ ap (λ (k : ℕ). (cell_at e k).id) r.1.cell in
      rw (id, other) (if_holds d.id (cell_at e y.cell).id x.lo x.hi y.conductance _ refl r.1.conductance (subst Lies id own) (subst Lies other r.0))

  fixed_holds : (c : Entries) (d : ExactCell) → c.id ≡ d.id → Lies c.id → (x : Fixed) (y : ExactFixed) → Lies x.source × FixedEncloses s x y →
      AllZip (FaceEncloses (s + 9)) (fixed_faces zones l u c x) (exact_fixed zones h d y)
  fixed_holds c d id own x y r = rw (id, r.1.kind, r.1.source) (kind_holds y.kind d.id y.source x.lo x.hi y.conductance r.1.conductance (subst Lies id own) (subst Lies r.1.source r.0))

  cell_holds : (p : List Entries) (e : List ExactCell) → AllZip (CellEncloses s) p e → (c : Entries) (d : ExactCell) → IsLying p c × CellEncloses s c d →
      AllZip (FaceEncloses (s + 9)) (cell_faces zones l u p c) (exact_cell zones h e d)
  unfolding cell_faces exact_cell
  cell_holds p e cells c d g =
      let k = g.0 in
      let r = g.1 in
      AllZip-append (FaceEncloses (s + 9)) _ _ _ _
      (AllZip-flat_map (λ (x : Link) (y : ExactLink). Lies (entries_at p x.cell).id × LinkEncloses s x y) (FaceEncloses (s + 9)) (link_faces zones l u p c)
      (exact_link zones h e d) (link_holds p e cells c d r.id k.own) c.links d.links
      (AllZip-both (λ (x : Link). Lies (entries_at p x.cell).id) (LinkEncloses s) c.links d.links k.ends r.links))
      (AllZip-flat_map (λ (x : Fixed) (y : ExactFixed). Lies x.source × FixedEncloses s x y) (FaceEncloses (s + 9)) (fixed_faces zones l u c)
      (exact_fixed zones h d) (fixed_holds c d r.id k.own) c.fixed d.fixed
      (AllZip-both (λ (x : Fixed). Lies x.source) (FixedEncloses s) c.fixed d.fixed k.sources r.fixed))

  faces_hold : (p : List Entries) (e : List ExactCell) → All (IsLying p) p → AllZip (CellEncloses s) p e → AllZip (FaceEncloses (s + 9)) (faces zones l u p) (exact_faces zones h e)
  unfolding faces exact_faces
  faces_hold p e known cells = AllZip-flat_map (λ (c : Entries) (d : ExactCell). IsLying p c × CellEncloses s c d) (FaceEncloses (s + 9))
      (cell_faces zones l u p) (exact_cell zones h e) (cell_holds p e cells) p e (AllZip-both (IsLying p) (CellEncloses s) p e known cells)

  all_lying : (p : List Entries) → IsProblem p → HeadsLieWithin p l u h → All (IsLying p) p
  all_lying p ok named = All-from_get_or (IsLying p) p no_entries (λ k i. record {
    own = named.variable k i;
    ends = All-weaker (λ (x : Link). x.cell < length p) (λ (x : Link). Lies (entries_at p x.cell).id) (λ x j. named.variable x.cell j) (entries_at p k).links (ok.links k i).within;
    sources = named.sources k i;
  })

record Within (k : ℕ) (x : TermPair) (g : ExactFace) : Type 0 where
  within : EnclosesSigned x.lo x.hi k g.flow

flows_hold : (k : ℕ) (fs : List Face) (gs : List ExactFace) → AllZip (FaceEncloses k) fs gs → AllZip (Within k) (map (λ f. f.flow) fs) gs
flows_hold k [] [] h = tt
flows_hold k [] (g ∷ gs) h = absurd h
flows_hold k (f ∷ fs) [] h = absurd h
flows_hold k (f ∷ fs) (g ∷ gs) h = (record { within = h.0.within }, flows_hold k fs gs h.1)

same_pair : (k a b : ℕ) (f : Face) (g : ExactFace) → FaceEncloses k f g → is_between a b f ≡ is_exact_between a b g
same_pair k a b f g r = rw (r.from, r.to) refl

pair_holds : (k a b : ℕ) (fs : List Face) (gs : List ExactFace) → AllZip (FaceEncloses k) fs gs →
    EnclosesSigned (total (λ x. x.lo) (flows_between a b fs)) (total (λ x. x.hi) (flows_between a b fs)) k (exact_flow a b gs)
unfolding flows_between
pair_holds k a b fs gs cells =
    total_encloses (Within k) (λ x. x.lo) (λ x. x.hi) k (λ (g : ExactFace). g.flow) (λ x g r. r.within) (map (λ f. f.flow) (filter (is_between a b) fs)) (filter (is_exact_between a b) gs)
    (flows_hold k (filter (is_between a b) fs) (filter (is_exact_between a b) gs) (AllZip-filter (FaceEncloses k) (is_between a b) (is_exact_between a b) (same_pair k a b) fs gs cells))

-- For every exact step that p encloses, and all heads between l and u, each exact flow between two zones lies between its two sums.
pub sums_enclose : (p : List Entries) (zones : List ℕ) (l u : ℕ → ℤ) → IsProblem p → (s : ℕ) (e : List ExactCell) (h : ℕ → Fraction) → EnclosesStep s p e →
    HeadsLieWithin p l u h → (a b : ℕ) → EnclosesSigned (total (λ x. x.lo) (flows_between a b (faces zones l u p)))
    (total (λ x. x.hi) (flows_between a b (faces zones l u p))) (s + 9) (exact_flow a b (exact_faces zones h e))
sums_enclose p zones l u ok s e h encloses named a b =
    pair_holds (s + 9) a b (faces zones l u p) (exact_faces zones h e) (faces_hold s zones l u h p e (all_lying s zones l u h p ok named) encloses.cells)
