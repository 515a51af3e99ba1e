-- The faces between cells of two zones, and the bounds of the flow across each. Zone 0 is no zone.
use Rattle.std.specs.Prelude.{ℕ, ◌==◌, Bool, ◌&&◌, cond, List, [], ◌∷◌, ◌++◌, map, nat_lt, slice_index, ℤ, ◌-ℤ◌, ◌≡◌, ◌≤◌, ◌<◌, All, length, ◌+◌}
use Rattle.std.specs.List.{filter, flat_map}
use Rattle.step_problem.specs.{declared.entry.FixedKind.FixedKind, declared.entry.FixedKind.TheVariants.Storage, declared.entry.FixedKind.TheVariants.Constant}
use Rattle.step_problem.specs.{declared.entry.FixedKind.TheVariants.General, declared.entry.Fixed.Fixed, declared.entry.Link.Link, Entries.Entries, entries_at}
use Rattle.step_problem.specs.{least, most, declared.heads.Bound.Bound, declared.place.ZoneFlow.ZoneFlow}
use Rattle.budget_bounds.specs.{declared.pair.TermPair.TermPair, AreHeads}
use Rattle.decimal_input.specs.{Ratio, Fraction, as_fraction, fraction_total, EnclosesSigned, Fractions.times}
use Rattle.cell_balance.specs.{ExactLink, ExactFixed, ExactCell, cell_at, minus, EnclosesStep}

-- a face between a cell of the zone from and a cell of the zone to, and the least and the greatest flow across it
pub record Face : Type 0 where
  pub from : ℕ
  pub to : ℕ
  pub flow : TermPair

-- a is a zone, and lower than b
abbrev pub is_lower_zone : ℕ → ℕ → Bool
is_lower_zone a b = nat_lt 0 a && nat_lt a b

-- The cell with number c is in zone zones[c], and its head lies between lower c and upper c.
module _ (zones : List ℕ) (lower upper : ℕ → ℤ) where
  abbrev pub zone_of : ℕ → ℕ
  zone_of c = slice_index zones c

  -- the flow from cell x to cell y: conductance, from lo to hi, times head of x less head of y
  abbrev pub face_between : ℕ → ℕ → ℕ → ℕ → Face
  face_between x y lo hi =
      record { from = zone_of x; to = zone_of y; flow = record { lo = least lo hi (lower x -ℤ upper y); hi = most lo hi (upper x -ℤ lower y) } }

  -- the face from cell x to cell y, where the zone of x is the lower of two zones
  unfoldable pub face_from : ℕ → ℕ → ℕ → ℕ → List Face
  face_from x y lo hi = cond (is_lower_zone (zone_of x) (zone_of y)) (face_between x y lo hi ∷ []) []

  -- a branch between two variable cells, which both of them list: its face is that of the cell in the lower zone
  abbrev pub link_faces : List Entries → Entries → Link → List Face
  link_faces p c x = face_from c.id (entries_at p x.cell).id x.lo x.hi

  -- a branch to a constant-head cell, which the variable cell alone lists; storage and general heads have no face
  abbrev pub faces_by_kind : FixedKind → ℕ → ℕ → ℕ → ℕ → List Face
  faces_by_kind Storage x y lo hi = []
  faces_by_kind Constant x y lo hi = face_from x y lo hi ++ face_from y x lo hi
  faces_by_kind General x y lo hi = []

  abbrev pub fixed_faces : Entries → Fixed → List Face
  fixed_faces c x = faces_by_kind x.kind c.id x.source x.lo x.hi

  unfoldable pub cell_faces : List Entries → Entries → List Face
  cell_faces p c = flat_map (link_faces p c) c.links ++ flat_map (fixed_faces c) c.fixed

  -- each face between cells of two zones, of which at least one cell is variable
  unfoldable pub faces : List Entries → List Face
  faces p = flat_map (cell_faces p) p

abbrev pub is_between : ℕ → ℕ → Face → Bool
is_between a b f = (f.from == a) && (f.to == b)

-- the flows across the faces from zone a to zone b
unfoldable pub flows_between : ℕ → ℕ → List Face → List TermPair
flows_between a b fs = map (λ f. f.flow) (filter (is_between a b) fs)

-- The zone of each variable cell, by index.
-- own has the zone of each variable cell, by its index; zones has that of each cell of the grid, by its number
abbrev pub AreOwnZones : List Entries → List ℕ → List ℕ → Type 0
AreOwnZones p zones own = own ≡ map (λ e. slice_index zones e.id) p

-- What a walk over the faces of a step works with.
-- the zone of each cell of the grid, and the bounds of its head
pub record AreOfGrid (zones : List ℕ) (heads : List Bound) : Type 0 where
  pub small : All (λ z. z ≤ 999) zones
  pub bounds : All AreHeads heads
  pub same : length heads ≡ length zones

-- a problem whose cells are cells of the grid, with their zones by index
pub record IsWalk (p : List Entries) (zones own : List ℕ) (heads : List Bound) : Type 0 where
  pub grid : AreOfGrid zones heads
  pub owned : AreOwnZones p zones own
  pub ids : (c : ℕ) → c < length p → (entries_at p c).id < length zones

-- The exact flows between zones, and what it means that bounds enclose them.
-- a face from a cell of one zone to a cell of another, and the exact flow across it
pub record ExactFace : Type 0 where
  pub from : ℕ
  pub to : ℕ
  pub flow : Fraction

-- The cell with number c is in zone zones[c], and its head is h c.
module _ (zones : List ℕ) (h : ℕ → Fraction) where
  -- the face from cell x to cell y, where the zone of x is the lower of two zones: its flow is C * (h_x - h_y), as in TM 6-A16, chapter 2, Darcy's law
  unfoldable pub exact_from : ℕ → ℕ → Ratio → List ExactFace
  exact_from x y c =
      let face : ExactFace = record { from = slice_index zones x; to = slice_index zones y; flow = times (as_fraction c) (minus (h x) (h y)) } in
      cond (is_lower_zone (slice_index zones x) (slice_index zones y)) (face ∷ []) []

  abbrev pub exact_link : List ExactCell → ExactCell → ExactLink → List ExactFace
  exact_link e c x = exact_from c.id (cell_at e x.cell).id x.conductance

  abbrev pub exact_by_kind : FixedKind → ℕ → ℕ → Ratio → List ExactFace
  exact_by_kind Storage x y c = []
  exact_by_kind Constant x y c = exact_from x y c ++ exact_from y x c
  exact_by_kind General x y c = []

  abbrev pub exact_fixed : ExactCell → ExactFixed → List ExactFace
  exact_fixed c x = exact_by_kind x.kind c.id x.source x.conductance

  unfoldable pub exact_cell : List ExactCell → ExactCell → List ExactFace
  exact_cell e c = flat_map (exact_link e c) c.links ++ flat_map (exact_fixed c) c.fixed

  unfoldable pub exact_faces : List ExactCell → List ExactFace
  exact_faces e = flat_map (exact_cell e) e

abbrev pub is_exact_between : ℕ → ℕ → ExactFace → Bool
is_exact_between a b f = (f.from == a) && (f.to == b)

-- the exact flow from zone a to zone b: the sum over the faces between them
abbrev pub exact_flow : ℕ → ℕ → List ExactFace → Fraction
exact_flow a b fs = fraction_total (λ f. f.flow) (filter (is_exact_between a b) fs)

-- The exact heads h lie between lower and upper, which are in units of 10^-9, at each cell that the problem names:
-- its variable cells, and the sources of its given heads.
pub record HeadsLieWithin (p : List Entries) (lower upper : ℕ → ℤ) (h : ℕ → Fraction) : Type 0 where
  pub variable : (k : ℕ) → k < length p → EnclosesSigned (lower (entries_at p k).id) (upper (entries_at p k).id) 9 (h (entries_at p k).id)
  pub sources : (k : ℕ) → k < length p → All (λ x. EnclosesSigned (lower x.source) (upper x.source) 9 (h x.source)) (entries_at p k).fixed

-- Each flow of vs encloses the exact flow between its zones, in the step e at the heads h, in units of 10^-(s+9).
abbrev pub EncloseExact : ℕ → List ExactCell → List ℕ → (ℕ → Fraction) → List ZoneFlow → Type 0
EncloseExact s e zones h vs = All (λ v. EnclosesSigned v.lo v.hi (s + 9) (exact_flow v.from v.to (exact_faces zones h e))) vs

-- That holds for every exact step that the problem encloses, at all heads between lower and upper.
abbrev pub EncloseEveryStep : List Entries → List ℕ → (ℕ → ℤ) → (ℕ → ℤ) → List ZoneFlow → Type 0
EncloseEveryStep p zones lower upper vs = (s : ℕ) (e : List ExactCell) (h : ℕ → Fraction) →
    EnclosesStep s p e → HeadsLieWithin p lower upper h → EncloseExact s e zones h vs
