-- A cell without a refusal keeps what a problem asks of a cell alone.
use Rattle.problem_builder.proofs.Common.{false, Bool, EnclosesSigned, cond, map, period_at, range_with_len, refl, start_head, storage_term, get_or-map-range_with_len, length-map-range_with_len}
use Rattle.problem_builder.proofs.Common.{HeadsEnclose, In-map, head_bound, start_bound, AreBranches, Branches, cell_over, fixed_over, link_over, model_branches, sources_over, ◌≡◌, ℕ, ◌<◌, ◌≤◌, true}
use Rattle.problem_builder.proofs.Common.{None, List, sym, subst, arith, All, ◌+◌, [], ◌∷◌, ◌++◌, length, get_or, ap, ◌∙◌, pos, ◌==◌, list_any, Bound, Link, no_bound, lower_at, upper_at, LinkFits}
use Rattle.problem_builder.proofs.Common.{FixedFits, CellFits, IsHead, Face, FlowModel, TimeStep, cell_count, is_active, is_variable, is_constant, FixedSource, local_entries, variable_faces}
use Rattle.problem_builder.proofs.Common.{ToConstant, ToGeneral, FromStorage, IsModel, IsEntryValid, dec_at, In, IsFaceOf, passing_are, end_within, face_term, AreGridHeads, IsTimeOf, fault_of}
use Rattle.problem_builder.proofs.Common.{AreStartHeads, or_parts, cases_order, get_or_append_left, get_or_push, length_push, Filled, ints, map-range_with_len_more, capped_ordered, formulas_hold}
use Rattle.problem_builder.proofs.Common.{Wide, most_cells}
use Rattle.problem_builder.proofs.{Members.IsFixedSource, Members.variable_active, Members.constant_active, Members.source_among, BoundsOf.head_range, HeadRange.AreHeads, HeadRange.head_range_of}
use Rattle.problem_builder.proofs.{HeadRange.head_encloses, CellFaces.face_branch, CellFaces.first_after, Fits.cond_ordered, Fits.rivers_fit, Fits.drains_fit, Fits.evaps_fit, Sound.no_fault_is_sound}
use Rattle.problem_builder.proofs.{Sound.none_passes, Sound.positive_unless_zero, ValidEntries.local_valid, Zipped.all_mapped}

-- the branches of a confined model
pub model_has_branches : (m : FlowModel) (s : ℕ) (at : TimeStep) → IsModel m → AreBranches m at (model_branches m s at)
model_has_branches m s at valid = record {
  ordered = (λ axis a after k. capped_ordered (face_term m axis a) s ((formulas_hold m valid).faces axis a k.within k.first k.second));
  stored = (λ x e. e);
}

module _ (m : FlowModel) (s : ℕ) (at : TimeStep) (old : List Bound) (b : Branches) (sound_branches : AreBranches m at b) (valid : IsModel m)
    (time : IsTimeOf m at) (grid : AreGridHeads m old) (c : ℕ) (lt : c < cell_count m.grid) (v : is_variable m at.period c ≡ true) where
  entries_fit : All (IsEntryValid (most_cells Wide)) (local_entries m at.period c)
  entries_fit = local_valid m at.period c valid time.valid

  here : is_active m c ≡ true
  here = variable_active m at.period c v

  face_ordered : (f : Face) → IsFaceOf m.grid c f → is_active m f.end ≡ true → (b.pair f.axis f.first).lo ≤ (b.pair f.axis f.first).hi
  face_ordered f g active = sound_branches.ordered f.axis f.first (first_after m.grid c f valid.grid.size g) (face_branch m c f valid.grid.size lt g here active)

  old_range : IsHead (lower_at old c) × IsHead (upper_at old c)
  old_range = grid.range c no_bound (omega (arith, lt, grid.whole))

  source : (y : FixedSource) → In (sources_over m s at old b c) y → IsFixedSource m at.period c y
  source = source_among m at.period c b.stored sound_branches.stored

  fixed_fits : (y : FixedSource) → In (sources_over m s at old b c) y → FixedFits (fixed_over m s at old b c y)
  fixed_fits (ToConstant f) i =
      let (g, k) = passing_are m.grid (is_constant m at.period) c f (source (ToConstant f) i) in
      let r = head_range m at valid time f.end (end_within m.grid c f valid.grid.size lt g) k in
      record { ordered = face_ordered f g (constant_active m at.period f.end k); head_lo = r.0; head_hi = r.1 }
  fixed_fits (ToGeneral head k) i =
      let r = head_range_of head (source (ToGeneral head k) i entries_fit).0 in
      record { ordered = cond_ordered s k; head_lo = r.0; head_hi = r.1 }
  fixed_fits FromStorage i = record {
    ordered = capped_ordered (storage_term m (period_at m at.period) at.step c) s
        ((formulas_hold m valid).storages (period_at m at.period) at.step c time.valid.times (source FromStorage i) lt here);
    head_lo = old_range.0;
    head_hi = old_range.1;
  }

  pub cell_fits : fault_of (cell_over m s at old b c) ≡ None → CellFits (cell_over m s at old b c)
  cell_fits none =
      let k = no_fault_is_sound (cell_over m s at old b c) none in
      let link = link_over m s at old b in
      let links = map link (variable_faces m at.period c) in
      let small = (or_parts (list_any (λ x. x.lo == 0) links) _ k.branches).0 in
      record {
        links = all_mapped LinkFits link (variable_faces m at.period c) (λ f j.
            let (g, i) = passing_are m.grid (is_variable m at.period) c f j in
            record {
              conducts = positive_unless_zero (link f).lo
                  (none_passes (λ (y : Link). y.lo == 0) links small (link f) (In-map link (variable_faces m at.period c) f j));
              ordered = face_ordered f g (variable_active m at.period f.end i);
            });
        fixed = all_mapped FixedFits (fixed_over m s at old b c) (sources_over m s at old b c) fixed_fits;
        rivers = rivers_fit m s at.period c valid time.valid;
        drains = drains_fit m s at.period c valid time.valid;
        evaps = evaps_fit m s at.period c valid time.valid lt v;
        conductances = k.conductances;
        flows = k.flows;
      }

-- Tables that are filled cell by cell.
pub none_filled : {X : Type 0} (P : ℕ → X → Type 0) (d : X) (xs : List X) → xs ≡ [] → Filled P d 0 xs
none_filled P d xs e = record { count = ap length e; each = (λ c lt. absurd (omega (arith, lt))) }

pub next_filled : {X : Type 0} (P : ℕ → X → Type 0) (d : X) (n : ℕ) (xs ys : List X) (x : X) → ys ≡ xs ++ x ∷ [] → P n x → Filled P d n xs → Filled P d (n + 1) ys
next_filled P d n xs ys x e h k = grind (arith, length_push, cases_order, get_or_push, get_or_append_left)

-- a table by its length
pub filled_to : {X : Type 0} (P : ℕ → X → Type 0) (d : X) (n k : ℕ) (xs : List X) → n ≡ k → Filled P d n xs → Filled P d k xs
filled_to P d n k xs e h = subst (λ q. Filled P d q xs) e h

-- a list made from a function of the cell, and one cell more
pub grown : {X : Type 0} (f : ℕ → X) (n : ℕ) (xs ys : List X) (x : X) → xs ≡ map f (range_with_len 0 n) → ys ≡ xs ++ x ∷ [] → x ≡ f n → ys ≡ map f (range_with_len 0 (n + 1))
grown f n xs ys x so_far e is = e ∙ (λ t. so_far t ++ is t ∷ []) ∙ sym (map-range_with_len_more f 0 n n (omega arith))

-- an item of such a list
pub item_is : {X : Type 0} (f : ℕ → X) (d : X) (n : ℕ) (xs : List X) → xs ≡ map f (range_with_len 0 n) → (c : ℕ) → c < n → get_or xs c d ≡ f c
item_is f d n xs e c lt = ap (λ ys. get_or ys c d) e ∙ get_or-map-range_with_len f 0 n c c d lt (omega arith)

zero_head : IsHead (pos 0)
zero_head = record { above = omega (arith, ints); below = omega (arith, ints) }

-- The bounds of STRT.
start_range : (m : FlowModel) (c : ℕ) → IsModel m → c < cell_count m.grid → AreHeads (start_bound m c)
start_range m c valid lt = by_active (is_active m c) refl
  where
    by_active : (b : Bool) → is_active m c ≡ b → AreHeads (cond b (head_bound (dec_at m.strt c)) no_bound)
    by_active true e = head_range_of (dec_at m.strt c) (valid.cells c lt e).strt
    by_active false e = (zero_head, zero_head)

pub starts_fit : (m : FlowModel) (bounds : List Bound) → IsModel m → AreStartHeads m bounds → AreGridHeads m bounds
starts_fit m bounds valid h =
    let count = ap length h ∙ length-map-range_with_len (start_bound m) 0 (cell_count m.grid) in
    record {
      whole = count;
      range = (λ c d lt. let r : c < cell_count m.grid = omega (arith, lt, count) in subst AreHeads (sym (item_is (start_bound m) d (cell_count m.grid) bounds h c r)) (start_range m c valid r));
    }

-- the heads of active cells lie within them
pub starts_enclose : (m : FlowModel) (bounds : List Bound) → AreStartHeads m bounds → HeadsEnclose m bounds (start_head m)
starts_enclose m bounds h c active =
    let is : get_or bounds c no_bound ≡ head_bound (dec_at m.strt c) = item_is (start_bound m) no_bound (cell_count m.grid) bounds h c active.within ∙ ap (λ b.
    cond b (head_bound (dec_at m.strt c)) no_bound) active.active in
    subst (λ (b : Bound). EnclosesSigned b.low b.high 9 (start_head m c)) (sym is) (head_encloses (dec_at m.strt c))
