-- The outline of the first cells: one cell more, and what it is of all cells.
use Rattle.barrier_vector.proofs.Common.{None, base_on, cell_mark, drop_all, outermost, ◌≡◌, ℕ, ◌+◌, ◌<◌, refl, sym, ◌∙◌, ap, subst, arith, List, [], ◌∷◌, ◌++◌, length, sum_by, Option, slice_index, ℤ}
use Rattle.barrier_vector.proofs.Common.{pos, negsuc, neg_ℤ, ◌*◌, ◌≤ℤ◌, ◌+ℤ◌, ◌-ℤ◌, int_min, unsigned_abs, zero, suc, unwrap_or, sum_by_more, Side, Low, Entries, entries_at, no_entries, Edges}
use Rattle.barrier_vector.proofs.Common.{head_at, IsHead, anchor_on, need_on, capped_flow, outer_of, HasEach, AreAnchorDrops, anchor_drop, IsOutline, clamp, ClampedFits, ints, clamps, length-map, map}
use Rattle.barrier_vector.proofs.Common.{CellFits, RiverFits, EvapFits, deep_river, deep_low, evap_flow, river_flow, flow_bound, full_rate, head_limit, least, total, total-same, total_neg}
use Rattle.step_problem.proofs.Sums.{deep_is}
use Rattle.step_problem.specs.declared.entry.Evap.{Evap}
use Rattle.barrier_vector.specs.{need as need_of_all}
use Rattle.std.proofs.Math.Seq.{take-length}
use Rattle.barrier_vector.proofs.{Rooting.each_more, Marking.marks_more, Marking.outer_none}

-- one cell more
pub outline_more : (side : Side) (p : List Entries) (i : ℕ) (e : Entries) (mark o mark' : Option ℤ) (need n need' : ℕ) (anchors anchors' : List ℕ) (a : ℕ) →
    i < length p → e ≡ entries_at p i → mark' ≡ outer_of side mark o → o ≡ cell_mark side e → need' ≡ capped_flow (need + n) → n ≡ need_on side e → anchors' ≡
    anchors ++ a ∷ [] → a ≡ anchor_on side e → IsOutline side p i mark need anchors → IsOutline side p (i + 1) mark' need' anchors'
outline_more side p i e mark o mark' need n need' anchors anchors' a h here joined outermost added need_is pushed anchor_is y = record {
  outermost_mark = marks_more side (cell_mark side) p i no_entries e mark o mark' h here outermost joined y.outermost_mark;
  sum = let more = sum_by_more (need_on side) p i no_entries h in let same = need_is ∙ ap (need_on side) here in sums _ _ _ more same y.sum;
  anchors_are = each_more 0 (λ c a. a ≡ anchor_on side (entries_at p c)) i anchors anchors' a pushed (anchor_is ∙ ap (anchor_on side) here) y.anchors_are;
}
  where
    sums : (s t m : ℕ) → t ≡ s + m → n ≡ m → need ≡ capped_flow s → need' ≡ capped_flow t
    sums s t m more same was = omega (arith, added)

pub base_of : (side : Side) (p : List Entries) (mark : Option ℤ) (need : ℕ) (anchors : List ℕ) (b : ℤ) → IsOutline side p (length p) mark need anchors → b ≡ unwrap_or mark (pos 0) → b ≡ base_on side p
base_of side p mark need anchors b y e = grind (arith, drop_all, outer_none)

-- the need of the side
pub need_whole : (side : Side) (p : List Entries) (mark : Option ℤ) (need : ℕ) (anchors : List ℕ) → IsOutline side p (length p) mark need anchors → need ≡ capped_flow (need_of_all side p)
need_whole side p mark need anchors y = y.sum ∙ ap (λ (z : List Entries). capped_flow (sum_by (need_on side) z)) (take-length p)

-- own drops by the list of greatest anchors
pub drops_on : (side : Side) (p : List Entries) (mark : Option ℤ) (need q : ℕ) (anchors own : List ℕ) (drops : List (Option ℕ)) →
    IsOutline side p (length p) mark need anchors → own ≡ anchors → need ≡ q →
    HasEach None (λ c o. o ≡ anchor_drop need (slice_index own c)) (length own) drops → AreAnchorDrops side p q drops
drops_on side p mark need q anchors own drops y e f r = record {
  whole = r.whole ∙ ap (λ (z : List ℕ). length z) e ∙ y.anchors_are.whole;
  each = λ c h. r.each c (rw (e, y.anchors_are.whole) h) ∙ rw (e, f, y.anchors_are.each c h) refl;
}

-- an evaporation's flow at the greatest head is its full rate
full_is : (x : Evap) → EvapFits x → evap_flow Low (pos head_limit) x ≡ neg_ℤ (pos (full_rate x))
full_is x fits =
    let full : int_min (x.ext_lo -ℤ int_min (pos head_limit) x.surf_hi) (pos 0) ≡ neg_ℤ (x.surf_hi -ℤ x.ext_lo) = omega (arith, ints, clamps, fits.surf_hi.below, fits.deep) in
    ap (least x.lo x.hi) full ∙ out (x.surf_hi -ℤ x.ext_lo) (omega (arith, ints, fits.deep))
  where
    out : (d : ℤ) → pos 0 ≤ℤ d → least x.lo x.hi (neg_ℤ d) ≡ neg_ℤ (pos (x.hi * unsigned_abs d))
    out (pos zero) h = omega (arith, ints)
    out (pos (suc n)) h = refl
    out (negsuc n) h = absurd (omega (arith, ints))

-- the least deep flow of a cell, by flows at the ends of the range of heads
pub deep_sums : (c : Entries) → CellFits c → (flows rivers evaps : ℤ) → flows ≡ total (flow_bound Low) c.flows → rivers ≡
    total (river_flow Low (neg_ℤ (pos head_limit))) c.rivers → evaps ≡ total (evap_flow Low (pos head_limit)) c.evaps → flows +ℤ rivers +ℤ evaps ≡ deep_low c
deep_sums c fits flows rivers evaps a b d =
    let deep = b ∙ total-same RiverFits _ (deep_river Low) c.rivers (deep_is Low) fits.rivers in
    let full = d ∙ total-same EvapFits _ (λ x. neg_ℤ (pos (full_rate x))) c.evaps full_is fits.evaps ∙ total_neg (λ x. pos (full_rate x)) c.evaps in
    omega (arith, ints, a, deep, full)

-- Floors and ceilings moved into the range of heads are a barrier, and heads stay as they are.
clamp_is_head : (v : ℤ) → IsHead (clamp v)
clamp_is_head v = record { above = omega (arith, ints, clamps); below = omega (arith, ints, clamps) }

clamp_same : (v : ℤ) → IsHead v → clamp v ≡ v
clamp_same v h = omega (arith, ints, clamps, h.above, h.below)

-- also past the end, where both are 0
pub clamped_at : (vs : List ℤ) (c : ℕ) → head_at (map clamp vs) c ≡ clamp (head_at vs c)
clamped_at [] c = refl
clamped_at (v ∷ vs) zero = refl
clamped_at (v ∷ vs) (suc c) = clamped_at vs c

heads : (vs : List ℤ) (c : ℕ) → IsHead (head_at (map clamp vs) c)
heads vs c = subst IsHead (sym (clamped_at vs c)) (clamp_is_head (head_at vs c))

all_same : (vs : List ℤ) → ((c : ℕ) → c < length vs → IsHead (head_at vs c)) → map clamp vs ≡ vs
all_same [] each = refl
all_same (v ∷ vs) each =
    ap (λ (z : ℤ). z ∷ map clamp vs) (clamp_same v (each 0 (omega arith))) ∙ ap (λ (zs : List ℤ). v ∷ zs) (all_same vs (λ c h. each (suc c) (omega (arith, h))))

pub clamped_fits : ClampedFits
clamped_fits p b = record {
  fits = λ floors ceilings. record {
    floors = length-map b.floor clamp ∙ floors;
    ceilings = length-map b.ceiling clamp ∙ ceilings;
    floor = λ c h. heads b.floor c;
    ceiling = λ c h. heads b.ceiling c;
  };
  same = λ is.
      let by_floor : List ℤ → Edges = λ f. record { floor = f; ceiling = map clamp b.ceiling } in
      let by_ceiling : List ℤ → Edges = λ f. record { floor = b.floor; ceiling = f } in
      ap by_floor (all_same b.floor (λ c h. is.floor c (omega (arith, h, is.floors)))) ∙ ap by_ceiling (all_same b.ceiling (λ c h. is.ceiling c (omega (arith, h, is.ceilings))));
}
