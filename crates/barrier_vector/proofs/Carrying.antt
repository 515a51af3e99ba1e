-- What the floors of carried components are made of, from labels, a search, sums and maxima.
use Rattle.barrier_vector.proofs.Common.{◌≡◌, ℕ, ◌+◌, ◌<◌, ◌≤◌, inl, inr, refl, sym, ◌∙◌, ap, subst, arith, List, length, min, Option, None, Some, slice_index, ℤ, pos, ◌-ℤ◌, ◌≤ℤ◌, ◌<ℤ◌, ints, clamps}
use Rattle.barrier_vector.proofs.Common.{Entries, entries_at, IsProblem, IsHead, base_on, IsComponent, sum_inside, deep_low, Low, lack, capped_flow, LeastRoot, IsInnerPath, IsLongest, IsUnanchored}
use Rattle.barrier_vector.proofs.Common.{mark_at, path_limit, ListRoot, IsSearched, AreLabels, has_label, sum_at, longest_at, greatest_inside, Total, AreSelfDrops, AreComponents, Bool, true, false}
use Rattle.barrier_vector.proofs.Common.{cond, is_label, cut_on, IsBoundOrNone}
use Rattle.barrier_vector.proofs.{CarriedRoots.reaches_within, CarriedRoots.turn_way, CarriedRoots.join_ways, Levels.marked_or_not, Levels.marked_within, Labelling.mark_holds_along_lead}
use Rattle.barrier_vector.proofs.{Gathering.label_true, Gathering.label_is, Gathering.greatest_covers, Gathering.greatest_of, Marking.base_head, Rooting.label_within, CappedFlows.whole_path}
use Rattle.barrier_vector.proofs.{Uniques.inner_one, Components.longest_path_exists as longest_path, Components.one_sum}

module _ (p : List Entries) (ok : IsProblem p) where
  -- every cell leads to the least cell of its component
  pub inner_paths_of : (labels own levels : List (Option ℕ)) (paths : List ℕ) → AreLabels p labels (length p) → AreSelfDrops labels (length labels) own →
      IsSearched p (capped_flow (lack p)) own levels paths → (c : ℕ) → c < length p → (s : ℕ) × IsInnerPath p c s × (slice_index paths c ≡ min s path_limit)
  inner_paths_of labels own levels paths l drops found c h =
      elim (marked_or_not (mark_at levels c)) [
        | inl none ↦
            let (m, e) = l.all c h in
            let (j, way) = l.reached c m e in
            let (i, back_way) = turn_way p ok j m c way in
            let self = mark_holds_along_lead p labels (length p) l i c m m e back_way in
            absurd (found.none c h none i (record { root = m; drop = 0; is_root = drop_of m self; reaches = back_way }))
        | inr (k, e) ↦
            let (s, path, cut) = found.some c k e in
            let (t, full, same) = whole_path p ok (lack p) (ListRoot own) (LeastRoot p) (λ a d r. (d, least_is a d r, refl)) (λ a d r. (d, is_least a d r)) c s path in
            (t, full, cut ∙ same)
      ]
    where
      drop_of : (c : ℕ) → mark_at labels c ≡ Some c → mark_at own c ≡ Some 0
      drop_of c self = drops.each c (marked_within labels c c self) ∙ rw (label_true (mark_at labels c) c self) refl

      self_is : (o : Option ℕ) (c d : ℕ) (b : Bool) → is_label o c ≡ b → cond b (Some 0) None ≡ Some d → (o ≡ Some c) × (d ≡ 0)
      self_is o c d true t e = (label_is o c t, cc)
      self_is o c d false t e = absurd cc

      least_is : (c d : ℕ) → ListRoot own c d → LeastRoot p c d
      least_is c d e =
          let h = marked_within own c d e in
          let (self, none) = self_is (mark_at labels c) c d (is_label (mark_at labels c) c) refl (sym (drops.each c (rw drops.whole at h)) ∙ e) in
          (omega (arith, h, drops.whole, l.whole), (λ j k way. l.least c c j k self way), none)

      is_least : (c d : ℕ) → LeastRoot p c d → ListRoot own c d
      is_least c d (within, least, none) =
          let (m, e) = l.all c within in
          let (j, way) = l.reached c m e in
          let (i, back_way) = turn_way p ok j m c way in
          let le = l.least c m j c e way in
          let ge = least i m back_way in
          let at : m ≡ c = omega (arith, le, ge) in
          rw none (drop_of c (subst (λ (z : ℕ). mark_at labels c ≡ Some z) at e))

capped_sum : (b : ℤ) (x y s t : ℕ) → IsHead b → x ≡ min s path_limit → y ≡ min t path_limit → cut_on Low (b -ℤ pos (x + y)) ≡ cut_on Low (b -ℤ pos (s + t))
capped_sum b x y s t h p q = omega (arith, ints, clamps, h.below, h.above, p, q)

module _ (p : List Entries) (ok : IsProblem p) (labels : List (Option ℕ)) (inner : List ℕ) (totals : List Total) (y : AreComponents p labels inner totals) where
  component_of : (c m : ℕ) → mark_at labels c ≡ Some m → IsComponent p c (has_label labels m)
  component_of c m e = record {
    reached = λ k t.
        let (j, way) = y.labelling.reached c m e in
        let (i, back_way) = turn_way p ok j m c way in
        let (l, on) = y.labelling.reached k m (label_is (mark_at labels k) m t) in
        (i + l, join_ways p ok i l c m k back_way on);
    whole = λ j k way. label_true (mark_at labels k) m (mark_holds_along_lead p labels (length p) y.labelling j c k m e way);
  }

  longest_is : (c m : ℕ) → c < length p → mark_at labels c ≡ Some m → (t : ℕ) × IsLongest p c t × (longest_at totals m ≡ min t path_limit)
  longest_is c m h e =
      let (t, top) = longest_path p ok c h in
      let k_in = reaches_within p ok top.links c top.cell h top.reached in
      let on = label_true (mark_at labels top.cell) m (mark_holds_along_lead p labels (length p) y.labelling top.links c top.cell m e top.reached) in
      let at_least = greatest_covers (length p) (has_label labels m) (slice_index inner) top.cell k_in on in
      let (s, s_path, s_cut) = y.inner_paths top.cell k_in in
      let same = inner_one p ok top.cell s t s_path top.is_path in
      let (l, l_in, l_on, is) = greatest_of (length p) (has_label labels m) (slice_index inner) top.cell k_in on in
      let (r, r_path, r_cut) = y.inner_paths l l_in in
      let (j, way) = (component_of c m e).reached l l_on in
      let le = top.longest j l r way r_path in
      (t, top, omega (arith, y.tops m, at_least, s_cut, same, is, r_cut, le))

  pub floor_carried : (base : ℤ) → base ≡ base_on Low p → (c m : ℕ) (v : ℤ) → c < length p → IsUnanchored Low p c → mark_at labels c ≡ Some m →
      pos 0 <ℤ sum_at totals m → v ≡ cut_on Low (base -ℤ pos (slice_index inner c + longest_at totals m)) → IsBoundOrNone Low p c (Some v)
  floor_carried base base_is c m v h none e carries is =
      let (s, path, cut) = y.inner_paths c h in
      let (t, top, top_cut) = longest_is c m h e in (
        base_on Low p -ℤ pos (s + t),
        inr (
          none,
          record { inside = has_label labels m; component = component_of c m e; carries = subst (λ (z : ℤ). pos 0 <ℤ z) (y.component_sums m) carries },
          s,
          path,
          t,
          top,
          refl,
        ),
        is ∙ ap (λ (z : ℤ). cut_on Low (z -ℤ pos (slice_index inner c + longest_at totals m))) base_is ∙ capped_sum (base_on Low p)
            (slice_index inner c) (longest_at totals m) s t (base_head Low p ok) cut top_cut,
      )

  pub floor_none : (c m : ℕ) → c < length p → IsUnanchored Low p c → mark_at labels c ≡ Some m → sum_at totals m ≤ℤ pos 0 → IsBoundOrNone Low p c None
  floor_none c m h none e empty = (
    none,
    λ carried.
        let same = one_sum p ok c carried.inside (has_label labels m) carried.component (component_of c m e) ∙ sym (y.component_sums m) in
        let k = carried.carries in omega (arith, ints, same, k, empty),
  )

-- the components, from what the code made
pub components_made : (p : List Entries) → IsProblem p → (labels least levels : List (Option ℕ)) (inner : List ℕ) (totals : List Total) →
    AreLabels p labels (length p) → AreSelfDrops labels (length labels) least → IsSearched p (capped_flow (lack p)) least levels inner → length totals ≡
    length p → ((m : ℕ) → sum_at totals m ≡ sum_inside (length p) (has_label labels m) (λ k. deep_low (entries_at p k))) →
    ((m : ℕ) → longest_at totals m ≡ greatest_inside (length p) (has_label labels m) (slice_index inner)) → AreComponents p labels inner totals
components_made p ok labels least levels inner totals l drops found whole sums tops = record {
  labelling = l;
  inner_paths = inner_paths_of p ok labels least levels inner l drops found;
  component_sums = sums;
  tops = tops;
  inner_whole = found.paths_whole;
  totals_whole = whole;
}

-- a label is a cell of the problem
pub label_in : (p : List Entries) → IsProblem p → (labels l : List (Option ℕ)) → l ≡ labels → AreLabels p labels (length p) → (k m : ℕ) → mark_at l k ≡ Some m → m < length p
label_in p ok labels l e a k m is = grind (arith, label_within, marked_within)
