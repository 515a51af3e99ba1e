-- Levels, parents, paths, floors and ceilings are each one number.
use Rattle.barrier_vector.proofs.Common.{base_on, ◌≡◌, ℕ, zero, suc, ◌+◌, inl, inr, sym, ◌∙◌, ap, subst, arith, List, Contains, ℤ, pos, ◌-ℤ◌, ◌<◌, refl, length, min, All, IsSome, Option, None, Some}
use Rattle.barrier_vector.proofs.Common.{Bool, true, false, slice_index, cases_lt, Side, Low, High, Link, Entries, entries_at, link_at, IsProblem, IsHead, need, ceil_over, SumsTo, IsPath, AnchorRoot}
use Rattle.barrier_vector.proofs.Common.{LeastRoot, IsAnchorPath, IsInnerPath, IsLongest, IsUnanchored, moved_out, IsAnchoredBound, IsCarriedFloor, IsBoundOn, HasNoBound, capped_flow, anchor_on}
use Rattle.barrier_vector.proofs.Common.{mark_at, path_limit, IsSearched, AreAnchorDrops, AreAnchorPaths, cut_on, IsAnchoredOrNone, IsBoundOrNone, bound_at, AreBounds, ints, clamps}
use Rattle.barrier_vector.proofs.{Rooting.drop_of, CarriedRoots.has_links, CarriedRoots.reaches_within, Levels.link_place, Levels.one_level, Marking.base_head, CappedFlows.whole_anchor_path}

-- links of a cell that lead to one cell are one link
one_link : (p : List Entries) → IsProblem p → (c : ℕ) (x z : Link) → Contains (entries_at p c).links x → Contains (entries_at p c).links z → x.cell ≡ z.cell → x ≡ z
one_link p ok c x z has_x has_z e =
    let (i, i_in, at_i) = link_place (entries_at p c).links x has_x in
    let (j, j_in, at_j) = link_place (entries_at p c).links z has_z in
    let apart = (ok.links c (has_links p c x has_x)).apart in
    let cells = ap (λ (y : Link). y.cell) at_i ∙ e ∙ sym (ap (λ (y : Link). y.cell) at_j) in
    elim (cases_lt i j) [
      | inl less ↦ absurd (apart i j less j_in cells)
      | inr more ↦ elim (cases_lt j i) [
        | inl less ↦ absurd (apart j i less i_in (sym cells))
        | inr same ↦ let at : i ≡ j = omega (arith, more, same) in sym at_i ∙ ap (link_at (entries_at p c).links) at ∙ at_j
      ]
    ]

module _ (p : List Entries) (ok : IsProblem p) (q : ℕ) (R : ℕ → ℕ → Type 0) (one : (c d e : ℕ) → R c d → R c e → d ≡ e) where
  sums_one : (k c s t : ℕ) → SumsTo p q R k c s → SumsTo p q R k c t → s ≡ t
  sums_one zero c s t a b = one c s t a b
  sums_one (suc k) c s t (x, x_is, rest, sum, is) (z, z_is, rest', sum', is') =
      let le = x_is.least z z_is.has z_is.level in
      let ge = z_is.least x x_is.has x_is.level in
      let same = one_link p ok c x z x_is.has z_is.has (omega (arith, le, ge)) in
      let rests = sums_one k x.cell rest rest' sum (subst (λ (y : Link). SumsTo p q R k y.cell rest') (sym same) sum') in
      is ∙ ap (λ (n : ℕ). ceil_over q x.lo + n) rests ∙ ap (λ (y : Link). ceil_over q y.lo + rest') same ∙ sym is'

  pub path_one : (c s t : ℕ) → IsPath p q R c s → IsPath p q R c t → s ≡ t
  path_one c s t a b = sums_one a.level c s t a.sums (subst (λ (k : ℕ). SumsTo p q R k c t) (one_level p q R c b.level a.level b.is_level a.is_level) b.sums)

anchor_path_one : (side : Side) (p : List Entries) → IsProblem p → (c s t : ℕ) → IsAnchorPath side p c s → IsAnchorPath side p c t → s ≡ t
anchor_path_one side p ok = path_one p ok (need side p) (AnchorRoot side p (need side p)) (λ c d e a b. a.2 ∙ sym b.2)

pub inner_one : (p : List Entries) → IsProblem p → (c s t : ℕ) → IsInnerPath p c s → IsInnerPath p c t → s ≡ t
inner_one p ok = path_one p ok (need Low p) (LeastRoot p) (λ c d e a b. a.2 ∙ sym b.2)

longest_one : (p : List Entries) (c s t : ℕ) → IsLongest p c s → IsLongest p c t → s ≡ t
longest_one p c s t a b = let x = a.longest b.links b.cell t b.reached b.is_path in let y = b.longest a.links a.cell s a.reached a.is_path in omega (arith, x, y)

-- a cell with a path to an anchor is anchored
path_anchors : (side : Side) (p : List Entries) (c s : ℕ) → IsAnchorPath side p c s → IsUnanchored side p c → ⊥
path_anchors side p c s path free = let l = path.is_level.leads in let none = free path.level l.root l.reaches in let some = l.is_root.1 in omega (arith, none, some)

anchored_one : (side : Side) (p : List Entries) → IsProblem p → (c : ℕ) (f g : ℤ) → IsAnchoredBound side p c f → IsAnchoredBound side p c g → f ≡ g
anchored_one side p ok c f g (s, path, is) (t, path', is') = is ∙ ap (moved_out side (base_on side p)) (anchor_path_one side p ok c s t path path') ∙ sym is'

carried_one : (p : List Entries) → IsProblem p → (c : ℕ) (f g : ℤ) → IsCarriedFloor p c f → IsCarriedFloor p c g → f ≡ g
carried_one p ok c f g (_, _, s, path, t, top, is) (_, _, s', path', t', top', is') =
    is ∙ ap (λ (n : ℕ). base_on Low p -ℤ pos (n + t)) (inner_one p ok c s s' path path') ∙ ap (λ (n : ℕ). base_on Low p -ℤ pos (s' + n))
    (longest_one p c t t' top top') ∙ sym is'

not_both : (p : List Entries) (c : ℕ) (f g : ℤ) → IsAnchoredBound Low p c f → IsCarriedFloor p c g → ⊥
not_both p c f g (s, path, is) y = path_anchors Low p c s path y.0

-- the bound of a cell is one
pub bound_one : (side : Side) (p : List Entries) → IsProblem p → (c : ℕ) (f g : ℤ) → IsBoundOn side p c f → IsBoundOn side p c g → f ≡ g
bound_one Low p ok c f g (inl x) (inl y) = anchored_one Low p ok c f g x y
bound_one Low p ok c f g (inl x) (inr y) = absurd (not_both p c f g x y)
bound_one Low p ok c f g (inr x) (inl y) = absurd (not_both p c g f y x)
bound_one Low p ok c f g (inr x) (inr y) = carried_one p ok c f g x y
bound_one High p ok c f g x y = anchored_one High p ok c f g x y

-- a cell with a bound has no cause against one
pub has_a_bound : (side : Side) (p : List Entries) (c : ℕ) (f : ℤ) → IsBoundOn side p c f → HasNoBound side p c → ⊥
has_a_bound Low p c f (inl (s, path, is)) none = path_anchors Low p c s path none.0
has_a_bound Low p c f (inr y) none = none.1 y.1
has_a_bound High p c f (s, path, is) none = path_anchors High p c s path none

-- What the bounds of the cells that lead to an anchor are made of, from a search.
-- a search by the capped need of a side finds the paths by the whole need
module _ (side : Side) (p : List Entries) (ok : IsProblem p) (own levels : List (Option ℕ)) (paths : List ℕ)
    (drops : AreAnchorDrops side p (capped_flow (need side p)) own) (found : IsSearched p (capped_flow (need side p)) own levels paths)
  where
    anchor_paths : (c k : ℕ) → mark_at levels c ≡ Some k → (s : ℕ) × IsAnchorPath side p c s × (slice_index paths c ≡ min s path_limit)
    anchor_paths c k e =
        let (s, path, cut) = found.some c k e in
        let (t, full, same) = whole_anchor_path side p ok (need side p) own drops c s path in
        (t, full, cut ∙ same)

    no_anchor : (c : ℕ) → c < length p → mark_at levels c ≡ None → IsUnanchored side p c
    no_anchor c h e j a way =
        elim (cases_lt 0 (anchor_on side (entries_at p a))) [
          | inr none ↦ omega (arith, none)
          | inl some ↦
              let a_in = reaches_within p ok j c a h way in
              absurd (found.none c h e j (record {
                root = a;
                drop = ceil_over (capped_flow (need side p)) (anchor_on side (entries_at p a));
                is_root =
                    drops.each a a_in ∙ drop_of (capped_flow (need side p)) (anchor_on side (entries_at p a)) some;
                reaches = way;
              }))
        ]

    pub paths_made : AreAnchorPaths side p levels paths
    paths_made = record {
      anchored = anchor_paths;
      unanchored = no_anchor;
      levels_whole = found.levels_whole;
      paths_whole = found.paths_whole;
    }

-- the tests of a component agree
pub same_tests : (a b : Bool) → (a ≡ true → b ≡ true) → (b ≡ true → a ≡ true) → a ≡ b
same_tests true b f g = sym (f refl)
same_tests false true f g = g refl
same_tests false false f g = refl

-- a path that is cut off gives the same bound, cut off
cut_path : (side : Side) (b : ℤ) (x s : ℕ) → IsHead b → x ≡ min s path_limit → cut_on side (moved_out side b x) ≡ cut_on side (moved_out side b s)
cut_path Low b x s h e = omega (arith, ints, clamps, h.below, h.above, e)
cut_path High b x s h e = omega (arith, ints, clamps, h.below, h.above, e)

pub bound_anchored : (side : Side) (p : List Entries) → IsProblem p → (base : ℤ) → base ≡ base_on side p → (levels : List (Option ℕ)) (paths : List ℕ) →
    AreAnchorPaths side p levels paths → (c k : ℕ) (v : ℤ) → mark_at levels c ≡ Some k → v ≡ cut_on side (moved_out side base (slice_index paths c)) →
    IsAnchoredOrNone side p c (Some v)
bound_anchored side p ok base base_is levels paths y c k v e is =
    let (s, path, cut) = y.anchored c k e in
    let head = base_head side p ok in (
      moved_out side (base_on side p) s,
      (s, path, refl),
      is ∙ ap (λ (z : ℤ). cut_on side (moved_out side z (slice_index paths c))) base_is ∙ cut_path side
          (base_on side p) (slice_index paths c) s head cut,
    )

-- bounds by the anchors are the bounds where each cell has one, and on the high side
pub anchored_is_bound : (side : Side) (p : List Entries) (c : ℕ) (f : ℤ) → IsAnchoredBound side p c f → IsBoundOn side p c f
anchored_is_bound Low p c f is = inl is
anchored_is_bound High p c f is = is

pub some_is_bound : (side : Side) (p : List Entries) (c : ℕ) (v : ℤ) → IsAnchoredOrNone side p c (Some v) → IsBoundOrNone side p c (Some v)
some_is_bound side p c v (f, is, cut) = (f, anchored_is_bound side p c f is, cut)

pub all_bounds : (side : Side) (p : List Entries) (xs ys : List (Option ℤ)) → ys ≡ xs → AreBounds p (IsAnchoredOrNone side p) xs → All IsSome ys → AreBounds p (IsBoundOrNone side p) xs
all_bounds side p xs ys e b all = record {
  whole = b.whole;
  each = λ c h.
      each (bound_at xs c) c (b.each c h) (subst (λ (z : List (Option ℤ)). All IsSome z) e all c None (subst (λ (n : ℕ). c < n) (sym b.whole) h));
}
  where
    each : (o : Option ℤ) (c : ℕ) → IsAnchoredOrNone side p c o → IsSome o → IsBoundOrNone side p c o
    each (Some v) c f some = some_is_bound side p c v f
    each None c f some = absurd (cc)

pub high_bounds : (side : Side) (p : List Entries) (xs : List (Option ℤ)) → side ≡ High → AreBounds p (IsAnchoredOrNone side p) xs → AreBounds p (IsBoundOrNone side p) xs
high_bounds side p xs e b = subst (λ (z : Side). AreBounds p (IsBoundOrNone z p) xs) (sym e) (subst (λ (z : Side). AreBounds p (IsAnchoredOrNone z p) xs) e b)
