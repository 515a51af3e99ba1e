-- Paths for a flow that is capped at 2 ^ 126. Where the flow is greater, each drop leaves the range of heads, capped or not: so paths that are cut off there stay the same.
use Rattle.barrier_vector.proofs.Common.{◌≡◌, ℕ, zero, suc, ◌+◌, ◌<◌, ◌≤◌, ◌^◌, inl, inr, refl, ◌∙◌, ap, arith, List, min, Contains, le-div_iff_mul-le, cases_lt, All-contains, get_or-le-sum_by, Link}
use Rattle.barrier_vector.proofs.Common.{Fixed, Side, Low, High, Entries, entries_at, IsProblem, CellFits, LinkFits, FixedFits, RiverFits, DrainFits, greatest, anchor_on, AnchorRoot, capped_flow}
use Rattle.barrier_vector.proofs.Common.{ceil_over, LeadsToRoot, IsLevel, IsParent, SumsTo, IsPath, path_limit, Option, ListRoot, AreAnchorDrops, length, sym}
use Rattle.barrier_vector.proofs.{Levels.marked_within, CarriedRoots.has_links, CarriedRoots.link_conducts, Rooting.greatest_has, Rooting.drop_is, Rooting.drop_of}
use Rattle.step_problem.specs.{declared.entry.River.River, declared.entry.Drain.Drain}
use Rattle.std.specs.Prelude.{sum_by}

-- conductances at a cell are below 2 ^ 60
member_within : {X : Type 0} (f : X → ℕ) (xs : List X) (x : X) → Contains xs x → f x ≤ sum_by f xs
member_within f xs x (k, h, e) = let le = get_or-le-sum_by f xs k x h in let same = ap f e in omega (arith, le, same)

greatest_within : {X : Type 0} (f g : X → ℕ) (xs : List X) → ((x : X) → Contains xs x → f x ≤ g x) → greatest f xs ≤ sum_by g xs
greatest_within f g xs le =
    elim (cases_lt 0 (greatest f xs)) [
      | inr none ↦ omega (arith, none)
      | inl some ↦ let (x, has, is) = greatest_has f xs some in let a = le x has in let b = member_within g xs x has in omega (arith, a, b, is)
    ]

module _ (c : Entries) (fits : CellFits c) where
  link_small : (x : Link) → Contains c.links x → x.lo < 2 ^ 60
  link_small x has =
      let le = (All-contains LinkFits c.links x fits.links has).ordered in
      let sum = member_within (λ (z : Link). z.hi) c.links x has in
      let all = fits.conductances in omega (arith, le, sum, all)

  fixed_within : greatest (λ (x : Fixed). x.lo) c.fixed ≤ sum_by (λ (x : Fixed). x.hi) c.fixed
  fixed_within = greatest_within (λ (x : Fixed). x.lo) (λ (x : Fixed). x.hi) c.fixed (λ x has. (All-contains FixedFits c.fixed x fits.fixed has).ordered)

  rivers_within : greatest (λ (x : River). x.lo) c.rivers ≤ sum_by (λ (x : River). x.hi) c.rivers
  rivers_within = greatest_within (λ (x : River). x.lo) (λ (x : River). x.hi) c.rivers (λ x has. (All-contains RiverFits c.rivers x fits.rivers has).ordered)

  drains_within : greatest (λ (x : Drain). x.lo) c.drains ≤ sum_by (λ (x : Drain). x.hi) c.drains
  drains_within = greatest_within (λ (x : Drain). x.lo) (λ (x : Drain). x.hi) c.drains (λ x has. (All-contains DrainFits c.drains x fits.drains has).ordered)

  anchor_small : (side : Side) → anchor_on side c < 2 ^ 60
  anchor_small Low = let all = fits.conductances in omega (arith, fixed_within, all)
  anchor_small High = let all = fits.conductances in omega (arith, fixed_within, rivers_within, drains_within, all)

-- a flow of 2 ^ 126 or more drops by the limit of a path or farther
drop_far : (q lo : ℕ) → 2 ^ 126 ≤ q → 0 < lo → lo < 2 ^ 60 → path_limit ≤ ceil_over q lo
drop_far q lo great some small = (le-div_iff_mul-le some).1 (omega arith)

cut_drop : (q lo : ℕ) → 0 < lo → lo < 2 ^ 60 → min (ceil_over (capped_flow q) lo) path_limit ≡ min (ceil_over q lo) path_limit
cut_drop q lo some small = grind (arith, cases_lt, drop_far)

-- Paths to roots by the capped flow are paths to the same roots by the whole flow, of the same length up to the limit.
module _ (p : List Entries) (ok : IsProblem p) (q : ℕ) (R S : ℕ → ℕ → Type 0)
    (to : (c d : ℕ) → R c d → (e : ℕ) × S c e × (min d path_limit ≡ min e path_limit)) (from : (c d : ℕ) → S c d → (e : ℕ) × R c e)
  where
    leads_whole : (k c : ℕ) → LeadsToRoot p (capped_flow q) R k c → LeadsToRoot p q S k c
    leads_whole k c l = let (e, is, cut) = to l.root l.drop l.is_root in record { root = l.root; drop = e; is_root = is; reaches = l.reaches }

    leads_capped : (k c : ℕ) → LeadsToRoot p q S k c → LeadsToRoot p (capped_flow q) R k c
    leads_capped k c l = let (e, is) = from l.root l.drop l.is_root in record { root = l.root; drop = e; is_root = is; reaches = l.reaches }

    level_whole : (c k : ℕ) → IsLevel p (capped_flow q) R c k → IsLevel p q S c k
    level_whole c k l = record { leads = leads_whole k c l.leads; least = λ j m. l.least j (leads_capped j c m) }

    level_capped : (c k : ℕ) → IsLevel p q S c k → IsLevel p (capped_flow q) R c k
    level_capped c k l = record { leads = leads_capped k c l.leads; least = λ j m. l.least j (leads_whole j c m) }

    parent_whole : (k c : ℕ) (x : Link) → IsParent p (capped_flow q) R k c x → IsParent p q S k c x
    parent_whole k c x t = record { has = t.has; level = level_whole x.cell k t.level; least = λ z has l. t.least z has (level_capped z.cell k l) }

    sums_whole : (k c s : ℕ) → SumsTo p (capped_flow q) R k c s → (t : ℕ) × SumsTo p q S k c t × (min s path_limit ≡ min t path_limit)
    sums_whole zero c s r = to c s r
    sums_whole (suc k) c s (x, parent, rest, sum, is) =
        let (t, whole, cut) = sums_whole k x.cell rest sum in
        let small = link_small (entries_at p c) (ok.cells c (has_links p c x parent.has)) x parent.has in (
          ceil_over q x.lo + t,
          (x, parent_whole k c x parent, t, whole, refl),
          ap (λ (n : ℕ). min n path_limit) is ∙ omega (arith, cut_drop q x.lo (link_conducts p ok c x parent.has) small),
        )

    pub whole_path : (c s : ℕ) → IsPath p (capped_flow q) R c s → (t : ℕ) × IsPath p q S c t × (min s path_limit ≡ min t path_limit)
    whole_path c s path = let (t, sums, cut) = sums_whole path.level c s path.sums in (t, record { level = path.level; is_level = level_whole c path.level path.is_level; sums = sums }, cut)

-- and so for the anchors of a side, whose drops stand in a list
pub whole_anchor_path : (side : Side) (p : List Entries) → IsProblem p → (q : ℕ) (own : List (Option ℕ)) → AreAnchorDrops side p (capped_flow q) own →
    (c s : ℕ) → IsPath p (capped_flow q) (ListRoot own) c s → (t : ℕ) × IsPath p q (AnchorRoot side p q) c t × (min s path_limit ≡ min t path_limit)
whole_anchor_path side p ok q own drops = whole_path p ok q (ListRoot own) (AnchorRoot side p q)
    (λ c d e.
    let h : c < length p = rw drops.whole at (marked_within own c d e) in
    let (some, is) = drop_is (capped_flow q) (anchor_on side (entries_at p c)) d (sym (drops.each c h) ∙ e) in (
      ceil_over q (anchor_on side (entries_at p c)),
      (h, some, refl),
      ap (λ (n : ℕ). min n path_limit) is ∙ cut_drop q (anchor_on side (entries_at p c)) some
          (anchor_small (entries_at p c) (ok.cells c h) side),
    ))
    (λ c d (h, some, is). (ceil_over (capped_flow q) (anchor_on side (entries_at p c)), drops.each c h ∙ drop_of (capped_flow q) (anchor_on side (entries_at p c)) some))
