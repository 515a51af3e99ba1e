-- What holds the components of a problem holds the closed sets of the whole numbers of each step that it encloses.
use Rattle.cell_balance.proofs.Common.{*ℤ-zero, ◌*◌, arith, length, pos, mul-pos, ◌*ℤ◌, ◌<ℤ◌, ◌<◌, ◌≡◌, ◌≤ℤ◌, All, Bool, List, get_or, inl, inr, refl, subst, suc, sym, true, zero, ℕ, ℤ, ◌≤◌, Contains}
use Rattle.cell_balance.proofs.Common.{AllZip, ints, All-contains, Contains-get_or, IsBetweenWhole, total, entries_at, no_entries, IsHeldBelow, LeadsTo, deep_low, sum_inside, IsCarried, IsComponent}
use Rattle.cell_balance.proofs.Common.{Entries, Link}
use Rattle.cell_balance.proofs.{Zips.AllZip-length, Zips.All-zip, Zips.WholeCell, Zips.WholeEntry, Zips.whole_at, Zips.whole_deep, Zips.CellWithin, Zips.FixedWithin, Zips.LinkWithin, Zips.AllZip-at}
use Rattle.cell_balance.proofs.{Zips.no_whole, Zips.whole_balance, Zips.IsDry, Scaling.conducting, Scaling.positive_times, Sums.sum_inside_times, Sums.sum_inside-zero, WholeBalances.ramps_from}
use Rattle.cell_balance.proofs.{WholeBalances.a_of, WholeBalances.b_of, WholeBalances.q_of, WholeBalances.ramps_at_cell, Deep.deep_less, Ramps.IsClosed, Ramps.extent, Ramps.deep}
use Rattle.cell_balance.proofs.{Ramps.IsHeldFromBelow, Conducting.dry_law, Conducting.All-back, Conducting.links_lead_to_weight, Conducting.weight_is_of_links, Conducting.no_known_conductance}
use Rattle.cell_balance.proofs.{Conducting.no_known_flow, Dry.IsMutual, Dry.total-none}

-- The cells of a carried component do not all lie below their bottoms and drains.
-- one more link at the end of a way
pub Reaches-more : (p : List Entries) (j a k : ℕ) (x : Link) → LeadsTo p j a k → Contains (entries_at p k).links x → LeadsTo p (suc j) a x.cell
Reaches-more p zero a k x way has = (x, subst (λ (z : ℕ). Contains (entries_at p z).links x) (sym way) has, refl)
Reaches-more p (suc j) a k x (z, there, rest) has = (z, there, Reaches-more p j z.cell k x rest has)

pub cell_within : (m n : ℕ) (p : List Entries) (w : List WholeCell) → AllZip (CellWithin m n (length p)) p w → (c : ℕ) → c < length p → CellWithin m n (length p) (entries_at p c) (whole_at w c)
cell_within m n p w within c i = AllZip-at (CellWithin m n (length p)) p w c no_entries no_whole within i

-- no link leaves a component
closed_links : (m n : ℕ) (p : List Entries) (w : List WholeCell) → AllZip (CellWithin m n (length p)) p w → (c : ℕ) (T : ℕ → Bool) → IsComponent p c T →
    (k : ℕ) → k < length p → T k ≡ true → All (λ x. T x.cell ≡ true) (whole_at w k).links
closed_links m n p w within c T component k i e =
    let (steps, way) = component.reached k e in
    All-zip (LinkWithin m n (length p)) (λ x. T x.cell ≡ true) (λ x. T x.cell ≡ true) (λ x z r h. subst (λ (i : ℕ). T i ≡ true) r.same h) (entries_at p k).links
    (whole_at w k).links (cell_within m n p w within k i).links
    (λ g d h. component.whole (suc steps) _ (Reaches-more p steps c k (get_or (entries_at p k).links g d) way (Contains-get_or (entries_at p k).links g d h)))

clash : (a b c : ℤ) → pos 0 <ℤ a → a ≤ℤ b → b ≤ℤ c → c ≡ pos 0 → ⊥
clash a b c p q r z = omega (arith, ints)

module _ (m n : ℕ) (some_m : 0 < m) (some_n : 0 < n) (p : List Entries) (w : List WholeCell) (Y : ℕ → ℤ)
    (within : AllZip (CellWithin m n (length p)) p w) (both : IsMutual w)
    (solves : (c : ℕ) → c < length w → whole_balance (whole_at w c) (Y c) Y ≡ pos 0)
  where
    same_length : length p ≡ length w
    same_length = AllZip-length (CellWithin m n (length p)) p w within

    -- the cells of a carried component don't all lie below their bottoms and drains
    pub carried_not_dry : (c : ℕ) (held : IsCarried p c) (t : ℕ → ℤ) → ((k : ℕ) → k < length p → held.inside k ≡ true → (Y k ≤ℤ t k) × IsDry (t k) (whole_at w k)) → ⊥
    carried_not_dry c held t dry =
        let sum = rw same_length at (sum_inside_times (length p) held.inside (λ k. deep_low (entries_at p k)) (λ k. whole_deep (whole_at w k)) (pos (m * n))
        (λ k j e. deep_less m n (length p) (entries_at p k) (whole_at w k) (cell_within m n p w within k j))) in
        let law = dry_law w Y both held.inside t (λ k j e. dry k (rw same_length j) e) (λ k j e. closed_links m n p w within c held.inside held.component k (rw same_length j) e) in
        let none = sum_inside-zero (length w) held.inside (λ k. whole_balance (whole_at w k) (Y k) Y) solves in
        clash _ _ _ (positive_times _ (m * n) (mul-pos some_m some_n) (rw same_length at held.carries)) sum law none

-- a cell without a conductance to a known head has its deep flow
deep-loose : (w : List WholeCell) (i : ℕ) → b_of w i ≡ 0 → deep (length w) (a_of w) (b_of w) (q_of w) (ramps_from 0 w) i ≡ whole_deep (whole_at w i)
deep-loose w i none =
    let u = whole_at w i in
    rw (ramps_at_cell (λ r. pos r.c *ℤ extent r.foot r.top) i w, no_known_flow u.fixed none, nothing u.rivers, nothing u.drains)
    (omega (arith, ints))
  where
    nothing : (xs : List WholeEntry) → total (λ x. pos x.c *ℤ pos 0) xs ≡ pos 0
    nothing xs = total-none (λ x. Unit {0}) _ xs (λ x u. *ℤ-zero (pos x.c)) (λ k d i. tt)

module _ (m n : ℕ) (some_m : 0 < m) (some_n : 0 < n) (p : List Entries) (w : List WholeCell)
    (within : AllZip (CellWithin m n (length p)) p w)
  where
    as_many : length p ≡ length w
    as_many = AllZip-length (CellWithin m n (length p)) p w within

    -- a closed set has the cells that links lead to from it
    goes_on : (S : ℕ → Bool) → IsClosed (length w) (a_of w) S → (c : ℕ) → c < length p → S c ≡ true → All (λ x. (x.cell < length p) × (S x.cell ≡ true)) (entries_at p c).links
    goes_on S closed c i inside =
        All-back (LinkWithin m n (length p)) (λ x. (x.cell < length p) × (S x.cell ≡ true)) (λ x. 0 < x.c → x.cell < length w → S x.cell ≡ true)
        (λ x y r h. (r.range, subst (λ (z : ℕ). S z ≡ true) (sym r.same) (h (conducting m x.lo y.c some_m r.conducts r.c.lower) (omega (arith, r.range, r.same, as_many)))))
        (entries_at p c).links (whole_at w c).links (cell_within m n p w within c i).links
        (links_lead_to_weight (λ k. S k ≡ true) (length w) (whole_at w c).links (λ k k_in conducts. closed c k (omega (arith, i, as_many)) k_in inside conducts))

    pub closed_set_holds_lead : (S : ℕ → Bool) → IsClosed (length w) (a_of w) S → (j c k : ℕ) → c < length p → S c ≡ true → LeadsTo p j c k → (k < length p) × (S k ≡ true)
    closed_set_holds_lead S closed zero c k i inside way = (subst (λ (z : ℕ). z < length p) way i, subst (λ (z : ℕ). S z ≡ true) way inside)
    closed_set_holds_lead S closed (suc j) c k i inside (x, has, way) =
        let (range, there) = All-contains (λ x. (x.cell < length p) × (S x.cell ≡ true)) (entries_at p c).links x (goes_on S closed c i inside) has in
        closed_set_holds_lead S closed j x.cell k range there way

    -- what certainly conducts in the problem conducts
    pub some_conducts : (lo hi c : ℕ) → IsBetweenWhole lo hi m c → c ≡ 0 → 0 < lo → ⊥
    some_conducts lo hi c between none h = omega (arith, conducting m lo c some_m h between.lower)

    pub no_fixed : (c : ℕ) → c < length p → b_of w c ≡ 0 → All (λ x. 0 < x.lo → ⊥) (entries_at p c).fixed
    no_fixed c i none = All-back (FixedWithin m n) (λ x. 0 < x.lo → ⊥) (λ x. x.c ≡ 0) (λ x y r e. some_conducts x.lo x.hi y.c r.c e) (entries_at p c).fixed
        (whole_at w c).fixed (cell_within m n p w within c i).fixed (no_known_conductance (whole_at w c).fixed none)

    -- held below
    pub held_below : IsHeldBelow p → IsHeldFromBelow (length w) (a_of w) (b_of w) (q_of w) (ramps_from 0 w)
    held_below held S closed none c h inside =
        let i : c < length p = omega (arith, h, as_many) in
        elim (held c i) [
          | inl (j, (a, way, (x, has, conducts))) ↦
              let (a_in, there) = closed_set_holds_lead S closed j c a i inside way in
              absurd (All-contains (λ x. 0 < x.lo → ⊥) (entries_at p a).fixed x (no_fixed a a_in (none a (omega (arith, a_in, as_many)) there)) has conducts)
          | inr carried ↦ (
            carried.inside,
            record {
              closed = λ k z k_in z_in k_inside conducts.
                  weight_is_of_links (λ y. carried.inside y ≡ true) (whole_at w k).links z
                  (closed_links m n p w within c carried.inside carried.component k (omega (arith, k_in, as_many)) k_inside) conducts;
              within = λ k k_in k_inside. let (j, way) = carried.component.reached k k_inside in (closed_set_holds_lead S closed j c k i inside way).1;
              carries = sums carried.inside carried.carries (λ k k_in k_inside.
                  let (j, way) = carried.component.reached k k_inside in none k (omega (arith, k_in, as_many)) (closed_set_holds_lead S closed j c k i inside way).1);
            },
          )
        ]
      where
        sums : (T : ℕ → Bool) → pos 0 <ℤ sum_inside (length p) T (λ k. deep_low (entries_at p k)) → ((k : ℕ) → k < length p → T k ≡ true → b_of w k ≡ 0) →
            pos 0 <ℤ sum_inside (length w) T (deep (length w) (a_of w) (b_of w) (q_of w) (ramps_from 0 w))
        sums T some none =
            let less = sum_inside_times (length p) T (λ k. deep_low (entries_at p k)) (deep (length w) (a_of w) (b_of w) (q_of w) (ramps_from 0 w)) (pos (m * n))
            (λ k k_in e. rw (deep-loose w k (none k k_in e)) (deep_less m n (length p) (entries_at p k) (whole_at w k) (cell_within m n p w within k k_in))) in
            subst (λ (z : ℕ). pos 0 <ℤ sum_inside z T (deep (length w) (a_of w) (b_of w) (q_of w) (ramps_from 0 w))) as_many (above _ _ (positive_times _ (m * n) (mul-pos some_m some_n) some) less)
          where
            above : (x y : ℤ) → pos 0 <ℤ x → x ≤ℤ y → pos 0 <ℤ y
            above x y h k = omega (arith, ints)
