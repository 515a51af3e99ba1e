-- One side of a barrier, or its refusal, from the bounds of the cells.
use Rattle.barrier_vector.proofs.Common.{base_on, ◌≡◌, ℕ, ◌<◌, ◌⊎◌, inl, inr, refl, sym, ◌∙◌, subst, arith, List, length, Option, None, Some, ℤ, pos, neg_ℤ, get_or-map, length-map, unwrap_or, ap}
use Rattle.barrier_vector.proofs.Common.{ints, clamps, by_lt_z, Side, Low, High, NoBound, number_of, Entries, IsProblem, IsHead, head_limit, head_at, Bounds, IsUnanchored, IsBoundOn, HasNoBound}
use Rattle.barrier_vector.proofs.Common.{IsOutOfRange, LeavesRange, no_barrier_on, range_on, Nowhere, Names, IsRefusedOn, IsRefused, cut_on, bound_at, IsBoundOrNone, AreBounds, IsFirst, IsMissing}
use Rattle.barrier_vector.proofs.Common.{LiesOut, AreHeadsOf, IsCutBoundOn, AreCutBounds, RefusesOn, IsWholeSide, IsFaultOn, IsCutFaultOn, BoundFault, Memory, HasStorage, IsNotForLackOfAnchors}
use Rattle.step_problem.specs.declared.refusal.BoundFault.TheVariants.{NoBound as AFault}
use Rattle.barrier_vector.proofs.{Rooting.anchors, Marking.base_head, Uniques.bound_one, Uniques.has_a_bound}

some_or_none : (o : Option ℤ) → (o ≡ None) ⊎ ((v : ℤ) × (o ≡ Some v))
some_or_none None = inl refl
some_or_none (Some v) = inr (v, refl)

-- a bound out of the range of heads is so when it is cut off, and is the bound itself when it is not
pub head_in_range : (side : Side) (v : ℤ) → IsHead v → IsOutOfRange side v → ⊥
head_in_range Low v h out = omega (arith, ints, h.above, out)
head_in_range High v h out = omega (arith, ints, h.below, out)

cut_leaves : (side : Side) (v f : ℤ) → v ≡ cut_on side f → IsOutOfRange side f → IsOutOfRange side v
cut_leaves Low v f cut out = omega (arith, ints, clamps, cut, out)
cut_leaves High v f cut out = omega (arith, ints, clamps, cut, out)

leaves_uncut : (side : Side) (v f : ℤ) → v ≡ cut_on side f → IsOutOfRange side v → IsOutOfRange side f
leaves_uncut Low v f cut out = omega (arith, ints, clamps, cut, out)
leaves_uncut High v f cut out = omega (arith, ints, clamps, cut, out)

head_uncut : (side : Side) (v f : ℤ) → v ≡ cut_on side f → IsHead f → v ≡ f
head_uncut Low v f cut h = omega (arith, ints, clamps, cut, h.above)
head_uncut High v f cut h = omega (arith, ints, clamps, cut, h.below)

-- a bound lies outside its base, which is a head
pub bound_outside : (side : Side) (p : List Entries) (c : ℕ) (f : ℤ) → IsBoundOn side p c f → Bounds side f (base_on side p)
bound_outside Low p c f (inl (s, path, is)) = omega (arith, ints, is)
bound_outside Low p c f (inr (free, carried, s, path, t, top, is)) = omega (arith, ints, is)
bound_outside High p c f (s, path, is) = omega (arith, ints, is)

stays_head : (side : Side) (f b : ℤ) → Bounds side f b → IsHead b → (IsOutOfRange side f → ⊥) → IsHead f
stays_head Low f b out head stays = by_lt_z f (neg_ℤ (pos head_limit)) (λ low. absurd (stays low)) (λ le. record { above = le; below = omega (arith, ints, out, head.below) })
stays_head High f b out head stays = by_lt_z (pos head_limit) f (λ high. absurd (stays high)) (λ le. record { above = omega (arith, ints, out, head.above); below = le })

pub bound_is_head : (side : Side) (p : List Entries) → IsProblem p → (c : ℕ) (f : ℤ) → IsBoundOn side p c f → (IsOutOfRange side f → ⊥) → IsHead f
bound_is_head side p ok c f is stays = stays_head side f (base_on side p) (bound_outside side p c f is) (base_head side p ok) stays

-- what a cell's bound says of it
module _ (side : Side) (p : List Entries) (xs : List (Option ℤ)) (b : AreBounds p (IsBoundOrNone side p) xs) where
  bound_here : (c : ℕ) → c < length p → (v : ℤ) → bound_at xs c ≡ Some v → IsCutBoundOn side p c v
  bound_here c h v e = subst (IsBoundOrNone side p c) e (b.each c h)

  no_bound_here : (c : ℕ) → c < length p → bound_at xs c ≡ None → HasNoBound side p c
  no_bound_here c h e = subst (IsBoundOrNone side p c) e (b.each c h)

  has_none : (c : ℕ) → c < length p → HasNoBound side p c → bound_at xs c ≡ None
  has_none c h none =
      elim (some_or_none (bound_at xs c)) [
        | inl e ↦ e
        | inr (v, e) ↦ let (f, is, cut) = bound_here c h v e in absurd (has_a_bound side p c f is none)
      ]

  pub side_unbounded : (n : NoBound) (c : ℕ) → IsFirst (IsMissing xs) (length xs) (Some c) → Names p n (number_of (no_barrier_on side)) c side →
      RefusesOn no_barrier_on (λ side. HasNoBound side p) side p n
  side_unbounded n c (within, none, least) named =
      let h : c < length p = omega (arith, within, b.whole) in
      (c, named, record { within = h; has = no_bound_here c h none; least = λ d less fails. least d less (has_none d (omega (arith, less, h)) fails) })

  pub side_is_cut : (vs : List ℤ) → IsFirst (IsMissing xs) (length xs) None → AreHeadsOf xs vs → AreCutBounds side p vs
  side_is_cut vs all e = record { whole = ap (λ (z : List ℤ). length z) e ∙ length-map xs value ∙ b.whole; each = each }
    where
      value : Option ℤ → ℤ
      value o = unwrap_or o (pos 0)

      some : (c : ℕ) → c < length p → (v : ℤ) × (bound_at xs c ≡ Some v)
      some c h = elim (some_or_none (bound_at xs c)) [ inl e ↦ absurd (all c (omega (arith, h, b.whole)) e) | inr found ↦ found ]

      each : (c : ℕ) → c < length p → IsCutBoundOn side p c (head_at vs c)
      each c h =
          let (v, is_v) = some c h in
          let (f, is, cut) = bound_here c h v is_v in
          (f, is, ap (λ (z : List ℤ). head_at z c) e ∙ get_or-map value xs c None (pos 0) (omega (arith, h, b.whole)) ∙ ap value is_v ∙ cut)

-- what the cut bounds of a side say of it
module _ (side : Side) (p : List Entries) (ok : IsProblem p) (vs : List ℤ) (b : AreCutBounds side p vs) where
  pub cut_nowhere_without : Nowhere p (HasNoBound side p)
  cut_nowhere_without c h none = let (f, is, cut) = b.each c h in has_a_bound side p c f is none

  leaves : (c : ℕ) → c < length p → LeavesRange side p c → LiesOut side vs c
  leaves c h (f, is, out) = let (g, g_is, cut) = b.each c h in cut_leaves side (head_at vs c) g cut (subst (IsOutOfRange side) (bound_one side p ok c f g is g_is) out)

  leaves_back : (c : ℕ) → c < length p → LiesOut side vs c → LeavesRange side p c
  leaves_back c h out = let (f, is, cut) = b.each c h in (f, is, leaves_uncut side (head_at vs c) f cut out)

  pub refused_out_of_range : (n : NoBound) (c : ℕ) → IsFirst (LiesOut side vs) (length vs) (Some c) → Names p n (number_of (range_on side)) c side → IsRefusedOn side p n
  refused_out_of_range n c (within, out, least) named =
      let h : c < length p = omega (arith, within, b.whole) in
      (c, inr (named, cut_nowhere_without, record { within = h; has = leaves_back c h out; least = λ d less fails. least d less (leaves d (omega (arith, less, h)) fails) }))

  pub side_is_whole : IsFirst (LiesOut side vs) (length vs) None → IsWholeSide side p vs
  side_is_whole in_range = record {
    whole = b.whole;
    is = λ c h. (bound_head c h).0;
    head = λ c h. (bound_head c h).1;
    held = cut_nowhere_without;
    in_range = λ c h fails. in_range c (omega (arith, h, b.whole)) (leaves c h fails);
  }
    where
      bound_head : (c : ℕ) → c < length p → IsBoundOn side p c (head_at vs c) × IsHead (head_at vs c)
      bound_head c h =
          let (f, is, cut) = b.each c h in
          let head = bound_is_head side p ok c f is (λ out. in_range c (omega (arith, h, b.whole)) (cut_leaves side (head_at vs c) f cut out)) in
          let at = head_uncut side (head_at vs c) f cut head in
          (subst (IsBoundOn side p c) (sym at) is, subst IsHead (sym at) head)

-- a side without its cut is refused for the same reason
pub unbounded_refuses : (side : Side) (p : List Entries) (e : BoundFault) → IsCutFaultOn side p e → IsFaultOn side p e
unbounded_refuses side p (AFault n) (c, named, least) = (c, inl (named, least))
unbounded_refuses side p Memory f = tt

-- where each cell has storage, each is anchored on both sides
stored_anchor : (side : Side) (p : List Entries) → HasStorage p → (c : ℕ) → c < length p → IsUnanchored side p c → ⊥
stored_anchor side p stored c h free = let (x, has, kind, some) = stored c h in let none = free 0 c refl in let anchored = anchors side p c (x, has, some) in omega (arith, none, anchored)

stored_bound : (side : Side) (p : List Entries) → HasStorage p → (c : ℕ) → c < length p → HasNoBound side p c → ⊥
stored_bound Low p stored c h none = stored_anchor Low p stored c h none.0
stored_bound High p stored c h none = stored_anchor High p stored c h none

range_number : (side : Side) (n : ℕ) → n ≡ number_of (range_on side) → (n ≡ 24 → ⊥) × (n ≡ 25 → ⊥)
range_number Low n code = ((λ e. omega (arith, code, e)), (λ e. omega (arith, code, e)))
range_number High n code = ((λ e. omega (arith, code, e)), (λ e. omega (arith, code, e)))

refused_side : (side : Side) (p : List Entries) → HasStorage p → (n : NoBound) → IsRefusedOn side p n → (n.code ≡ 24 → ⊥) × (n.code ≡ 25 → ⊥)
refused_side side p stored n (c, inl (named, least)) = absurd (stored_bound side p stored c least.within least.has)
refused_side side p stored n (c, inr y) = range_number side n.code y.0.code

pub stored_refusal : (p : List Entries) → HasStorage p → (n : NoBound) → IsRefused p n → (n.code ≡ 24 → ⊥) × (n.code ≡ 25 → ⊥)
stored_refusal p stored n (inl low) = refused_side Low p stored n low
stored_refusal p stored n (inr (nowhere, in_range, high)) = refused_side High p stored n high

pub stored_fault : (side : Side) (p : List Entries) → HasStorage p → (e : BoundFault) → IsFaultOn side p e → IsNotForLackOfAnchors e
stored_fault side p stored (AFault n) f = refused_side side p stored n f
stored_fault side p stored Memory f = tt
