-- The sums of a list of flows: what they bring in and what they take out, each standing still at 2^126; and the flow that they give.
use Rattle.zone_flows.proofs.Common.{◌≡◌, ℕ, Bool, true, false, refl, sym, ap, ◌∙◌, arith, List, [], ◌∷◌, ℤ, pos, negsuc, neg_ℤ, unsigned_abs, ◌+ℤ◌, ◌-ℤ◌, ◌≤ℤ◌, None, Some, ints, clamps, total}
use Rattle.zone_flows.proofs.Common.{TermPair, IsSum, capped_term, plus_pair, parts, term_limit, ZoneSum, add_flow, plus_flows, IsZoneSum, part, no_flows, no_pair, zone_flow, flow_or_refusal, Result}
use Rattle.zone_flows.proofs.Common.{Ok, if◌then◌else◌, NoBound, ZoneFlow, and_parts, Face, flow_or_large, pair_flow, flows_between, pair_of, ◌/◌, ◌%◌, lt_z}
use Rattle.std.specs.Int.{int_max, int_min}
use Rattle.step_problem.specs.{declared.place.Dir.TheVariants.In, declared.place.Dir.TheVariants.Out, declared.place.Dir.Dir}
use Rattle.budget_bounds.proofs.Caps.{capped_twice, nothing_more, part_lo, part_hi, parts_lo, parts_hi}

cap_below : (limit a b : ℤ) → int_min (a +ℤ b) limit ≤ℤ limit
cap_below limit a b = omega (arith, ints, clamps)

sum_kept : (dir : Dir) (s x : TermPair) → IsSum s → IsSum (capped_term (plus_pair s (part dir x)))
sum_kept dir s x h = record {
  lo_above = omega (arith, ints, clamps, h.lo_above, part_lo dir x);
  lo_below = cap_below term_limit s.lo (part dir x).lo;
  hi_above = omega (arith, ints, clamps, h.hi_above, part_hi dir x);
  hi_below = cap_below term_limit s.hi (part dir x).hi;
}

front_part : (dir : Dir) (x : TermPair) (xs : List TermPair) → parts dir (x ∷ xs) ≡ plus_pair (part dir x) (parts dir xs)
unfolding parts
front_part dir x xs = refl

split : (dir : Dir) (s x : TermPair) (xs : List TermPair) → capped_term (plus_pair (capped_term (plus_pair s (part dir x))) (parts dir xs)) ≡ capped_term (plus_pair s (parts dir (x ∷ xs)))
split dir s x xs = capped_twice s (part dir x) (parts dir xs) (parts_lo dir xs) (parts_hi dir xs) ∙ ap (λ (z : TermPair). capped_term (plus_pair s z)) (sym (front_part dir x xs))

-- The sums of a list of flows are what they bring in and what they take out, each standing still at 2^126.
flows_are_parts : (s : ZoneSum) (xs : List TermPair) → IsZoneSum s → plus_flows (Some s) xs ≡
    Some (record { into = capped_term (plus_pair s.into (parts In xs)); out = capped_term (plus_pair s.out (parts Out xs)) })
unfolding plus_flows
flows_are_parts s [] h = rw (nothing_more In s.into h.into, nothing_more Out s.out h.out) refl
flows_are_parts s (x ∷ xs) h =
    flows_are_parts (add_flow s x) xs (record { into = sum_kept In s.into x h.into; out = sum_kept Out s.out x h.out })
    ∙ rw (split In s.into x xs, split Out s.out x xs) refl

magnitude_of : (a p n s : ℤ) → p +ℤ n ≡ s → (int_max a (pos 0) +ℤ p) +ℤ (int_max (neg_ℤ a) (pos 0) +ℤ n) ≡ pos (unsigned_abs a) +ℤ s
magnitude_of (pos a) p n s h = omega (arith, ints, clamps)
magnitude_of (negsuc a) p n s h = omega (arith, ints, clamps)

net_lo : (xs : List TermPair) → (parts In xs).lo -ℤ (parts Out xs).hi ≡ total (λ x. x.lo) xs
unfolding parts
net_lo [] = refl
net_lo (x ∷ xs) = omega (arith, ints, clamps, net_lo xs)

net_hi : (xs : List TermPair) → (parts In xs).hi -ℤ (parts Out xs).lo ≡ total (λ x. x.hi) xs
unfolding parts
net_hi [] = refl
net_hi (x ∷ xs) = omega (arith, ints, clamps, net_hi xs)

magnitudes_lo : (xs : List TermPair) → (parts In xs).lo +ℤ (parts Out xs).hi ≡ total (λ x. pos (unsigned_abs x.lo)) xs
unfolding parts
magnitudes_lo [] = refl
magnitudes_lo (x ∷ xs) = magnitude_of x.lo (parts In xs).lo (parts Out xs).hi (total (λ x. pos (unsigned_abs x.lo)) xs) (magnitudes_lo xs)

magnitudes_hi : (xs : List TermPair) → (parts In xs).hi +ℤ (parts Out xs).lo ≡ total (λ x. pos (unsigned_abs x.hi)) xs
unfolding parts
magnitudes_hi [] = refl
magnitudes_hi (x ∷ xs) = magnitude_of x.hi (parts In xs).hi (parts Out xs).lo (total (λ x. pos (unsigned_abs x.hi)) xs) (magnitudes_hi xs)

zero_sum : IsSum no_pair
zero_sum = record { lo_above = omega (arith, ints); lo_below = omega (arith, ints); hi_above = omega (arith, ints); hi_below = omega (arith, ints) }

-- what goes in and what goes out of these flows, each standing still at 2^126
abbrev pub sums : List TermPair → ZoneSum
sums xs = record { into = capped_term (parts In xs); out = capped_term (parts Out xs) }

none_added : (z : ℤ) → pos 0 +ℤ z ≡ z
none_added z = omega (arith, ints)

none_more : (x : TermPair) → plus_pair no_pair x ≡ x
none_more x = rw (none_added x.lo, none_added x.hi) refl

pub zero_sums : IsZoneSum no_flows
zero_sums = record { into = zero_sum; out = zero_sum }

pub sums_are : (x : TermPair) (xs : List TermPair) → plus_flows None (x ∷ xs) ≡ Some (sums (x ∷ xs))
unfolding plus_flows
sums_are x xs = flows_are_parts no_flows (x ∷ xs) zero_sums ∙ (λ i. Some (record { into = capped_term (none_more (parts In (x ∷ xs)) i); out = capped_term (none_more (parts Out (x ∷ xs)) i) }))

-- Two sums that stand still at the limit stay below it together exactly where the whole sums do, and are then whole.
alike : (limit a b : ℤ) (s t : Bool) → pos 0 ≤ℤ limit → pos 0 ≤ℤ a → pos 0 ≤ℤ b → lt_z (int_min a limit +ℤ int_min b limit) limit ≡ s → lt_z (a +ℤ b) limit ≡ t → s ≡ t
alike limit a b true true g h k e f = refl
alike limit a b true false g h k e f = absurd (omega (arith, ints, clamps))
alike limit a b false true g h k e f = absurd (omega (arith, ints, clamps))
alike limit a b false false g h k e f = refl

is_whole : (limit a b : ℤ) → pos 0 ≤ℤ a → pos 0 ≤ℤ b → lt_z (a +ℤ b) limit ≡ true → (int_min a limit ≡ a) × (int_min b limit ≡ b)
is_whole limit a b h k e = (omega (arith, ints, clamps), omega (arith, ints, clamps))

limit_above : pos 0 ≤ℤ term_limit
limit_above = omega (arith, ints)

module _ (xs : List TermPair) where
  same_low : lt_z ((sums xs).into.lo +ℤ (sums xs).out.hi) term_limit ≡ lt_z (total (λ x. pos (unsigned_abs x.lo)) xs) term_limit
  same_low = alike term_limit (parts In xs).lo (parts Out xs).hi _ _ limit_above (parts_lo In xs) (parts_hi Out xs) refl refl ∙ ap (λ z. lt_z z term_limit) (magnitudes_lo xs)

  same_high : lt_z ((sums xs).into.hi +ℤ (sums xs).out.lo) term_limit ≡ lt_z (total (λ x. pos (unsigned_abs x.hi)) xs) term_limit
  same_high = alike term_limit (parts In xs).hi (parts Out xs).lo _ _ limit_above (parts_hi In xs) (parts_lo Out xs) refl refl ∙ ap (λ z. lt_z z term_limit) (magnitudes_hi xs)

  whole_low : lt_z (total (λ x. pos (unsigned_abs x.lo)) xs) term_limit ≡ true → (sums xs).into.lo -ℤ (sums xs).out.hi ≡ total (λ x. x.lo) xs
  whole_low e = let w = is_whole term_limit (parts In xs).lo (parts Out xs).hi (parts_lo In xs) (parts_hi Out xs) (ap (λ z. lt_z z term_limit) (magnitudes_lo xs) ∙ e) in rw (w.0, w.1) (net_lo xs)

  whole_high : lt_z (total (λ x. pos (unsigned_abs x.hi)) xs) term_limit ≡ true → (sums xs).into.hi -ℤ (sums xs).out.lo ≡ total (λ x. x.hi) xs
  whole_high e = let w = is_whole term_limit (parts In xs).hi (parts Out xs).lo (parts_hi In xs) (parts_lo Out xs) (ap (λ z. lt_z z term_limit) (magnitudes_hi xs) ∙ e) in rw (w.0, w.1) (net_hi xs)

same_if : (b : Bool) (x y : ZoneFlow) (r : Result ZoneFlow NoBound) → (b ≡ true → x ≡ y) → (if b then Ok x else r) ≡ (if b then Ok y else r)
same_if true x y r h = ap (λ (v : ZoneFlow). Ok v) (h refl)
same_if false x y r h = refl

-- the sums of a pair's flows give the flow of the pair, or its refusal
pub entry_flow : (fs : List Face) (q : ℕ) → flow_or_refusal q (sums (flows_between (q / 1000) (q % 1000) fs)) ≡ flow_or_large fs (pair_of q)
entry_flow fs q =
    let xs = flows_between (q / 1000) (q % 1000) fs in
    rw (same_low xs, same_high xs) (same_if _ (zone_flow q (sums xs)) (pair_flow fs (pair_of q)) _ (λ both. let (low, high) = and_parts _ _ both in rw (whole_low xs low, whole_high xs high) refl))
