-- The loop over a table; and what the flows between zones are: one for each pair that shares a face, each the sums of the faces' flows.
use Rattle.zone_flows.proofs.Common.{◌≡◌, ℕ, ◌+◌, Bool, true, false, List, [], ◌∷◌, ◌++◌, refl, sym, ap, ◌∙◌, subst, arith, append_assoc, Result, Ok, Err, IfOk, All, All-cons, All-nil, All-weaker}
use Rattle.zone_flows.proofs.Common.{AllZip, map, filter, append-nil, ◌>>=◌, ZoneFlow, NoBound, Face, Fraction, ints, pos, ℤ, ◌<ℤ◌, unsigned_abs, total, term_limit, flows_between, EnclosesSigned}
use Rattle.zone_flows.proofs.Common.{ExactCell, EnclosesStep, EncloseEveryStep, HeadsLieWithin, exact_flow, exact_faces, faces, IsProblem, Entries, and_parts, each_or_first, zone_flows, share}
use Rattle.zone_flows.proofs.Common.{is_small, flow_or_large, pair_flow, Returns, if◌then◌else◌, pairs_below, zones_of_flow, lt_z}
use Rattle.zone_pairs.specs.declared.pair.ZonePair.{ZonePair}
use Rattle.std.specs.{declared.vec.Vec.Vec, declared.alloc.Global.Global}
use Rattle.step_problem.specs.declared.refusal.BoundFault.{BoundFault}
use Rattle.zone_flows.proofs.Enclosed.{sums_enclose}

abbrev value_or : {X E : Type 0} → X → Result X E → X
value_or d (Ok x) = x
value_or d (Err e) = d

module _ {X Y E : Type 0} (f : X → Result Y E) where
  -- what the rest gives after what there is
  abbrev pub with_front : List Y → List X → Result (List Y) E
  with_front front rest = each_or_first f rest >>= λ ys. Ok (front ++ ys)

  regroup : (front : List Y) (y : Y) (read : Result (List Y) E) → ((read >>= λ more. Ok (y ∷ more)) >>= λ ys. Ok (front ++ ys)) ≡ (read >>= λ ys. Ok ((front ++ y ∷ []) ++ ys))
  regroup front y (Ok more) = ap (λ (ys : List Y). Ok ys) (sym (append_assoc front (y ∷ []) more))
  regroup front y (Err e) = refl

  pub goes_on : (front : List Y) (x : X) (rest : List X) (y : Y) (whole : Result (List Y) E) → f x ≡ Ok y → with_front front (x ∷ rest) ≡ whole → with_front (front ++ y ∷ []) rest ≡ whole
  unfolding each_or_first
  goes_on front x rest y whole h so_far = let one : with_front front (x ∷ rest) ≡ with_front (front ++ y ∷ []) rest = rw h (regroup front y (each_or_first f rest)) in sym one ∙ so_far

  pub ends : (front : List Y) (x : X) (rest : List X) (e : E) (whole : Result (List Y) E) → f x ≡ Err e → with_front front (x ∷ rest) ≡ whole → whole ≡ Err e
  unfolding each_or_first
  ends front x rest e whole h so_far = let one : with_front front (x ∷ rest) ≡ Err e = rw h refl in sym so_far ∙ one

  pub is_done : (front : List Y) (whole : Result (List Y) E) → with_front front [] ≡ whole → whole ≡ Ok front
  unfolding each_or_first
  is_done front whole so_far = sym so_far ∙ ap (λ (ys : List Y). Ok ys) (append-nil front)

  each_ok : (xs : List X) (ys : List Y) → each_or_first f xs ≡ Ok ys → AllZip (λ x y. f x ≡ Ok y) xs ys
  unfolding each_or_first
  each_ok [] [] e = tt
  each_ok [] (y ∷ ys) e = absurd cc
  each_ok (x ∷ xs) ys e = by_parts (f x) (each_or_first f xs) refl (each_ok xs) e
    where
      by_parts : (r : Result Y E) (s : Result (List Y) E) → f x ≡ r → ((zs : List Y) → s ≡ Ok zs → AllZip (λ x y. f x ≡ Ok y) xs zs) →
          (r >>= λ y. s >>= λ zs. Ok (y ∷ zs)) ≡ Ok ys → AllZip (λ x y. f x ≡ Ok y) (x ∷ xs) ys
      by_parts (Ok y) (Ok zs) first rest e = subst (AllZip (λ x y. f x ≡ Ok y) (x ∷ xs)) (ap (value_or (y ∷ zs)) e) (first, rest zs refl)
      by_parts (Ok y) (Err r) first rest e = absurd cc
      by_parts (Err r) s first rest e = absurd cc

-- the flow of a pair: the sums of the faces' flows, and the magnitudes below the limit
pub record IsZoneFlow (fs : List Face) (v : ZoneFlow) : Type 0 where
  pub lo : v.lo ≡ total (λ x. x.lo) (flows_between v.from v.to fs)
  pub hi : v.hi ≡ total (λ x. x.hi) (flows_between v.from v.to fs)
  pub small_lo : total (λ x. pos (unsigned_abs x.lo)) (flows_between v.from v.to fs) <ℤ term_limit
  pub small_hi : total (λ x. pos (unsigned_abs x.hi)) (flows_between v.from v.to fs) <ℤ term_limit

module _ (fs : List Face) where
  below : (x l : ℤ) → lt_z x l ≡ true → x <ℤ l
  below x l e = omega (arith, ints)

  is_flow : (z : ZonePair) (v : ZoneFlow) → flow_or_large fs z ≡ Ok v → IsZoneFlow fs v × (zones_of_flow v ≡ z)
  is_flow z v e = by_test _ (is_small fs z) refl e
    where
      by_test : (r : NoBound) (b : Bool) → is_small fs z ≡ b → (if b then Ok (pair_flow fs z) else Err r) ≡ Ok v → IsZoneFlow fs v × (zones_of_flow v ≡ z)
      by_test r true small e =
          let (low, high) = and_parts _ _ small in
          subst (λ (w : ZoneFlow). IsZoneFlow fs w × (zones_of_flow w ≡ z)) (ap (value_or v) e) (record { lo = refl; hi = refl; small_lo = below _ _ low; small_hi = below _ _ high }, refl)
      by_test r false large e = absurd cc

  from_pairs : (zs : List ZonePair) (vs : List ZoneFlow) → AllZip (λ z v. flow_or_large fs z ≡ Ok v) zs vs → All (IsZoneFlow fs) vs × (map zones_of_flow vs ≡ zs)
  from_pairs [] [] h = (All-nil (IsZoneFlow fs), refl)
  from_pairs [] (v ∷ vs) h = absurd h
  from_pairs (z ∷ zs) [] h = absurd h
  from_pairs (z ∷ zs) (v ∷ vs) h =
      let (is, at) = is_flow z v h.0 in
      let (are, pairs) = from_pairs zs vs h.1 in
      (All-cons (IsZoneFlow fs) v vs is are, (λ i. at i ∷ pairs i))

  pub flows_of_pairs : (vs : List ZoneFlow) → zone_flows fs ≡ Ok vs → All (IsZoneFlow fs) vs × (map zones_of_flow vs ≡ filter (share fs) (pairs_below 1000))
  unfolding zone_flows
  flows_of_pairs vs e = from_pairs _ vs (each_ok (flow_or_large fs) _ vs e)

module _ (p : List Entries) (zones : List ℕ) (l u : ℕ → ℤ) (ok : IsProblem p) where
  flow_encloses : (s : ℕ) (e : List ExactCell) (h : ℕ → Fraction) → EnclosesStep s p e → HeadsLieWithin p l u h → (v : ZoneFlow) →
      IsZoneFlow (faces zones l u p) v → EnclosesSigned v.lo v.hi (s + 9) (exact_flow v.from v.to (exact_faces zones h e))
  flow_encloses s e h encloses named v f = rw (f.lo, f.hi) (sums_enclose p zones l u ok s e h encloses named v.from v.to)

  pub ok_encloses : (r : Result (Vec ZoneFlow Global) BoundFault) → Returns (zone_flows (faces zones l u p)) r → IfOk r (λ flows. EncloseEveryStep p zones l u flows.items)
  ok_encloses (Ok flows) is = λ s e h encloses named. All-weaker (IsZoneFlow (faces zones l u p)) _ (flow_encloses s e h encloses named) flows.items
      (flows_of_pairs (faces zones l u p) flows.items is).0
  ok_encloses (Err fault) is = tt
