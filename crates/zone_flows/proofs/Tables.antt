-- What a table of sums has gained after more faces, and so the flows of its entries in order.
use Rattle.zone_flows.proofs.Common.{◌≡◌, ℕ, ◌+◌, ◌*◌, ◌/◌, ◌%◌, ◌<◌, ◌≤◌, Bool, true, false, cond, refl, sym, ap, ◌∙◌, subst, arith, List, [], ◌∷◌, ◌++◌, map, take, length, get_or, flat_map, filter}
use Rattle.zone_flows.proofs.Common.{Option, None, Some, ZoneSum, Face, TermPair, AreSums, Gains, IsZoneSum, add_flow, plus_flows, no_flows, flows_between, is_between, share, flow_or_large}
use Rattle.zone_flows.proofs.Common.{flow_or_refusal, each_or_first, zone_flows, Result, All, All-head, All-tail, All-weaker, cases_lt, inl, inr, true≢false, pair_of, map-append, append-nil, ◌||◌}
use Rattle.zone_flows.proofs.Common.{IfSome, values_of, take_more, take_all, filter-append}
use Rattle.std.proofs.{lemmas.Bool.Decides.nat_tests, lemmas.Cmp.nat_cmp_total, lemmas.Grind.flat_map-append, lemmas.Map.Made.is_some-lookup, lemmas.Map.Views.All-found}
use Rattle.std.proofs.{lemmas.Map.Views.All-values-insert_entry, lemmas.Map.Views.IfSome-lookup_from_All}
use Rattle.std.specs.{BTreeMap.is_at, BTreeMap.BTreeMap, BTreeMap.IsOrdered, BTreeMap.get, BTreeMap.insert_entry, BTreeMap.keys, Ordering.nat_cmp, Option.is_some, Option.unwrap_or}
use Rattle.zone_pairs.proofs.InOrder.{has, pairs_are}
use Rattle.zone_flows.proofs.Sums.{sums, sums_are, entry_flow, zero_sums}

abbrev Table : Type 0
Table = BTreeMap ℕ ZoneSum

pub nothing : (m : Table) → Gains m m []
unfolding plus_flows flows_between
nothing m = record { at = λ q. refl; past = λ q h. refl }

plus_flows-append : (s : Option ZoneSum) (xs ys : List TermPair) → plus_flows s (xs ++ ys) ≡ plus_flows (plus_flows s xs) ys
unfolding plus_flows
plus_flows-append s [] ys = refl
plus_flows-append s (x ∷ xs) ys = plus_flows-append (Some (add_flow (unwrap_or s no_flows) x)) xs ys

between-append : (a b : ℕ) (fs gs : List Face) → flows_between a b (fs ++ gs) ≡ flows_between a b fs ++ flows_between a b gs
unfolding flows_between
between-append a b fs gs = ap (map (λ (f : Face). f.flow)) (filter-append (is_between a b) fs gs) ∙ map-append (λ (f : Face). f.flow) (filter (is_between a b) fs) (filter (is_between a b) gs)

pub gains_add_up : (old mid new : Table) (fs gs : List Face) → Gains old mid fs → Gains mid new gs → Gains old new (fs ++ gs)
gains_add_up old mid new fs gs h k = grind (arith, between-append, plus_flows-append)

-- the flow across one face, at the key of its pair
pub gained : (old new : Table) (f : Face) (w : ZoneSum) → f.from ≤ 999 → f.to ≤ 999 → ((q : ℕ) → get nat_cmp new q ≡ cond (is_at (nat_cmp (f.from * 1000 + f.to)) q) (Some w) (get nat_cmp old q)) →
    w ≡ add_flow (unwrap_or (get nat_cmp old (f.from * 1000 + f.to)) no_flows) f.flow → Gains old new (f ∷ [])
unfolding plus_flows flows_between
gained old new f w h k is value = record { at = λ q. is q ∙ at_key q (is_between (q / 1000) (q % 1000) f) refl; past = λ q l. is q ∙ rw (apart q l) refl }
  where
    key : ℕ
    key = f.from * 1000 + f.to

    apart : (q : ℕ) → 1000000 ≤ q → is_at (nat_cmp (f.from * 1000 + f.to)) q ≡ false
    apart q l = grind (arith, nat_tests)

    tests : (q : ℕ) → is_at (nat_cmp (f.from * 1000 + f.to)) q ≡ is_between (q / 1000) (q % 1000) f
    tests q = grind (arith, nat_tests)

    its_key : (q : ℕ) → is_between (q / 1000) (q % 1000) f ≡ true → f.from * 1000 + f.to ≡ q
    its_key q e = grind (arith, nat_tests)

    at_key : (q : ℕ) (b : Bool) → is_between (q / 1000) (q % 1000) f ≡ b → cond (is_at (nat_cmp (f.from * 1000 + f.to)) q) (Some w) (get nat_cmp old q) ≡
        plus_flows (get nat_cmp old q) (map (λ f. f.flow) (filter (is_between (q / 1000) (q % 1000)) (f ∷ [])))
    at_key q true e = rw (tests q, e) (ap (λ (z : ZoneSum). Some z) value ∙ ap (λ (n : ℕ). Some (add_flow (unwrap_or (get nat_cmp old n) no_flows) f.flow)) (its_key q e))
    at_key q false e = rw (tests q, e) refl

-- what a table has for a pair are sums
pub sum_in : (m : Table) (q : ℕ) → AreSums m → IsZoneSum (unwrap_or (get nat_cmp m q) no_flows)
sum_in m q are = or_none (get nat_cmp m q) (IfSome-lookup_from_All IsZoneSum (is_at (nat_cmp q)) m.entries are)
  where
    or_none : (o : Option ZoneSum) → IfSome o IsZoneSum → IsZoneSum (unwrap_or o no_flows)
    or_none None h = zero_sums
    or_none (Some s) h = h

pub sums_grow : (es ds : List (ℕ × ZoneSum)) (q : ℕ) (s : ZoneSum) → ds ≡ insert_entry nat_cmp es q s → All IsZoneSum (values_of es) → IsZoneSum s → All IsZoneSum (values_of ds)
sums_grow es ds q s is are sum = rw is (All-values-insert_entry nat_cmp q s IsZoneSum es are sum)

-- Loops over what has faces.
module _ {X : Type 0} (f : X → List Face) (xs : List X) (i : ℕ) (old mid : Table) (so_far : Gains old mid (flat_map f (take i xs))) where
  pub one_more : (d : X) (new : Table) → i < length xs → Gains mid new (f (get_or xs i d)) → Gains old new (flat_map f (take (i + 1) xs))
  one_more d new lt h =
      subst (Gains old new) (ap (λ ys. flat_map f (take i xs) ++ ys) (sym (append-nil (f (get_or xs i d)))) ∙ sym
      (flat_map-append f (take i xs) (get_or xs i d ∷ [])) ∙ ap (flat_map f) (sym (take_more xs i d lt)))
      (gains_add_up old mid new (flat_map f (take i xs)) (f (get_or xs i d)) so_far h)

  pub all_gained : length xs ≤ i → Gains old mid (flat_map f xs)
  all_gained over = subst (λ ys. Gains old mid (flat_map f ys)) (take_all i xs over) so_far

-- The flows of the entries of a table that has gained these faces are those of the definition.
module _ {X Z Y E : Type 0} (f : X → Result Y E) (g : Z → Result Y E) (h : X → Z) where
  each_image : (xs : List X) → All (λ x. f x ≡ g (h x)) xs → each_or_first f xs ≡ each_or_first g (map h xs)
  unfolding each_or_first
  each_image [] are = refl
  each_image (x ∷ xs) are = rw (All-head (λ x. f x ≡ g (h x)) x xs are, each_image xs (All-tail (λ x. f x ≡ g (h x)) x xs are)) refl

some_stays : (s : ZoneSum) (xs : List TermPair) → is_some (plus_flows (Some s) xs) ≡ true
unfolding plus_flows
some_stays s [] = refl
some_stays s (x ∷ xs) = some_stays (add_flow s x) xs

some_shared : (a b : ℕ) (fs : List Face) → is_some (plus_flows None (flows_between a b fs)) ≡ share fs (record { from = a; to = b })
unfolding plus_flows flows_between
some_shared a b [] = refl
some_shared a b (f ∷ fs) = by_test (is_between a b f) (some_shared a b fs)
  where
    by_test : (t : Bool) → is_some (plus_flows None (map (λ f. f.flow) (filter (is_between a b) fs))) ≡ share fs (record { from = a; to = b }) →
        is_some (plus_flows None (map (λ f. f.flow) (cond t (f ∷ filter (is_between a b) fs) (filter (is_between a b) fs)))) ≡ (t || share fs (record { from = a; to = b }))
    by_test true e = some_stays _ (map (λ f. f.flow) (filter (is_between a b) fs))
    by_test false e = e

module _ (fs : List Face) (m empty : Table) (none : empty.entries ≡ []) (gains : Gains empty m fs) (ordered : IsOrdered nat_cmp m) where
  abbrev found : ℕ → Option ZoneSum
  found q = get nat_cmp m q

  none_at : (q : ℕ) → get nat_cmp empty q ≡ None
  none_at q = rw none refl

  found_is : (q : ℕ) → found q ≡ plus_flows None (flows_between (q / 1000) (q % 1000) fs)
  found_is q = gains.at q ∙ ap (λ s. plus_flows s (flows_between (q / 1000) (q % 1000) fs)) (none_at q)

  shared : (q : ℕ) → share fs (pair_of q) ≡ has (keys m) q
  shared q = sym (some_shared (q / 1000) (q % 1000) fs) ∙ sym (ap is_some (found_is q)) ∙ is_some-lookup (is_at (nat_cmp q)) m.entries

  small : (q : ℕ) → share fs (pair_of q) ≡ true → q < 1000000
  small q is = elim (cases_lt q 1000000) [
    | inl less ↦ less
    | inr past ↦ absurd (let h = sym is ∙ shared q ∙ sym (is_some-lookup (is_at (nat_cmp q)) m.entries) ∙ ap is_some (gains.past q past ∙ none_at q) in true≢false h)
  ]

  entry_is : (q : ℕ) (s : ZoneSum) (xs : List TermPair) → Some s ≡ plus_flows None xs → s ≡ sums xs
  unfolding plus_flows
  entry_is q s [] e = absurd cc
  entry_is q s (x ∷ xs) e = let same : Some s ≡ Some (sums (x ∷ xs)) = e ∙ sums_are x xs in cc

  each_flow : (e : ℕ × ZoneSum) → found e.0 ≡ Some e.1 → flow_or_refusal e.0 e.1 ≡ flow_or_large fs (pair_of e.0)
  each_flow e is = ap (flow_or_refusal e.0) (entry_is e.0 e.1 (flows_between (e.0 / 1000) (e.0 % 1000) fs) (sym is ∙ found_is e.0)) ∙ entry_flow fs e.0

  pub flows_are : each_or_first (λ (e : ℕ × ZoneSum). flow_or_refusal e.0 e.1) m.entries ≡ zone_flows fs
  unfolding zone_flows
  flows_are =
      each_image (λ (e : ℕ × ZoneSum). flow_or_refusal e.0 e.1) (λ q. flow_or_large fs (pair_of q)) (λ e. e.0) m.entries
      (All-weaker (λ e. get nat_cmp m e.0 ≡ Some e.1) _ each_flow m.entries (All-found nat_cmp_total m ordered))
      ∙ each_image (λ q. flow_or_large fs (pair_of q)) (flow_or_large fs) pair_of (keys m) (λ k d lt. refl)
      ∙ ap (each_or_first (flow_or_large fs)) (pairs_are 1000 refl (share fs) (keys m) ordered shared small)
