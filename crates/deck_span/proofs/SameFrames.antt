-- What a model between two others has in common with them; and where some model lies between two, the two are alike.
use Rattle.deck_span.proofs.Common.{◌≡◌, ℕ, ◌≤◌, ap, subst, List, length, map, flat_map, range_with_len, AllZip, Dec, FlowModel, Period, cell_count, is_active, period_at, is_variable, index_of}
use Rattle.deck_span.proofs.Common.{start_head, constant_head, AllThree, IsFractionBetween, IsDecBetween, IsPeriodBetween, IsBetween, none, next, IsEntryBetween, IsGivenBetween, IsRateBetween, wells}
use Rattle.deck_span.proofs.Common.{rivers, drains, generals, AreGivenAlike, ArePeriodsAlike, AreAlike, AreEntriesAlike, AreRatesAlike, Fraction, refl, Entry}
use Rattle.model_types.specs.{times}
use Rattle.deck_span.proofs.{SourcesBetween.framed, SourcesBetween.no_dec, SourcesBetween.at_period, SourcesBetween.variable_is, SourcesBetween.cells_are, StepsBetween.framed_is}
use Rattle.deck_span.proofs.{StepsBetween.constant_between, ThreeLists.three_at, ThreeLists.three_lengths}

framed_times : (f : FlowModel) (s₁ s₂ s₃ : List Dec) (ps qs rs : List Period) → AllThree IsPeriodBetween ps qs rs → times (framed f s₂ qs) ≡ times (framed f s₁ ps)
unfolding times
framed_times f s₁ s₂ s₃ ps qs rs periods =
    let count = (three_lengths IsPeriodBetween ps qs rs periods).0 in
    λ i. flat_map (λ p. map (λ n. record { period = p; step = n }) (range_with_len 1 ((at_period f s₁ s₂ s₃ ps qs rs periods p).same i).nstp)) (range_with_len 1 (count i))

module _ (a m b : FlowModel) (h : IsBetween a m b) where
  m_is : framed a m.strt m.periods ≡ m
  m_is = framed_is a m h.same

  pub times_are : times m ≡ times a
  times_are = subst (λ (x : FlowModel). times x ≡ times a) m_is (framed_times a a.strt m.strt b.strt a.periods m.periods b.periods h.periods)

  pub count_is : cell_count m.grid ≡ cell_count a.grid
  count_is = ap (λ (x : FlowModel). cell_count x.grid) h.same

  pub active_is : (c : ℕ) → is_active m c ≡ is_active a c
  active_is c = ap (λ (x : FlowModel). is_active x c) h.same

  pub variable_same : (p c : ℕ) → is_variable m p c ≡ is_variable a p c
  variable_same p c = subst (λ (x : FlowModel). is_variable x p c ≡ is_variable a p c) m_is (variable_is a a.strt m.strt b.strt a.periods m.periods b.periods h.periods p c).0

  pub index_is : (p c : ℕ) → index_of m p c ≡ index_of a p c
  index_is p c = subst (λ (x : FlowModel). index_of x p c ≡ index_of a p c) m_is (ap length (cells_are a a.strt m.strt b.strt a.periods m.periods b.periods h.periods p c).0)

  pub starts_between : (c : ℕ) → IsFractionBetween (start_head a c) (start_head m c) (start_head b c)
  starts_between c = three_at IsDecBetween a.strt m.strt b.strt c _ _ _ h.strt no_dec

  pub constants_between : (p n : ℕ) → n ≤ (period_at a p).nstp → (old : ℕ → Fraction) → (c : ℕ) → IsFractionBetween (constant_head a p n c) (constant_head m p n c) (constant_head b p n c)
  constants_between p n few old c =
      subst (λ (x : FlowModel). IsFractionBetween (constant_head a p n c) (constant_head m p n c) (constant_head x p n c)) (framed_is a b h.alike)
      (subst (λ (x : FlowModel). IsFractionBetween (constant_head a p n c) (constant_head x p n c) (constant_head (framed a b.strt b.periods) p n c)) m_is
      (constant_between a a.strt m.strt b.strt a.periods m.periods b.periods h.strt h.periods p n few old c))

module _ {X : Type 0} (R : X → X → X → Type 0) where
  same_items : (S : X → X → Type 0) → ((x y z : X) → R x y z → S x z) → (xs ys zs : List X) → AllThree R xs ys zs → AllZip S xs zs
  same_items S each xs ys zs none = tt
  same_items S each xs ys zs (next {x = x} {y = y} {z = z} h hs) = (each x y z h, same_items S each _ _ _ hs)

same_entry : (x y z : Entry) → IsEntryBetween x y z → AreEntriesAlike x z
same_entry x y z (wells h) = refl
same_entry x y z (rivers h k r) = refl
same_entry x y z (drains h k) = refl
same_entry x y z (generals h k) = refl

same_period : (p m q : Period) → IsPeriodBetween p m q → ArePeriodsAlike p q
same_period p m q h = record {
  same = h.alike;
  wells = same_items IsEntryBetween AreEntriesAlike same_entry _ _ _ h.wells;
  rivers = same_items IsEntryBetween AreEntriesAlike same_entry _ _ _ h.rivers;
  drains = same_items IsEntryBetween AreEntriesAlike same_entry _ _ _ h.drains;
  generals = same_items IsEntryBetween AreEntriesAlike same_entry _ _ _ h.generals;
  given = same_items IsGivenBetween AreGivenAlike (λ x y z k. k.alike) _ _ _ h.given;
  recharge = (three_lengths IsDecBetween _ _ _ h.recharge).1;
  surf = (three_lengths IsDecBetween _ _ _ h.surf).1;
  evtr = same_items IsRateBetween AreRatesAlike (λ x y z k. k.alike) _ _ _ h.evtr;
}

pub between_alike : (a m b : FlowModel) → IsBetween a m b → AreAlike a b
between_alike a m b h = record {
  same = h.alike;
  strt = (three_lengths IsDecBetween _ _ _ h.strt).1;
  periods = same_items IsPeriodBetween ArePeriodsAlike same_period _ _ _ h.periods;
}
