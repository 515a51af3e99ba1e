-- What the check of a posed step says, by what its calls gave.
use Rattle.check_run.proofs.Common.{Limits, ◌≡◌, ℕ, ◌∙◌, List, Contains, Ok, Err, Option, map, subst, sym, refl, Bound, Side, ZoneFlow, Entries, entries_at, lower_at, upper_at, IsCertificate, Budget}
use Rattle.check_run.proofs.Common.{CoverEncloses, EnclosesBudgets, HeadsAreWithin, budget_of, EnclosesSolutions, IsFirstFailing, TimeStep, times, bound_at, BoundsMoves, CheckFault, AreNarrow}
use Rattle.check_run.proofs.Common.{ArePosed, AreWide, FailsBy, IsCovered, IsUncovered, ConstantsReach, IsFirstShort, variable_bounds, HeadsHold, Passes, TermsHold, at_constant, at_variable, at_term}
use Rattle.check_run.proofs.Common.{at_zones, no_budget, no_flows, checked_task, step_of, Decks, AreDecks, ConstantPairEncloses, Posed}
use Rattle.check_run.proofs.{RunText.bounds_are, Passing.choice_moves}
use Rattle.step_problem.specs.declared.place.Place.TheVariants as places
use Rattle.check_run.specs.declared.listing.CheckFault.TheVariants as fault

module _ (limits : Limits) (ds : Decks) (s : ℕ) (zones : Option (List ℕ)) (at : TimeStep) (old : List Bound) (x : Posed) (posed : ArePosed limits ds s at old x)
    (heads : List Bound) (listed : Budget) (flows : List ZoneFlow) where
  pub constant_fails : (c : ℕ) (side : Side) → IsFirstShort ds at heads c side →
      FailsBy limits ds s zones at old (record { heads = heads; budget = listed; zones = flows }) (fault.Fails (places.Cell c side))
  constant_fails c side f = at_constant x.problem x.barrier c side posed.posed f refl

  module _ (reach : ConstantsReach ds at heads) (bs lent : List Bound) (lent_is : lent ≡ bs) (are : bs ≡ map (λ (e : Entries). bound_at heads e.id) x.problem) where
    same : lent ≡ variable_bounds ds at heads
    same = lent_is ∙ are ∙ bounds_are ds at heads x.problem posed.cells

    pub variable_fails : (e : CheckFault) → (k : ℕ) × (side : Side) × IsFirstFailing x.problem x.barrier lent k side ×
        (e ≡ fault.Fails (places.Cell (entries_at x.problem k).id side)) →
        FailsBy limits ds s zones at old (record { heads = heads; budget = listed; zones = flows }) e
    variable_fails e (k, side, f, is) =
        let F : List Bound → Type 0 = λ v. IsFirstFailing x.problem x.barrier v k side in
        let P : CheckFault → Type 0 = FailsBy limits ds s zones at old (record { heads = heads; budget = listed; zones = flows }) in
        subst P (sym is) (at_variable x.problem x.barrier k side posed.posed reach (subst F same f) refl)

    module _ (certificate : IsCertificate x.problem x.barrier (lower_at lent) (upper_at lent)) where
      hold : HeadsHold limits ds s zones at old (record { heads = heads; budget = listed; zones = flows }) x.problem x.barrier
      hold =
          let C : List Bound → Type 0 = λ v. IsCertificate x.problem x.barrier (lower_at v) (upper_at v) in
          record { posed = posed.posed; constants = reach; certificate = subst C same certificate }

      pub term_fails : (e : CheckFault) → IsUncovered x.problem lent listed e → FailsBy limits ds s zones at old (record { heads = heads; budget = listed; zones = flows }) e
      term_fails (fault.Fails place) (budget, dir, t, is, f, e) =
          let B : List Bound → Type 0 = λ v. budget_of x.problem (lower_at v) (upper_at v) ≡ Ok budget in
          at_term x.problem x.barrier budget dir t hold (subst B same is) f e
      term_fails (fault.Refused n) is =
          let B : List Bound → Type 0 = λ v. budget_of x.problem (lower_at v) (upper_at v) ≡ Err n in
          no_budget x.problem x.barrier hold (subst B same is)
      term_fails fault.Memory h = absurd h

      module _ (h : IsCovered x.problem lent listed) where
        terms_hold : TermsHold limits ds s zones at old (record { heads = heads; budget = listed; zones = flows }) x.problem x.barrier
        terms_hold =
            let B : List Bound → Type 0 = λ v. budget_of x.problem (lower_at v) (upper_at v) ≡ Ok h.budget in
            record { heads = hold; budget = h.budget; is = subst B same h.is; covers = h.covers }

        pub zones_fail : (e : CheckFault) → AreNarrow x.problem heads zones flows e → FailsBy limits ds s zones at old (record { heads = heads; budget = listed; zones = flows }) e
        zones_fail (fault.Fails place) (computed, from, to, are, first, is) = at_zones x.problem x.barrier computed from to terms_hold are first is
        zones_fail (fault.Refused n) large = no_flows x.problem x.barrier terms_hold large
        zones_fail fault.Memory any = tt

        pub step_passes : AreWide x.problem heads zones flows → Passes limits ds s zones at old (record { heads = heads; budget = listed; zones = flows })
        step_passes wide = record { problem = x.problem; barrier = x.barrier; terms = terms_hold; flows = wide.flows; are = wide.are; wide = wide.wide }

    pub step_moves : AreDecks ds → Contains (times ds.first) at → ConstantPairEncloses → CoverEncloses → HeadsAreWithin →
        EnclosesSolutions x.problem (lower_at lent) (upper_at lent) → IsCovered x.problem lent listed → AreWide x.problem heads zones flows →
        BoundsMoves (checked_task ds s zones) at old (step_of at (record { heads = heads; budget = listed; zones = flows }))
    step_moves valid time pair_encloses cover within solutions h wide =
        let S : List Bound → Type 0 = λ v. EnclosesSolutions x.problem (lower_at v) (upper_at v) in
        let E : List Bound → Type 0 = λ v. EnclosesBudgets x.problem (lower_at v) (upper_at v) h.budget in
        λ y chosen. choice_moves ds s at old x.problem x.constant_heads heads valid time posed.constant pair_encloses posed.encloses posed.named reach
        (subst S same solutions) y chosen cover within listed h.budget h.covers (subst E same h.encloses) zones flows wide
