-- The fault of a step by that of its heads, of its terms and of its flows between zones.
use Rattle.gentle_run.proofs.Common.{ℕ, List, Option, FlowModel, TimeStep, ConvertibleLayers, Bound, ListedStep, GentleFault, StepFailsBy, Entries, FailsBy, HeadsHold, AreNarrow, IsCovered}
use Rattle.gentle_run.proofs.Common.{IsUncovered, at_heads, at_term, at_zones, no_budget, no_flows, no_heads}
use Rattle.gentle_steps.specs.declared.fault.GentleFault.TheVariants as fault

module _ (m : FlowModel) (w : ConvertibleLayers) (s : ℕ) (zones : Option (List ℕ)) (at : TimeStep) (old : List Bound) (x : ListedStep) where
  pub fails_by_heads : (e : GentleFault) → FailsBy m w s at old x.heads e → StepFailsBy m w s zones at old x e
  fails_by_heads (fault.Steep c) h = h
  fails_by_heads (fault.Fails place) h = at_heads h
  fails_by_heads (fault.Refused n) h = no_heads h
  fails_by_heads fault.Memory h = tt

  pub fails_by_terms : (p q : List Entries) → HeadsHold m w s at old x.heads p q → (e : GentleFault) → IsUncovered m w s at old x.heads x.budget p q e →
      StepFailsBy m w s zones at old x e
  fails_by_terms p q hold (fault.Steep c) h = absurd h
  fails_by_terms p q hold (fault.Fails place) h = at_term p q hold h
  fails_by_terms p q hold (fault.Refused n) h = no_budget p q hold h
  fails_by_terms p q hold fault.Memory h = tt

  pub fails_by_flows : (p q : List Entries) → IsCovered m w s at old x.heads x.budget p q → (e : GentleFault) → AreNarrow m w s zones at x.heads x.zones e →
      StepFailsBy m w s zones at old x e
  fails_by_flows p q covered (fault.Steep c) h = absurd h
  fails_by_flows p q covered (fault.Fails place) h = at_zones p q covered h
  fails_by_flows p q covered (fault.Refused n) h = no_flows p q covered h
  fails_by_flows p q covered fault.Memory h = tt
