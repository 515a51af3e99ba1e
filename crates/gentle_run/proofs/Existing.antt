-- All heads between those of a certified listing are gentle, so it has a history.
use Rattle.gentle_run.proofs.Common.{◌≡◌, ℕ, All, List, Option, [], ◌∷◌, inl, inr, map, All-contains_itself, All-head, All-tail, Contains, Bound, Entries, FlowModel, TimeStep, IsModel, start_head}
use Rattle.gentle_run.proofs.Common.{times, ListedStep, ConvertibleLayers, starts_enclose, time_of, CertifiedHasHistory, Certified, Checks, heads_at, flow_unit, pair_of, HeadsHold}
use Rattle.gentle_heads.proofs.Between.{all_between_are_gentle}
use Rattle.gentle_histories.specs.{AreAllGentle, AreAllGentleFrom}
use Rattle.gentle_histories.proofs.Histories.{histories_exist}
use Rattle.gentle_run.proofs.Enclosed.{have_signs, in_cells, listed_of}

held_is_gentle : (m : FlowModel) (w : ConvertibleLayers) (s : ℕ) (at : TimeStep) (old listed : List Bound) (p q : List Entries) → IsModel m → Contains (times m) at →
    HeadsHold m w s at old listed p q → AreAllGentle m w at (pair_of listed)
held_is_gentle m w s at old listed p q valid there h = λ d X some lies.
    all_between_are_gentle m w at.period listed (heads_at m at d X) valid h.gently.gentle (in_cells m at d X listed valid (time_of m at valid there) h.constants lies)

module _ (m : FlowModel) (w : ConvertibleLayers) (s : ℕ) (zones : Option (List ℕ)) (valid : IsModel m) where
  all_gentle : (ats : List TimeStep) (steps : List ListedStep) (old : List Bound) → All (Contains (times m)) ats → Checks m w s zones old ats steps Certified →
      AreAllGentleFrom m w ats (map pair_of (listed_of steps))
  all_gentle [] [] old there h = tt
  all_gentle [] (x ∷ steps) old there h = absurd h
  all_gentle (at ∷ ats) [] old there h = absurd h
  all_gentle (at ∷ ats) (x ∷ steps) old there (inl (passes, more)) = (
    held_is_gentle m w s at old x.heads passes.low passes.high valid (All-head (Contains (times m)) at ats there) passes.terms.hold,
    all_gentle ats steps x.heads (All-tail (Contains (times m)) at ats there) more,
  )
  all_gentle (at ∷ ats) (x ∷ steps) old there (inr stop) = absurd stop

pub certified_has_history : CertifiedHasHistory
certified_has_history s m w zones steps unit valid yields listed verdict some le =
    let start = starts_enclose m verdict.start verdict.is_start in
    let there = All-contains_itself (times m) in
    histories_exist (flow_unit s) unit m w (map pair_of (listed_of steps)) valid some le
    (have_signs m w s zones valid yields (times m) steps verdict.start (start_head m) (start_head m) there listed.steps start start verdict.checks)
    (all_gentle m w s zones valid (times m) steps verdict.start there verdict.checks)
