use Rattle.model_reader.proofs.Common.{ap, err_from_is_err_and, refl, subst, sym, ◌∙◌, FlowModel, IsGrid, All, IsDec}
use Rattle.model_reader.proofs.ReadLemmas.{lpf_next, text_stops_here}
use Rattle.model_reader.proofs.basics.lpf_in.Goals as goal

pub check_model-requires-clause-grid : goal.check_model-requires-clause-grid
check_model-requires-clause-grid g c = subst IsGrid (sym (ap (λ (m : FlowModel). m.grid) c.in_ok-flow.ensures.others ∙ ap (λ (m : FlowModel). m.grid) c.in_ok-bytes.ensures.same)) c.requires.grid

pub check_model-requires-clause-strt : goal.check_model-requires-clause-strt
check_model-requires-clause-strt g c = subst (All IsDec) (sym (ap (λ (m : FlowModel). m.strt) c.in_ok-flow.ensures.others ∙ ap (λ (m : FlowModel). m.strt) c.in_ok-bytes.ensures.same)) c.requires.strt

pub returns-in_err-good-clause-model : goal.returns-in_err-good-clause-model
returns-in_err-good-clause-model g c = λ files agree.
    let p = err_from_is_err_and c.from_residual-in_err-good.result c.from_residual-in_err-good.ensures.1 in
    rw (
      p.1,
      p.2,
      lpf_next files _ _ _ _ _ (c.in_ok-bytes.ensures.bytes files (c.in_ok-flow.ensures.folder.since files agree)) c.in_ok-bytes.ensures.same
          (rw c.deref.ensures.value at (c.in_ok-flow.ensures.model files agree)),
    )
    (text_stops_here _ _ _ c.in_err-good.ensures.check)

pub returns-clause-model : goal.returns-clause-model
returns-clause-model g c = λ files agree.
    lpf_next files _ _ _ _ _ (c.in_ok-bytes.ensures.bytes files (c.in_ok-flow.ensures.folder.since files agree)) c.in_ok-bytes.ensures.same
    (rw c.deref.ensures.value at (c.in_ok-flow.ensures.model files agree))
    ∙ rw (c.in_ok-good.ensures.check, c.in_ok-good.ensures.same) refl

pub returns-clause-grid : goal.returns-clause-grid
returns-clause-grid g c =
    subst IsGrid (sym (ap (λ (m : FlowModel). m.grid) c.in_ok-good.ensures.same ∙ ap (λ (m : FlowModel). m.grid) c.in_ok-flow.ensures.others ∙ ap
    (λ (m : FlowModel). m.grid) c.in_ok-bytes.ensures.same)) c.requires.grid
