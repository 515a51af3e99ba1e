use Rattle.convertible_reader.proofs.Common.{FlowModel, All, IsDec, ap, err_from_is_err_and, refl, subst, sym, ◌∙◌, both_read, text_stops_here, IsGrid}
use Rattle.convertible_reader.proofs.{FolderLemmas.read_of_text, FolderLemmas.read_of_value, ModelForms.lpf_next}
use Rattle.convertible_reader.proofs.model.convertible_lpf_in.Goals as goal

pub check_model-requires-clause-grid : goal.check_model-requires-clause-grid
check_model-requires-clause-grid g c = subst IsGrid (sym (ap (λ (m : FlowModel). m.grid) c.in_ok-flow.ensures.others ∙ ap (λ (m : FlowModel). m.grid) c.in_ok-bytes.ensures.same)) c.requires.grid

pub check_model-requires-clause-strt : goal.check_model-requires-clause-strt
check_model-requires-clause-strt g c = subst (All IsDec) (sym (ap (λ (m : FlowModel). m.strt) c.in_ok-flow.ensures.others ∙ ap (λ (m : FlowModel). m.strt) c.in_ok-bytes.ensures.same)) c.requires.strt

pub yields_tested-requires : goal.yields_tested-requires
yields_tested-requires g c = record {
  grid = subst IsGrid (sym (ap (λ (m : FlowModel). m.grid) c.in_ok-good.ensures.same ∙ ap (λ (m : FlowModel). m.grid) c.in_ok-flow.ensures.others ∙ ap
      (λ (m : FlowModel). m.grid) c.in_ok-bytes.ensures.same)) c.requires.grid;
}

pub returns-in_err-good-clause-model : goal.returns-in_err-good-clause-model
returns-in_err-good-clause-model g c = λ files agree.
    let p = err_from_is_err_and c.from_residual-in_err-good.result c.from_residual-in_err-good.ensures.1 in
    rw (
      p.1,
      p.2,
      lpf_next files _ _ _ _ _ (c.in_ok-bytes.ensures.bytes files (c.in_ok-flow.ensures.folder.since files agree)) c.in_ok-bytes.ensures.same
          (rw c.deref.ensures.value at (c.in_ok-flow.ensures.model files agree)),
    )
    (text_stops_here _ _ _ c.in_err-good.ensures.check)

pub returns-in_err-yields_tested-clause-model : goal.returns-in_err-yields_tested-clause-model
returns-in_err-yields_tested-clause-model g c = λ files agree.
    let p = err_from_is_err_and c.from_residual-in_err-yields_tested.result c.from_residual-in_err-yields_tested.ensures.1 in
    rw (
      p.1,
      p.2,
      lpf_next files _ _ _ _ _ (c.in_ok-bytes.ensures.bytes files (c.in_ok-flow.ensures.folder.since files agree)) c.in_ok-bytes.ensures.same
          (rw c.deref.ensures.value at (c.in_ok-flow.ensures.model files agree)),
      c.in_ok-good.ensures.check,
    )
    (text_stops_here _ _ _ (rw c.in_ok-good.ensures.same at c.in_err-yields_tested.ensures))

pub returns-clause-model : goal.returns-clause-model
returns-clause-model g c = λ files agree.
    lpf_next files _ _ _ _ _ (c.in_ok-bytes.ensures.bytes files (c.in_ok-flow.ensures.folder.since files agree)) c.in_ok-bytes.ensures.same
    (rw c.deref.ensures.value at (c.in_ok-flow.ensures.model files agree))
    ∙ rw (c.in_ok-good.ensures.check, rw c.in_ok-good.ensures.same at c.in_ok-yields_tested.ensures, c.in_ok-good.ensures.same) refl

pub returns-clause-grid : goal.returns-clause-grid
returns-clause-grid g c =
    subst IsGrid (sym (ap (λ (m : FlowModel). m.grid) c.in_ok-good.ensures.same ∙ ap (λ (m : FlowModel). m.grid) c.in_ok-flow.ensures.others ∙ ap
    (λ (m : FlowModel). m.grid) c.in_ok-bytes.ensures.same)) c.requires.grid

pub returns-in_err-good-clause-folder : goal.returns-in_err-good-clause-folder
returns-in_err-good-clause-folder g c =
    let p = err_from_is_err_and c.from_residual-in_err-good.result c.from_residual-in_err-good.ensures.1 in
    rw (p.1, p.2) (read_of_text c.in_err-good.field-0.0 (both_read c.in_ok-bytes.ensures.folder c.in_ok-flow.ensures.folder))

pub returns-in_err-yields_tested-clause-folder : goal.returns-in_err-yields_tested-clause-folder
returns-in_err-yields_tested-clause-folder g c =
    let p = err_from_is_err_and c.from_residual-in_err-yields_tested.result c.from_residual-in_err-yields_tested.ensures.1 in
    rw (p.1, p.2) (read_of_text c.in_err-yields_tested.field-0.0 (both_read c.in_ok-bytes.ensures.folder c.in_ok-flow.ensures.folder))

pub returns-clause-folder : goal.returns-clause-folder
returns-clause-folder g c = read_of_value (both_read c.in_ok-bytes.ensures.folder c.in_ok-flow.ensures.folder)
