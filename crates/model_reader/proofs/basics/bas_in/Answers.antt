use Rattle.model_reader.proofs.Common.{ap, err_from_is_err_and, refl, subst, sym, ◌∙◌, FlowModel, IsGrid}
use Rattle.model_reader.proofs.ReadLemmas.{bas_next, text_stops_here}
use Rattle.model_reader.proofs.basics.bas_in.Goals as goal

pub basics_tested-requires-clause-grid : goal.basics_tested-requires-clause-grid
basics_tested-requires-clause-grid g c = subst IsGrid
    (sym (ap (λ (m : FlowModel). m.grid) (c.in_ok-basic.ensures.form.only) ∙ ap (λ (m : FlowModel). m.grid) c.in_ok-bytes.ensures.same)) c.requires.grid

pub basics_tested-requires-clause-strt : goal.basics_tested-requires-clause-strt
basics_tested-requires-clause-strt g c = c.in_ok-basic.ensures.form.strt.1

pub returns-in_err-tested-clause-model : goal.returns-in_err-tested-clause-model
returns-in_err-tested-clause-model g c = λ files agree.
    let p = err_from_is_err_and c.from_residual-in_err-tested.result c.from_residual-in_err-tested.ensures.1 in
    rw (
      p.1,
      p.2,
      bas_next files c.args.dis.now _ _ _ _ _
          (c.in_ok-bytes.ensures.bytes files (c.in_ok-basic.ensures.folder.since files agree)) c.in_ok-bytes.ensures.same
          (rw c.deref.ensures.value at (c.in_ok-basic.ensures.model files agree)),
    )
    (text_stops_here _ _ _ c.in_err-tested.ensures.tests)

pub returns-clause-model : goal.returns-clause-model
returns-clause-model g c = λ files agree.
    bas_next files c.args.dis.now _ _ _ _ _ (c.in_ok-bytes.ensures.bytes files (c.in_ok-basic.ensures.folder.since files agree)) c.in_ok-bytes.ensures.same
    (rw c.deref.ensures.value at (c.in_ok-basic.ensures.model files agree))
    ∙ rw (c.in_ok-tested.ensures.tests, c.in_ok-tested.ensures.same) refl

pub returns-clause-grid : goal.returns-clause-grid
returns-clause-grid g c =
    subst IsGrid (sym (ap (λ (m : FlowModel). m.grid) c.in_ok-tested.ensures.same ∙ ap (λ (m : FlowModel). m.grid) (c.in_ok-basic.ensures.form.only) ∙ ap
    (λ (m : FlowModel). m.grid) c.in_ok-bytes.ensures.same)) c.requires.grid

pub returns-clause-strt : goal.returns-clause-strt
returns-clause-strt g c = rw c.in_ok-tested.ensures.same c.in_ok-basic.ensures.form.strt.1
