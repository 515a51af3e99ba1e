use Rattle.view_puts.proofs.Common.{◌≡◌, ◌∙◌, ap, sym, subst, not, IfOk}
use Rattle.settle_driver.specs.{EnclosesPair}
use Rattle.listing_io.specs.{view_text}
use Rattle.model_types.specs.declared.time_steps.TimeStep.{TimeStep}
use Rattle.view_puts.proofs.Views.{lead_more, one_view_more}
use Rattle.view_puts.proofs.viewer.SinkViewerViewer.view.Goals as goal

pub returns-clause-one_more : goal.returns-clause-one_more
returns-clause-one_more g c = λ e start n h.
    let p = c.args.p.now in
    let self = c.args.self.now in
    let by_grid = subst (λ x. IfOk c.write_view-text.result (λ v. v.items ≡ view_text x.now self.at p c.args.heads.now)) h.1 c.write_view-text.ensures in
    let by_time = subst (λ (at : TimeStep). IfOk c.write_view-text.result (λ v. v.items ≡ view_text start.grid.now at p c.args.heads.now)) h.2 by_grid in
    let put = c.put_text-self.ensures in (
      h.0,
      h.1,
      h.2,
      one_view_more (view_text start.grid.now start.at p)
          (EnclosesPair p c.args._b.now) _ _ c.write_view-text.result c.args.heads.now c.requires.heads by_time n start.stop self.stop c.put_text-self.result
          (sym c.is_some.ensures ∙ c.if-is_some.false) (c.is_none.ensures ∙ ap not e) (
            put.0,
            put.1,
            λ puts k.
                lead_more g.W.Sink.leads _ _ _ puts put.0 k put.2,
          ) h.3,
    )
