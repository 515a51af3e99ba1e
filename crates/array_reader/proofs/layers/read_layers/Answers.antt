use Rattle.array_reader.proofs.Common.{◌∙◌, refl, err_from_is_err_and, list_goes_on, list_stops, lists_done, layers}
use Rattle.array_reader.proofs.layers.read_layers.Goals as goal

pub returns-in_err-layer-clause-layers : goal.returns-in_err-layer-clause-layers
unfolding layers
returns-in_err-layer-clause-layers g c = λ files agree.
    let p = err_from_is_err_and c.from_residual.result c.from_residual.ensures.1 in
    rw (p.1, p.2) (list_stops _ c.in_err-layer.field-0.0 c.loop.values.items c.args.count c.loop.counter _ _ c.loop-test.true
    (c.in_err-layer.ensures.layer files agree) (c.loop.invariant.0 files (c.in_err-layer.ensures.folder.since files agree)))

pub loop-preserved : goal.loop-preserved
loop-preserved g c = (
  (λ files agree.
      rw (c.in_ok-extend_from_slice.ensures.items, c.deref.ensures.value)
      (list_goes_on _ c.loop.values.items c.args.count c.loop.counter _ _ c.in_ok-layer.layer.items _ c.loop-test.true
      (c.in_ok-layer.ensures.layer files agree) (c.loop.invariant.0 files (c.in_ok-layer.ensures.folder.since files agree)))),
  (λ files agree. c.loop.invariant.1 files (c.in_ok-layer.ensures.folder.since files agree)),
  c.in_ok-layer.ensures.folder.counts ∙ c.loop.invariant.2,
  (λ name h. c.in_ok-layer.ensures.folder.still name (c.loop.invariant.3 name h)),
  c.in_ok-layer.ensures.lines,
)

pub returns-clause-layers : goal.returns-clause-layers
unfolding layers
returns-clause-layers g c = λ files agree. lists_done _ c.loop.values.items c.args.count c.loop.counter _ _ c.loop-test.false (c.loop.invariant.0 files agree)
