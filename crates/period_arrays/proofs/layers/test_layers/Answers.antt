use Rattle.period_arrays.proofs.Common.{sym, layers_tested, step_goes_on, steps_end, steps_done}
use Rattle.std.proofs.lemmas.Result.{err_from_is_err_and}
use Rattle.period_arrays.proofs.layers.test_layers.Goals as goal

pub returns-in_err-test_layer : goal.returns-in_err-test_layer
unfolding layers_tested
returns-in_err-test_layer c =
    let p = err_from_is_err_and c.from_residual.result c.from_residual.ensures.1 in
    rw (p.1, p.2, sym c.layer_size-places.ensures.size)
    (steps_end _ c.in_err-test_layer.field-0.0 c.layer_size-places.result c.loop-place.place _ _ c.loop-place-test.true c.in_err-test_layer.ensures
    c.loop-place.invariant)

pub loop-place-preserved : goal.loop-place-preserved
loop-place-preserved c = step_goes_on _ c.layer_size-places.result c.loop-place.place _ _ _ c.loop-place-test.true c.in_ok-test_layer.ensures c.loop-place.invariant

pub returns : goal.returns
unfolding layers_tested
returns c = rw (sym c.layer_size-places.ensures.size) (steps_done _ c.layer_size-places.result c.loop-place.place _ _ c.loop-place-test.false c.loop-place.invariant)
