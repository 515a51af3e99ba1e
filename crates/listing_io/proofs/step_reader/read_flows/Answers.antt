use Rattle.listing_io.proofs.Common.{◌+◌, drop, get_or, arith, drop_all, err_from_is_err_and, each_goes_on, each_done, ZonePair, flow_at}
use Rattle.listing_io.proofs.Walks.{each_stops, next_of}
use Rattle.listing_io.proofs.step_reader.read_flows.Goals as goal

abbrev no_zones : ZonePair
no_zones = record { from = 0; to = 0 }

pub returns-in_err-flow : goal.returns-in_err-flow
returns-in_err-flow c =
    let pairs = c.args.pairs.now in
    let i = c.loop-pair.pair-index in
    let p = err_from_is_err_and c.from_residual.result c.from_residual.ensures.1 in
    rw (p.1, p.2) (each_stops (flow_at c.args.s) c.in_err-flow.field-0.0 c.loop-pair.flows.items (drop i pairs) (drop (i + 1) pairs)
    (get_or pairs i no_zones) c.loop-pair.lines _ (next_of pairs i no_zones c.loop-pair-test.true) c.in_err-flow.ensures c.loop-pair.invariant)

pub loop-pair-preserved : goal.loop-pair-preserved
loop-pair-preserved c =
    let pairs = c.args.pairs.now in
    let i = c.loop-pair.pair-index in
    rw c.in_ok-push.ensures.items (each_goes_on (flow_at c.args.s) c.loop-pair.flows.items (drop i pairs) (drop (i + 1) pairs)
    (get_or pairs i no_zones) c.loop-pair.lines _ c.in_ok-flow.flow _
    (next_of pairs i no_zones c.loop-pair-test.true) c.in_ok-flow.ensures c.loop-pair.invariant)

pub returns : goal.returns
returns c =
    let pairs = c.args.pairs.now in
    each_done (flow_at c.args.s) c.loop-pair.flows.items (drop c.loop-pair.pair-index pairs) c.loop-pair.lines _ (drop_all c.loop-pair.pair-index pairs (omega arith)) c.loop-pair.invariant
