use Rattle.engine.proofs.Common.{map, but_batch, order_of_words, folder_use, sink_use}
use Rattle.engine.proofs.{BatchEnds.is_order, BatchEnds.order_may, Facts.run_result, OkRuns.laws_of}
use Rattle.engine.proofs.running.run_one.Given as given
use Rattle.engine.proofs.running.run_one.Goals as goal

pub run_order-status-requires-clause-may : goal.run_order-status-requires-clause-may
run_order-status-requires-clause-may g c = λ κs outlives.
    order_may (g.F.Folder.may c.args.folder.now) (order_of_words (map (λ w. w.now) c.args.words.now)) _ c.requires.may c.read_order.ensures.order

pub returns-clause-unasked : goal.returns-clause-unasked
returns-clause-unasked g c = c.run_order-status.ensures.unasked _
    (is_order (order_of_words (map (λ w. w.now) c.args.words.now)) _ c.read_order.ensures.order c.read_order.ensures.usage)

pub returns-clause-runs : goal.returns-clause-runs
returns-clause-runs g c =
    let met = g.met.K.Sink g.world.𝓛 g.world.𝓜 g.world.𝓡 ((λ s x. x), (λ x. x), (λ x. x), λ x. x) in
    let order = order_of_words (map (λ w. w.now) c.args.words.now) in
    run_result g.K.Sink c.args.out.now c.run_order-status.new.out (but_batch order) (folder_use g.F.Folder c.args.folder.now c.run_order-status.new.folder)
    (sink_use g.W.Sink c.args.side.now c.run_order-status.new.side) c.run_order-status.result met.rests met.tells
    (laws_of c.one_listing.ensures.one c.one_listing.ensures.bound c.one_listing.ensures.refusal c.one_verdict.ensures c.one_difference.ensures
    c.plan_listings_enclose.ensures c.one_plan_listing.ensures c.one_plan_verdict.ensures c.one_verdict-2.ensures) c.some_agree.ensures
    (c.run_order-status.ensures.serves _ (is_order order _ c.read_order.ensures.order c.read_order.ensures.usage))
