use Rattle.engine.proofs.Common.{◌∙◌, map, Err, Ok, Result, Some, ap, refl, subst, sym, ReadsNothing, batch_of, Batch, wanted_by, order_of_words, Order, WordsFault, folder_use, sink_use}
use Rattle.engine.proofs.{Beside.without_views, BatchEnds.may_do, BatchEnds.not_a_batch, BatchEnds.order_may, Ends.puts_more, Facts.run_result, OkRuns.laws_of}
use Rattle.command_line.specs.declared.order.WordsFault.TheVariants as fault
use Rattle.engine.proofs.commands.run.Given as given
use Rattle.engine.proofs.commands.run.Goals as goal

pub put_batch-status-requires-clause-may : goal.put_batch-status-requires-clause-may
put_batch-status-requires-clause-may g c = λ κs outlives.
    may_do (g.F.Folder.may c.args.folder.now) (Ok c.in-Ok.order) _ _
    (order_may (g.F.Folder.may c.args.folder.now) (order_of_words (map (λ w. w.now) c.args.words.now))
    (Ok c.in-Ok.order) c.requires.may c.in-Ok.ensures.order) refl c.in-Batch.is

pub run_order-status-requires-clause-may : goal.run_order-status-requires-clause-may
run_order-status-requires-clause-may g c = λ κs outlives. order_may (g.F.Folder.may c.args.folder.now) (order_of_words (map (λ w. w.now) c.args.words.now))
    (Ok c.in-Ok.order) c.requires.may c.in-Ok.ensures.order

pub returns-in-Batch-clause-unasked : goal.returns-in-Batch-clause-unasked
returns-in-Batch-clause-unasked g c = λ nothing.
    absurd (subst ReadsNothing (c.in-Ok.ensures.order ∙ ap (λ (o : Order). Some (wanted_by o)) c.in-Batch.is) nothing)

pub returns-in-Batch-clause-runs : goal.returns-in-Batch-clause-runs
returns-in-Batch-clause-runs g c =
    let met = g.met.K.Sink g.world.𝓛 g.world.𝓜 g.world.𝓡 ((λ s x. x), (λ x. x), (λ x. x), λ x. x) in
    let order = order_of_words (map (λ w. w.now) c.args.words.now) in
    let beside = g.met.W.Sink g.world.𝓛 g.world.𝓜 g.world.𝓡 ((λ s x. x), (λ x. x), (λ x. x), λ x. x) in
    run_result g.K.Sink c.args.out.now c.put_batch-status.new.out order (folder_use g.F.Folder c.args.folder.now c.put_batch-status.new.folder)
    (sink_use g.W.Sink c.args.side.now c.args.side.now) c.put_batch-status.result met.rests met.tells
    (laws_of c.one_listing.ensures.one c.one_listing.ensures.bound c.one_listing.ensures.refusal c.one_verdict.ensures c.one_difference.ensures
    c.plan_listings_enclose.ensures c.one_plan_listing.ensures c.one_plan_verdict.ensures c.one_verdict-2.ensures) c.some_agree.ensures
    (puts_more g.K.Sink.leads c.put_batch-status.ensures.serves (λ more m files agree. without_views files order (Some (Batch (batch_of c.in-Batch.asked)))
    (beside.rests c.args.side.now) (c.in-Ok.ensures.order ∙ ap (λ (o : Order). Some (wanted_by o)) c.in-Batch.is) refl (m files agree)))

pub returns-in_default-clause-unasked : goal.returns-in_default-clause-unasked
returns-in_default-clause-unasked g c =
    c.run_order-status.ensures.unasked (order_of_words (map (λ w. w.now) c.args.words.now)) (
      c.in-Ok.ensures.order ∙ sym (not_a_batch _ c.in_default.not-Batch),
      λ e.
          let bad : Path (Result Order WordsFault) (Ok c.in-Ok.order) (Err fault.Usage) = e in cc,
    )

pub returns-in_default-clause-runs : goal.returns-in_default-clause-runs
returns-in_default-clause-runs g c =
    let met = g.met.K.Sink g.world.𝓛 g.world.𝓜 g.world.𝓡 ((λ s x. x), (λ x. x), (λ x. x), λ x. x) in
    let order = order_of_words (map (λ w. w.now) c.args.words.now) in
    run_result g.K.Sink c.args.out.now c.run_order-status.new.out order (folder_use g.F.Folder c.args.folder.now c.run_order-status.new.folder)
    (sink_use g.W.Sink c.args.side.now c.run_order-status.new.side) c.run_order-status.result met.rests met.tells
    (laws_of c.one_listing.ensures.one c.one_listing.ensures.bound c.one_listing.ensures.refusal c.one_verdict.ensures c.one_difference.ensures
    c.plan_listings_enclose.ensures c.one_plan_listing.ensures c.one_plan_verdict.ensures c.one_verdict-2.ensures) c.some_agree-in_default.ensures
    (c.run_order-status.ensures.serves order (
      c.in-Ok.ensures.order ∙ sym (not_a_batch _ c.in_default.not-Batch),
      λ e.
          let bad : Path (Result Order WordsFault) (Ok c.in-Ok.order) (Err fault.Usage) = e in cc,
    ))

pub returns-in-Err-clause-runs : goal.returns-in-Err-clause-runs
returns-in-Err-clause-runs g c =
    let met = g.met.K.Sink g.world.𝓛 g.world.𝓜 g.world.𝓡 ((λ s x. x), (λ x. x), (λ x. x), λ x. x) in
    let order = order_of_words (map (λ w. w.now) c.args.words.now) in
    run_result g.K.Sink c.args.out.now c.run_order-status-in-Err.new.out order (folder_use g.F.Folder c.args.folder.now c.run_order-status-in-Err.new.folder)
    (sink_use g.W.Sink c.args.side.now c.run_order-status-in-Err.new.side) c.run_order-status-in-Err.result met.rests met.tells
    (laws_of c.one_listing.ensures.one c.one_listing.ensures.bound c.one_listing.ensures.refusal c.one_verdict.ensures c.one_difference.ensures
    c.plan_listings_enclose.ensures c.one_plan_listing.ensures c.one_plan_verdict.ensures c.one_verdict-2.ensures) c.some_agree-in-Err.ensures
    (c.run_order-status-in-Err.ensures.serves order (tt, c.in-Err.ensures.usage))
