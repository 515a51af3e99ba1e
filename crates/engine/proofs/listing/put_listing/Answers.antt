use Rattle.engine.proofs.Common.{[], Listing, cut_listing_is_beside, decks_text, sink_use, failed_write}
use Rattle.engine.proofs.{Ends.puts_more, Afters.ended_first, Afters.first_not_ok, Afters.listing_run, Afters.no_views, Afters.puts_then, Afters.run_first}
use Rattle.engine.proofs.listing.put_listing.Goals as goal

pub returns-in-Some-clause-puts : goal.returns-in-Some-clause-puts
returns-in-Some-clause-puts g c =
    let task = c.args.task.now in
    let failed : Type 0 = failed_write (sink_use g.W.Sink c.args.side.now c.args.side.now) in
    puts_more g.K.Sink.leads c.in-Some.ensures (λ more h.
    ended_first failed (decks_text task.decks task.zones) (Listing task) c.args.asked.deck c.in-Some.status more h)

pub returns-in-Some-clause-side : goal.returns-in-Some-clause-side
returns-in-Some-clause-side g c =
    let task = c.args.task.now in
    let met = (g.met.K.Sink g.world.𝓛 g.world.𝓜 g.world.𝓡 ((λ s x. x), (λ x. x), (λ x. x), λ x. x)) in
    let side = (g.met.W.Sink g.world.𝓛 g.world.𝓜 g.world.𝓡 ((λ s x. x), (λ x. x), (λ x. x), λ x. x)) in
    let put = c.in-Some.ensures c.args.out.now [] (met.rests c.args.out.now) in
    no_views task c.args.asked.watch (sink_use g.W.Sink c.args.side.now c.args.side.now) c.in-Some.status
    (λ e. first_not_ok c.args.asked.deck (decks_text task.decks task.zones) c.in-Some.status put.0 put.2 e) (side.rests c.args.side.now)

pub returns-in-None-clause-puts : goal.returns-in-None-clause-puts
returns-in-None-clause-puts g c =
    let task = c.args.task.now in
    let failed : Type 0 = failed_write (sink_use g.W.Sink c.args.side.now c.args.side.now) in
    puts_then g.K.Sink.leads c.in_default.ensures c.put_settled.ensures (λ first more h m.
    run_first failed (decks_text task.decks task.zones) (Listing task) c.args.asked.deck c.put_settled.result first more h
    (listing_run failed task c.put_settled.result more (cut_listing_is_beside failed task c.put_settled.result more m)))

pub returns-in-Some-watch-clause-puts : goal.returns-in-Some-watch-clause-puts
returns-in-Some-watch-clause-puts g c =
    let task = c.args.task.now in
    let failed : Type 0 = failed_write (sink_use g.W.Sink c.args.side.now c.put_texts.new.side) in
    puts_then g.K.Sink.leads c.in_default.ensures c.put_texts.ensures.puts (λ first more h m.
    run_first failed (decks_text task.decks task.zones) (Listing task) c.args.asked.deck c.put_texts.result first more h
    (listing_run failed task c.put_texts.result more m))
