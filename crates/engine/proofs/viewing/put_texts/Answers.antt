use Rattle.engine.proofs.Common.{[], ◌≡◌, ◌∙◌, sym, Some, Rose, beside_by}
use Rattle.engine.proofs.{SideViews.puts_of_side, SideViews.same_sink, SideViews.side_failed, SideViews.views_of_all, Ends.puts_more}
use Rattle.engine.proofs.viewing.put_texts.Goals as goal

pub returns-clause-side : goal.returns-clause-side
returns-clause-side g c =
    let sink = g.W.Sink in
    let k = c.args.task.now in
    let first = c.new-viewer.result in
    let now = c.put_shown.new.viewer in
    let met = g.met.K.Sink g.world.𝓛 g.world.𝓜 g.world.𝓡 ((λ s x. x), (λ x. x), (λ x. x), λ x. x) in
    let starts = ((g.met.W.Sink g.world.𝓛 g.world.𝓜 g.world.𝓡 ((λ s x. x), (λ x. x), (λ x. x), λ x. x))).rests in
    let name = sym c.new-viewer.ensures.sink.0 ∙ sym (same_sink sink c.args.views k first now c.put_shown.ensures.reaches) in
    let fits = c.new-viewer.ensures.grid in
    let all = (c.put_shown.ensures.puts c.args.out.now [] (met.rests c.args.out.now)).2.1 in (
      rw (sym c.new-viewer.ensures.sink.1, c.side-1.given.1 name) (puts_of_side sink starts k c.args.views first now fits c.new-viewer.ensures.stop c.put_shown.ensures.reaches),
      λ e. rw (sym c.new-viewer.ensures.sink.1, c.side-1.given.1 name) (views_of_all sink starts k c.args.views first now fits c.new-viewer.ensures.stop (all e)),
    )

pub returns-clause-puts : goal.returns-clause-puts
returns-clause-puts g c =
    let sink = g.W.Sink in
    let k = c.args.task.now in
    let first = c.new-viewer.result in
    let now = c.put_shown.new.viewer in
    let law = g.met.W.Sink g.world.𝓛 g.world.𝓜 g.world.𝓡 ((λ s x. x), (λ x. x), (λ x. x), λ x. x) in
    let name = sym c.new-viewer.ensures.sink.0 ∙ sym (same_sink sink c.args.views k first now c.put_shown.ensures.reaches) in
    let fits = c.new-viewer.ensures.grid in
    puts_more g.K.Sink.leads c.put_shown.ensures.puts (λ more r.
    rw (sym c.new-viewer.ensures.sink.1, c.side-1.given.1 name) (beside_by (now.stop ≡ Some _)
    (Rose (g.W.Sink.seen first.sink.now).faults (g.W.Sink.seen now.sink.now).faults) k
    (λ wrote. side_failed sink law.rests k c.args.views first now fits c.new-viewer.ensures.stop g.W.Sink.seen law.tells c.put_shown.ensures.reaches wrote)
    c.put_shown.result more r.0))
