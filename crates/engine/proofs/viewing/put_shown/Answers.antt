use Rattle.engine.proofs.Common.{◌≡◌, ◌∙◌, ℕ, refl, subst, sym, Shows}
use Rattle.engine.proofs.SideViews.{told_of}
use Rattle.engine.proofs.viewing.put_shown.Goals as goal

pub returns : goal.returns
returns g c =
    let first = c.new-settler.result in
    let now = c.put_steps.new.settler in
    let keeps : (first.views ≡ c.args.views) × (first.viewer.ghost_name ≡ first.viewer.ghost_name) = (c.new-settler.ensures.numbers.1, refl) in
    let told = told_of _ _ _ g.V.StepViewer.begins (Shows g.V.Viewer.viewed g.V.Viewer.stopped c.args.views) g.V.StepViewer.stop (λ s. s.viewer.now) (λ s.
    (s.views ≡ c.args.views) × (s.viewer.ghost_name ≡ first.viewer.ghost_name))
    (λ s t period step k b. ((b.0 ∙ k.0, b.1 ∙ k.1), b.2))
    (λ s t p b ended k l. ((l.0 ∙ k.0, l.1 ∙ k.1), (let P : ℕ → Type 0 = λ n. Shows g.V.Viewer.viewed g.V.Viewer.stopped n s.viewer.now p b ended t.viewer.now in subst P k.0 l.2)))
    (λ s. refl) c.args.task.now first now keeps c.put_steps.ensures.reaches in
    let name = sym c.new-settler.ensures.viewer.0 ∙ sym told.0.1 in
    record {
      puts = λ start puts h.
          let r = c.put_steps.ensures.puts start puts h in
          (r.0, r.1, (rw (c.viewer-1.given.1 name) r.2.0, λ e. rw (sym c.new-settler.ensures.viewer.1, c.viewer-1.given.1 name) (told.2 (r.2.1 e))));
      reaches = rw (sym c.new-settler.ensures.viewer.1, c.viewer-1.given.1 name) told.1;
    }

pub put_steps-requires-clause-pairs : goal.put_steps-requires-clause-pairs
put_steps-requires-clause-pairs g c = λ κs h. rw c.requires.plain refl
