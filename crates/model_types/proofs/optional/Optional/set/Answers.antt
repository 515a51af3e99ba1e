use Rattle.model_types.proofs.Common.{None, set, replicate, sym, ap, ◌∙◌, length-replicate, set-append_right}
use Rattle.model_types.proofs.optional.Optional.set.Goals as goal

pub returns-then-place-self : goal.returns-then-place-self
returns-then-place-self g c =
    let n = c.self.inside.nones in
    sym (set-append_right (replicate n None) c.self.inside.rest.items n c.args.place c.args.item (length-replicate n None) c.if-place-self.true) ∙ ap (λ xs.
    set xs c.args.place c.args.item) c.self.view_is
