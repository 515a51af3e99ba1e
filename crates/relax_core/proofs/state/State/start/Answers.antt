use Rattle.relax_core.proofs.Common.{◌≡◌, List, Vec, Global, refl, ◌∙◌, arith, length-map, All-map, Bound}
use Rattle.relax_core.proofs.state.State.start.Goals as goal

pub returns : goal.returns
returns c = record {
  words = refl;
  actors = length-map c.loop.seen.items (λ (v : Vec Bound Global). v.items) ∙ omega (arith, c.loop.seen.ok, c.loop.invariant.0);
  seen = All-map (λ (v : List Bound). v ≡ c.args.words.items) (λ (v : Vec Bound Global). v.items) c.loop.seen.items c.loop.invariant.1;
}
