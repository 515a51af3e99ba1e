use Rattle.gentle_zones.proofs.Common.{refl, AreFlowsOf, branches_at}
use Rattle.std.specs.Prelude.{IfOk, option_map}
use Rattle.std.proofs.lemmas.Result.{IfOk-weaker}
use Rattle.gentle_zones.proofs.{Faces.flows_have_pairs, Held.named_by}
use Rattle.gentle_zones.proofs.flows.step_flows.Goals as goal

pub flows_of-requires-clause-named : goal.flows_of-requires-clause-named
flows_of-requires-clause-named c =
    named_by c.args.model.now c.args.layers.now c.args.tables.now.digits c.args.at c.args.listed.now c.in_ok-problem.problem c.requires.model c.requires.ordered
    c.in_ok-problem.ensures.problem

pub returns-clause-pairs : goal.returns-clause-pairs
returns-clause-pairs c =
    let m = c.args.model.now in
    let s = c.args.tables.now.digits in
    let listed = c.args.listed.now in
    let p = c.in_ok-problem.problem in
    let zones = option_map (λ z. z.now) c.args.zones in
    let flows : IfOk c.flows_of.result (λ v. AreFlowsOf p listed zones v.items) = rw c.in-Some.is c.flows_of.ensures.flows in
    IfOk-weaker c.flows_of.result _ _
    (λ v are. flows_have_pairs m s c.args.at listed (branches_at m c.args.layers.now listed s) p c.requires.model refl c.in_ok-problem.ensures.problem zones v.items are) flows
