use Rattle.water_storage.proofs.Common.{FitsSigned, rules, arith, ints, ap, subst, sym, ℤ, ◌^◌, ◌≡◌, ◌+ℤ◌, ◌∙◌, to_z-of_z, w128, Bound, fall_on, greater_bound, lesser_bound, top_bound, branch_flow}
use Rattle.water_storage.proofs.Common.{IsMagnitudeAtMost, IsTop}
use Rattle.water_storage.proofs.Smalls.{crossing_small}
use Rattle.water_storage.proofs.stored.crossing_flow.Goals as goal

pub returns-clause-value : goal.returns-clause-value
returns-clause-value c =
    let p : FitsSigned w128 c.branch_flow-drained.result = search rules in
    let q : FitsSigned w128 c.branch_flow.result = search rules in
    let r = c.branch_flow-drained.ensures.within in
    let s = c.branch_flow.ensures.within in
    let sum : FitsSigned w128 (c.branch_flow-drained.result +ℤ c.branch_flow.result) = omega (arith, ints, r.above, r.below, s.above, s.below) in
    let side = c.args.side in
    let y = c.args.pairs.drained in
    let x = c.args.pairs.compressed in
    let T : Bound = record { low = c.top_of-top.result.low; high = c.top_of-top.result.high } in
    let top : T ≡ top_bound c.args.model.now c.args.cell = c.top_of-top.ensures.is in
    let below : c.lesser_fall-below.result ≡ fall_on side (lesser_bound c.args.old T) (lesser_bound c.args.new T) = search rules in
    let above : c.greater_fall-above.result ≡ fall_on side (greater_bound c.args.old T) (greater_bound c.args.new T) = search rules in
    let drained : c.branch_flow-drained.result ≡ branch_flow side y.lo y.hi c.lesser_fall-below.result = search rules in
    let compressed : c.branch_flow.result ≡ branch_flow side x.lo x.hi c.greater_fall-above.result = search rules in
    let lower = drained ∙ ap (branch_flow side y.lo y.hi) (below ∙ ap (λ (t : Bound). fall_on side (lesser_bound c.args.old t) (lesser_bound c.args.new t)) top) in
    let upper = compressed ∙ ap (branch_flow side x.lo x.hi) (above ∙ ap (λ (t : Bound). fall_on side (greater_bound c.args.old t) (greater_bound c.args.new t)) top) in
    simp to_z-of_z (λ i. lower i +ℤ upper i)

pub returns-clause-small : goal.returns-clause-small
returns-clause-small c =
    let M : ℤ → Type 0 = λ z. IsMagnitudeAtMost z (2 ^ 123) in
    let top = subst IsTop c.top_of-top.ensures.is c.top_of-top.ensures.top in
    subst M (sym (returns-clause-value c)) (crossing_small c.args.pairs.drained c.args.pairs.compressed c.args.old c.args.new (top_bound c.args.model.now c.args.cell)
    c.requires.drained c.requires.compressed c.requires.old c.requires.new top c.args.side)
