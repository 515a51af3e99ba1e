use Rattle.problem_builder.proofs.Common.{ℕ, ◌-◌, ap, sym, ◌∙◌, arith, is_active, is_highest}
use Rattle.problem_builder.proofs.Covered.{first_layer, under_active, under_inactive}
use Rattle.problem_builder.proofs.chosen.is_highest.Goals as goal

pub loop-above-smaller : goal.loop-above-smaller
loop-above-smaller c = omega (arith, c.layer_size-layer.ensures.some, c.loop-above-test.true)

pub returns-then-is_active : goal.returns-then-is_active
returns-then-is_active c =
    let m = c.args.model.now in
    let e = c.layer_size-layer.ensures.size in
    sym (under_active m c.loop-above.above c.requires (omega (arith, c.loop-above-test.true, e))
    (ap (λ (k : ℕ). is_active m (c.loop-above.above - k)) (sym e) ∙ sym c.is_active.ensures ∙ c.if-is_active.true)) ∙ c.loop-above.invariant

pub loop-above-preserved : goal.loop-above-preserved
loop-above-preserved c =
    let m = c.args.model.now in
    let e = c.layer_size-layer.ensures.size in
    ap (λ (k : ℕ). is_highest m (c.loop-above.above - k)) e ∙ sym (under_inactive m c.loop-above.above c.requires (omega (arith, c.loop-above-test.true, e))
    (ap (λ (k : ℕ). is_active m (c.loop-above.above - k)) (sym e) ∙ sym c.is_active.ensures ∙ c.if-is_active.false)) ∙ c.loop-above.invariant

pub returns : goal.returns
returns c = sym (first_layer c.args.model.now c.loop-above.above c.requires (omega (arith, c.loop-above-test.false, c.layer_size-layer.ensures.size))) ∙ c.loop-above.invariant
