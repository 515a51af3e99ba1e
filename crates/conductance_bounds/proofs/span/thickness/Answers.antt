use Rattle.conductance_bounds.proofs.Common.{◌≡◌, ◌∙◌, rules, arith, gap, subst, sym, ◌-ℤ◌, unsigned_abs, IsBetween, Span, number}
use Rattle.conductance_bounds.proofs.ThickBounds.{thick_between, are_thick, edges_room, span_is, top_small, bottom_small, upper_end, lower_end}
use Rattle.conductance_bounds.proofs.span.thickness.Goals as goal

pub edges-top-requires-clause-low : goal.edges-top-requires-clause-low
edges-top-requires-clause-low c = λ z h large. absurd (omega (arith, large, top_small c.args.top c.args.bottom c.requires.thick z h))

pub edges-top-requires-clause-high : goal.edges-top-requires-clause-high
edges-top-requires-clause-high c = λ z h. let k = c.requires.thick in upper_end (number c.args.top) k.floor z k.is_floor h k.small.0

pub edges-bottom-requires-clause-low : goal.edges-bottom-requires-clause-low
edges-bottom-requires-clause-low c = λ z h. let k = c.requires.thick in lower_end (number c.args.bottom) z k.ceiling h k.is_ceiling k.small.1

pub edges-bottom-requires-clause-high : goal.edges-bottom-requires-clause-high
edges-bottom-requires-clause-high c = λ z h large. absurd (omega (arith, large, bottom_small c.args.top c.args.bottom c.requires.thick z h))

pub returns-clause-rounded : goal.returns-clause-rounded
returns-clause-rounded c =
    let low : c.abs_diff.result ≡ unsigned_abs (c.edges-top.result.lo -ℤ c.edges-bottom.result.hi) = search rules in
    let high : c.abs_diff-2.result ≡ unsigned_abs (c.edges-top.result.hi -ℤ c.edges-bottom.result.lo) = search rules in
    span_is c.args.top c.args.bottom _ c.abs_diff.result c.abs_diff-2.result (low ∙ (λ i. unsigned_abs (c.edges-top.ensures.floor i -ℤ c.edges-bottom.ensures.ceiling i)))
    (high ∙ (λ i. unsigned_abs (c.edges-top.ensures.ceiling i -ℤ c.edges-bottom.ensures.floor i))) c.of_units_dn.ensures.nearest c.of_units_up.ensures.nearest

pub returns-clause-usable : goal.returns-clause-usable
returns-clause-usable c =
    let room = edges_room c.args.top c.args.bottom c.requires.thick in
    let low : c.abs_diff.result ≡ unsigned_abs (c.edges-top.result.lo -ℤ c.edges-bottom.result.hi) = search rules in
    let high : c.abs_diff-2.result ≡ unsigned_abs (c.edges-top.result.hi -ℤ c.edges-bottom.result.lo) = search rules in
    let less = low ∙ (λ i. unsigned_abs (c.edges-top.ensures.floor i -ℤ c.edges-bottom.ensures.ceiling i)) in
    let more = high ∙ (λ i. unsigned_abs (c.edges-top.ensures.ceiling i -ℤ c.edges-bottom.ensures.floor i)) in
    are_thick (record { lo = c.of_units_dn.result; hi = c.of_units_up.result }) c.abs_diff.result c.abs_diff-2.result
    (omega (arith, less, more, room.order)) c.of_units_dn.ensures.nearest c.of_units_up.ensures.nearest
    (c.of_units_dn.ensures.size (omega (arith, less, room.some))) (c.of_units_up.ensures.size (omega (arith, less, more, room.some, room.order)))

pub returns-clause-encloses : goal.returns-clause-encloses
returns-clause-encloses c = subst (λ (t : Span). IsBetween t.lo t.hi (gap (number c.args.top) (number c.args.bottom))) (sym (returns-clause-rounded c))
    (thick_between c.args.top c.args.bottom c.requires.thick)
