use Rattle.zone_flows.proofs.Common.{ℕ, List, sym, ap, ◌∙◌, subst, All, All-tail, IsZoneSum, flow_or_refusal, Result, ZoneFlow, NoBound, ZoneSum, values_of}
use Rattle.zone_flows.proofs.ListedFlows.{with_front, goes_on, ends, is_done}
use Rattle.zone_flows.proofs.table.flows_in_order.Goals as goal

abbrev flow : ℕ × ZoneSum → Result ZoneFlow NoBound
flow e = flow_or_refusal e.0 e.1

pub loop-key-preserved : goal.loop-key-preserved
loop-key-preserved c =
    let h = c.in-Some.ensures.steps in
    record {
      so_far = rw c.in_ok-push-in-Ok.ensures.items (goes_on flow c.loop-key.flows.items (c.in-Some.key.now, c.in-Some.sum.now) c.next.new.self _ _
          (sym c.in-Ok.ensures) (sym (ap (with_front flow c.loop-key.flows.items) h) ∙ c.loop-key.invariant.so_far));
      sums = All-tail IsZoneSum c.in-Some.sum.now (values_of c.next.new.self) (subst (λ (t : List (ℕ × ZoneSum)). All IsZoneSum (values_of t)) h c.loop-key.invariant.sums);
    }

pub returns-in-Err-clause-flows : goal.returns-in-Err-clause-flows
returns-in-Err-clause-flows c =
    ends flow c.loop-key.flows.items (c.in-Some.key.now, c.in-Some.sum.now) c.next.new.self _ _ (sym c.in-Err.ensures)
    (sym (ap (with_front flow c.loop-key.flows.items) c.in-Some.ensures.steps) ∙ c.loop-key.invariant.so_far)

pub returns-clause-flows : goal.returns-clause-flows
returns-clause-flows c = is_done flow c.loop-key.flows.items _ (sym (ap (with_front flow c.loop-key.flows.items) c.in-None.ensures.steps.0) ∙ c.loop-key.invariant.so_far)
