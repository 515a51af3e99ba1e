-- The hull of two problems encloses each exact step between those that they enclose.
use Rattle.deck_span.proofs.Common.{◌+◌, ◌≡◌, ℕ, zero, suc, [], ◌∷◌, refl, sym, subst, ap, ◌∙◌, List, length, AllZip, ExactFlow, ExactLink, ExactFixed, ExactRiver, ExactDrain, ExactEvap, ExactCell}
use Rattle.deck_span.proofs.Common.{cell_at, HasEqualEnds, HasLinkBack, FlowEncloses, LinkEncloses, FixedEncloses, RiverEncloses, DrainEncloses, EvapEncloses, CellEncloses, EnclosesStep, AllThree}
use Rattle.deck_span.proofs.Common.{none, next, IsFlowBetween, IsFixedBetween, IsRiverBetween, IsDrainBetween, IsEvapBetween, IsCellBetween, IsStepBetween, flow_hull, fixed_hull, river_hull}
use Rattle.deck_span.proofs.Common.{drain_hull, evap_hull, cell_hull, zip_with, IsHull}
use Rattle.step_problem.specs.{declared.entry.Flow.Flow, declared.entry.Fixed.Fixed, declared.entry.River.River, declared.entry.Drain.Drain, declared.entry.Evap.Evap, Entries.Entries}
use Rattle.deck_span.proofs.HullBounds.{numbers_enclose, sizes_enclose}

-- hulls enclose what lies between, if the hull of two items does
entries_enclose : {P A : Type 0} (hull : P → P → P) (C : A → A → A → Type 0) (E : P → A → Type 0) → ((p q : P) (a m b : A) → C a m b → E p a → E q b → E (hull p q) m) →
    (ps qs : List P) (as_ ms bs : List A) → AllThree C as_ ms bs → AllZip E ps as_ → AllZip E qs bs → AllZip E (zip_with hull ps qs) ms
entries_enclose hull C E each [] qs as_ ms bs none e f = tt
entries_enclose hull C E each (p ∷ ps) qs as_ ms bs none e f = absurd e
entries_enclose hull C E each [] qs as_ ms bs (next c cs) e f = absurd e
entries_enclose hull C E each (p ∷ ps) [] as_ ms bs (next c cs) e f = absurd f
entries_enclose hull C E each (p ∷ ps) (q ∷ qs) as_ ms bs (next {x = a} {y = m} {z = b} c cs) e f = (each p q a m b c e.0 f.0, entries_enclose hull C E each ps qs _ _ _ cs e.1 f.1)

module _ (s : ℕ) where
  flow : (p q : Flow) (a m b : ExactFlow) → IsFlowBetween a m b → FlowEncloses s p a → FlowEncloses s q b → FlowEncloses s (flow_hull p q) m
  flow p q a m b c e f = record { kind = e.kind ∙ sym c.kind; flow = numbers_enclose (s + 9) a.flow m.flow b.flow e.flow f.flow c.flow }

  fixed : (p q : Fixed) (a m b : ExactFixed) → IsFixedBetween a m b → FixedEncloses s p a → FixedEncloses s q b → FixedEncloses s (fixed_hull p q) m
  fixed p q a m b c e f = record {
    kind = e.kind ∙ sym c.kind;
    source = e.source ∙ sym c.source;
    conductance = sizes_enclose s a.conductance m.conductance b.conductance e.conductance f.conductance c.conductance;
    head = numbers_enclose 9 a.head m.head b.head e.head f.head c.head;
  }

  river : (p q : River) (a m b : ExactRiver) → IsRiverBetween a m b → RiverEncloses s p a → RiverEncloses s q b → RiverEncloses s (river_hull p q) m
  river p q a m b c e f = record {
    conductance = sizes_enclose s a.conductance m.conductance b.conductance e.conductance f.conductance c.conductance;
    stage = numbers_enclose 9 a.stage m.stage b.stage e.stage f.stage c.stage;
    bottom = numbers_enclose 9 a.bottom m.bottom b.bottom e.bottom f.bottom c.bottom;
  }

  drain : (p q : Drain) (a m b : ExactDrain) → IsDrainBetween a m b → DrainEncloses s p a → DrainEncloses s q b → DrainEncloses s (drain_hull p q) m
  drain p q a m b c e f = record {
    conductance = sizes_enclose s a.conductance m.conductance b.conductance e.conductance f.conductance c.conductance;
    elevation = numbers_enclose 9 a.elevation m.elevation b.elevation e.elevation f.elevation c.elevation;
  }

  evap : (p q : Evap) (a m b : ExactEvap) → IsEvapBetween a m b → EvapEncloses s p a → EvapEncloses s q b → EvapEncloses s (evap_hull p q) m
  evap p q a m b c e f = record {
    conductance = sizes_enclose s a.conductance m.conductance b.conductance e.conductance f.conductance c.conductance;
    surface = numbers_enclose 9 a.surface m.surface b.surface e.surface f.surface c.surface;
    extinction = numbers_enclose 9 a.extinction m.extinction b.extinction e.extinction f.extinction c.extinction;
  }

  cell : (p q : Entries) (a m b : ExactCell) → IsCellBetween a m b → CellEncloses s p a → CellEncloses s q b → CellEncloses s (cell_hull p q) m
  cell p q a m b c e f = record {
    id = e.id ∙ sym c.id;
    flows = entries_enclose flow_hull IsFlowBetween (FlowEncloses s) flow p.flows q.flows _ _ _ c.flows e.flows f.flows;
    links = subst (λ (x : List ExactLink). AllZip (LinkEncloses s) p.links x) (sym c.links) e.links;
    fixed = entries_enclose fixed_hull IsFixedBetween (FixedEncloses s) fixed p.fixed q.fixed _ _ _ c.fixed e.fixed f.fixed;
    rivers = entries_enclose river_hull IsRiverBetween (RiverEncloses s) river p.rivers q.rivers _ _ _ c.rivers e.rivers f.rivers;
    drains = entries_enclose drain_hull IsDrainBetween (DrainEncloses s) drain p.drains q.drains _ _ _ c.drains e.drains f.drains;
    evaps = entries_enclose evap_hull IsEvapBetween (EvapEncloses s) evap p.evaps q.evaps _ _ _ c.evaps e.evaps f.evaps;
  }

-- the links at each place are those of the first step
links_at : (a m b : List ExactCell) (c : ℕ) → IsStepBetween a m b → (cell_at m c).links ≡ (cell_at a c).links
links_at a m b c none = refl
links_at a m b zero (next h hs) = h.links
links_at a m b (suc c) (next h hs) = links_at _ _ _ c hs

lengths : (a m b : List ExactCell) → IsStepBetween a m b → length m ≡ length a
lengths a m b none = refl
lengths a m b (next h hs) = ap suc (lengths _ _ _ hs)

-- a link back depends on the links of the cell at its other end alone
back : (a m b : List ExactCell) (c : ℕ) (x : ExactLink) → IsStepBetween a m b → HasLinkBack a c x → HasLinkBack m c x
back a m b c x h k = record {
  back = k.back;
  is_there = rw (links_at a m b x.cell h) k.is_there;
  leads_back = k.leads_back;
  same = k.same;
}

equal_ends : (a m b : List ExactCell) → IsStepBetween a m b → HasEqualEnds a → HasEqualEnds m
equal_ends a m b h k c w =
    rw (links_at a m b c h) (λ i d v. back a m b c _ h (k c (rw (← lengths a m b h) w) i d v))

pub hull_encloses : (s : ℕ) (p q r : List Entries) (a m b : List ExactCell) → IsHull p q r → EnclosesStep s p a → EnclosesStep s q b → IsStepBetween a m b → EnclosesStep s r m
hull_encloses s p q r a m b h e f c = record {
  cells = subst (λ (l : List Entries). AllZip (CellEncloses s) l m) (sym h.is) (entries_enclose cell_hull IsCellBetween (CellEncloses s) (cell s) p q a m b c e.cells f.cells);
  ends = equal_ends a m b c e.ends;
}
