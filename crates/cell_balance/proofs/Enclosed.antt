-- Bounds that enclose an exact step enclose its whole numbers: conductances over m * 10^s, heads over n * 10^9; and such a step is linked.
use Rattle.cell_balance.proofs.Common.{◌≡◌, ℕ, ◌+◌, ◌*◌, ◌^◌, ◌<◌, ◌≤◌, ap, ◌∙◌, subst, arith, ℤ, pos, ◌*ℤ◌, List, All, AllZip, mul-le-mul_right, le_of_mul-le-mul_right, Ratio, Fraction, den, IsOver}
use Rattle.cell_balance.proofs.Common.{Encloses, EnclosesSigned, IsShare, IsBetweenWhole, IsBetweenSigned, cancel_right, mul_mono_right, last_factors_swap, Flow, Link, Entries, mul_assoc, ExactFlow}
use Rattle.cell_balance.proofs.Common.{ExactLink, ExactCell, FlowEncloses, LinkEncloses, FixedEncloses, RiverEncloses, DrainEncloses, EvapEncloses, CellEncloses, sym, length, All-get_or}
use Rattle.cell_balance.proofs.Common.{All-from_get_or, entries_at, no_entries, IsProblem, LinkFits, cell_at, no_cell, AreLinked, no_link, EnclosesStep, mul_comm}
use Rattle.std.proofs.lemmas.Nat.{pow-add}
use Rattle.cell_balance.proofs.Zips.{AllZip-compose, AllZip-at, AllZip-length, All-zip, WholeLink, WholeEntry, WholeCell, FlowWithin, LinkWithin, EntryWithin, FixedWithin, RiverWithin, DrainWithin}
use Rattle.cell_balance.proofs.Zips.{EvapWithin, CellWithin}
use Rattle.cell_balance.proofs.Over.{FlowOver, LinkOver, EntryOver, FixedOver, RiverOver, DrainOver, EvapOver, CellOver}
use Rattle.step_problem.specs.{no_link as no_bounds}

cross_low : (lo x a c m t : ℕ) → 0 < x → lo * x ≤ a * t → a * (m * t) ≡ c * x → lo * m ≤ c
cross_low lo x a c m t h q e = le_of_mul-le-mul_right {k = x} (omega (arith, mul-le-mul_right m q, e)) h

cross_high : (hi x a c m t : ℕ) → 0 < x → a * t ≤ hi * x → a * (m * t) ≡ c * x → c ≤ hi * m
cross_high hi x a c m t h q e = le_of_mul-le-mul_right {k = x} (omega (arith, mul-le-mul_right m q, e)) h

-- a conductance
pub between_share : (lo hi s m c : ℕ) (r : Ratio) → Encloses lo hi s r → IsShare (m * 10 ^ s) r c → IsBetweenWhole lo hi m c
between_share lo hi s m c r h e = grind (arith, cross_low, cross_high)

-- a head or a flow
pub between_over : (lo hi : ℤ) (s n : ℕ) (f : Fraction) (z : ℤ) → EnclosesSigned lo hi s f → IsOver (n * 10 ^ s) f z → IsBetweenSigned lo hi n z
between_over lo hi s n f z h e =
    let both : (f.num *ℤ pos (10 ^ s)) *ℤ pos n ≡ z *ℤ pos (den f) = mul_assoc f.num (pos (10 ^ s)) (pos n) ∙ ap (λ (k : ℕ). f.num *ℤ pos k) (mul_comm (10 ^ s) n) ∙ e.is in
    record {
      lower = cancel_right (den f) _ _ (omega arith) (rw (last_factors_swap lo (pos n) (pos (den f)), ← both) (mul_mono_right n _ _ h.lower));
      upper = cancel_right (den f) _ _ (omega arith) (rw (last_factors_swap hi (pos n) (pos (den f)), ← both) (mul_mono_right n _ _ h.upper));
    }

-- what a problem's type keeps of a cell's links
abbrev pub LinksGood : ℕ → Entries → Type 0
LinksGood cells p = All (λ x. (x.cell < cells) × (0 < x.lo)) p.links

module _ (s m n : ℕ) where
  pub flow_denominator : m * 10 ^ s * (n * 10 ^ 9) ≡ m * n * 10 ^ (s + 9)
  flow_denominator = rw (pow-add 10 s 9) (omega arith)

  flow_within : (p : Flow) (e : ExactFlow) (q : ℤ) → FlowEncloses s p e → FlowOver (m * 10 ^ s) (n * 10 ^ 9) e q → FlowWithin m n p q
  flow_within p e q r o = record { flow = between_over p.lo p.hi (s + 9) (m * n) e.flow q r.flow (subst (λ (k : ℕ). IsOver k e.flow q) flow_denominator o.flow) }

  pub link_within : (cells : ℕ) (p : Link) (e : ExactLink) (w : WholeLink) → LinkEncloses s p e → LinkOver (m * 10 ^ s) (n * 10 ^ 9) e w → (p.cell < cells) × (0 < p.lo) → LinkWithin m n cells p w
  link_within cells p e w r o good = record { same = r.cell ∙ o.same; range = good.0; conducts = good.1; c = between_share p.lo p.hi s m w.c e.conductance r.conductance o.c }

  pub entry_within : (lo hi : ℕ) (a b p q : ℤ) (r : Ratio) (top foot : Fraction) (w : WholeEntry) → Encloses lo hi s r → EnclosesSigned a b 9 top →
      EnclosesSigned p q 9 foot → EntryOver (m * 10 ^ s) (n * 10 ^ 9) r top foot w → EntryWithin m n lo hi a b p q w
  entry_within lo hi a b p q r top foot w conductance high low o = record {
    c = between_share lo hi s m w.c r conductance o.c;
    top = between_over a b 9 n top w.top high o.top;
    foot = between_over p q 9 n foot w.foot low o.foot;
  }

  module _ (cells : ℕ) where
    cell_within : (p : Entries) (e : ExactCell) (w : WholeCell) → CellEncloses s p e → CellOver (m * 10 ^ s) (n * 10 ^ 9) e w → LinksGood cells p → CellWithin m n cells p w
    cell_within p e w h o good = record {
      flows = AllZip-compose (FlowEncloses s) (FlowOver (m * 10 ^ s) (n * 10 ^ 9)) (FlowWithin m n) (λ x. Unit {0}) (λ x y z r q u.
          flow_within x y z r q) p.flows e.flows w.flows h.flows o.flows (λ k d i. tt);
      links = AllZip-compose (LinkEncloses s) (LinkOver (m * 10 ^ s) (n * 10 ^ 9)) (LinkWithin m n cells) (λ x. (x.cell < cells) × (0 < x.lo))
          (link_within cells) p.links e.links w.links h.links o.links good;
      fixed = AllZip-compose (FixedEncloses s) (FixedOver (m * 10 ^ s) (n * 10 ^ 9)) (FixedWithin m n) (λ x. Unit {0}) (λ x y z r o u.
          entry_within x.lo x.hi _ _ _ _ y.conductance y.head y.head z r.conductance r.head r.head o) p.fixed e.fixed w.fixed h.fixed o.fixed (λ k d i. tt);
      rivers = AllZip-compose (RiverEncloses s) (RiverOver (m * 10 ^ s) (n * 10 ^ 9)) (RiverWithin m n) (λ x. Unit {0}) (λ x y z r o u.
          entry_within x.lo x.hi _ _ _ _ y.conductance y.stage y.bottom z r.conductance r.stage r.bottom o) p.rivers e.rivers w.rivers h.rivers o.rivers
          (λ k d i. tt);
      drains = AllZip-compose (DrainEncloses s) (DrainOver (m * 10 ^ s) (n * 10 ^ 9)) (DrainWithin m n) (λ x. Unit {0}) (λ x y z r o u.
          entry_within x.lo x.hi _ _ _ _ y.conductance y.elevation y.elevation z r.conductance r.elevation r.elevation o) p.drains e.drains w.drains h.drains
          o.drains (λ k d i. tt);
      evaps = AllZip-compose (EvapEncloses s) (EvapOver (m * 10 ^ s) (n * 10 ^ 9)) (EvapWithin m n) (λ x. Unit {0}) (λ x y z r o u.
          entry_within x.lo x.hi _ _ _ _ y.conductance y.surface y.extinction z r.conductance r.surface r.extinction o) p.evaps e.evaps w.evaps h.evaps o.evaps
          (λ k d i. tt);
    }

    pub step_within : (p : List Entries) (e : List ExactCell) (w : List WholeCell) → AllZip (CellEncloses s) p e →
        AllZip (CellOver (m * 10 ^ s) (n * 10 ^ 9)) e w → All (LinksGood cells) p → AllZip (CellWithin m n cells) p w
    step_within p e w h o good = AllZip-compose (CellEncloses s) (CellOver (m * 10 ^ s) (n * 10 ^ 9)) (CellWithin m n cells) (LinksGood cells) cell_within p e w h o good

module _ (s : ℕ) (p : List Entries) (e : List ExactCell) (fits : IsProblem p) (encloses : EnclosesStep s p e) where
  same_length : length p ≡ length e
  same_length = AllZip-length (CellEncloses s) p e encloses.cells

  cell_encloses : (c : ℕ) → c < length p → CellEncloses s (entries_at p c) (cell_at e c)
  cell_encloses c i = AllZip-at (CellEncloses s) p e c no_entries no_cell encloses.cells i

  pub entries_are_linked : AreLinked e
  entries_are_linked = record {
    range = λ c i. All-zip (LinkEncloses s) (λ x. x.cell < length p) (λ x. x.cell < length e) (λ x y r h. omega (arith, r.cell, h, same_length))
        (entries_at p c).links (cell_at e c).links (cell_encloses c (omega (arith, same_length))).links (fits.links c (omega (arith, same_length))).within;
    apart = λ c i j h less inside same.
        let here : c < length p = omega (arith, same_length, h) in
        let links = (cell_encloses c here).links in
        let short = AllZip-length (LinkEncloses s) (entries_at p c).links (cell_at e c).links links in
        let one = AllZip-at (LinkEncloses s) (entries_at p c).links (cell_at e c).links i no_bounds no_link links (omega (arith, short, inside, less)) in
        let two = AllZip-at (LinkEncloses s) (entries_at p c).links (cell_at e c).links j no_bounds no_link links (omega (arith, short, inside)) in
        (fits.links c here).apart i j less (omega (arith, short, inside)) (one.cell ∙ same ∙ sym two.cell);
    ends = encloses.ends;
  }

-- the links of a problem lead to its cells, and certainly conduct
pub links_good : (p : List Entries) → IsProblem p → All (LinksGood (length p)) p
links_good p fits =
    All-from_get_or (LinksGood (length p)) p no_entries
    (λ c i. λ k d j. (All-get_or (λ x. x.cell < length p) (entries_at p c).links k d j (fits.links c i).within, (All-get_or LinkFits (entries_at p c).links k d j (fits.cells c i).links).conducts))
