-- A single well's drawdown in a steady step, and what an aquifer conducts (TM 6-A16, chapter 2: the finite-difference equations without storage).
use Rattle.std.specs.Prelude.{◌≡◌, ℕ, ◌<◌, pos, List, [], All, length, cond, nat_eq}
use Rattle.std.specs.List.{AllZip}
use Rattle.decimal_input.specs.{Fraction, as_fraction, fraction_total, whole, Fractions.AtMost, Fractions.Same, Fractions.plus}
use Rattle.cell_balance.specs.{AreLinked, ExactCell, ExactLink, cell_at, minus}
use Rattle.plan_difference.specs.{AreStepsInOneWeather}

-- a cell whose constant flows sum to q, and which has nothing else but links and branches to known heads of 0
pub record IsCellOfFlow (q : Fraction) (x : ExactCell) : Type 0 where
  pub flow : Same (fraction_total (λ f. f.flow) x.flows) q
  pub known : All (λ f. f.head.num ≡ pos 0) x.fixed
  pub no_ramps : (x.rivers ≡ []) × (x.drains ≡ []) × (x.evaps ≡ [])

-- the flow q at the cell of index w, nothing at the others
abbrev pub at_well : ℕ → Fraction → ℕ → Fraction
at_well w q c = cond (nat_eq w c) q (whole (pos 0))

-- The step of a single well of flow q at cell w: its heads are what the well changes. The step of a difference deck is such a one.
pub record IsOfOneWell (w : ℕ) (q : Fraction) (e : List ExactCell) : Type 0 where
  pub inside : w < length e
  pub linked : AreLinked e
  pub cells : (c : ℕ) → c < length e → IsCellOfFlow (at_well w q c) (cell_at e c)

-- The steps e and f of two plans in one weather. All is the same, known heads too, but the constant flow at cell w, of which the base plan has q more.
pub record DifferByAWell (w : ℕ) (q : Fraction) (e f : List ExactCell) : Type 0 where
  pub inside : w < length e
  pub linked : AreLinked e
  pub weather : AreStepsInOneWeather e f
  pub steady : (c : ℕ) → c < length e → (cell_at f c).fixed ≡ (cell_at e c).fixed
  pub apart : (c : ℕ) → c < length e →
      Same (minus (fraction_total (λ x. x.flow) (cell_at e c).flows) (fraction_total (λ x. x.flow) (cell_at f c).flows)) (at_well w q c)

-- what a cell's branches to known heads conduct together
abbrev pub known_conductance : ExactCell → Fraction
known_conductance x = fraction_total (λ b. as_fraction b.conductance) x.fixed

-- and with its rivers, drains and evapotranspirations
abbrev pub whole_conductance : ExactCell → Fraction
whole_conductance x =
    plus (known_conductance x)
    (plus (fraction_total (λ b. as_fraction b.conductance) x.rivers)
    (plus (fraction_total (λ b. as_fraction b.conductance) x.drains) (fraction_total (λ b. as_fraction b.conductance) x.evaps)))

-- Link p leads where r does, and conducts at most as much.
abbrev pub LinkConductsAtMost : ExactLink → ExactLink → Type 0
LinkConductsAtMost p r = (r.cell ≡ p.cell) × AtMost (as_fraction p.conductance) (as_fraction r.conductance)

-- Nothing in e conducts more than in f: the links do not, and all else at a cell of e does at most what the branches to known heads do in f.
pub record ConductsAtMost (e f : List ExactCell) : Type 0 where
  pub as_many : length f ≡ length e
  pub links : (c : ℕ) → c < length e → AllZip LinkConductsAtMost (cell_at e c).links (cell_at f c).links
  pub known : (c : ℕ) → c < length e → AtMost (whole_conductance (cell_at e c)) (known_conductance (cell_at f c))
