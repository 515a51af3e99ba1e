-- The pair of a vertical branch contains the manual's conductance, with a bed or without.
use Rattle.conductance_bounds.proofs.Common.{◌≡◌, ℕ, zero, ◌*◌, ◌≤◌, ◌<◌, ◌^◌, inl, inr, Bool, true, false, arith, refl, subst, sym, ◌+◌, ◌==◌, false≢true, cases_lt, Dec, size, Ratio, over, IsFloor}
use Rattle.conductance_bounds.proofs.Common.{IsCeiling, Reaches, Passes, den, plus, times, AtMost, num_scaled, Sd, value, two, IsPositive, Span, AreBounds, Term, exact, PairEncloses, IsBetween}
use Rattle.conductance_bounds.proofs.Common.{Number, Within, Sum, Quotient, area_formula, vertical_k_term, vertical_k, vertical_term, resistance_sum, vertical_of, vertical_exact, IsVertHalf, IsBed}
use Rattle.conductance_bounds.proofs.Common.{evap_formula, evap_exact, over-positive, mul-le-mul_right, Same, Same-trans, Same-sym, Same-self, plus-Same, over-Same, plus-positive}
use Rattle.std.proofs.lemmas.Bool.Decides.{nat_tests}
use Rattle.conductance_bounds.specs.{declared.vertical.VertHalf.VertHalf, declared.vertical.Bed.Bed}
use Rattle.conductance_bounds.proofs.Sides.{IsFactor, exact_positive, number_is_factor, quotient_is_factor, size_positive, sum_is_factor, within_is_factor}
use Rattle.conductance_bounds.proofs.Manual.{half_of, plus_none, zero_times, Gives, term_pair_encloses, below_units, pair_encloses}
use Rattle.decimal_input.proofs.Cross.{le_cancel}

-- the vertical conductivity as it is rounded, and exactly
k_is : (b : Bool) (h v : Ratio) → exact (vertical_k_term b h v) ≡ vertical_k b h v
k_is true h v = refl
k_is false h v = refl

k_factor : (b : Bool) (h v : Ratio) → 0 < h.num → 0 < v.num → IsFactor (vertical_k_term b h v)
k_factor true h v p q = quotient_is_factor (number_is_factor h p) (number_is_factor v q)
k_factor false h v p q = number_is_factor v q

-- a cell's half: its conductivities and its thickness
pub record IsLayerHalf (h v : Ratio) (t : Term) : Type 0 where
  pub hk : 0 < h.num
  pub vka : 0 < v.num
  pub thick : IsFactor t

is_zero : (n : ℕ) → n ≡ 0 → (n == 0) ≡ true
is_zero n e = grind (arith, nat_tests)

is_some : (n : ℕ) → 0 < n → (n == 0) ≡ false
is_some n e = grind (arith, nat_tests)

-- a bed has no thickness and is left out, or has one, with its conductivity above 0
abbrev pub IsBedded : Bool → Term → Ratio → Type 0
IsBedded true b v = (exact b).num ≡ 0
IsBedded false b v = (0 < v.num) × IsFactor b

pub no_bed : (n : ℕ) (b : Term) (v : Ratio) → n ≡ 0 → (exact b).num ≡ 0 → IsBedded (n == 0) b v
no_bed n b v e none = subst (λ z. IsBedded z b v) (sym (is_zero n e)) none

pub some_bed : (n : ℕ) (b : Term) (v : Ratio) → 0 < n → 0 < v.num → IsFactor b → IsBedded (n == 0) b v
some_bed n b v some hv thick = subst (λ z. IsBedded z b v) (sym (is_some n some)) (hv, thick)

-- a half's formula, and its value in the manual's form
module _ (q : Bool) (h v : Ratio) (t : Term) (p : IsLayerHalf h v t) where
  abbrev half_term : Term
  half_term = vertical_term t (vertical_k_term q h v)

  half_is : Same (exact half_term) (over (over (exact t) two) (vertical_k q h v))
  half_is = subst (λ (k : Ratio). Same (exact half_term) (over (over (exact t) two) k)) (k_is q h v) (half_of (exact t) (exact (vertical_k_term q h v)) (exact_positive (k_factor q h v p.hk p.vka)))

  half_factor : IsFactor half_term
  half_factor = quotient_is_factor p.thick (sum_is_factor (k_factor q h v p.hk p.vka) (k_factor q h v p.hk p.vka))

-- The resistances of two halves x and y with the values f and g, and of the bed between them.
module _ (b : Term) (v : Ratio) (x y : Term) where
  abbrev joined : Bool → Term
  joined bare = resistance_sum bare x (Quotient b (Number v)) y

  joined_is : (bare : Bool) (f g : Ratio) → IsBedded bare b v → Same (exact x) f → Same (exact y) g → Same (exact (joined bare)) (plus (plus f (over (exact b) v)) g)
  joined_is true f g none p q = plus-Same (Same-trans p (Same-sym (plus_none f (over (exact b) v) (zero_times (exact b) v none)))) q
  joined_is false f g bed p q = plus-Same (plus-Same p (Same-self (over (exact b) v))) q

  joined_factor : (bare : Bool) → IsBedded bare b v → IsFactor x → IsFactor y → IsFactor (joined bare)
  joined_factor true none p q = sum_is_factor p q
  joined_factor false bed p q = sum_is_factor (sum_is_factor p (quotient_is_factor bed.1 (number_is_factor v bed.0))) q

pub layers_give : (r d : Ratio) (q₁ : Bool) (h₁ v₁ : Ratio) (t₁ : Term) (q₂ : Bool) (h₂ v₂ : Ratio) (t₂ b : Term) (v : Ratio) (bare : Bool) →
    IsLayerHalf h₁ v₁ t₁ → IsLayerHalf h₂ v₂ t₂ → IsBedded bare b v →
    Gives (Quotient (area_formula r d) (resistance_sum bare (vertical_term t₁ (vertical_k_term q₁ h₁ v₁)) (Quotient b (Number v)) (vertical_term t₂ (vertical_k_term q₂ h₂ v₂))))
    (over (times r d) (plus (plus (over (over (exact t₁) two) (vertical_k q₁ h₁ v₁)) (over (exact b) v)) (over (over (exact t₂) two) (vertical_k q₂ h₂ v₂))))
layers_give r d q₁ h₁ v₁ t₁ q₂ h₂ v₂ t₂ b v bare p q bed =
    let x = half_term q₁ h₁ v₁ t₁ p in
    let y = half_term q₂ h₂ v₂ t₂ q in
    let whole = joined_factor b v x y bare bed (half_factor q₁ h₁ v₁ t₁ p) (half_factor q₂ h₂ v₂ t₂ q) in
    let thick = over-positive (exact t₁) two (exact_positive p.thick) in
    record {
      holds = ((tt, tt), whole.holds, whole.some);
      same = over-Same (exact_positive whole) (plus-positive _ _ (plus-positive _ (over (exact b) v) (over-positive (over (exact t₁) two) _ thick))) (Same-self (times r d))
          (joined_is b v x y bare _ _ bed (half_is q₁ h₁ v₁ t₁ p) (half_is q₂ h₂ v₂ t₂ q));
    }

-- what lies below zero is nothing
none_below : (f : Ratio) (hi : Sd) → hi.m ≡ 0 → AtMost f (value hi) → f.num ≡ 0
none_below f hi e h = grind (arith, num_scaled, zero)

bedded : (bed : Bed) (h : Ratio) → IsBed bed → IsBetween bed.thick_lo bed.thick_hi h → IsBedded (bed.thick_lo.m == 0) (Within bed.thick_lo bed.thick_hi h) (size bed.vkcb)
bedded bed h (inl z) b = no_bed bed.thick_lo.m _ (size bed.vkcb) z.0.0 (none_below h bed.thick_hi z.1.0 b.upper)
bedded bed h (inr r) b = some_bed bed.thick_lo.m _ (size bed.vkcb) r.thick.low_size.positive (size_positive bed.vkcb r.vkcb) (within_is_factor bed.thick_lo bed.thick_hi h r.thick.low_size.positive b)

layer_half : (a : VertHalf) (f : Ratio) → IsVertHalf a → IsBetween a.thick_lo a.thick_hi f → IsLayerHalf (size a.hk) (size a.vka) (Within a.thick_lo a.thick_hi f)
layer_half a f p b = record { hk = size_positive a.hk p.hk; vka = size_positive a.vka p.vka; thick = within_is_factor a.thick_lo a.thick_hi f p.thick.low_size.positive b }

pub branch_encloses : (a b : VertHalf) (bed : Bed) (delr delc : Dec) (s : ℕ) → IsVertHalf a → IsVertHalf b → IsBed bed → (f g h : Ratio) →
    IsBetween a.thick_lo a.thick_hi f → IsBetween b.thick_lo b.thick_hi g → IsBetween bed.thick_lo bed.thick_hi h →
    PairEncloses (vertical_of a b bed delr delc f g h) s (vertical_exact a b bed delr delc f g h)
branch_encloses a b bed delr delc s p q w f g h x y z =
    term_pair_encloses s (layers_give (size delr) (size delc) a.ratio (size a.hk) (size a.vka) (Within a.thick_lo a.thick_hi f) b.ratio (size b.hk) (size b.vka) (Within b.thick_lo b.thick_hi g)
    (Within bed.thick_lo bed.thick_hi h) (size bed.vkcb) (bed.thick_lo.m == 0) (layer_half a f p x) (layer_half b g q y) (bedded bed h w z))

-- the bounds of VK where VKA is a ratio
pub ratio_bounds : (b : Bool) (h v : Ratio) (x : Span) → b ≡ true → AreBounds (Quotient (Number h) (Number v)) x → AreBounds (vertical_k_term b h v) x
ratio_bounds true h v x e p = p
ratio_bounds false h v x e p = absurd (false≢true e)

-- the bounds of resistances with a bed
pub bed_bounds : (n : ℕ) (t e u : Term) (x : Span) → 0 < n → AreBounds (Sum (Sum t e) u) x → AreBounds (resistance_sum (n == 0) t e u) x
bed_bounds n t e u x some p = subst (λ b. AreBounds (resistance_sum b t e u) x) (sym (is_some n some)) p

pub Passes-less : (n m : ℕ) (f : Ratio) (s : ℕ) → m ≤ n → Passes n f s → Passes m f s
Passes-less n m f s le h = record { pass = omega (arith, h.pass, mul-le-mul_right (den f) le) }

-- what reaches a great number below, passes a lesser one above
pub Reaches-passes : (n m : ℕ) (f g : Ratio) (s : ℕ) → m < n → AtMost f g → Reaches n f s → Passes m g s
Reaches-passes n m f g s lt le h = record { pass = passes n m f.num (den f) g.num (den g) (10 ^ s) (omega arith) (omega arith) lt le.cross h.reach }
  where
    passes : (n m a x b y p : ℕ) → 0 < x → 0 < y → m < n → a * y ≤ b * x → n * x ≤ a * p → m * y < b * p
    passes n m a x b y p hx hy lt le h =
        let k : n * y ≤ b * p = le_cancel x (n * y) (b * p) hx (omega (arith, mul-le-mul_right p le, mul-le-mul_right y h)) in
        let more : (m + 1) * y ≤ n * y = mul-le-mul_right y (omega arith) in
        omega arith

pub ceiling-passes : (n m : ℕ) (f : Ratio) (s : ℕ) → m < n → IsCeiling n f s → Passes m f s
ceiling-passes n m f s lt h = grind (arith, cases_lt)

-- the whole part below is at most the ceiling above
pub floor-ceiling : (m n : ℕ) (f g : Ratio) (s : ℕ) → AtMost f g → IsFloor m f s → IsCeiling n g s → m ≤ n
floor-ceiling m n f g s le a b = le_cancel (den g) m n (omega arith) (omega (arith, b.at_least, below_units m f.num (den f) g.num (den g) (10 ^ s) (omega arith) a.at_most le.cross))

pub ruleset pair_lemmas = (Passes-less, Reaches-passes, ceiling-passes, floor-ceiling)

-- The pair of an evapotranspiration contains its conductance.
pub evap_encloses : (rate depth delr delc : Dec) (s : ℕ) → IsPositive depth → PairEncloses (evap_formula (size rate) (size delr) (size delc) (size depth)) s (evap_exact rate depth delr delc)
evap_encloses rate depth delr delc s d = pair_encloses _ s ((tt, (tt, tt)), tt, (number_is_factor (size depth) (size_positive depth d)).some)
