-- Three cells in a row are a writable model.
use Rattle.model_text.proofs.Common.{◌≡◌, ℕ, zero, suc, ◌%◌, ◌^◌, ◌<◌, ◌≤◌, inr, true, pos, negsuc, List, [], ◌∷◌, length, replicate, All, Ok, refl, arith, All-nil, All-cons, All-replicate}
use Rattle.model_text.proofs.Common.{All-from_recursion, All-weaker, Period, no_number, IsTimed, IsPeriod, IsShort, number_word, integer_word, line_text, text, row_line, row_lines, real_array}
use Rattle.model_text.proofs.Common.{integer_array, IsOfBeds, IsDiscretized, IsBasic, HasFlow, IsEntry, IsListOf, deck_name, deck_names, IsWritable, written, dis_lines, dis_item_1, dis_item_2}
use Rattle.model_text.proofs.Common.{dis_item_3, dis_item_4, dis_item_5, dis_item_6, dis_item_7, bas_lines, bas_item_1, bas_item_2, bas_item_3, bas_item_4, lpf_lines, lpf_item_1, lpf_zeros}
use Rattle.model_text.proofs.Common.{lpf_item_4, lpf_item_5, lpf_arrays, name_item, deck, ThreeCells, wells, rivers, drains, generals, recharge_arrays, evaporation_arrays, no_area, IsDec}
use Rattle.model_text.proofs.Common.{scaled_ratio, ratio, units_of, each_number, check_result, fault_at, is_at_most, is_thick, Thickness, given_heads, Kind}
use Rattle.model_text.proofs.{FileTexts.good_names, ModelTexts.model_reads}
use Rattle.number_limits.specs.declared.passing.Check.{Check}
use Rattle.number_limits.proofs.Canonical.{no_number_is}
use Rattle.std.specs.Fmt.{decimal as numeral}
use Rattle.std.proofs.{lemmas.Fmt.decimal_digit, lemmas.Int.ints}
use Rattle.model_types.specs.declared.limits.Limits.TheVariants.{Plain}
use Rattle.flow_equations.specs.{decimal, period_with, three_cells}
use Rattle.flow_equations.proofs.Validity.{three_valid}

abbrev steady_period : Period
steady_period = period_with true (decimal 1 0) 1 []

whole_dec : (digits e : ℕ) → digits < 10 ^ 18 → 0 < digits → 0 < digits % 10 → e ≤ 40 → IsDec (decimal digits e)
whole_dec digits e few some last small = record { few = few; form = inr (some, last); above = omega (arith, ints); below = omega (arith, ints, small) }

ones : All IsDec (replicate 3 (decimal 1 0))
ones = All-replicate IsDec 3 (decimal 1 0) (whole_dec 1 0 (omega arith) (omega arith) (omega arith) (omega arith))

zeros : All IsDec (replicate 3 no_number)
zeros = All-replicate IsDec 3 no_number no_number_is

of_beds : IsOfBeds three_cells.grid (replicate 3 no_number)
of_beds zero lt none = refl
of_beds (suc k) lt none = absurd (omega (arith, lt))

zero_short : IsShort (pos 0)
zero_short = record { few = omega arith }

layers_short : All IsShort (pos 0 ∷ [])
layers_short = All-cons (λ z. IsShort z) (pos 0) [] zero_short (All-nil (λ z. IsShort z))

one_period : (P : Period → Type 0) → P steady_period → All P three_cells.periods
one_period P h = All-cons P steady_period [] h (All-nil P)

discretized : IsDiscretized three_cells
discretized = record {
  grid = three_valid.grid;
  laycbd = layers_short;
  bed_bottom = of_beds;
  lenuni = record { few = omega arith };
  some = three_valid.some;
  few = three_valid.few;
  steps = three_valid.steps;
  times = All-weaker (IsPeriod three_cells) IsTimed (λ p h. h.times) three_cells.periods three_valid.periods;
}

basic : IsBasic three_cells
basic = record {
  ibound = (refl, All-from_recursion (λ z. IsShort z) (negsuc 0 ∷ pos 1 ∷ negsuc 0 ∷ []) (record { few = omega arith }, (record { few = omega arith }, (record { few = omega arith }, tt))));
  strt = (
    refl,
    All-from_recursion IsDec (decimal 1 1 ∷ no_number ∷ decimal 2 1 ∷ []) (
      whole_dec 1 1 (omega arith) (omega arith) (omega arith) (omega arith),
      (no_number_is, (whole_dec 2 1 (omega arith) (omega arith) (omega arith) (omega arith), tt)),
    ),
  );
}

flow : HasFlow three_cells
flow = record {
  layvka = (refl, layers_short);
  hk = (refl, ones);
  hani = (refl, ones);
  vka = (refl, ones);
  ss = (refl, All-nil IsDec);
  vkcb = (refl, zeros);
  beds = of_beds;
}

passed : (check : Check) (file : List ℕ) → check_result three_cells file check ≡ Ok tt
unfolding check_result fault_at each_number is_thick units_of is_at_most scaled_ratio ratio
passed Thickness file = refl
passed x file = refl

no_entries : {E : Type 0} (kind : Kind E) → kind.suits steady_period [] ≡ true → IsListOf Plain kind 3 steady_period []
no_entries kind suits = record { few = omega arith; entries = All-nil (IsEntry kind 3); once = λ e i j d lt low. absurd (omega (arith, low)); suits = suits }

writable : IsWritable Plain three_cells
writable = record {
  discretization = discretized;
  within = record { layers = omega arith; rows = omega arith; cols = omega arith; cells = omega arith };
  basic = basic;
  flow = flow;
  passed = passed;
  wel = one_period (λ p. IsListOf Plain wells 3 p p.stresses.wells) (no_entries wells refl);
  riv = one_period (λ p. IsListOf Plain rivers 3 p p.stresses.rivers) (no_entries rivers refl);
  drn = one_period (λ p. IsListOf Plain drains 3 p p.stresses.drains) (no_entries drains refl);
  ghb = one_period (λ p. IsListOf Plain generals 3 p p.stresses.generals) (no_entries generals refl);
  rch = inr (record { off = refl; none = one_period (λ p. recharge_arrays.area p.stresses ≡ no_area) refl });
  chd = one_period (λ p. IsListOf Plain given_heads 3 p p.stresses.given) (no_entries given_heads refl);
  evt = inr (record { off = refl; none = one_period (λ p. evaporation_arrays.area p.stresses ≡ no_area) refl });
}

small : All (λ f. length f.bytes ≤ 67108864) deck
unfolding written name_item text line_text dis_lines dis_item_1 dis_item_2 dis_item_3 dis_item_4 dis_item_5 dis_item_6 dis_item_7 bas_lines bas_item_1
    bas_item_2 bas_item_3 bas_item_4 lpf_lines lpf_item_1 lpf_zeros lpf_item_4 lpf_item_5 lpf_arrays real_array integer_array row_line row_lines number_word
    integer_word
small =
    let zero_digit : numeral 0 ≡ 48 ∷ [] = decimal_digit 0 (omega arith) in
    let one_digit : numeral 1 ≡ 49 ∷ [] = decimal_digit 1 (omega arith) in
    let two_digit : numeral 2 ≡ 50 ∷ [] = decimal_digit 2 (omega arith) in
    let three_digit : numeral 3 ≡ 51 ∷ [] = decimal_digit 3 (omega arith) in
    All-from_recursion (λ f. length f.bytes ≤ 67108864) deck
    (omega arith, (simp (zero_digit, one_digit, two_digit, three_digit) (omega arith), (simp (zero_digit, one_digit, two_digit) (omega arith), (simp (zero_digit, one_digit) (omega arith), tt))))

pub three_cells_have_form : ThreeCells
three_cells_have_form = record { writable = writable; read = model_reads Plain three_cells writable deck_names deck_name good_names 67108864 small }
