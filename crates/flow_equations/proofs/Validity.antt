-- The worked models meet what readers promise of a model, so that something meets it.
use Rattle.flow_equations.proofs.Common.{◌≡◌, ℕ, suc, ◌*◌, ◌%◌, ◌^◌, ◌<◌, ◌≤◌, ◌⊎◌, inl, inr, Bool, true, false, ℤ, pos, negsuc, List, [], ◌∷◌, length, refl, sym, ◌∙◌, subst, arith, ints, replicate}
use Rattle.flow_equations.proofs.Common.{nat_lt, cond-true, le-leb, cases_lt, length-replicate, get_or-replicate, Dec, IsDec, scaled_ratio, ratio, FlowModel, Period, Entry, Well, no_number, dec_at}
use Rattle.flow_equations.proofs.Common.{top_at, bottom_at, IsPositive, IsNotNegative, IsHeadNumber, IsThick, IsGrid, no_stresses, decimal, below_zero, cell, row_of_cells, period_with, row_model}
use Rattle.flow_equations.proofs.Common.{three_cells, idle_wells, one_cell, two_cells, AreStresses, IsModel, IsPeriod, IsTimed, IsCellValid, IsEntryList, IsEntryValid}
use Rattle.std.proofs.Common.{All}
use Rattle.std.proofs.{Math.ListN.get_or-eq_default, lemmas.List.Elements.All-nil, lemmas.List.Elements.All-cons, lemmas.List.Elements.All-replicate}
use Rattle.model_types.proofs.NoStresses.{no_stresses_fit}

is_dec : (neg : Bool) (digits e : ℕ) → digits < 10 ^ 18 → 0 < digits → 0 < digits % 10 → e ≤ 40 → IsDec (record { neg = neg; digits = digits; exp = pos e })
is_dec neg digits e few some last small = record { few = few; form = inr (some, last); above = omega (arith, ints); below = omega (arith, ints, small) }

zero_dec : IsDec no_number
zero_dec = record { few = omega arith; form = inl (refl, refl, refl); above = omega (arith, ints); below = omega (arith, ints) }

one_dec : IsDec (decimal 1 0)
one_dec = is_dec false 1 0 (omega arith) (omega arith) (omega arith) (omega arith)

one_positive : IsPositive (decimal 1 0)
one_positive = record { decimal = one_dec; sign = refl; positive = omega arith }

zero_head : IsHeadNumber no_number
unfolding scaled_ratio ratio
zero_head = record { decimal = zero_dec; range = record { lower = omega (arith, ints); upper = omega (arith, ints) } }

ten_head : IsHeadNumber (decimal 1 1)
unfolding scaled_ratio ratio
ten_head = record { decimal = is_dec false 1 1 (omega arith) (omega arith) (omega arith) (omega arith); range = record { lower = omega (arith, ints); upper = omega (arith, ints) } }

twenty_head : IsHeadNumber (decimal 2 1)
unfolding scaled_ratio ratio
twenty_head = record { decimal = is_dec false 2 1 (omega arith) (omega arith) (omega arith) (omega arith); range = record { lower = omega (arith, ints); upper = omega (arith, ints) } }

no_flow_head : IsHeadNumber (below_zero 999)
unfolding scaled_ratio ratio
no_flow_head = record { decimal = is_dec true 999 0 (omega arith) (omega arith) (omega arith) (omega arith); range = record { lower = omega (arith, ints); upper = omega (arith, ints) } }

pub unit_thick : IsThick (decimal 1 0) no_number
unfolding scaled_ratio ratio
unit_thick = record {
  floor = pos (10 ^ 18);
  ceiling = pos 0;
  is_floor = record { at_most = omega (arith, ints); next = omega (arith, ints) };
  is_ceiling = record { at_least = omega (arith, ints); next = omega (arith, ints) };
  small = (omega arith, omega arith);
  room = omega (arith, ints);
}

-- an array's number, or 0 past its end
dec_meets : (P : Dec → Type 0) (xs : List Dec) (i : ℕ) → All P xs → P no_number → P (dec_at xs i)
dec_meets P xs i all none = grind (arith, cases_lt, get_or-eq_default)

-- a row of cells is a grid
row_grid : (n : ℕ) → 1 ≤ n → n ≤ 4096 → IsGrid (row_of_cells n)
row_grid n some few =
    let zeros : (length (replicate n no_number) ≡ 1 * (1 * n)) × All IsDec (replicate n no_number) =
    (length-replicate n no_number ∙ (let e : n ≡ 1 * (1 * n) = omega arith in e), All-replicate IsDec n no_number zero_dec) in
    record {
      size = record { layers = (omega arith, omega arith); rows = (omega arith, omega arith); cols = (some, few); cells = omega (arith, few) };
      delr = (length-replicate n (decimal 1 0), All-replicate IsPositive n (decimal 1 0) one_positive);
      delc = (refl, All-cons IsPositive (decimal 1 0) [] one_positive (All-nil IsPositive));
      top = (length-replicate n (decimal 1 0) ∙ (let e : n ≡ 1 * n = omega arith in e), All-replicate IsDec n (decimal 1 0) one_dec);
      bottom = zeros;
      laycbd = refl;
      no_last_bed = refl;
      bed_bottom = zeros;
    }

module _ (ibound : List ℤ) (strt ss : List Dec) (steady : Bool) (lasting : Dec) (steps : ℕ) (wells : List Entry) (n : ℕ) where
  abbrev period : Period
  period = period_with steady lasting steps wells

  abbrev model : FlowModel
  model = row_model ibound strt ss period n

  module _ (some : 1 ≤ n) (few : n ≤ 4096) (starts : All IsHeadNumber strt) (stores : All IsNotNegative ss) where
    within : (c : ℕ) → c < 1 * (1 * n) → c < n
    within c lt = omega (arith, lt)

    ones : (c : ℕ) → c < n → dec_at (replicate n (decimal 1 0)) c ≡ decimal 1 0
    ones c lt = get_or-replicate n c (decimal 1 0) no_number lt

    one_at : (c : ℕ) → c < n → IsPositive (dec_at (replicate n (decimal 1 0)) c)
    one_at c lt = subst IsPositive (sym (ones c lt)) one_positive

    top_is : (c : ℕ) → c < n → top_at model c ≡ decimal 1 0
    top_is c lt = cond-true (nat_lt c (1 * n)) _ _ (le-leb (suc c) (1 * n) (omega (arith, lt))) ∙ ones c lt

    bottom_is : (c : ℕ) → c < n → bottom_at model c ≡ no_number
    bottom_is c lt = get_or-replicate n c no_number no_number lt

    cell_valid : (c : ℕ) → c < 1 * (1 * n) → IsCellValid model c
    cell_valid c lt = record {
      thick = subst (IsThick (top_at model c)) (sym (bottom_is c (within c lt))) (subst (λ t. IsThick t no_number) (sym (top_is c (within c lt))) unit_thick);
      strt = dec_meets IsHeadNumber strt c starts zero_head;
      hk = one_at c (within c lt);
      hani = one_at c (within c lt);
      vka = (λ many. one_at c (within c lt));
      ss = dec_meets IsNotNegative ss c stores (record { decimal = zero_dec; sign = refl });
    }

    none : AreStresses (row_of_cells n) (pos 0) (pos 0) no_stresses
    none = no_stresses_fit (row_of_cells n) (pos 0) (pos 0) refl refl

    module _ (counts : length ibound ≡ n) (heads : length strt ≡ n) (storing : (steady ≡ true) ⊎ (length ss ≡ n)) (timed : IsTimed period)
        (many : steps ≤ 100000) (pumped : IsEntryList (1 * (1 * n)) wells) where
      whole : (xs : List Dec) → length xs ≡ n → length xs ≡ 1 * (1 * n)
      whole xs e = omega (arith, e)

      period_valid : IsPeriod model period
      period_valid = record {
        times = timed;
        stresses = record {
          wells = pumped;
          rivers = none.rivers;
          drains = none.drains;
          generals = none.generals;
          given = none.given;
          recharge = none.recharge;
          irch = none.irch;
          surf = none.surf;
          evtr = none.evtr;
          exdp = none.exdp;
          ievt = none.ievt;
        };
      }

      stored : All (λ p. p.steady ≡ true) (period ∷ []) ⊎ (length ss ≡ 1 * (1 * n))
      stored = elim storing [
        | inl is ↦ inl (All-cons (λ (p : Period). p.steady ≡ true) period [] is (All-nil _))
        | inr e ↦ inr (whole ss e)
      ]

      pub row_valid : IsModel model
      row_valid = record {
        grid = row_grid n some few;
        ibound = omega (arith, counts);
        strt = whole strt heads;
        layvka = refl;
        hk = whole (replicate n (decimal 1 0)) (length-replicate n (decimal 1 0));
        hani = whole (replicate n (decimal 1 0)) (length-replicate n (decimal 1 0));
        vka = whole (replicate n (decimal 1 0)) (length-replicate n (decimal 1 0));
        vkcb = whole (replicate n no_number) (length-replicate n no_number);
        ss = stored;
        cells = (λ c lt active. cell_valid c lt);
        beds = (λ c lt a b bed. absurd (omega (arith, lt)));
        nrchop = (omega (arith, ints), omega (arith, ints));
        nevtop = (omega (arith, ints), omega (arith, ints));
        some = omega arith;
        few = omega arith;
        steps = omega (arith, many);
        periods = All-cons (IsPeriod model) period [] period_valid (All-nil (IsPeriod model));
        evaps = (λ p c lt active. All-nil _);
      }

one_timed : (steady : Bool) (lasting : Dec) (steps : ℕ) (wells : List Entry) → IsPositive lasting → 1 ≤ steps → steps ≤ 100000 → IsTimed (period_with steady lasting steps wells)
one_timed steady lasting steps wells long some few = grind (arith, one_positive)

-- a well in a grid of so many cells
well_valid : (cells c : ℕ) (q : Dec) → c < cells → IsDec q → IsEntryValid cells (Well (cell c) q)
well_valid cells c q lt is = (lt, is)

pub three_valid : IsModel three_cells
three_valid = row_valid (negsuc 0 ∷ pos 1 ∷ negsuc 0 ∷ []) (decimal 1 1 ∷ no_number ∷ decimal 2 1 ∷ []) [] true (decimal 1 0) 1 [] 3 (omega arith) (omega arith)
    (All-cons IsHeadNumber (decimal 1 1) (no_number ∷ decimal 2 1 ∷ []) ten_head
    (All-cons IsHeadNumber no_number (decimal 2 1 ∷ []) zero_head (All-cons IsHeadNumber (decimal 2 1) [] twenty_head (All-nil IsHeadNumber))))
    (All-nil IsNotNegative)
    refl refl (inl refl) (one_timed true (decimal 1 0) 1 [] one_positive (omega arith) (omega arith)) (omega arith) (record { few = omega arith; entries = All-nil _ })

pub idle_valid : IsModel idle_wells
idle_valid = row_valid (negsuc 0 ∷ pos 1 ∷ negsuc 0 ∷ pos 0 ∷ []) (decimal 1 1 ∷ no_number ∷ decimal 2 1 ∷ below_zero 999 ∷ []) [] true (decimal 1 0) 1
    (Well (cell 0) (decimal 7 0) ∷ Well (cell 3) (below_zero 3) ∷ []) 4 (omega arith) (omega arith)
    (All-cons IsHeadNumber (decimal 1 1) (no_number ∷ decimal 2 1 ∷ below_zero 999 ∷ []) ten_head
    (All-cons IsHeadNumber no_number (decimal 2 1 ∷ below_zero 999 ∷ []) zero_head
    (All-cons IsHeadNumber (decimal 2 1) (below_zero 999 ∷ []) twenty_head
    (All-cons IsHeadNumber (below_zero 999) [] no_flow_head (All-nil IsHeadNumber))))) (All-nil IsNotNegative)
    refl refl (inl refl) (one_timed true (decimal 1 0) 1 _ one_positive (omega arith) (omega arith)) (omega arith)
    (record {
      few = omega arith;
      entries = All-cons (IsEntryValid 4) (Well (cell 0) (decimal 7 0)) (Well (cell 3) (below_zero 3) ∷ [])
          (well_valid 4 0 (decimal 7 0) (omega arith) seven)
          (All-cons (IsEntryValid 4) (Well (cell 3) (below_zero 3)) [] (well_valid 4 3 (below_zero 3) (omega arith) three) (All-nil (IsEntryValid 4)));
    })
  where
    seven : IsDec (decimal 7 0)
    seven = is_dec false 7 0 (omega arith) (omega arith) (omega arith) (omega arith)

    three : IsDec (below_zero 3)
    three = is_dec true 3 0 (omega arith) (omega arith) (omega arith) (omega arith)

pub one_valid : IsModel one_cell
one_valid = row_valid (pos 1 ∷ []) (decimal 1 1 ∷ []) (decimal 1 0 ∷ []) false (decimal 3 0) 3 (Well (cell 0) (below_zero 5) ∷ []) 1 (omega arith) (omega arith)
    (All-cons IsHeadNumber (decimal 1 1) [] ten_head (All-nil IsHeadNumber)) (All-cons IsNotNegative (decimal 1 0) [] (record { decimal = one_dec; sign = refl }) (All-nil IsNotNegative))
    refl refl (inr refl) (one_timed false (decimal 3 0) 3 _ long (omega arith) (omega arith)) (omega arith)
    (record { few = omega arith; entries = All-cons (IsEntryValid 1) (Well (cell 0) (below_zero 5)) [] (well_valid 1 0 (below_zero 5) (omega arith) five) (All-nil (IsEntryValid 1)) })
  where
    long : IsPositive (decimal 3 0)
    long = record { decimal = is_dec false 3 0 (omega arith) (omega arith) (omega arith) (omega arith); sign = refl; positive = omega arith }

    five : IsDec (below_zero 5)
    five = is_dec true 5 0 (omega arith) (omega arith) (omega arith) (omega arith)

pub two_valid : IsModel two_cells
two_valid = row_valid (pos 1 ∷ pos 1 ∷ []) (decimal 1 1 ∷ decimal 1 1 ∷ []) [] true (decimal 1 0) 1 [] 2 (omega arith) (omega arith)
    (All-cons IsHeadNumber (decimal 1 1) (decimal 1 1 ∷ []) ten_head (All-cons IsHeadNumber (decimal 1 1) [] ten_head (All-nil IsHeadNumber))) (All-nil IsNotNegative)
    refl refl (inl refl) (one_timed true (decimal 1 0) 1 [] one_positive (omega arith) (omega arith)) (omega arith) (record { few = omega arith; entries = All-nil _ })
