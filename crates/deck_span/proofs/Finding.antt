-- What a walk over two models finds, from what the walks over their parts find.
use Rattle.deck_span.proofs.Common.{◌≡◌, ℕ, ◌<◌, List, [], ◌∷◌, Option, None, Some, Result, Ok, Err, length, get_or, take, subst, sym, ap, ◌∙◌, refl, arith, inr, AllZip, each_same}
use Rattle.deck_span.proofs.Common.{get_or_from_slice_get, slice_get_read, Dec, Package, Dis, Lpf, FlowModel, Period, cell_count, layer_size, AreSame, IsFirst, Finds, InOrder, IsFirstOfLayers}
use Rattle.deck_span.proofs.Common.{IsLayerCell, IsListCell, IsFound, apart, array_at, cell_in_grid, AreArraysSame, SharesGrid, SharesIn, SharesProperties, IsCellIn, IsHeadCell, IsPeriodCell}
use Rattle.deck_span.proofs.Common.{SharesOptions, SharesSizes, bottoms, properties, CellId, Bool, true, false, MatchBool}
use Rattle.model_types.specs.declared.grid.Grid.{Grid}
use Rattle.deck_span.proofs.Layers.{first_not_all}

-- a fact in place of another one that holds exactly where it does
pub turned_to : (r : Bool) (P Q : Type 0) → (P → Q) → (Q → P) → MatchBool r P (P → ⊥) → MatchBool r Q (Q → ⊥)
turned_to true P Q to from h = to h
turned_to false P Q to from h = λ q. h (from q)

-- what one part finds, told of the whole
pub finds_more : (S T : Type 0) (M N : Option CellId → Type 0) (r : Result (Unit {0}) (Option CellId)) → (S → T) → (T → S) → ((c : Option CellId) → M c → N c) → Finds S M r → Finds T N r
finds_more S T M N (Ok shared) to from turn h = to h
finds_more S T M N (Err c) to from turn h = (λ t. h.0 (from t), turn c h.1)

-- what isn't shared isn't alike
pub unlike_by : (S A N : Type 0) → (A → S) → (S → ⊥) × N → A → ⊥
unlike_by S A N shares h alike = h.0 (shares alike)

pub zip_same : {X : Type 0} (xs ys : List X) → ys ≡ xs → AllZip AreSame xs ys
zip_same xs ys e = subst (λ zs. AllZip AreSame xs zs) (sym e) (self xs)
  where
    self : {X : Type 0} (zs : List X) → AllZip AreSame zs zs
    self [] = tt
    self (z ∷ zs) = (refl, self zs)

module _ {X : Type 0} (R : X → X → Type 0) (cells : ℕ) (xs ys : List X) where
  pub list_found : (number : ℕ → X → ℕ) (k n : ℕ) (y : X) (cell : Option CellId) → length ys ≡ length xs → IsFirst R xs ys k → y ≡ get_or ys k y → n ≡
      number k y → cell ≡ cell_in_grid cells n → Finds (AllZip R xs ys) (IsListCell R number cells xs ys) (Err cell)
  list_found number k n y cell e h is by names =
      let same : y ≡ h.second = is ∙ get_or_from_slice_get ys k h.second y h.of_second in
      (first_not_all R xs ys k h, inr (e, record { place = k; first = h; names = names ∙ ap (cell_in_grid cells) by ∙ ap (λ z. cell_in_grid cells (number k z)) same }))

-- stress periods in turn
module _ (kind : Package) (cells : ℕ) (ps qs : List Period) where
  abbrev CellOfPeriods : Option CellId → Type 0
  CellOfPeriods cell = InOrder (length qs ≡ length ps) (cell ≡ None) (IsPeriodCell kind cells ps qs cell)

  pub periods_found : (i : ℕ) (p q : Period) (c : Option CellId) → i < length ps → length qs ≡ length ps → p ≡ get_or ps i p → q ≡ get_or qs i q → AllZip (SharesIn kind) (take i ps) (take i qs) →
      (SharesIn kind p q → ⊥) × IsCellIn kind cells p q c → Finds (AllZip (SharesIn kind) ps qs) CellOfPeriods (Err c)
  periods_found i p q c lt e is_p is_q before h =
      let first : IsFirst (SharesIn kind) ps qs i = record {
        before = before;
        first = p;
        second = q;
        of_first = slice_get_read ps (length ps) i p refl lt is_p;
        of_second = slice_get_read qs (length qs) i q refl (omega (arith, e, lt)) is_q;
        unlike = h.0;
      } in
      (first_not_all (SharesIn kind) ps qs i first, inr (e, record { period = i; first = first; names = h.1 }))

-- the cell of arrays that are read layer by layer
layer_cell : (size cells n m : ℕ) (xss yss : List (List Dec)) (k : ℕ) (cell : Option CellId) → n ≡ size → m ≡ cells → cell ≡ cell_in_grid m k →
    IsFirstOfLayers n xss yss k → IsLayerCell size cells xss yss cell
layer_cell size cells n m xss yss k cell by_size by_cells names h = grind (arith)

pub layers_found : (size cells n m : ℕ) (xss yss : List (List Dec)) (p : Option ℕ) (r : Result (Unit {0}) (Option CellId)) → n ≡ size → m ≡ cells → r ≡
    apart m p → IsFound n xss yss p → Finds (AreArraysSame xss yss) (IsLayerCell size cells xss yss) r
layers_found size cells n m xss yss None r by_size by_cells is h = subst (Finds (AreArraysSame xss yss) (IsLayerCell size cells xss yss)) (sym is) h
layers_found size cells n m xss yss (Some k) r by_size by_cells is h =
    subst (Finds (AreArraysSame xss yss) (IsLayerCell size cells xss yss)) (sym is)
    (λ t. first_not_all AreSame _ _ k h.first (t h.array), layer_cell size cells n m xss yss k (cell_in_grid m k) by_size by_cells refl h)

-- what a package has once
module _ (a b : FlowModel) where
  grid_same : SharesSizes a b → AllZip AreSame a.grid.top b.grid.top → AreArraysSame (bottoms a.grid) (bottoms b.grid) → SharesGrid a b
  grid_same s top h =
      let tops : b.grid.top ≡ a.grid.top = each_same _ _ top in
      let bottom : b.grid.bottom ≡ a.grid.bottom = each_same _ _ (h 0) in
      let bed : b.grid.bed_bottom ≡ a.grid.bed_bottom = each_same _ _ (h 1) in
      record {
        grid = λ i. record {
          layers = s.counts.layers i;
          rows = s.counts.rows i;
          cols = s.counts.cols i;
          delr = s.widths.delr i;
          delc = s.widths.delc i;
          top = tops i;
          bottom = bottom i;
          laycbd = s.widths.laycbd i;
          bed_bottom = bed i;
        };
        lenuni = s.counts.lenuni;
        nper = s.counts.nper;
      }

  pub grid_rest : (us vs : List Dec) (r : Result (Unit {0}) (Option CellId)) → us ≡ a.grid.top → vs ≡ b.grid.top → SharesSizes a b → AllZip AreSame us vs →
      Finds (AreArraysSame (bottoms a.grid) (bottoms b.grid)) (IsLayerCell (layer_size b.grid) (cell_count b.grid) (bottoms a.grid) (bottoms b.grid)) r → Finds (SharesGrid a b) (IsHeadCell Dis a b) r
  grid_rest us vs r by_first by_second s tops h =
      let top : AllZip AreSame a.grid.top b.grid.top = subst (λ xs. AllZip AreSame xs b.grid.top) by_first (subst (λ ys. AllZip AreSame us ys) by_second tops) in
      finds_more _ _ _ _ r (grid_same s top) (λ t i. zip_same _ _ (ap (λ (g : Grid). array_at (bottoms g) i) t.grid)) (λ c m. inr (s, inr (each_same _ _ top, m))) h

  same_arrays : SharesProperties a b → properties b ≡ properties a
  same_arrays h = λ i. h.hk i ∷ h.hani i ∷ h.vka i ∷ h.ss i ∷ h.vkcb i ∷ []

  properties_same : SharesOptions a b → AreArraysSame (properties a) (properties b) → SharesProperties a b
  properties_same s h = record {
    coefficient = s.coefficient;
    layvka = s.layvka;
    hk = each_same _ _ (h 0);
    hani = each_same _ _ (h 1);
    vka = each_same _ _ (h 2);
    ss = each_same _ _ (h 3);
    vkcb = each_same _ _ (h 4);
  }

  pub properties_rest : (r : Result (Unit {0}) (Option CellId)) → SharesOptions a b →
      Finds (AreArraysSame (properties a) (properties b)) (IsLayerCell (layer_size b.grid) (cell_count b.grid) (properties a) (properties b)) r → Finds (SharesProperties a b) (IsHeadCell Lpf a b) r
  properties_rest r s h =
      finds_more _ _ _ _ r (properties_same s) (λ t i. zip_same _ _ (ap (λ xss. array_at xss i) (same_arrays t))) (λ c m. inr (s, m)) h
