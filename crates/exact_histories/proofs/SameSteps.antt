-- The same heads, however their fractions are written, solve the same step, however its known heads are written.
use Rattle.exact_histories.proofs.Common.{◌≡◌, ◌*◌, ◌<◌, ◌∙◌, ◌*ℤ◌, [], ◌∷◌, refl, ℕ, sym, ap, subst, arith, ℤ, pos, List, length, mul-pos, Fraction, den, Same, IsOver, mul_assoc, balance, share}
use Rattle.exact_histories.proofs.Common.{SolvesStep, ExactFixed, ExactCell, cell_at, no_cell, zero, suc, map, get_or, All, All-nil, All-cons, All-head, All-tail, FlowModel, TimeStep, step_from}
use Rattle.exact_histories.proofs.Common.{fixed_from, head_from, Choice, SolvesChoiceAt, variable_heads, last_factors_swap, AllZip}
use Rattle.step_problem.specs.declared.entry.FixedKind.{FixedKind}
use Rattle.step_problem.specs.declared.entry.FixedKind.TheVariants.{Storage, Constant, General}
use Rattle.exact_solutions.proofs.LinearSteps.{cancel_same}
use Rattle.cell_balance.proofs.{Denominators.step_common, Encloses.share_is, Encloses.whole_solves, Encloses.whole_step, Over.FlowOver, Over.LinkOver, Over.FixedOver, Over.RiverOver, Over.DrainOver}
use Rattle.cell_balance.proofs.{Over.EvapOver, Over.CellOver, Over.balance_over, Scaling.over_zero, Zips.WholeEntry, Zips.WholeCell, Zips.whole_at, Zips.no_whole, Zips.AllZip-at, Zips.AllZip-length}

pub record FixedAgrees (x y : ExactFixed) : Type 0 where
  pub conductance : x.conductance ≡ y.conductance
  pub head : Same x.head y.head

-- two cells that have the same entries, but for how known heads are written
pub record CellAgrees (x y : ExactCell) : Type 0 where
  pub flows : x.flows ≡ y.flows
  pub links : x.links ≡ y.links
  pub fixed : AllZip FixedAgrees x.fixed y.fixed
  pub rivers : x.rivers ≡ y.rivers
  pub drains : x.drains ≡ y.drains
  pub evaps : x.evaps ≡ y.evaps

fixed_agree_itself : (xs : List ExactFixed) → AllZip FixedAgrees xs xs
fixed_agree_itself [] = tt
fixed_agree_itself (x ∷ xs) = (record { conductance = refl; head = record { same = refl } }, fixed_agree_itself xs)

pub agrees_itself : (e : List ExactCell) → AllZip CellAgrees e e
agrees_itself [] = tt
agrees_itself (x ∷ xs) = (record { flows = refl; links = refl; fixed = fixed_agree_itself x.fixed; rivers = refl; drains = refl; evaps = refl }, agrees_itself xs)

-- the same number has the same whole number over m
over_same : (m : ℕ) (f g : Fraction) (z : ℤ) → Same f g → IsOver m f z → IsOver m g z
over_same m f g z same h = record {
  is = cancel_same (den f) _ _ (omega arith)
      (last_factors_swap g.num (pos m) (pos (den f)) ∙ ap (λ (x : ℤ). x *ℤ pos m) (sym same.same) ∙ last_factors_swap f.num (pos (den g)) (pos m) ∙ ap
      (λ (x : ℤ). x *ℤ pos (den g)) h.is ∙ last_factors_swap z (pos (den f)) (pos (den g)));
}

-- what holds of lists place by place passes on to a list that agrees with the first one
module _ {X Y : Type 0} (A : X → X → Type 0) (R : X → Y → Type 0) (each : (x y : X) (w : Y) → A x y → R x w → R y w) where
  AllZip-agree : (xs ys : List X) (ws : List Y) → AllZip A xs ys → AllZip R xs ws → AllZip R ys ws
  AllZip-agree [] [] [] a h = tt
  AllZip-agree [] [] (w ∷ ws) a h = absurd h
  AllZip-agree [] (y ∷ ys) ws a h = absurd a
  AllZip-agree (x ∷ xs) [] ws a h = absurd a
  AllZip-agree (x ∷ xs) (y ∷ ys) [] a h = absurd h
  AllZip-agree (x ∷ xs) (y ∷ ys) (w ∷ ws) a h = (each x y w a.0 h.0, AllZip-agree xs ys ws a.1 h.1)

module _ (k m : ℕ) where
  fixed_over : (x y : ExactFixed) (w : WholeEntry) → FixedAgrees x y → FixedOver k m x w → FixedOver k m y w
  fixed_over x y w a h = record { c = rw a.conductance at h.c; top = over_same m x.head y.head w.top a.head h.top; foot = over_same m x.head y.head w.foot a.head h.foot }

  cell_over : (x y : ExactCell) (w : WholeCell) → CellAgrees x y → CellOver k m x w → CellOver k m y w
  cell_over x y w a h = record {
    flows = subst (λ (l : List _). AllZip (FlowOver k m) l w.flows) a.flows h.flows;
    links = subst (λ (l : List _). AllZip (LinkOver k m) l w.links) a.links h.links;
    fixed = AllZip-agree FixedAgrees (FixedOver k m) fixed_over x.fixed y.fixed w.fixed a.fixed h.fixed;
    rivers = subst (λ (l : List _). AllZip (RiverOver k m) l w.rivers) a.rivers h.rivers;
    drains = subst (λ (l : List _). AllZip (DrainOver k m) l w.drains) a.drains h.drains;
    evaps = subst (λ (l : List _). AllZip (EvapOver k m) l w.evaps) a.evaps h.evaps;
  }

  step_over : (e f : List ExactCell) (w : List WholeCell) → AllZip CellAgrees e f → AllZip (CellOver k m) e w → AllZip (CellOver k m) f w
  step_over = AllZip-agree CellAgrees (CellOver k m) cell_over

-- the same heads, however they are written, solve the same step, however it is written
pub same_heads_solve : (e f : List ExactCell) → AllZip CellAgrees e f → (d k : ℕ) (X Y : ℕ → ℤ) → 0 < d → 0 < k → ((c : ℕ) → X c *ℤ pos k ≡ Y c *ℤ pos d) → SolvesStep e d X → SolvesStep f k Y
same_heads_solve e f agrees d k X Y some_d some_k same solves c i =
    let (n, some_n, common) = step_common e in
    let (w, over) = whole_step n 1 (d * k) e common in
    let m = n * (d * k) in
    let over' = step_over (n * 1) m e f w agrees over in
    let here : c < length w = omega (arith, i, AllZip-length (CellOver (n * 1) m) f w over') in
    let zero = whole_solves (n * 1) m e w d X (λ z. X z *ℤ pos (k * n)) over solves (heads n) c here in
    over_zero (n * 1 * m) _ (mul-pos (omega (arith, some_n)) (mul-pos some_n (mul-pos some_d some_k)))
    (subst (λ (z : ℤ). IsOver (n * 1 * m) (balance (cell_at f c) (share k (Y c)) (λ z. share k (Y z))) z) zero
    (balance_over (n * 1) m (share k (Y c)) (X c *ℤ pos (k * n)) (others n c) (λ z. share k (Y z)) (λ z. X z *ℤ pos (k * n)) (others n) (cell_at f c)
    (whole_at w c) (AllZip-at (CellOver (n * 1) m) f w c no_cell no_whole over' i)))
  where
    order : (n d k : ℕ) → d * (k * n) ≡ n * (d * k)
    order n d k = omega arith

    other : (n d k : ℕ) → k * (d * n) ≡ n * (d * k)
    other n d k = omega arith

    heads : (n z : ℕ) → IsOver (n * (d * k)) (share d (X z)) (X z *ℤ pos (k * n))
    heads n z = subst (λ (t : ℕ). IsOver t (share d (X z)) (X z *ℤ pos (k * n))) (order n d k) (share_is d (k * n) (X z) some_d)

    turn : (n z : ℕ) → Y z *ℤ pos (d * n) ≡ X z *ℤ pos (k * n)
    turn n z = sym (mul_assoc (Y z) (pos d) (pos n)) ∙ ap (λ (t : ℤ). t *ℤ pos n) (sym (same z)) ∙ mul_assoc (X z) (pos k) (pos n)

    others : (n z : ℕ) → IsOver (n * (d * k)) (share k (Y z)) (X z *ℤ pos (k * n))
    others n z = subst (λ (t : ℕ). IsOver t (share k (Y z)) (X z *ℤ pos (k * n))) (other n d k) (subst (λ (t : ℤ). IsOver (k * (d * n)) (share k (Y z)) t) (turn n z) (share_is k (d * n) (Y z) some_k))

-- A choice is solved by the same heads, however they and those before it are written.
-- heads before a step that are the same numbers give steps that agree
head_agrees : (kind : FixedKind) (f g head : Fraction) → Same f g → Same (head_from kind f head) (head_from kind g head)
head_agrees Storage f g head same = same
head_agrees Constant f g head same = record { same = refl }
head_agrees General f g head same = record { same = refl }

fixed_agree : (f g : Fraction) → Same f g → (xs : List ExactFixed) → AllZip FixedAgrees (map (fixed_from f) xs) (map (fixed_from g) xs)
fixed_agree f g same [] = tt
fixed_agree f g same (x ∷ xs) = (record { conductance = refl; head = head_agrees x.kind f g x.head same }, fixed_agree f g same xs)

module _ (old new : ℕ → Fraction) where
  pub cells_agree : (cs : List ExactCell) → All (λ c. Same (old c) (new c)) (map (λ z. z.id) cs) → AllZip CellAgrees (step_from old cs) (step_from new cs)
  cells_agree [] same = tt
  cells_agree (c ∷ cs) same = (
    record {
      flows = refl;
      links = refl;
      fixed = fixed_agree (old c.id) (new c.id) (All-head (λ c. Same (old c) (new c)) c.id (map (λ (z : ExactCell). z.id) cs) same) c.fixed;
      rivers = refl;
      drains = refl;
      evaps = refl;
    },
    cells_agree cs (All-tail (λ c. Same (old c) (new c)) c.id (map (λ (z : ExactCell). z.id) cs) same),
  )

  pub ids_agree : (cs : List ExactCell) (k : ℕ) → (get_or (step_from old cs) k no_cell).id ≡ (get_or (step_from new cs) k no_cell).id
  ids_agree [] k = refl
  ids_agree (c ∷ cs) zero = refl
  ids_agree (c ∷ cs) (suc k) = ids_agree cs k

-- the same number over two denominators
pub over_again : (d k : ℕ) (f : Fraction) (x y : ℤ) → 0 < d → x *ℤ pos k ≡ y *ℤ pos d → IsOver d f x → IsOver k f y
over_again d k f x y some e over = record {
  is = cancel_same d _ _ some
      (last_factors_swap f.num (pos k) (pos d) ∙ ap (λ (z : ℤ). z *ℤ pos k) over.is ∙ last_factors_swap x (pos (den f)) (pos k) ∙ ap (λ (z : ℤ).
      z *ℤ pos (den f)) e ∙ last_factors_swap y (pos d) (pos (den f)));
}

-- the same heads, however they and those before are written, have zero balances
pub balances_same : (cs : List ExactCell) (old new : ℕ → Fraction) → All (λ c. Same (old c) (new c)) (map (λ z. z.id) cs) → (d k : ℕ) (X Y : ℕ → ℤ) →
    0 < d → 0 < k → ((c : ℕ) → X c *ℤ pos k ≡ Y c *ℤ pos d) → SolvesStep (step_from old cs) d (variable_heads (step_from old cs) X) →
    SolvesStep (step_from new cs) k (variable_heads (step_from new cs) Y)
balances_same cs old new same d k X Y some_d some_k heads solves =
    same_heads_solve (step_from old cs) (step_from new cs) (cells_agree old new cs same) d k _ _ some_d some_k
    (λ c. heads (cell_at (step_from old cs) c).id ∙ ap (λ (i : ℕ). Y i *ℤ pos d) (ids_agree old new cs c)) solves

pub solves_same : (m : FlowModel) (at : TimeStep) (x : Choice) (old new : ℕ → Fraction) → ((c : ℕ) → Same (old c) (new c)) → (d k : ℕ) (X Y : ℕ → ℤ) → 0 < d → 0 < k →
    ((c : ℕ) → X c *ℤ pos k ≡ Y c *ℤ pos d) → SolvesChoiceAt m at x old d X → SolvesChoiceAt m at x new k Y
solves_same m at x old new same d k X Y some_d some_k heads solves = record {
  constant = λ c h is. over_again d k _ (X c) (Y c) some_d (heads c) (solves.constant c h is);
  balances = balances_same x.cells old new (all_same (map (λ (z : ExactCell). z.id) x.cells)) d k X Y some_d some_k heads solves.balances;
}
  where
    all_same : (cs : List ℕ) → All (λ c. Same (old c) (new c)) cs
    all_same [] = All-nil (λ c. Same (old c) (new c))
    all_same (c ∷ cs) = All-cons (λ c. Same (old c) (new c)) c cs (same c) (all_same cs)
