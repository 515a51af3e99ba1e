-- The bounds of the starting heads of decks.
use Rattle.deck_problems.proofs.Common.{◌≡◌, ◌<◌, ◌∙◌, ℕ, Option, Some, None, List, length, sym, subst, arith, IfSome, get_or_default, Bound, IsHead, no_bound, lower_at, upper_at, FlowModel}
use Rattle.deck_problems.proofs.Common.{start_head, IsModel, AreGridHeads, HeadsEnclose, bound_at, lower_head, upper_head, IsFractionBetween, IsStartOf, Fraction, hull_of_numbers, Decks, IsSecond}
use Rattle.deck_problems.proofs.Common.{IsHullBound, AreHullBounds, StartHeadsAreOne, StartHeadsFit, StartHeadsEnclose, AreStartHeads, AreStartHulls, AreStartsBy, AreStartHeadsFor, refl, ext_get_or}
use Rattle.deck_problems.proofs.Common.{each_cell, start_bound, starts_fit, starts_enclose}
use Rattle.deck_problems.proofs.{Enclosing.second_cells, OneProblem.cell_of_member}

same_hull : (a b x y : Bound) → IsHullBound a b x → IsHullBound a b y → x ≡ y
same_hull a b x y h k = grind (arith)

one_hulls : (xs ys rs us : List Bound) → AreHullBounds xs ys rs → AreHullBounds xs ys us → rs ≡ us
one_hulls xs ys rs us h k = ext_get_or no_bound rs us (h.whole ∙ sym k.whole) (λ c lt.
    let r : c < length xs = omega (arith, lt, h.whole) in same_hull (bound_at xs c) (bound_at ys c) (bound_at rs c) (bound_at us c) (h.each c r) (k.each c r))

module _ (a b : FlowModel) (valid : IsModel a) (second : IsSecond a b) (x : List Bound) (h : AreStartHulls a b x) where
  abbrev xs : List Bound
  xs = each_cell a (start_bound a)

  abbrev ys : List Bound
  ys = each_cell b (start_bound b)

  first_grid : AreGridHeads a xs
  first_grid = starts_fit a xs valid refl

  second_grid : AreGridHeads b ys
  second_grid = starts_fit b ys second.model refl

  each_fits : (c : ℕ) → c < length xs → IsHead (bound_at x c).low × IsHead (bound_at x c).high
  each_fits c lt =
      let below : c < length ys = omega (arith, lt, first_grid.whole, second_grid.whole, (second_cells a b second).count) in
      let p = first_grid.range c no_bound lt in
      let q = second_grid.range c no_bound below in
      (lower_head _ _ _ _ _ _ (h.each c lt) p.0 q.0, upper_head _ _ _ _ _ _ (h.each c lt) p.1 q.1)

  hulls_fit : AreGridHeads a x
  hulls_fit =
      let AreHeads : Bound → Type 0 = λ b. IsHead b.low × IsHead b.high in
      record {
        whole = h.whole ∙ first_grid.whole;
        range = λ c d lt. subst AreHeads (get_or_default x c no_bound d lt) (each_fits c (omega (arith, lt, h.whole)));
      }

  hulls_enclose_starts : (f : ℕ → Fraction) → ((c : ℕ) → IsFractionBetween (start_head a c) (f c) (start_head b c)) → HeadsEnclose a x f
  hulls_enclose_starts f between c active =
      hull_of_numbers _ _ _ _ (lower_at x c) (upper_at x c) 9 (start_head a c) (f c) (start_head b c) (h.each c (omega (arith, active.within, first_grid.whole)))
      (starts_enclose a xs refl c active) (starts_enclose b ys refl c (cell_of_member a b (second_cells a b second) c active)) (between c)

one_by : (a : FlowModel) (o : Option FlowModel) (x y : List Bound) → AreStartsBy a o x → AreStartsBy a o y → x ≡ y
one_by a None x y h k = h ∙ sym k
one_by a (Some b) x y h k = one_hulls (each_cell a (start_bound a)) (each_cell b (start_bound b)) x y h k

fit_by : (a : FlowModel) (o : Option FlowModel) (x : List Bound) → IsModel a → IfSome o (IsSecond a) → AreStartsBy a o x → AreGridHeads a x
fit_by a None x valid second h = starts_fit a x valid h
fit_by a (Some b) x valid second h = hulls_fit a b valid second x h

enclose_by : (a : FlowModel) (o : Option FlowModel) (x : List Bound) → IsModel a → IfSome o (IsSecond a) → AreStartsBy a o x →
    (f : ℕ → Fraction) → IsStartOf a o f → HeadsEnclose a x f
enclose_by a None x valid second h f is = subst (HeadsEnclose a x) (sym is) (starts_enclose a x h)
enclose_by a (Some b) x valid second h f is = hulls_enclose_starts a b valid second x h f is

pub starts_are_one : StartHeadsAreOne
starts_are_one d x y decks h k = one_by d.first d.second x y h k

pub starts_fit_decks : StartHeadsFit
starts_fit_decks d x decks h = fit_by d.first d.second x decks.first decks.second h

pub starts_enclose_all : StartHeadsEnclose
starts_enclose_all d x decks h = enclose_by d.first d.second x decks.first decks.second h

pub starts_hulled : (d : Decks) (b : FlowModel) → d.second ≡ Some b → (xs ys rs : List Bound) → AreStartHeads d.first xs → AreStartHeads b ys → AreHullBounds xs ys rs → AreStartHeadsFor d rs
starts_hulled d b is xs ys rs h k r = grind (arith)
