-- The cells of a step are a problem.
use Rattle.problem_builder.proofs.Common.{[], index_of, map, CellFits, In-get_or, filter_map, get_or-map, length-map, map-In, In-map, refusal_of, AreBranches, AreCellsOver, Branches, cell_over}
use Rattle.problem_builder.proofs.Common.{link_over, model_branches, ◌≡◌, ℕ, ◌<◌, inl, inr, Bool, true, List, length, get_or, sym, ap, ◌∙◌, subst, arith, Contains, cases_order, Bound, Link, Entries}
use Rattle.problem_builder.proofs.Common.{entries_at, no_entries, no_link, LinksFit, IsProblem, Face, FlowModel, TimeStep, cell_count, is_variable, variable_faces, IsModel, In, Contains-In, All-In}
use Rattle.problem_builder.proofs.Common.{Ordered, Ordered-at, IsFaceOf, passing_are, passing_have, end_within, end_other, face_back, turned, ends_ascend, few_faces, passing, rank, rank_below}
use Rattle.problem_builder.proofs.Common.{rank_apart, at_rank, is_at, IsAt, rank_few, below_is, index_is, AreGridHeads, IsTimeOf, AreCells, Ordered-map}
use Rattle.problem_builder.proofs.{CellFits.cell_fits, CellFits.model_has_branches, Sound.no_refusal_is_no_fault}

module _ (m : FlowModel) (s : ℕ) (at : TimeStep) (old : List Bound) (b : Branches) (sound_branches : AreBranches m at b) (valid : IsModel m)
    (time : IsTimeOf m at) (grid : AreGridHeads m old) where
  abbrev test : ℕ → Bool
  test = is_variable m at.period

  abbrev numbers : List ℕ
  numbers = passing test (cell_count m.grid)

  -- the number of the cell of an index
  abbrev number : ℕ → ℕ
  number i = get_or numbers i 0

  abbrev cell : ℕ → Entries
  cell = cell_over m s at old b

  abbrev link : Face → Link
  link = link_over m s at old b

  abbrev es : List Entries
  es = map cell numbers

  count_is : length es ≡ rank test (cell_count m.grid)
  count_is = length-map numbers cell

  cell_is : (i : ℕ) → i < length es → entries_at es i ≡ cell (number i)
  cell_is i lt = get_or-map cell numbers i 0 no_entries (omega (arith, lt, length-map numbers cell))

  place : (i : ℕ) → i < length es → IsAt test (cell_count m.grid) i (number i)
  place i lt = is_at test (cell_count m.grid) i (omega (arith, lt, count_is))

  index_within : (c : ℕ) → test c ≡ true → c < cell_count m.grid → rank test c < length es
  index_within c v lt = omega (arith, count_is, rank_below test c (cell_count m.grid) v lt)

  number_of : (c : ℕ) → test c ≡ true → c < cell_count m.grid → number (rank test c) ≡ c
  number_of c v lt = at_rank test (cell_count m.grid) c v lt

  ascending : (c d : ℕ) → c < d → d < length es → (entries_at es c).id < (entries_at es d).id
  ascending c d lt within =
      let a = place c (omega (arith, lt, within)) in
      let z = place d within in
      let x : (entries_at es c).id ≡ number c = ap (λ (e : Entries). e.id) (cell_is c (omega (arith, lt, within))) in
      let y : (entries_at es d).id ≡ number d = ap (λ (e : Entries). e.id) (cell_is d within) in
      elim (cases_order (number c) (number d)) [
        | inl same ↦ absurd (omega (arith, lt, a.index, z.index, (let e : rank test (number c) ≡ rank test (number d) = ap (rank test) same in e)))
        | inr (inl less) ↦ omega (arith, x, y, less)
        | inr (inr more) ↦ absurd (omega (arith, lt, a.index, z.index, rank_below test (number d) (number c) z.passes more))
      ]

  module _ (i : ℕ) (lt : i < length es) where
    abbrev here : ℕ
    here = number i

    abbrev links : List Link
    links = map link (variable_faces m at.period here)

    -- a link of the cell comes from a face to a variable neighbour
    from_face : (x : Link) → In links x → (f : Face) × IsFaceOf m.grid here f × (test f.end ≡ true) × (link f ≡ x)
    from_face x j =
        let (f, k, e) = map-In link (variable_faces m at.period here) x j in
        let (g, v) = passing_are m.grid test here f k in
        (f, g, v, e)

    -- it leads to the index of the neighbour
    there : (x : Link) (f : Face) → link f ≡ x → x.cell ≡ rank test f.end
    there x f e = sym (ap (λ (y : Link). y.cell) e) ∙ index_is m at.period f.end

    within_count : (x : Link) → In links x → x.cell < length es
    within_count x j =
        let (f, g, v, e) = from_face x j in
        omega (arith, there x f e, index_within f.end v (end_within m.grid here f valid.grid.size (place i lt).within g))

    other : (x : Link) → In links x → x.cell ≡ i → ⊥
    other x j same =
        let (f, g, v, e) = from_face x j in
        end_other m.grid here f valid.grid.size g (rank_apart test f.end here v (place i lt).passes (sym (there x f e) ∙ same ∙ sym (place i lt).index))

    ordered : Ordered (λ (x y : Link). x.cell < y.cell) links
    ordered = Ordered-map (λ (x y : Face). x.end < y.end) (λ (x y : Link). x.cell < y.cell) link (variable_faces m at.period here)
        (λ f g j k less. omega (arith, index_is m at.period f.end, index_is m at.period g.end, rank_below test f.end g.end (passing_are m.grid test here f j).1 less))
        (ends_ascend m.grid here test valid.grid.size)

    -- the link back, at the other end
    back : (x : Link) → In links x → Contains (entries_at es x.cell).links (record { cell = i; lo = x.lo; hi = x.hi })
    back x j =
        let (f, g, v, e) = from_face x j in
        let inside = end_within m.grid here f valid.grid.size (place i lt).within g in
        let named : number x.cell ≡ f.end = ap number (there x f e) ∙ number_of f.end v inside in
        let far : (entries_at es x.cell).links ≡ map link (variable_faces m at.period f.end) =
        ap (λ (z : Entries). z.links) (cell_is x.cell (within_count x j)) ∙ ap (λ c. map link (variable_faces m at.period c)) named in
        let member : In (variable_faces m at.period f.end) (turned here f) = passing_have m.grid test f.end (turned here f) (face_back m.grid here f valid.grid.size g) (place i lt).passes in
        let cell : index_of m at.period here ≡ i = index_is m at.period here ∙ (place i lt).index in
        let same : link (turned here f) ≡ record { cell = i; lo = x.lo; hi = x.hi } = λ t. record { cell = cell t; lo = (e t).lo; hi = (e t).hi } in
        Contains-In (entries_at es x.cell).links _ (subst (λ (ys : List Link). In ys (record { cell = i; lo = x.lo; hi = x.hi })) (sym far)
        (subst (In (map link (variable_faces m at.period f.end))) same (In-map link (variable_faces m at.period f.end) (turned here f) member)))

    links_fit : LinksFit es i links
    links_fit = record {
      few = omega (arith, length-map (variable_faces m at.period here) link, few_faces m.grid test here);
      within = All-In (λ x. x.cell < length es) links within_count;
      others = All-In (λ x. x.cell ≡ i → ⊥) links other;
      apart = (λ a b less k same. omega (arith, same, Ordered-at (λ (x y : Link). x.cell < y.cell) links a b no_link ordered less k));
      mutual_ends = All-In (λ x. Contains (entries_at es x.cell).links (record { cell = i; lo = x.lo; hi = x.hi })) links back;
    }

  cells_fit : filter_map refusal_of es ≡ [] → IsProblem es
  cells_fit sound = record {
    few = omega (arith, count_is, rank_few test (cell_count m.grid), valid.grid.size.cells);
    ascending = ascending;
    cells = (λ i lt. let k = place i lt in
        let none = no_refusal_is_no_fault es sound (cell (number i)) (subst (In es) (cell_is i lt) (In-get_or es i no_entries lt)) in
        subst CellFits (sym (cell_is i lt)) (cell_fits m s at old b sound_branches valid time grid (number i) k.within k.passes none));
    links = (λ i lt. subst (λ (e : Entries). LinksFit es i e.links) (sym (cell_is i lt)) (links_fit i lt));
  }

  pub is_problem_over : (p : List Entries) → AreCellsOver m s at old b (cell_count m.grid) p → IsProblem p
  is_problem_over p are =
      let e : p ≡ es = are.each ∙ ap (map cell) (below_is m at.period (cell_count m.grid)) in
      subst IsProblem (sym e) (cells_fit (ap (filter_map refusal_of) (sym e) ∙ are.sound))

-- of a confined model
pub is_problem : (m : FlowModel) (s : ℕ) (at : TimeStep) (old : List Bound) → IsModel m → IsTimeOf m at → AreGridHeads m old → (p : List Entries) →
    AreCells m s at old (cell_count m.grid) p → IsProblem p
is_problem m s at old valid = is_problem_over m s at old (model_branches m s at) (model_has_branches m s at valid) valid
