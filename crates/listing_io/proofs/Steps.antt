-- The steps of a listing, and a whole listing, are read as they are written.
use Rattle.listing_io.proofs.Common.{◌≡◌, ◌⊎◌, inl, inr, ℕ, ◌+◌, ◌≤◌, Bool, true, false, ◌||◌, List, [], ◌∷◌, ◌++◌, length, map, refl, sym, ap, ◌∙◌, subst, Ok, bytes_eq, AllZip, AllByRecursion}
use Rattle.listing_io.proofs.Common.{append_assoc, recursion_from_All, bytes_eq-Decides, lines, next_number, for_each, In, Out, ZoneFlow, FlowModel, TimeStep, cell_count, times, ZonePair}
use Rattle.listing_io.proofs.Common.{zones_of_flow, ListedStep, Line, first_line, step_line, head_lines, term_lines, has_evt, zone_line, zone_pair, step_lines, all_step_lines, end_line, listing, Left}
use Rattle.listing_io.proofs.Common.{all_lines, line_at, text_at, heads_at, terms_at, flow_at, step_with, step_at, first_line_before, first_at, listing_at, IsListing, ListingsWereWritten, is_first}
use Rattle.listing_io.proofs.Common.{Budget, each_lines, IsCellBound, IsFlowPair, AreFlows, IsListedAt, IsListedStep, AreListed, range_with_len, AllZip-length, AllZip-right}
use Rattle.std.proofs.lemmas.List.FromFn.{length-range_with_len}
use Rattle.listing_io.proofs.{Terms.IsReader, Terms.all_read, Terms.bind_goes_through, Terms.same_ok, Terms.left_of, Terms.lines_in, Terms.lines_out, Rows.whole_was, Readers.IsFlowOf}
use Rattle.listing_io.proofs.{Readers.choice_is_ok, Readers.flow_rows, Readers.flows_read, Readers.heads_read, Readers.line_row, Readers.terms_read, Readers.text_again, Readers.text_row}

-- flows between pairs of zones
abbrev pub IsSmall : ZoneFlow → Type 0
IsSmall v = IsFlowPair (zone_pair v)

flows_are : (zs : List ZonePair) (vs : List ZoneFlow) → AllZip IsFlowOf zs vs → map zones_of_flow vs ≡ zs
flows_are [] [] h = refl
flows_are [] (v ∷ vs) h = absurd h
flows_are (z ∷ zs) [] h = absurd h
flows_are (z ∷ zs) (v ∷ vs) h = λ i. h.0.pair i ∷ flows_are zs vs h.1 i

pub are_flows : (zs : List ZonePair) (vs : List ZoneFlow) → AllZip IsFlowOf zs vs → AreFlows zs vs
are_flows zs vs h = record { pairs = flows_are zs vs h; small = AllZip-right IsFlowOf IsSmall (λ z v k. k.small) zs vs h }

small_flows : (vs : List ZoneFlow) → AllByRecursion IsSmall vs → AllZip IsFlowOf (map zones_of_flow vs) vs
small_flows [] h = tt
small_flows (v ∷ vs) h = (record { pair = refl; small = h.0 }, small_flows vs h.1)

pub flows_of : (zs : List ZonePair) (vs : List ZoneFlow) → AreFlows zs vs → AllZip IsFlowOf zs vs
flows_of zs vs h = let P : List ZonePair → Type 0 = λ ys. AllZip IsFlowOf ys vs in subst P h.pairs (small_flows vs (recursion_from_All IsSmall vs h.small))

pub flow_lines : (s : ℕ) (zs : List ZonePair) (vs : List ZoneFlow) → AllZip IsFlowOf zs vs → each_lines (flow_rows s) zs vs ≡ map (zone_line s) vs
flow_lines s [] [] h = refl
flow_lines s [] (v ∷ vs) h = absurd h
flow_lines s (z ∷ zs) [] h = absurd h
flow_lines s (z ∷ zs) (v ∷ vs) h = ap (λ (rows : List Line). zone_line s v ∷ rows) (flow_lines s zs vs h.1)

abbrev IsStepWith : FlowModel → List ZonePair → ListedStep → Type 0
IsStepWith m zs x = IsListedStep m x × AreFlows zs x.zones

abbrev rows_at : FlowModel → ℕ → TimeStep → ListedStep → List Line
rows_at m s at x = step_lines m s at x.heads x.budget x.zones

abbrev cells : FlowModel → List ℕ
cells m = range_with_len 0 (cell_count m.grid)

pub bounds_of : (m : FlowModel) (x : ListedStep) → IsListedStep m x → AllZip (IsCellBound m) (cells m) x.heads
bounds_of m x h = subst (λ n. AllZip (IsCellBound m) (range_with_len 0 n) x.heads) h.whole h.heads

step_again : (m : FlowModel) (s : ℕ) (zs : List ZonePair) (at : TimeStep) → s ≤ 18 → (x : ListedStep) (rest : List Line) (n : ℕ) → IsStepWith m zs x → (k : ℕ) ×
    (step_with m s zs at (left_of (rows_at m s at x ++ rest) n) ≡ Ok (x, left_of rest k))
unfolding step_with step_lines
step_again m s zs at few x rest n h =
    let evt = has_evt m in
    let a = head_lines m x.heads in
    let b = term_lines m s In x.budget in
    let c = term_lines m s Out x.budget in
    let f = map (zone_line s) x.zones in
    let flows = flows_of zs x.zones h.1 in
    let (i, heads_are) = (heads_read m s).again few x.heads (b ++ (c ++ (f ++ rest))) (next_number n) (bounds_of m x h.0) in
    let (j, into_are) = (terms_read s In evt).again few x.budget.into (c ++ (f ++ rest)) i h.0.into in
    let (k, out_are) = (terms_read s Out evt).again few x.budget.out (f ++ rest) j h.0.out in
    let (l, flows_are) = (flows_read s zs).again few x.zones rest k flows in
    let into_read = rw (lines_in m s x.budget h.0.into) at into_are in
    let out_read = rw (lines_out m s x.budget h.0.out) at out_are in
    let flows_read = rw (flow_lines s zs x.zones flows) at flows_are in (
      l,
      ap (λ (t : List Line). step_with m s zs at (left_of (step_line at ∷ t) n)) (regroup a b c f rest) ∙ rw
          (text_again (step_line at) (a ++ (b ++ (c ++ (f ++ rest)))) n, heads_are, into_read, out_read, flows_read) refl,
    )
  where
    regroup : (a b c f d : List Line) → (a ++ (b ++ (c ++ f))) ++ d ≡ a ++ (b ++ (c ++ (f ++ d)))
    regroup a b c f d = simp append_assoc

step_was : (m : FlowModel) (s : ℕ) (zs : List ZonePair) (at : TimeStep) (left : Left) (got : ListedStep × Left) → step_with m s zs at left ≡ Ok got →
    IsStepWith m zs got.0 × (left.lines ≡ rows_at m s at got.0 ++ got.1.lines)
unfolding step_with step_lines
step_was m s zs at left got h =
    let evt = has_evt m in
    let title = bind_goes_through (text_at (step_line at) left) _ got h in
    let heads = bind_goes_through (heads_at m title.item) _ got title.then_ in
    let into = bind_goes_through (terms_at evt s In heads.item.1) _ got heads.then_ in
    let out = bind_goes_through (terms_at evt s Out into.item.1) _ got into.then_ in
    let flows = bind_goes_through (for_each (flow_at s) zs out.item.1) _ got out.then_ in
    let (bounds, head_rows) = (heads_read m s).was title.item heads.item heads.first in
    let (pairs_in, in_rows) = (terms_read s In evt).was heads.item.1 into.item into.first in
    let (pairs_out, out_rows) = (terms_read s Out evt).was into.item.1 out.item out.first in
    let (are, zone_rows) = (flows_read s zs).was out.item.1 flows.item flows.first in
    let budget : Budget = record { into = into.item.0; out = out.item.0 } in
    let whole : length heads.item.0 ≡ cell_count m.grid = sym (AllZip-length (IsCellBound m) (cells m) heads.item.0 bounds) ∙ length-range_with_len 0 (cell_count m.grid) in
    let a = head_lines m heads.item.0 in
    let b = term_lines m s In budget in
    let c = term_lines m s Out budget in
    let f = map (zone_line s) flows.item.0 in
    let into_rows = rw (lines_in m s budget pairs_in) at in_rows in
    let outward = rw (lines_out m s budget pairs_out) at out_rows in
    let flow_rows_are = rw (flow_lines s zs flows.item.0 are) at zone_rows in
    let P : ListedStep × Left → Type 0 = λ x. IsStepWith m zs x.0 × (left.lines ≡ rows_at m s at x.0 ++ x.1.lines) in
    subst P (same_ok (record { heads = heads.item.0; budget = budget; zones = flows.item.0 }, flows.item.1) got _ refl flows.then_) (
      (record { whole = whole; heads = subst (λ n. AllZip (IsCellBound m) (range_with_len 0 n) heads.item.0) (sym whole) bounds; into = pairs_in; out = pairs_out }, are_flows zs flows.item.0 are),
      text_row (step_line at) left title.item title.first
          ∙ ap (λ (t : List Line). step_line at ∷ t)
          (head_rows ∙ ap (λ (t : List Line). a ++ t) (into_rows ∙ ap (λ (t : List Line). b ++ t) (outward ∙ ap (λ (t : List Line). c ++ t) flow_rows_are))
          ∙ regroup a b c f flows.item.1.lines),
    )
  where
    regroup : (a b c f d : List Line) → a ++ (b ++ (c ++ (f ++ d))) ≡ (a ++ (b ++ (c ++ f))) ++ d
    regroup a b c f d = simp append_assoc

module _ (m : FlowModel) (s : ℕ) (pairs : ℕ → List ZonePair) where
  pub steps_read : IsReader s (for_each (step_at m s pairs) (times m)) (all_step_lines m s (times m)) (AllZip (IsListedAt m pairs) (times m))
  unfolding all_step_lines
  steps_read = all_read s (step_at m s pairs) (rows_at m s) (IsListedAt m pairs) (λ at. record { again = step_again m s (pairs at.period) at; was = step_was m s (pairs at.period) at }) (times m)

first_again : (between : Bool) (m : FlowModel) (s : ℕ) (rest : List Line) (n : ℕ) → first_at between m s (left_of (first_line between m s ∷ rest) n) ≡ Ok (left_of rest (next_number n))
unfolding first_at
first_again false m s rest n = rw ((bytes_eq-Decides (first_line false m s) (first_line false m s)).1 refl) refl
first_again true m s rest n = rw ((bytes_eq-Decides (first_line true m s) (first_line true m s)).1 refl) refl

-- The lines of a listing are read as its steps.
pub rows_again : (between : Bool) (m : FlowModel) (s : ℕ) (pairs : ℕ → List ZonePair) (steps : List ListedStep) → s ≤ 18 → AreListed m pairs steps →
    listing_at between m s pairs (left_of (listing between m s steps) 1) ≡ Ok steps
unfolding listing_at listing
rows_again between m s pairs steps few h =
    let (k, read) = (steps_read m s pairs).again few steps (end_line ∷ []) (next_number 1) h.steps in
    rw (first_again between m s (all_step_lines m s (times m) steps ++ (end_line ∷ [])) 1, read, text_again end_line [] k) refl

-- What was read is a listing, and its lines are those of the steps.
either : (a b : Bool) → (a || b) ≡ true → (a ≡ true) ⊎ (b ≡ true)
either true b h = inl refl
either false b h = inr h

abbrev IsKnown : Bool → FlowModel → ℕ → Line → Type 0
IsKnown between m s row = (row ≡ first_line between m s) ⊎ ((between ≡ false) × (row ≡ first_line_before))

first_known : (between : Bool) (m : FlowModel) (s : ℕ) (row : Line) → is_first between m s row ≡ true → IsKnown between m s row
first_known true m s row h = inl (sym ((bytes_eq-Decides (first_line true m s) row).0 h))
first_known false m s row h = elim (either (bytes_eq (first_line false m s) row) (bytes_eq first_line_before row) h) [
  | inl e ↦ inl (sym ((bytes_eq-Decides (first_line false m s) row).0 e))
  | inr e ↦ inr (refl, sym ((bytes_eq-Decides first_line_before row).0 e))
]

first_was : (between : Bool) (m : FlowModel) (s : ℕ) (left after : Left) → first_at between m s left ≡ Ok after → (row : Line) × IsKnown between m s row × (left.lines ≡ row ∷ after.lines)
unfolding first_at
first_was between m s left after h =
    let line = bind_goes_through (line_at left) _ after h in
    let (test, same) = choice_is_ok (is_first between m s line.item.0) left.number line.item.1 after line.then_ in
    (line.item.0, first_known between m s line.item.0 test, line_row left line.item line.first ∙ ap (λ (x : Left). line.item.0 ∷ x.lines) same)

-- a first line and the further lines of a listing are the listing's lines
whole_listing : (between : Bool) (m : FlowModel) (s : ℕ) (steps : List ListedStep) (row : Line) (rows : List Line) → IsKnown between m s row → rows ≡
    row ∷ (all_step_lines m s (times m) steps ++ (end_line ∷ [])) → IsListing between m s steps rows
unfolding listing
whole_listing between m s steps row rows (inl e) h = inl (h ∙ ap (λ (r : Line). r ∷ (all_step_lines m s (times m) steps ++ (end_line ∷ []))) e)
whole_listing between m s steps row rows (inr (is, e)) h = inr (is, h ∙ ap (λ (r : Line). r ∷ (all_step_lines m s (times m) steps ++ (end_line ∷ []))) e)

listing_was : (between : Bool) (m : FlowModel) (s : ℕ) (pairs : ℕ → List ZonePair) (left : Left) (steps : List ListedStep) → listing_at between m s pairs left ≡
    Ok steps → AreListed m pairs steps × IsListing between m s steps left.lines
unfolding listing_at
listing_was between m s pairs left steps h =
    let was = whole_was (first_at between m s left) (for_each (step_at m s pairs) (times m)) steps h in
    let (row, known, title) = first_was between m s left was.after was.started in
    let (are, rows) = (steps_read m s pairs).was was.after (steps, was.last) was.read_is in (
      record { steps = are },
      whole_listing between m s steps row left.lines known (title ∙ ap (λ (t : List Line). row ∷ t) (rows ∙ ap (λ (t : List Line). all_step_lines m s (times m) steps ++ t) was.end)),
    )

pub listed_is : (between : Bool) (m : FlowModel) (s : ℕ) (pairs : ℕ → List ZonePair) (left : Left) (steps : List ListedStep) → listing_at between m s pairs left ≡ Ok steps → AreListed m pairs steps
listed_is between m s pairs left steps h = (listing_was between m s pairs left steps h).0

pub listings_were_written : ListingsWereWritten
listings_were_written between m s pairs text steps h = (listing_was between m s pairs (all_lines text) steps h).1
