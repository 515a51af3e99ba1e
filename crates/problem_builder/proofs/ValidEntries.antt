-- The entries of a cell are those of valid lists.
use Rattle.problem_builder.proofs.Common.{ℕ, ◌≤◌, ◌++◌, arith, All, ◌≡◌, ◌-◌, ◌<◌, length, sym, subst, All-append, All-filter, All-weaker, ◌==◌, Entry, Well, FlowModel, cell_count, cell_of}
use Rattle.problem_builder.proofs.Common.{entries_of, local_entries, period_at, entries, IsModel, IsPeriod, IsEntryValid, no_period, Period, IsEntryIn, List, AreEntriesIn, Wide, most_cells}
use Rattle.model_types.specs.declared.entry.Entry.TheVariants.{General, River, Drain}

pub wider : (n : ℕ) (x : Entry) → n ≤ most_cells Wide → IsEntryValid n x → IsEntryValid (most_cells Wide) x
wider n (Well cell q) le h = (omega (arith, le, h.0), h.1)
wider n (River cell stage k bottom) le h = (omega (arith, le, h.0), h.1, h.2, h.3)
wider n (Drain cell elevation k) le h = (omega (arith, le, h.0), h.1, h.2)
wider n (General cell head k) le h = (omega (arith, le, h.0), h.1, h.2)

pub all_entries : (m : FlowModel) (p : ℕ) → IsPeriod m (period_at m p) → All (IsEntryValid (cell_count m.grid)) (entries (period_at m p))
all_entries m p q =
    let P = IsEntryValid (cell_count m.grid) in
    let t = (period_at m p).stresses in
    let h = q.stresses in
    All-append P t.wells (t.rivers ++ (t.drains ++ t.generals)) h.wells.entries
    (All-append P t.rivers (t.drains ++ t.generals) h.rivers.entries (All-append P t.drains t.generals h.drains.entries h.generals.entries))

pub local_valid : (m : FlowModel) (p c : ℕ) → IsModel m → IsPeriod m (period_at m p) → All (IsEntryValid (most_cells Wide)) (local_entries m p c)
unfolding entries_of
local_valid m p c valid q =
    let n = cell_count m.grid in
    All-filter (λ x. cell_of x == c) (IsEntryValid (most_cells Wide)) (entries (period_at m p))
    (All-weaker (IsEntryValid n) (IsEntryValid (most_cells Wide)) (λ x h. wider n x valid.grid.size.cells h) (entries (period_at m p)) (all_entries m p q))

-- Stress periods by their numbers.
pub period_valid : (m : FlowModel) (p : ℕ) → IsModel m → (1 ≤ p) × (p ≤ length m.periods) → IsPeriod m (period_at m p)
period_valid m p valid r = valid.periods (p - 1) no_period (omega (arith, r.0, r.1))

entry_within : (n : ℕ) (x : Entry) → IsEntryValid n x → cell_of x < n
entry_within n (Well cell q) h = h.0
entry_within n (River cell stage k bottom) h = h.0
entry_within n (Drain cell elevation k) h = h.0
entry_within n (General cell head k) h = h.0

-- the entries of a period lie in the grid
pub entries_in : (m : FlowModel) (p count : ℕ) (x : Period) → IsModel m → (1 ≤ p) × (p ≤ length m.periods) → x ≡ period_at m p → count ≡ cell_count m.grid → AreEntriesIn count x
entries_in m p count x valid r e f =
    let n = cell_count m.grid in
    let h = (period_valid m p valid r).stresses in
    let each : (xs : List Entry) → All (IsEntryValid n) xs → All (IsEntryIn n) xs = All-weaker (IsEntryValid n) (IsEntryIn n) (λ y h. (entry_within n y h, wider n y valid.grid.size.cells h)) in
    subst (AreEntriesIn count) (sym e) (subst (λ (k : ℕ). AreEntriesIn k (period_at m p)) (sym f) (record {
      wells = each _ h.wells.entries;
      rivers = each _ h.rivers.entries;
      drains = each _ h.drains.entries;
      generals = each _ h.generals.entries;
    }))
