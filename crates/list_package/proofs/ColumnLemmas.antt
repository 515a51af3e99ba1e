-- Entries whose numbers passed the tests of their columns are in limits.
use Rattle.list_package.proofs.Common.{◌≡◌, ℕ, ◌<◌, Bool, true, false, List, [], ◌∷◌, length, All, Option, Some, None, refl, sym, subst, arith, All-weaker, if◌then◌else◌, All-head, All-tail, IsDec}
use Rattle.list_package.proofs.Common.{HeadTooLarge, column_fault, first_fault, or_later, IsHeadNumber, IsNotNegative, IsEntryList, IsEntryValid, IsGivenList, IsGivenValid, IsEntry, IsListOf}
use Rattle.list_package.proofs.Common.{given_heads, kind_of, AllZip, Dec, Code, columns_of, entry_with, CellId, Limits, Period, gives_only_less, ListsKeepLimits, entries_in, with_entries, cell_count}
use Rattle.number_limits.specs.{is_head}
use Rattle.number_limits.proofs.HeadLemmas.{head_of}
use Rattle.list_package.specs.{declared.columns.Column.Column, declared.columns.Column.TheVariants.Rate, declared.columns.Column.TheVariants.Head, declared.columns.Column.TheVariants.Conductance}
use Rattle.list_package.specs.{declared.entries.ListKind.ListKind, declared.entries.ListKind.TheVariants.Wells, declared.entries.ListKind.TheVariants.Rivers}
use Rattle.list_package.specs.{declared.entries.ListKind.TheVariants.Drains, declared.entries.ListKind.TheVariants.Generals}
use Rattle.model_types.proofs.WideLimits.{entries_few}
use Rattle.model_types.specs.{declared.entry.Entry.Entry, declared.period.Stresses.Stresses}
use Rattle.model_types.specs.declared.entry.Given.{Given}
use Rattle.list_package.proofs.ListForms.{lists_are}

-- a number in canonical form that passed the test of its column
abbrev IsColumn : Column → Dec → Type 0
IsColumn Rate x = IsDec x
IsColumn Head x = IsHeadNumber x
IsColumn Conductance x = IsNotNegative x

neither : (a b : Option Code) → or_later a b ≡ None → (a ≡ None) × (b ≡ None)
neither None b e = (refl, e)
neither (Some code) b e = absurd cc

passes_column : (c : Column) (x : Dec) → IsDec x → column_fault c x ≡ None → IsColumn c x
passes_column Rate x h e = h
passes_column Head x h e = by_case (is_head x) refl e
  where
    by_case : (b : Bool) → is_head x ≡ b → (if b then None else Some HeadTooLarge) ≡ None → IsHeadNumber x
    by_case true p e = head_of x h p
    by_case false p e = absurd cc
passes_column Conductance x h e = grind (arith)

pass_columns : (cs : List Column) (xs : List Dec) → length xs ≡ length cs → All IsDec xs → first_fault cs xs ≡ None → AllZip IsColumn cs xs
pass_columns [] [] n h e = tt
pass_columns [] (x ∷ xs) n h e = absurd (omega (arith, n))
pass_columns (c ∷ cs) [] n h e = absurd (omega (arith, n))
pass_columns (c ∷ cs) (x ∷ xs) n h e =
    let both = neither (column_fault c x) (first_fault cs xs) e in
    (passes_column c x (All-head IsDec x xs h) both.0, pass_columns cs xs (omega (arith, n)) (All-tail IsDec x xs h) both.1)

entry_of : (k : ListKind) (cells : ℕ) (c : CellId) (xs : List Dec) → length xs ≡ length (columns_of k) → c.0 < cells → AllZip IsColumn (columns_of k) xs → IsEntryValid cells (entry_with k c xs)
entry_of Wells cells c (a ∷ []) n low h = (low, h.0)
entry_of Rivers cells c (a ∷ b ∷ d ∷ []) n low h = (low, h.0, h.1.0, h.1.1.0)
entry_of Drains cells c (a ∷ b ∷ []) n low h = (low, h.0, h.1.0)
entry_of Generals cells c (a ∷ b ∷ []) n low h = (low, h.0, h.1.0)
entry_of k cells c xs n low h = absurd (omega (arith, n))

entry_valid : (k : ListKind) (cells : ℕ) (x : Entry) → IsEntry (kind_of k) cells x → IsEntryValid cells x
entry_valid k cells x h = grind (arith, entry_of, pass_columns)

given_of : (cells : ℕ) (c : CellId) (xs : List Dec) → length xs ≡ 2 → c.0 < cells → AllZip IsColumn (Head ∷ Head ∷ []) xs → IsGivenValid cells (given_heads.entry c xs)
given_of cells c (a ∷ b ∷ []) n low h = record { cell = low; shead = h.0; ehead = h.1.0 }
given_of cells c xs n low h = absurd (omega (arith, n))

given_valid : (cells : ℕ) (x : Given) → IsEntry given_heads cells x → IsGivenValid cells x
given_valid cells x h =
    subst (IsGivenValid cells) (sym h.is) (given_of cells h.cell h.numbers h.count h.inside (pass_columns (Head ∷ Head ∷ []) h.numbers h.count h.canonical h.passes))

-- A period's lists are in limits.
pub entry_list : (limits : Limits) (k : ListKind) (cells : ℕ) (p : Period) (xs : List Entry) → IsListOf limits (kind_of k) cells p xs → IsEntryList cells xs
entry_list limits k cells p xs h = record { few = omega (arith, h.few, entries_few limits); entries = All-weaker (IsEntry (kind_of k) cells) (IsEntryValid cells) (entry_valid k cells) xs h.entries }

pub given_list : (limits : Limits) (cells : ℕ) (p : Period) (xs : List Given) → IsListOf limits given_heads cells p xs → IsGivenList cells xs
given_list limits cells p xs h = grind (arith, entries_few, given_valid)

-- So are the lists that a file gives.
pub entry_place_is_cell : (k : ListKind) (c : CellId) (xs : List Dec) → (kind_of k).place ((kind_of k).entry c xs) ≡ c.0
entry_place_is_cell Wells c xs = refl
entry_place_is_cell k c xs = refl

entries_put : (k : ListKind) (s : Stresses) (xs : List Entry) → entries_in k (with_entries k s xs) ≡ xs
entries_put Wells s xs = refl
entries_put k s xs = refl

pub lists_keep_limits : ListsKeepLimits
lists_keep_limits = record {
  entries = λ limits k file bytes g ps size.
      gives_only_less (lists_are limits (kind_of k) (entry_place_is_cell k) file g size (λ p. Unit {0}) (λ p.
      IsEntryList (cell_count g) (entries_in k p.stresses))
      (λ p xs known is. rw (entries_put k p.stresses xs) (entry_list limits k (cell_count g) p xs is)) bytes ps (λ i d lt. tt)) (λ qs is. is.0);
  given = λ limits file bytes g ps size. gives_only_less (lists_are limits given_heads (λ c xs. refl) file g size (λ p. Unit {0}) (λ p. IsGivenList (cell_count g) p.stresses.given)
      (λ p xs known is. given_list limits (cell_count g) p xs is) bytes ps (λ i d lt. tt)) (λ qs is. is.0);
}
