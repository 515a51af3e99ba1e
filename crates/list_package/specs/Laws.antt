-- Statements of laws: what a file of lists gives is in limits.
use Rattle.std.specs.Prelude.{ℕ, List, All}
use Rattle.record_lines.specs.{GivesOnly}
use Rattle.model_types.specs.{HasSize, IsEntryList, IsGivenList, cell_count, declared.grid.Grid.Grid, declared.limits.Limits.Limits}
use Rattle.model_types.specs.{declared.period.Period.Period}
use Rattle.list_package.specs.{declared.entries.ListKind.ListKind, Entries.given_heads, Entries.lists_of, Kinds.entries_in, Kinds.kind_of}

-- WEL, RIV, DRN, GHB and CHD: the list of each stress period
pub record ListsKeepLimits : Type 0 where
  pub entries : (limits : Limits) (kind : ListKind) (file bytes : List ℕ) (g : Grid) (ps : List Period) → HasSize g →
      GivesOnly (All (λ p. IsEntryList (cell_count g) (entries_in kind p.stresses))) (lists_of limits (kind_of kind) file bytes g ps)
  pub given : (limits : Limits) (file bytes : List ℕ) (g : Grid) (ps : List Period) → HasSize g →
      GivesOnly (All (λ p. IsGivenList (cell_count g) p.stresses.given)) (lists_of limits given_heads file bytes g ps)
