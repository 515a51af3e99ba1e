-- Lines with two numbers, by what they are about: the beginning and the form of each.
use Rattle.std.specs.Prelude.{ℕ, List, ◌≤◌, []}
use Rattle.budget_bounds.specs.declared.pair.TermPair.{TermPair}
use Rattle.model_types.specs.declared.grid.Grid.{Grid}
use Rattle.listing_io.specs.{declared.pair_lines.Row.Row, Forms.Form, Forms.pair_line, Listing.Line, Listing.cell_front, Listing.dir_front, Listing.flow_form}
use Rattle.listing_io.specs.{Listing.head_form, Listing.source_front, Listing.term_form, Listing.zone_front}
use Rattle.listing_io.specs.declared.pair_lines.Row.TheVariants as row

-- how the line begins
abbrev pub front_of : Grid → Row → List ℕ
front_of g (row.Cell w c) = cell_front w g c
front_of g (row.Term s dir t) = dir_front dir
front_of g (row.Source s t) = source_front
front_of g (row.Zone s a b) = zone_front a b

-- how its two numbers are written
abbrev pub form_of : Row → Form
form_of (row.Cell w c) = head_form
form_of (row.Term s dir t) = term_form s t
form_of (row.Source s t) = term_form s t
form_of (row.Zone s a b) = flow_form s []

-- the line
abbrev pub row_line : Grid → Row → TermPair → Line
row_line g r p = pair_line (front_of g r) (form_of r) p

-- flows have at most 18 digits of conductances
abbrev pub HasDigits : Row → Type 0
HasDigits (row.Cell w c) = Unit {0}
HasDigits (row.Term s dir t) = s ≤ 18
HasDigits (row.Source s t) = s ≤ 18
HasDigits (row.Zone s a b) = s ≤ 18
