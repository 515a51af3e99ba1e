-- Decks that are read, one or two, and the refusal where two aren't alike.
use Rattle.std.specs.Prelude.{◌≡◌, List, [], ◌∷◌, Result, Ok, Err, Option, Some, IfSome, option_map, unwrap_or}
use Rattle.outside.specs.{FileSet, declared.codes.Code.TheVariants.NotAlike, declared.inputs.Refusal.Refusal, declared.inputs.InputFault.InputFault}
use Rattle.outside.specs.declared.inputs.InputFault.TheVariants as input
use Rattle.record_lines.specs.{◌>>=◌}
use Rattle.name_file.specs.{Pairs.Pairs, file_of}
use Rattle.model_types.specs.{declared.grid.Grid.Grid, declared.limits.Limits.Limits, declared.model.FlowModel.FlowModel, place}
use Rattle.model_reader.specs.{model_of, names_in}
use Rattle.deck_span.specs.{AreAlike, IsFirstDifference, declared.difference.Difference.Difference}
use Rattle.deck_problems.specs.declared.decks.Decks.{Decks}
use Rattle.listing_io.specs.{refused_line}
use Rattle.run_puts.specs.{Text, declared.puts.Status.Status}
use Rattle.run_puts.specs.declared.puts.Status.TheVariants as status

-- A second deck: its model, and its refusal at a difference from the first one.
pub record Second : Type 0 where
  pub model : FlowModel
  pub unlike : Difference → Refusal

-- the refusal of a second deck, with this name file and these files of packages, that isn't alike the first one: its file of the package of
-- the first difference (its name file where it has no such package), line 0, and the cell where there is one
abbrev pub not_alike : Text → Pairs → Grid → Difference → Refusal
not_alike name files g d =
    record { code = NotAlike; file = unwrap_or (file_of d.package files) name; line = 0; at = option_map (λ c. place g c.0) d.cell }

-- the second deck that a name file describes, or the first refusal
unfoldable pub second_in : Limits → FileSet → Text → Result Second Refusal
second_in limits files name = do
  pairs ← names_in files name
  model ← model_of limits files pairs
  Ok (record { model = model; unlike = not_alike name pairs model.grid })

-- A run of two decks that aren't alike ends so: with the refusal of their first difference.
pub record IsUnlike (a : FlowModel) (b : Second) (end : Status) (pieces : List Text) : Type 0 where
  pub difference : Difference
  pub first : IsFirstDifference a b.model difference
  pub unlike : AreAlike a b.model → ⊥
  pub status : end ≡ status.Refused (b.unlike difference)
  pub are : pieces ≡ refused_line (b.unlike difference) ∷ []

-- the decks of these readings: the first one was read, and a second one if there is one, and the two are alike
pub record AreRead (first : Result FlowModel Refusal) (second : Option (Result Second Refusal)) (d : Decks) : Type 0 where
  pub last : Option Second
  pub is_first : first ≡ Ok d.first
  pub is_second : second ≡ option_map (λ b. Ok b) last
  pub are : d.second ≡ option_map (λ b. b.model) last
  pub alike : IfSome last (λ b. AreAlike d.first b.model)

-- why there are none: the first deck's refusal, then the second one's, then that of their first difference
pub data IsDecksRefusal (first : Result FlowModel Refusal) (second : Option (Result Second Refusal)) (r : Refusal) : Type 0 where
  of_first : first ≡ Err r → IsDecksRefusal first second r
  of_second : (a : FlowModel) → first ≡ Ok a → second ≡ Some (Err r) → IsDecksRefusal first second r
  of_both : (a : FlowModel) (b : Second) (d : Difference) → first ≡ Ok a → second ≡ Some (Ok b) → IsFirstDifference a b.model d →
      (AreAlike a b.model → ⊥) → r ≡ b.unlike d → IsDecksRefusal first second r

-- a reading of decks gave them, or this fault; a read fault and lack of memory say nothing of the files
abbrev pub AreDecksRead : Result FlowModel Refusal → Option (Result Second Refusal) → Result Decks InputFault → Type 0
AreDecksRead first second (Ok d) = AreRead first second d
AreDecksRead first second (Err (input.Refused r)) = IsDecksRefusal first second r
AreDecksRead first second (Err other) = Unit {0}
