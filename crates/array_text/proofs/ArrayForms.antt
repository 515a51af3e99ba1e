-- An array that is read has a value for each place.
use Rattle.array_text.proofs.Common.{◌≡◌, ℕ, ◌*◌, ℤ, List, [], ◌∷◌, length, All, Result, Ok, Err, refl, arith, length-replicate, All-replicate, NumFault, IsDec, Left, left_from, Kind, real, whole}
use Rattle.array_text.proofs.Common.{multiplied_value, free_rows, ArraysHaveForm, GivesOnly, FileSet, words, line_at, word_at, name_at, at_line, number_at, constant, internal, named, keyword}
use Rattle.array_text.proofs.Common.{format_at, of_keyword, control_at, values_of, array_at, without_line, reals, layer_array, real_layer, integer_layer, layers, number, integer, value_at}
use Rattle.array_text.proofs.Common.{value_alone, free_list, IsShort, ListsHaveForm, Taking, beginning, file_at, refusal, ok_gives_only, err_gives_only, goes_on, then_, gives_only_less, appended_are}
use Rattle.array_text.proofs.Common.{repeated_are}
use Rattle.array_reader.specs.{Control.Control, declared.keyword.Keyword.Keyword, declared.keyword.Keyword.TheVariants.Constant, declared.keyword.Keyword.TheVariants.Internal}
use Rattle.array_reader.specs.{declared.keyword.Keyword.TheVariants.OpenClose, declared.keyword.Keyword.TheVariants.External, declared.keyword.Keyword.TheVariants.Other}
use Rattle.outside.specs.declared.codes.Code.TheVariants.{BadControl}
use Rattle.array_text.proofs.NumberForms.{number_is, multiplied_is, integer_is}
use Rattle.array_reader.proofs.StepLemmas.{value_word}

-- A free list that is read has as many values as it asked for, and each is as its word is read.
module _ {X : Type 0} (read : List ℕ → Result X NumFault) (P : X → Type 0) (form : (w : List ℕ) → GivesOnly P (read w)) (file : List ℕ) where
  pub value_is : (s : Taking × Left) → GivesOnly (λ x. P x.0) (value_alone read file s)
  unfolding value_alone
  value_is s = goes_on (value_at read file s) _ (λ a e. ok_gives_only ((form a.1.0.word).gives a.0.0 (value_word read file s a.1 a.0.0 a.0.1 e)))

  pub list_is : (count : ℕ) (left : Left) → GivesOnly (λ x. (length x.0 ≡ count) × All P x.0) (free_list read file count left)
  unfolding free_list
  list_is count left = then_ _ (repeated_are (value_alone read file) P value_is count (beginning, left)) (λ x are. ok_gives_only are)

  pub rows_are : (rows cols : ℕ) (left : Left) → GivesOnly (λ x. (length x.0 ≡ rows * cols) × All P x.0) (free_rows read file rows cols left)
  unfolding free_rows
  rows_are rows cols = appended_are (free_list read file cols) cols P (list_is cols) rows

pub list_files_have_form : ListsHaveForm
list_files_have_form = record {
  numbers = list_is number IsDec number_is;
  integers = list_is integer IsShort integer_is;
}

-- the value of a constant array has this form
abbrev Stands : {X : Type 0} → (X → Type 0) → Control X → Type 0
Stands P (constant value) = P value
Stands P (internal by) = Unit {0}
Stands P (named name by) = Unit {0}

module _ {X : Type 0} (read : List ℕ → Result X NumFault) (P : X → Type 0) (form : (w : List ℕ) → GivesOnly P (read w)) (file : List ℕ) (line : ℕ) where
  at_word : (r : Result X NumFault) → GivesOnly P r → GivesOnly P (at_line file line r)
  at_word (Ok x) g = ok_gives_only (g.gives x refl)
  at_word (Err fault) g = err_gives_only

  pub item_is : (ws : List (List ℕ)) → GivesOnly (λ x. P x.0) (number_at read file line ws)
  unfolding number_at
  item_is [] = err_gives_only
  item_is (w ∷ ws) = then_ _ (at_word (read w) (form w)) (λ x h. ok_gives_only h)

  by_keyword : (k : Keyword) (ws : List (List ℕ)) → GivesOnly (Stands P) (of_keyword k read file line ws)
  by_keyword Constant ws = then_ _ (item_is ws) (λ x h. ok_gives_only h)
  by_keyword Internal ws = goes_on (number_at read file line ws) _ (λ by e. goes_on (format_at file line by.1) _ (λ format k. ok_gives_only tt))
  by_keyword OpenClose ws =
      goes_on (word_at (refusal BadControl file line) ws) _ (λ word a. goes_on (name_at file line word.0) _
      (λ name b. goes_on (number_at read file line word.1) _ (λ by c. goes_on (format_at file line by.1) _ (λ format d. ok_gives_only tt))))
  by_keyword External ws = err_gives_only
  by_keyword Other ws = err_gives_only

  control_is : (ws : List (List ℕ)) → GivesOnly (Stands P) (control_at read file line ws)
  unfolding control_at
  control_is ws = goes_on (word_at (refusal BadControl file line) ws) _ (λ word e. by_keyword (keyword word.0) word.1)

module _ {X : Type 0} (kind : Kind X) (P : X → Type 0) (form : (w : List ℕ) → GivesOnly P (kind.reading w)) (scaled : (by : X) (w : List ℕ) →
    GivesOnly P (multiplied_value kind by w)) (files : FileSet) (file : List ℕ) where
  values_are : (rows cols : ℕ) (left : Left) (c : Control X) → Stands P c → GivesOnly (λ x. (length x.0 ≡ rows * cols) × All P x.0) (values_of kind files file rows cols left c)
  values_are rows cols left (constant value) stands = ok_gives_only (length-replicate (rows * cols) value, All-replicate P (rows * cols) value stands)
  values_are rows cols left (internal by) stands = rows_are (multiplied_value kind by) P (scaled by) file rows cols left
  values_are rows cols left (named name by) stands =
      goes_on (file_at files name) _ (λ bytes e. then_ _ (rows_are (multiplied_value kind by) P (scaled by) name rows cols (left_from 1 bytes)) (λ values are. ok_gives_only are))

  pub array_is : (rows cols : ℕ) (left : Left) → GivesOnly (λ x. (length x.0.0 ≡ rows * cols) × All P x.0.0) (array_at kind files file rows cols left)
  unfolding array_at
  array_is rows cols left =
      goes_on (line_at file left) _ (λ line e. then_ _ (control_is kind.reading P form file line.0.number (words line.0.bytes))
      (λ control stands. then_ _ (values_are rows cols line.1 control stands) (λ values are. ok_gives_only are)))

  plain_is : (rows cols : ℕ) (left : Left) → GivesOnly (λ x. (length x.0 ≡ rows * cols) × All P x.0) (without_line (array_at kind files file rows cols left))
  plain_is rows cols left = then_ _ (array_is rows cols left) (λ x are. ok_gives_only are)

  pub layer_is : (rows cols : ℕ) (left : Left) → GivesOnly (λ x. (length x.0 ≡ rows * cols) × All P x.0) (layer_array kind files file rows cols left)
  unfolding layer_array
  layer_is = plain_is

  pub layers_are : (count rows cols : ℕ) (left : Left) → GivesOnly (λ x. (length x.0 ≡ count * (rows * cols)) × All P x.0) (layers kind files file count rows cols left)
  unfolding layers
  layers_are count rows cols = appended_are (layer_array kind files file rows cols) (rows * cols) P (layer_is rows cols) count

abbrev Any : ℤ → Type 0
Any z = Unit {0}

any : {E : Type 0} (r : Result ℤ E) → GivesOnly Any r
any r = record { gives = λ x e. tt }

pub array_files_have_form : ArraysHaveForm
unfolding reals real_layer integer_layer
array_files_have_form = record {
  lists = λ files file count left. gives_only_less (plain_is real IsDec number_is multiplied_is files file 1 count left) (λ x are. (omega (arith, are.0), are.1));
  real_layers = layer_is real IsDec number_is multiplied_is;
  integer_layers = λ files file rows cols left. gives_only_less (layer_is whole Any (λ w. any _) (λ by w. any _) files file rows cols left) (λ x are. are.0);
  real_grids = layers_are real IsDec number_is multiplied_is;
  integer_grids = λ files file count rows cols left. gives_only_less (layers_are whole Any (λ w. any _) (λ by w. any _) files file count rows cols left) (λ x are. are.0);
}
