-- The file of zones is read as written.
use Rattle.model_text.proofs.Common.{◌≡◌, ℕ, ◌≤◌, false, not, pos, List, [], ◌∷◌, ◌++◌, length, map, filter, All, Some, None, refl, arith, append-nil, length-map, All-head, All-tail, All-map}
use Rattle.model_text.proofs.Common.{All-weaker, nat_tests, File, FileSet, bytes_under, with_limit, Package, Dis, FlowModel, Grid, HasSize, cell_count, Takes, IsShort, nat_lt, arrays_read_back}
use Rattle.model_text.proofs.Common.{layers, layer_array, integer_layer, each_layer, layer_values, deck_names, has, name_at, package_file, packages, text_left, written, zone_file, zone_name}
use Rattle.model_text.proofs.Common.{zoned_files, ZonesReadAsWritten, position, position_or_len, bytes_eq, is_good_name}
use Rattle.model_text.specs.{integer_layer as integer_layer_lines}
use Rattle.array_reader.specs.{whole}
use Rattle.zone_file.specs.{is_zone, zones_of, zones_tested}
use Rattle.model_text.proofs.{BasTexts.layers_take, FileTexts.small_file, FileTexts.zone_name_is_good, GridTexts.layer_length, GridTexts.layer_has}

-- The file comes after those of the packages, none of which has its name.
other_name : (k : Package) → bytes_eq zone_name (deck_names k) ≡ false
other_name Dis = refl
other_name x = refl

module _ (m : FlowModel) where
  not_among : (ks : List Package) (last : File) → bytes_under zone_name (map (package_file m deck_names) ks ++ (last ∷ [])) ≡ bytes_under zone_name (last ∷ [])
  not_among [] last = refl
  not_among (k ∷ ks) last = rw (other_name k) (not_among ks last)

  pub zones_there : (zones : List ℕ) → bytes_under zone_name (zoned_files m (Some zones)) ≡ Some (zone_file m.grid zones).bytes
  unfolding written
  zones_there zones = not_among (filter (has m) packages) (zone_file m.grid zones)

  none_among : (ks : List Package) → bytes_under zone_name (map (package_file m deck_names) ks) ≡ None
  none_among [] = refl
  none_among (k ∷ ks) = rw (other_name k) (none_among ks)

  pub no_zones_there : bytes_under zone_name (zoned_files m None) ≡ None
  unfolding written
  no_zones_there = none_among (filter (has m) packages)

-- Zones that are at most 999 are short integers, and pass the test.
short_zone : (z : ℕ) → z ≤ 999 → IsShort (pos z)
short_zone z h = record { few = omega (arith, h) }

passes : (z : ℕ) → z ≤ 999 → not (is_zone (pos z)) ≡ false
passes z h = grind (arith, nat_tests)

all_before : (zones : List ℕ) → All (λ z. z ≤ 999) zones → position_or_len (λ z. not (is_zone z)) (map pos zones) ≡ length (map pos zones)
all_before [] h = refl
all_before (z ∷ zones) h =
    let rest = all_before zones (All-tail (λ x. x ≤ 999) z zones h) in
    rw (passes z (All-head (λ x. x ≤ 999) z zones h), rest) (omega arith)

none_wrong : (zones : List ℕ) → All (λ z. z ≤ 999) zones → position (λ z. not (is_zone z)) (map pos zones) ≡ None
none_wrong zones h =
    let end = all_before zones h in
    let over : nat_lt (length (map pos zones)) (length (map pos zones)) ≡ false = grind (arith, nat_tests) in
    rw (end, over) refl

module _ (files : FileSet) (file : List ℕ) (g : Grid) (size : HasSize g) (zones : List ℕ) (each : length zones ≡ cell_count g) (few : All (λ z. z ≤ 999) zones) where
  as_many : length (map pos zones) ≡ cell_count g
  as_many = rw (length-map zones pos) each

  short : All (λ z. IsShort z) (map pos zones)
  short = All-map (λ z. IsShort z) pos zones (All-weaker (λ z. z ≤ 999) (λ z. IsShort (pos z)) short_zone zones few)

  zones_take : Takes (layers whole files file g.layers g.rows g.cols) (each_layer g (integer_layer_lines g (map pos zones))) (λ left. (map pos zones, left))
  unfolding layers integer_layer
  zones_take = layers_take (layer_array whole files file g.rows g.cols) g (integer_layer_lines g (map pos zones)) (map pos zones) as_many (λ k low.
      arrays_read_back.integer_layers files file g.rows g.cols (layer_values g k (map pos zones)) size.cols.0
      (layer_length g k (map pos zones) low as_many) (layer_has g (λ z. IsShort z) k (map pos zones) short))

pub zones_read : ZonesReadAsWritten
unfolding zones_of zones_tested name_at is_good_name
zones_read m zones most size each few small =
    let files = with_limit most (zoned_files m (Some zones)) in
    let there = small_file most zone_name (zone_file m.grid zones).bytes (zoned_files m (Some zones)) zone_name_is_good small (zones_there m zones) in
    let takes = zones_take files zone_name m.grid size zones each few in
    let left = text_left 1 (each_layer m.grid (integer_layer_lines m.grid (map pos zones))) takes.are in
    let end = append-nil (each_layer m.grid (integer_layer_lines m.grid (map pos zones))) in
    rw (there, left, rw end at (takes.reads 1 []), none_wrong zones few) refl
