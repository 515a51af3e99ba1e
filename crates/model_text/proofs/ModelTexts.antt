-- A model is read as written.
use Rattle.model_text.proofs.Common.{with_limit, FileSet, file_at, ◌≡◌, ℕ, ◌≤◌, pos, Bool, true, false, if◌then◌else◌, List, [], ◌∷◌, length, map, All, Some, None, Ok, refl, ap, list_any, Pairs}
use Rattle.model_text.proofs.Common.{is_same_package, file_of, Package, Dis, Bas, Lpf, Wel, Riv, Drn, Ghb, Rch, Chd, Evt, FlowModel, Period, HasSize, cell_of, stress_in, stresses, with_stresses}
use Rattle.model_text.proofs.Common.{names_in, needed_file, dis_in, basics_tested, bas_in, lpf_in, model_of, reads, text, numbers_of, heads_of, packages, AreNames, has, lines_of, written, IsWritable}
use Rattle.model_text.proofs.Common.{rch_lines, evt_lines, Limits, recharge_arrays, rch_of, wells, rivers, drains, generals, evaporation_arrays, evt_of, length-map, model_of_grid, without_stresses}
use Rattle.model_text.proofs.Common.{with_basics, given_heads, check_result, fault_at, Thickness, StartHead, File, bytes_under, deck_files, deck_name, deck_names, filter, name_item, zone_file}
use Rattle.model_text.proofs.Common.{zoned_files, Option}
use Rattle.model_text.proofs.{DisTexts.dis_reads, BasTexts.bas_reads, LpfTexts.lpf_reads, ListTexts.list_packages, NameTexts.pairs_of, NameTexts.absent_package_has_no_file, NameTexts.present}
use Rattle.model_text.proofs.{NameTexts.names_read, FileTexts.good_names, FileTexts.name_file_is, FileTexts.package_file_is, FileTexts.small_file, FileTexts.still_found, StageTexts.staged}
use Rattle.model_text.proofs.{StageTexts.with_list, StageTexts.with_arrays, StageTexts.list_stage, StageTexts.arrays_stage, AreaFileTexts.evt_reads, AreaFileTexts.rch_reads}
use Rattle.number_limits.specs.declared.passing.Check.TheVariants.{Properties}
use Rattle.model_reader.proofs.CheckForms.{checks_kept}

-- The periods without stresses, and then with one package more at each stage.
abbrev with_wells : Period → Period
with_wells = with_list wells without_stresses

abbrev with_rivers : Period → Period
with_rivers = with_list rivers with_wells

abbrev with_drains : Period → Period
with_drains = with_list drains with_rivers

abbrev with_generals : Period → Period
with_generals = with_list generals with_drains

abbrev with_rain : Period → Period
with_rain = with_arrays recharge_arrays with_generals

abbrev with_given : Period → Period
with_given = with_list given_heads with_rain

abbrev with_all : Period → Period
with_all = with_arrays evaporation_arrays with_given

all_back : (ps : List Period) → map with_all ps ≡ ps
all_back [] = refl
all_back (p ∷ ps) = ap (λ (qs : List Period). p ∷ qs) (all_back ps)

-- the model after DIS and BAS6
abbrev basic_part : FlowModel → FlowModel
basic_part m = with_basics (model_of_grid m.grid m.lenuni (map without_stresses m.periods)) m.ibound m.strt

thickness_kept : (m : FlowModel) (file : List ℕ) → check_result (basic_part m) file Thickness ≡ check_result m file Thickness
unfolding check_result fault_at
thickness_kept m file = refl

heads_kept : (m : FlowModel) (file : List ℕ) → check_result (basic_part m) file StartHead ≡ check_result m file StartHead
unfolding check_result fault_at
heads_kept m file = refl

bare_twice : (ps : List Period) → map without_stresses (map without_stresses ps) ≡ map without_stresses ps
bare_twice [] = refl
bare_twice (p ∷ ps) = ap (λ (qs : List Period). without_stresses p ∷ qs) (bare_twice ps)

-- A model is read from files that have its packages under these names.
module _ (limits : Limits) (m : FlowModel) (w : IsWritable limits m) (names : Package → List ℕ) (files : FileSet) (pairs : Pairs)
    (named : (k : Package) → file_of k pairs ≡ (if has m k then Some (names k) else None))
    (there : (k : Package) → has m k ≡ true → file_at files (names k) ≡ Ok (text (lines_of m k))) where
  size : HasSize m.grid
  size = w.discretization.grid.size

  needed_is : (k : Package) → has m k ≡ true → needed_file k pairs ≡ names k
  needed_is k h = rw (named k, h) refl

  dis_there : dis_in limits files (names Dis) ≡ Ok (model_of_grid m.grid m.lenuni (map without_stresses m.periods))
  unfolding dis_in
  dis_there = rw (there Dis refl) (dis_reads m w.discretization limits files (names Dis) w.within)

  basics_pass : (dis bas : List ℕ) → basics_tested dis bas (basic_part m) ≡ Ok tt
  unfolding basics_tested
  basics_pass dis bas = rw (thickness_kept m dis, w.passed Thickness dis, heads_kept m bas, w.passed StartHead bas) refl

  bas_there : bas_in files (names Dis) (names Bas) (model_of_grid m.grid m.lenuni (map without_stresses m.periods)) ≡ Ok (basic_part m)
  unfolding bas_in
  bas_there =
      let read = bas_reads files (names Bas) m w.discretization w.basic (model_of_grid m.grid m.lenuni (map without_stresses m.periods)) refl in
      rw (there Bas refl, read, basics_pass (names Dis) (names Bas)) refl

  lpf_there : lpf_in files (names Lpf) (basic_part m) ≡ Ok (staged m (pos 0) (pos 0) without_stresses)
  unfolding lpf_in
  lpf_there =
      let read = lpf_reads files (names Lpf) m w.discretization w.flow (basic_part m) refl (bare_twice m.periods) in
      rw (there Lpf refl, read, checks_kept m (pos 0) (pos 0) (map without_stresses m.periods) Properties (names Lpf), w.passed Properties (names Lpf)) refl

  wells_there : stress_in limits files pairs Wel (staged m (pos 0) (pos 0) without_stresses) ≡ Ok (staged m (pos 0) (pos 0) with_wells)
  wells_there = list_stage limits wells cell_of numbers_of list_packages.wel m size w.wel files (names Wel) (pos 0) (pos 0) without_stresses (λ p xs. refl)
      (λ p. refl) (file_of Wel pairs) (named Wel) (there Wel)

  rivers_there : stress_in limits files pairs Riv (staged m (pos 0) (pos 0) with_wells) ≡ Ok (staged m (pos 0) (pos 0) with_rivers)
  rivers_there = list_stage limits rivers cell_of numbers_of list_packages.riv m size w.riv files (names Riv) (pos 0) (pos 0) with_wells (λ p xs. refl) (λ p.
      refl) (file_of Riv pairs) (named Riv) (there Riv)

  drains_there : stress_in limits files pairs Drn (staged m (pos 0) (pos 0) with_rivers) ≡ Ok (staged m (pos 0) (pos 0) with_drains)
  drains_there = list_stage limits drains cell_of numbers_of list_packages.drn m size w.drn files (names Drn) (pos 0) (pos 0) with_rivers (λ p xs. refl) (λ p.
      refl) (file_of Drn pairs) (named Drn) (there Drn)

  generals_there : stress_in limits files pairs Ghb (staged m (pos 0) (pos 0) with_drains) ≡ Ok (staged m (pos 0) (pos 0) with_generals)
  generals_there = list_stage limits generals cell_of numbers_of list_packages.ghb m size w.ghb files (names Ghb) (pos 0) (pos 0) with_drains (λ p xs. refl)
      (λ p. refl) (file_of Ghb pairs) (named Ghb) (there Ghb)

  rain_there : stress_in limits files pairs Rch (staged m (pos 0) (pos 0) with_generals) ≡ Ok (staged m m.nrchop (pos 0) with_rain)
  rain_there =
      arrays_stage recharge_arrays m m.nrchop files (names Rch) (rch_lines m) (rch_of files) (λ z ps. record m { nrchop = z; nevtop = pos 0; periods = ps }) with_generals (λ p. refl)
      (λ h. rch_reads files (names Rch) m size h (staged m (pos 0) (pos 0) with_generals) refl (length-map m.periods with_generals)) (file_of Rch pairs) w.rch (named Rch) (there Rch)

  given_there : stress_in limits files pairs Chd (staged m m.nrchop (pos 0) with_rain) ≡ Ok (staged m m.nrchop (pos 0) with_given)
  given_there =
      list_stage limits given_heads (λ x. x.cell.0) heads_of list_packages.chd m size w.chd files (names Chd) m.nrchop (pos 0) with_rain (λ p xs. refl) (λ p.
      refl) (file_of Chd pairs) (named Chd) (there Chd)

  all_there : stress_in limits files pairs Evt (staged m m.nrchop (pos 0) with_given) ≡ Ok (staged m m.nrchop m.nevtop with_all)
  all_there =
      arrays_stage evaporation_arrays m m.nevtop files (names Evt) (evt_lines m) (evt_of files) (λ z ps. record m { nevtop = z; periods = ps }) with_given (λ p. refl)
      (λ h. evt_reads files (names Evt) m size h (staged m m.nrchop (pos 0) with_given) refl refl (length-map m.periods with_given)) (file_of Evt pairs) w.evt (named Evt) (there Evt)

  stresses_there : with_stresses limits files pairs stresses (staged m (pos 0) (pos 0) without_stresses) ≡ Ok m
  unfolding with_stresses
  stresses_there = rw (wells_there, rivers_there, drains_there, generals_there, rain_there, given_there, all_there, all_back m.periods) refl

  model_there : model_of limits files pairs ≡ Ok m
  unfolding model_of
  model_there = rw (needed_is Dis refl, dis_there, needed_is Bas refl, bas_there, needed_is Lpf refl, lpf_there) stresses_there

listed : (k : Package) → list_any (λ j. is_same_package k j) packages ≡ true
listed Dis = refl
listed x = refl

-- Files that have the name file and those of the packages under their names.
module _ (limits : Limits) (m : FlowModel) (w : IsWritable limits m) (names : Package → List ℕ) (name : List ℕ) (h : AreNames names name) (most : ℕ) (files : List File)
    (small : All (λ f. length f.bytes ≤ most) files) (first : bytes_under name files ≡ Some (text (map (name_item names) (filter (has m) packages))))
    (each : (k : Package) → has m k ≡ true → bytes_under (names k) files ≡ Some (text (lines_of m k))) where
  abbrev pairs : Pairs
  pairs = pairs_of names (has m) packages

  named : (k : Package) → file_of k pairs ≡ (if has m k then Some (names k) else None)
  named k = by_case (has m k) refl
    where
      by_case : (b : Bool) → has m k ≡ b → file_of k pairs ≡ (if b then Some (names k) else None)
      by_case true e = present names (has m) k e packages (listed k)
      by_case false e = absent_package_has_no_file names (has m) k e packages

  names_there : names_in (with_limit most files) name ≡ Ok pairs
  unfolding names_in
  names_there =
      let there = small_file most name (text (map (name_item names) (filter (has m) packages))) files h.first small first in
      rw there (names_read names name h (has m) refl refl refl)

  files_read : reads limits (with_limit most files) name ≡ Ok m
  unfolding reads
  files_read =
      rw names_there (model_there limits m w names (with_limit most files) pairs named (λ k is_in. small_file most (names k) (text (lines_of m k)) files (h.each k) small (each k is_in)))

pub model_reads : (limits : Limits) (m : FlowModel) (w : IsWritable limits m) (names : Package → List ℕ) (name : List ℕ) (h : AreNames names name) (most : ℕ) →
    All (λ f. length f.bytes ≤ most) (written m names name) → reads limits (with_limit most (written m names name)) name ≡ Ok m
model_reads limits m w names name h most small =
    files_read limits m w names name h most (written m names name) small (name_file_is m names name h) (λ k is_in. package_file_is m names name h k is_in (listed k))

-- So is the deck with a file of zones.
pub zoned_reads : (limits : Limits) (m : FlowModel) → IsWritable limits m → (most : ℕ) (zones : Option (List ℕ)) → All (λ f. length f.bytes ≤ most) (zoned_files m zones) →
    reads limits (with_limit most (zoned_files m zones)) deck_name ≡ Ok m
zoned_reads limits m w most None small = model_reads limits m w deck_names deck_name good_names most small
zoned_reads limits m w most (Some zones) small =
    files_read limits m w deck_names deck_name good_names most (zoned_files m (Some zones)) small
    (still_found deck_name _ (deck_files m) (zone_file m.grid zones ∷ []) (name_file_is m deck_names deck_name good_names))
    (λ k is_in. still_found (deck_names k) _ (deck_files m) (zone_file m.grid zones ∷ []) (package_file_is m deck_names deck_name good_names k is_in (listed k)))
