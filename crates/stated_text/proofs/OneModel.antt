-- One text says one model.
use Rattle.stated_text.proofs.Common.{◌≡◌, ◌≤◌, ◌+◌, ◌∷◌, ◌++◌, ◌∙◌, ℕ, ℤ, pos, List, [], Option, Some, None, Ok, Result, refl, sym, ap, subst, arith, length, map, All, File, FlowModel, IsWritable}
use Rattle.stated_text.proofs.Common.{Limits, OneTextOneModel, Refusal, TextFile, bytes_under, codes, file_of, file_text, file_texts, file_line, unsigned_abs, with_limit, zone_file, zone_name}
use Rattle.stated_text.proofs.Common.{zoned_files, zoned_text, deck_name, lines, cut_at, reads, HasSize, zoned_reads, no_zones_there, zones_read, zones_there, append_cancel_left, length-append}
use Rattle.zone_pairs.specs.{AreZones}
use Rattle.stated_text.proofs.DeckCuts.{decks_are_cut}
use Rattle.zone_file.specs.{zones_of}
use Rattle.std.proofs.lemmas.List.Elements.{All-cons, All-nil}

-- no file is longer than all of them
each_fits : (most : ℕ) (files : List File) → length (file_texts files) ≤ most → All (λ f. length f.bytes ≤ most) files
unfolding file_texts file_text
each_fits most [] h = All-nil (λ (f : File). length f.bytes ≤ most)
each_fits most (f ∷ files) h =
    let whole = length-append (file_text f) (file_texts files) in
    let first = length-append (file_line f.name) f.bytes in
    All-cons (λ (x : File). length x.bytes ≤ most) f files (omega arith) (each_fits most files (omega arith))

-- the files of a text fit in as many bytes as it has
pub files_fit : (m : FlowModel) (zones : Option (List ℕ)) (most : ℕ) → length (zoned_text m zones) ≤ most → All (λ f. length f.bytes ≤ most) (zoned_files m zones)
unfolding zoned_text
files_fit m zones most h = let whole = length-append (file_texts (zoned_files m zones)) (codes "END\n") in each_fits most (zoned_files m zones) (omega arith)

pub unsigned_back : (zones : List ℕ) → map unsigned_abs (map pos zones) ≡ zones
unsigned_back [] = refl
unsigned_back (z ∷ zones) = ap (λ (zs : List ℕ). z ∷ zs) (unsigned_back zones)

pub size_of : (limits : Limits) (m : FlowModel) → IsWritable limits m → HasSize m.grid
size_of limits m w = w.discretization.grid.size

-- The same files are those of one model, with the same zones.
module _ (limits : Limits) (m n : FlowModel) (zones others : Option (List ℕ)) (w : IsWritable limits m) (v : IsWritable limits n) (same : zoned_files m zones ≡ zoned_files n others) where
  abbrev most : ℕ
  most = length (zoned_text m zones)

  small : All (λ f. length f.bytes ≤ most) (zoned_files m zones)
  small = files_fit m zones most (omega arith)

  small_too : All (λ f. length f.bytes ≤ most) (zoned_files n others)
  small_too = let S : List File → Type 0 = λ fs. All (λ (f : File). length f.bytes ≤ most) fs in subst S same small

  same_model : m ≡ n
  same_model =
      let R : List File → Type 0 = λ fs. reads limits (with_limit most fs) deck_name ≡ Ok m in
      let one : reads limits (with_limit most (zoned_files n others)) deck_name ≡ Ok m = subst R same (zoned_reads limits m w most zones small) in
      let other : reads limits (with_limit most (zoned_files n others)) deck_name ≡ Ok n = zoned_reads limits n v most others small_too in
      let both : Path (Result FlowModel Refusal) (Ok m) (Ok n) = sym one ∙ other in
      cc

-- the zones of one model's files
same_zones : (limits : Limits) (m : FlowModel) (zones others : Option (List ℕ)) → IsWritable limits m → AreZones m zones → AreZones m others →
    zoned_files m zones ≡ zoned_files m others → zones ≡ others
same_zones limits m None None w h k same = refl
same_zones limits m None (Some zs) w h k same =
    let there : bytes_under zone_name (zoned_files m None) ≡ Some (zone_file m.grid zs).bytes = ap (bytes_under zone_name) same ∙ zones_there m zs in
    absurd (let bad : Path (Option (List ℕ)) None (Some (zone_file m.grid zs).bytes) = sym (no_zones_there m) ∙ there in cc)
same_zones limits m (Some zs) None w h k same =
    let there : bytes_under zone_name (zoned_files m None) ≡ Some (zone_file m.grid zs).bytes = ap (bytes_under zone_name) (sym same) ∙ zones_there m zs in
    absurd (let bad : Path (Option (List ℕ)) None (Some (zone_file m.grid zs).bytes) = sym (no_zones_there m) ∙ there in cc)
same_zones limits m (Some zs) (Some os) w h k same =
    let most = length (zoned_text m (Some zs)) in
    let small = files_fit m (Some zs) most (omega arith) in
    let S : List File → Type 0 = λ fs. All (λ (f : File). length f.bytes ≤ most) fs in
    let Z : List File → Type 0 = λ fs. zones_of (with_limit most fs) m.grid zone_name ≡ Ok (map pos zs) in
    let one : zones_of (with_limit most (zoned_files m (Some os))) m.grid zone_name ≡ Ok (map pos zs) = subst Z same (zones_read m zs most (size_of limits m w) h.count h.limits small) in
    let other : zones_of (with_limit most (zoned_files m (Some os))) m.grid zone_name ≡ Ok (map pos os) = zones_read m os most (size_of limits m w) k.count k.limits (subst S same small) in
    let both : Path (Result (List ℤ) Refusal) (Ok (map pos zs)) (Ok (map pos os)) = sym one ∙ other in
    let signed : map pos zs ≡ map pos os = cc in
    ap (λ (xs : List ℕ). Some xs) (sym (unsigned_back zs) ∙ ap (map unsigned_abs) signed ∙ unsigned_back os)

-- the same text has the same files
same_files : (m n : FlowModel) (zones others : Option (List ℕ)) (rest more : List ℕ) → zoned_text m zones ++ rest ≡ zoned_text n others ++ more → zoned_files m zones ≡ zoned_files n others
same_files m n zones others rest more same =
    let a = decks_are_cut m zones 1 rest in
    let b = decks_are_cut n others 1 more in
    let both : Path (Result (List TextFile) ℕ) (Ok a.files) (Ok b.files) = sym a.cut ∙ ap (λ (t : List ℕ). cut_at 1 (lines t)) same ∙ b.cut in
    let files : a.files ≡ b.files = cc in
    sym a.are ∙ ap (map file_of) files ∙ b.are

pub one_model : OneTextOneModel
one_model limits m n zones others rest more w v h k same =
    let files = same_files m n zones others rest more same in
    let model = same_model limits m n zones others w v files in
    let F : FlowModel → Type 0 = λ x. zoned_files m zones ≡ zoned_files x others in
    let A : FlowModel → Type 0 = λ x. AreZones x others in
    let zoned = same_zones limits m zones others w h (subst A (sym model) k) (subst F (sym model) files) in
    let text : zoned_text m zones ≡ zoned_text n others = ap (λ (x : FlowModel). zoned_text x zones) model ∙ ap (zoned_text n) zoned in
    (model, zoned, append_cancel_left (zoned_text n others) rest more (ap (λ (t : List ℕ). t ++ rest) (sym text) ∙ same))
