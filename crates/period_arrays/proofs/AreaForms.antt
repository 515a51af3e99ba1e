-- What is read of the arrays of a stress period.
use Rattle.period_arrays.proofs.Common.{ok_gives_only, goes_on, if_clear, if_passed, then_, gives_only_less, GivesOnly, HasSize, int_at, is_int, layer_size, Grid, FileSet, words, IsArea, IsInForce}
use Rattle.period_arrays.proofs.Common.{IsLayers, IsReals, area_at, array_or, arrays_of, flag_at, flag_if, flags_of, is_layer, is_negative, is_option, layer_step, layers_at, layers_tested}
use Rattle.period_arrays.proofs.Common.{nothing_yet, option_at, InForce, Left, line_at, All, Bool, List, Ok, [], arith, false, length, negsuc, not, pos, refl, subst, sym, true, ℕ, ℤ, ◌&&◌, ◌<◌, ◌≡◌}
use Rattle.period_arrays.proofs.Common.{◌≤◌, each_step, some_give, Area}
use Rattle.array_text.specs.{IsShort}
use Rattle.array_reader.specs.{integer, number_at, real_layer}
use Rattle.array_text.proofs.{ArrayForms.array_files_have_form, LayerForms.layer_is}
use Rattle.decimal_input.specs.declared.dec.Dec.{Dec}
use Rattle.std.proofs.{lemmas.Bool.leb-true, lemmas.List.get_or_default}
use Rattle.period_arrays.specs.{declared.flags.Contents.Contents, declared.flags.ArraysReadAnew.ArraysReadAnew}

-- What is read of the option and the flags of a package of arrays.
reused : (a b : Bool) → (a && not b) ≡ false → not a ≡ false → b ≡ true
reused true true e f = refl
reused true false e f = absurd (let clash : true ≡ false = e in cc)
reused false b e f = absurd (let clash : true ≡ false = f in cc)

-- an array that isn't read anew is one of the period before
record AreFlags (contents : Contents) (listed : Bool) (flags : ArraysReadAnew) : Type 0 where
  surface : contents.evaporates ≡ true → flags.surface ≡ false → listed ≡ true
  rate : flags.rate ≡ false → listed ≡ true
  depth : contents.evaporates ≡ true → flags.depth ≡ false → listed ≡ true
  layer : contents.layered ≡ true → flags.layer ≡ false → listed ≡ true
  none : contents.layered ≡ false → flags.layer ≡ false

-- an array that isn't read anew was read before; a flag that isn't there reads none
record IsFlag (present listed flag : Bool) : Type 0 where
  there : present ≡ true → flag ≡ false → listed ≡ true
  none : present ≡ false → flag ≡ false

module _ (file : List ℕ) (line : ℕ) where
  flag_is : (listed : Bool) (ws : List (List ℕ)) → GivesOnly (λ x. x.0 ≡ false → listed ≡ true) (flag_at file line listed ws)
  unfolding flag_at
  flag_is listed ws = goes_on (number_at integer file line ws) _ (λ z e. if_clear (is_negative z.0 && not listed) _ _ (λ clear. ok_gives_only (reused (is_negative z.0) listed clear)))

  flag_if_is : (present listed : Bool) (ws : List (List ℕ)) → GivesOnly (λ x. IsFlag present listed x.0) (flag_if present file line listed ws)
  flag_if_is true listed ws = gives_only_less (flag_is listed ws) (λ x h. record { there = λ e. h; none = λ e. absurd (let clash : true ≡ false = e in cc) })
  flag_if_is false listed ws = ok_gives_only (record { there = λ e. absurd (let clash : false ≡ true = e in cc); none = λ e. refl })

  flags_are : (contents : Contents) (listed : Bool) (ws : List (List ℕ)) → GivesOnly (AreFlags contents listed) (flags_of contents file line listed ws)
  unfolding flags_of
  flags_are contents listed ws =
      then_ _ (flag_if_is contents.evaporates listed ws) (λ surface a. then_ _ (flag_is listed surface.1) (λ rate b. then_ _ (flag_if_is contents.evaporates listed rate.1)
      (λ depth c. then_ _ (flag_if_is contents.layered listed depth.1) (λ layer d. ok_gives_only (record { surface = a.there; rate = b; depth = c.there; layer = d.there; none = d.none })))))

  pub option_is : (ws : List (List ℕ)) → GivesOnly (λ x. is_option x.0 ≡ true) (option_at file line ws)
  unfolding option_at
  option_is ws = goes_on (number_at integer file line ws) _ (λ z e. if_passed (is_option z.0) _ _ (λ active. ok_gives_only active))

-- layers of the grid, or 0
record AreOfGrid (g : Grid) (xs : List ℤ) : Type 0 where
  pub whole : length xs ≡ layer_size g
  pub inside : (i : ℕ) → i < layer_size g → is_layer g (int_at xs i) ≡ true

layer_short : (g : Grid) (z : ℤ) → HasSize g → is_layer g z ≡ true → IsShort z
layer_short g (pos n) size h =
    let le : n ≤ g.layers = leb-true n g.layers h in
    let few : g.layers ≤ 1024 = size.layers.1 in
    record { few = omega arith }
layer_short g (negsuc n) size h = absurd (let clash : false ≡ true = h in cc)

all_short : (g : Grid) (xs : List ℤ) → HasSize g → AreOfGrid g xs → All IsShort xs
all_short g xs size h = λ k d lt.
    let low : k < layer_size g = subst (λ (n : ℕ). k < n) h.whole lt in
    subst (λ (z : ℤ). IsShort z) (get_or_default xs k (pos 0) d lt) (layer_short g (int_at xs k) size (h.inside k low))

-- IRCH or IEVT by an option
by_option : (g : Grid) (option : ℤ) (xs : List ℤ) → HasSize g → (is_int option 2 ≡ true → AreOfGrid g xs) → (is_int option 2 ≡ false → xs ≡ []) → IsLayers g option xs
by_option g option xs size there none = record {
  none = none;
  whole = λ e. (there e).whole;
  short = by_case (is_int option 2) refl;
  layers = λ e. (there e).inside;
}
  where
    by_case : (b : Bool) → is_int option 2 ≡ b → All IsShort xs
    by_case true e = all_short g xs size (there e)
    by_case false e = subst (λ (zs : List ℤ). All IsShort zs) (sym (none e)) (λ k d lt. absurd (omega (arith, lt)))

of_grid : (g : Grid) (option : ℤ) (xs : List ℤ) → IsLayers g option xs → is_int option 2 ≡ true → AreOfGrid g xs
of_grid g option xs h e = record { whole = h.whole e; inside = h.layers e }

pub first_area : (evaporates : Bool) (g : Grid) (option : ℤ) → IsInForce evaporates g option nothing_yet
first_area evaporates g option = record { area = λ e. absurd (let clash : false ≡ true = e in cc); none = λ e. refl }

module _ (files : FileSet) (file : List ℕ) (g : Grid) where
  -- an array is read anew, or it is the last one
  reals_are : (anew : Bool) (before : List Dec) (left : Left) → GivesOnly (λ x. (anew ≡ false → IsReals g before) → IsReals g x.0) (array_or (real_layer files file g.rows g.cols) anew before left)
  reals_are true before left = gives_only_less (layer_is files file g.rows g.cols left) (λ x h last. h)
  reals_are false before left = ok_gives_only (λ last. last refl)

  tested_are : (xs : List ℤ) (u : Unit {0}) → layers_tested file g xs ≡ Ok u → (i : ℕ) → i < layer_size g → is_layer g (int_at xs i) ≡ true
  unfolding layers_tested
  tested_are xs u h i lt =
      let step : layer_step file g xs i tt ≡ Ok tt = each_step (layer_step file g xs) (layer_size g) 0 h i (omega arith) (omega (arith, lt)) in
      let is : GivesOnly (λ (v : Unit {0}). is_layer g (int_at xs i) ≡ true) (layer_step file g xs i tt) = if_passed (is_layer g (int_at xs i)) _ _ (λ e. ok_gives_only e) in
      is.gives tt step

  layers_are : (left : Left) → GivesOnly (λ x. AreOfGrid g x.0) (layers_at files file g left)
  unfolding layers_at
  layers_are left =
      then_ _ (array_files_have_form.integer_layers files file g.rows g.cols left) (λ xs many.
      goes_on (layers_tested file g xs.0) _ (λ tested e. ok_gives_only (record { whole = many; inside = tested_are xs.0 tested e })))

  layers_now : (size : HasSize g) (option : ℤ) (anew : Bool) (before : List ℤ) (left : Left) → (is_int option 2 ≡ true → anew ≡ false → AreOfGrid g before) →
      (is_int option 2 ≡ false → (anew ≡ false) × (before ≡ []))
      → GivesOnly (λ x. IsLayers g option x.0) (array_or (layers_at files file g) anew before left)
  layers_now size option true before left last none =
      gives_only_less (layers_are left) (λ x is. by_option g option x.0 size (λ e. is) (λ e. absurd (let clash : true ≡ false = (none e).0 in cc)))
  layers_now size option false before left last none = ok_gives_only (by_option g option before size (λ e. last e refl) (λ e. (none e).1))

  module _ (evaporates : Bool) (size : HasSize g) (option : ℤ) where
    abbrev its : Contents
    its = record { evaporates = evaporates; layered = is_int option 2 }

    arrays_are : (f : ArraysReadAnew) (s : InForce) (left : Left) → AreFlags its s.listed f → IsInForce evaporates g option s →
        GivesOnly (λ x. IsArea evaporates g option x.0) (arrays_of files file g f s.area left)
    unfolding arrays_of
    arrays_are f s left are so =
        let last = s.area in
        then_ _ (reals_are f.surface last.surfaces left) (λ surfaces a. then_ _ (reals_are f.rate last.rates surfaces.1) (λ rates b. then_ _ (reals_are f.depth last.depths rates.1)
        (λ depths c. then_ _ (layers_now size option f.layer last.layers depths.1 (λ e k. of_grid g option last.layers (so.area (are.layer e k)).layers e) (λ e. (are.none e, so.none e)))
        (λ layers d. ok_gives_only (record {
          surfaces = λ e. a (λ k. (so.area (are.surface e k)).surfaces e);
          rates = b (λ k. (so.area (are.rate k)).rates);
          depths = λ e. c (λ k. (so.area (are.depth e k)).depths e);
          layers = d;
        })))))

    pub area_is : (s : InForce × Left) → IsInForce evaporates g option s.0 → GivesOnly (λ x. IsArea evaporates g option x.0 × IsInForce evaporates g option x.1.0) (area_at its files file g s)
    unfolding area_at
    area_is s so =
        goes_on (line_at file s.1) _ (λ line e. then_ _ (flags_are file line.0.number its s.0.listed (words line.0.bytes)) (λ flags f. then_ _ (arrays_are flags s.0 line.1 f so)
        (λ area is. ok_gives_only (is, record { area = λ e. is; none = is.layers.none }))))

-- the same of an area that was read, if some files agree with what was read
pub area_given : (agrees : FileSet → Type 0) (file : List ℕ) (g : Grid) (evaporates : Bool) (option : ℤ) (contents : Contents) (s : InForce × Left) (x : Area ×
    (InForce × Left)) → HasSize g → IsInForce evaporates g option s.0
    → contents ≡ record { evaporates = evaporates; layered = is_int option 2 } → ((files : FileSet) × agrees files) → ((files : FileSet) → agrees files → area_at contents files file g s ≡ Ok x)
    → IsArea evaporates g option x.0 × IsInForce evaporates g option x.1.0
area_given agrees file g evaporates option contents s x size so its some read = some_give (λ files. area_is files file g evaporates size option s so) some (λ files agree. rw its at (read files agree))
