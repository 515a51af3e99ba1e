-- A model that is read is writable.
use Rattle.model_text.proofs.Common.{pos, negsuc, nat_abs, ◌<◌, ◌^◌, arith, ◌≡◌, ◌⊎◌, inl, inr, ℕ, ℤ, List, All, Ok, All-weaker, Period, IsShort, HasPackage, LacksPackage, IsWritable, deck_name}
use Rattle.model_text.proofs.Common.{deck_names, IsReadAgain, ModelsReadAreReadAsWritten, most_bytes, ArrayKind, HasArrays, no_area, recharge_arrays, evaporation_arrays, FileSet, FlowModel, reads}
use Rattle.model_text.proofs.Common.{Limits}
use Rattle.model_text.proofs.{FileTexts.good_names, ModelTexts.model_reads}
use Rattle.list_package.specs.declared.entries.ListKind.TheVariants.{Wells, Rivers, Drains, Generals}
use Rattle.model_reader.proofs.{PeriodForms.ByOption, PeriodForms.IsKnown, PeriodForms.IsOption, ReadForms.IsRead, ReadForms.read_is}

module _ (limits : Limits) (m : FlowModel) (r : IsRead limits m) where
  -- what is known of each period
  each_is : (P : Period → Type 0) → ((p : Period) → IsKnown limits m.grid m.ibound m.nrchop m.nevtop p → P p) → All P m.periods
  each_is P known = All-weaker (IsKnown limits m.grid m.ibound m.nrchop m.nevtop) P known m.periods r.each

  package_is : (kind : ArrayKind) (option : ℤ) → ((p : Period) → IsKnown limits m.grid m.ibound m.nrchop m.nevtop p → ByOption kind m.grid m.ibound option (kind.area p.stresses)) → IsOption option
      → HasPackage kind option m ⊎ LacksPackage kind option m
  package_is kind option known (inl e) = inr (record { off = e; none = each_is (λ p. kind.area p.stresses ≡ no_area) (λ p k. (known p k).none e) })
  package_is kind option known (inr e) = inl (record { active = e; arrays = each_is (λ p. HasArrays kind m.grid m.ibound option (kind.area p.stresses)) (λ p k. (known p k).some e) })

  writable : All IsShort m.ibound → IsWritable limits m
  writable short = record {
    discretization = r.sound.discretized;
    within = r.sound.within;
    basic = record { ibound = (r.sound.ibound, short); strt = r.sound.strt };
    flow = r.sound.flow;
    passed = r.sound.passed;
    wel = λ k d lt. (r.each k d lt).entries Wells;
    riv = λ k d lt. (r.each k d lt).entries Rivers;
    drn = λ k d lt. (r.each k d lt).entries Drains;
    ghb = λ k d lt. (r.each k d lt).entries Generals;
    rch = package_is recharge_arrays m.nrchop (λ p k. k.arrays.rch) r.options.0;
    chd = λ k d lt. (r.each k d lt).given;
    evt = package_is evaporation_arrays m.nevtop (λ p k. k.arrays.evt) r.options.1;
  }

below_word : (z : ℤ) → IsShort z → nat_abs z < 2 ^ 64
below_word (pos n) h = omega (arith, h.few)
below_word (negsuc n) h = omega (arith, h.few)

module _ (limits : Limits) (files : FileSet) (name : List ℕ) (m : FlowModel) (h : reads limits files name ≡ Ok m) where
  pub read_writable : All IsShort m.ibound → IsWritable limits m
  read_writable = writable limits m ((read_is limits files name).gives m h)

  -- the unit of length of a model that is read is a word of 64 bits
  pub unit_is_short : nat_abs m.lenuni < 2 ^ 64
  unit_is_short = below_word m.lenuni ((read_is limits files name).gives m h).sound.discretized.lenuni

-- The deck of a model that was read is read as the model.
pub deck_reads : (limits : Limits) (files : FileSet) (name : List ℕ) (m : FlowModel) → reads limits files name ≡ Ok m → IsReadAgain limits m
deck_reads limits files name m h short small = model_reads limits m (read_writable limits files name m h short) deck_names deck_name good_names (most_bytes limits) small

pub read_again : ModelsReadAreReadAsWritten
read_again limits files name m h short names anew good most small = model_reads limits m (read_writable limits files name m h short) names anew good most small
