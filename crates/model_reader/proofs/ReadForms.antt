-- A model that is read, in reading order.
use Rattle.model_reader.proofs.Common.{All, List, Ok, subst, sym, ℕ, ◌≡◌, All-weaker, ok_gives_only, goes_on, then_, gives_only_less, GivesOnly, HasBasics, check_result, StartHead, Thickness}
use Rattle.model_reader.proofs.Common.{IsStarted, dis_is, HasFlow, SameBut, bas_in, basics_tested, dis_in, lpf_in, model_of, names_in, needed_file, reads, stresses, with_stresses, IsTimed, Limits}
use Rattle.model_reader.proofs.Common.{FlowModel, Pairs, Bas, Dis, Lpf, FileSet, file_at}
use Rattle.bas_package.proofs.BasForms.{bas_is}
use Rattle.number_limits.specs.declared.passing.Check.TheVariants.{Properties as PropertyCheck}
use Rattle.lpf_package.proofs.LpfForms.{lpf_is}
use Rattle.model_reader.proofs.{CheckForms.IsFlow, CheckForms.IsSound, CheckForms.flow_is, CheckForms.sound_again, PeriodForms.IsKnown, PeriodForms.IsOption, StageForms.IsStressed}
use Rattle.model_reader.proofs.{StageForms.first_stage, StageForms.stresses_are}

-- a model with IBOUND and STRT that passed the tests of thickness and of starting heads
pub record IsTested (dis bas : List ℕ) (begun basic : FlowModel) : Type 0 where
  pub basics : HasBasics begun basic
  pub thick : check_result basic dis Thickness ≡ Ok tt
  pub heads : check_result basic bas StartHead ≡ Ok tt

-- a model that is read
pub record IsRead (limits : Limits) (m : FlowModel) : Type 0 where
  pub sound : IsSound limits m
  pub options : IsOption m.nrchop × IsOption m.nevtop
  pub each : All (IsKnown limits m.grid m.ibound m.nrchop m.nevtop) m.periods

read_with : (limits : Limits) (core m : FlowModel) → IsFlow limits core → IsStressed limits core m → IsRead limits m
read_with limits core m f s =
    let times = All-weaker (IsKnown limits core.grid core.ibound s.nrchop s.nevtop) IsTimed (λ p k. k.times) m.periods s.stage.each in
    subst (λ (n : FlowModel). IsRead limits n) (sym s.stage.is)
    (record { sound = sound_again limits core s.nrchop s.nevtop m.periods s.stage.same times f.sound; options = s.options; each = s.stage.each })

module _ (limits : Limits) (files : FileSet) where
  pub begun_is : (dis : List ℕ) → GivesOnly (IsStarted limits) (dis_in limits files dis)
  unfolding dis_in
  begun_is dis = goes_on (file_at files dis) _ (λ bytes e. dis_is limits files dis bytes)

  both_tested : (dis bas : List ℕ) (basic : FlowModel) → GivesOnly (λ u. (check_result basic dis Thickness ≡ Ok tt) × (check_result basic bas StartHead ≡ Ok tt)) (basics_tested dis bas basic)
  unfolding basics_tested
  both_tested dis bas basic = goes_on (check_result basic dis Thickness) _ (λ thick a. record { gives = λ u b. (a, b) })

  pub basic_is : (dis bas : List ℕ) (begun : FlowModel) → GivesOnly (IsTested dis bas begun) (bas_in files dis bas begun)
  unfolding bas_in
  basic_is dis bas begun =
      goes_on (file_at files bas) _ (λ bytes e. then_ _ (bas_is files bas bytes begun) (λ basic is. then_ _ (both_tested dis bas basic)
      (λ tested both. ok_gives_only (record { basics = is; thick = both.0; heads = both.1 }))))

  lpf_read : (lpf : List ℕ) (basic : FlowModel) → GivesOnly (λ flow. HasFlow flow × SameBut basic flow × (check_result flow lpf PropertyCheck ≡ Ok tt)) (lpf_in files lpf basic)
  unfolding lpf_in
  lpf_read lpf basic =
      goes_on (file_at files lpf) _ (λ bytes a. then_ _ (lpf_is files lpf bytes basic) (λ flow is. goes_on (check_result flow lpf PropertyCheck) _ (λ good b. ok_gives_only (is.0, is.1, b))))

  -- what the packages of stresses make of a model whose properties were read and passed their tests
  pub stressed_is : (names : Pairs) (dis bas lpf : List ℕ) (begun basic flow : FlowModel) → IsStarted limits begun → IsTested dis bas begun basic → HasFlow flow →
      SameBut basic flow → check_result flow lpf PropertyCheck ≡ Ok tt →
      GivesOnly (λ m. IsRead limits m × IsStressed limits flow m) (with_stresses limits files names stresses flow)
  stressed_is names dis bas lpf begun basic flow a b has same good =
      let f = flow_is limits begun basic flow dis bas lpf a b.basics has same b.thick b.heads good in
      gives_only_less (stresses_are limits flow f.sound.discretized.grid.size files names (first_stage limits flow f.options.0 f.options.1 f.new)) (λ m s. (read_with limits flow m f s, s))

  pub model_is : (names : Pairs) → GivesOnly (IsRead limits) (model_of limits files names)
  unfolding model_of
  model_is names =
      let dis = needed_file Dis names in
      let bas = needed_file Bas names in
      let lpf = needed_file Lpf names in
      then_ _ (begun_is dis) (λ begun a. then_ _ (basic_is dis bas begun) (λ basic b. then_ _ (lpf_read lpf basic)
      (λ flow c. gives_only_less (stressed_is names dis bas lpf begun basic flow a b c.0 c.1 c.2) (λ m r. r.0))))

  pub read_is : (name : List ℕ) → GivesOnly (IsRead limits) (reads limits files name)
  unfolding reads
  read_is name = goes_on (names_in files name) _ (λ names e. model_is names)
