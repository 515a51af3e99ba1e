-- A test of cells or of columns that is passed with one file's name in its refusals is passed with any other.
use Rattle.model_reader.proofs.Common.{ok_gives_only, goes_on, GivesOnly, HasBasics, at_cell, cell_step, check_result, fault_at, StartHead, Thickness, IsDec, IsStarted, IsNewPeriod, cell_tested}
use Rattle.model_reader.proofs.Common.{chosen_cell, column_step, column_tested, columns_tested, evap_fault, source, SameBut, with_properties, IsGrid, IsTimed, cell_count, int_at, is_nonzero}
use Rattle.model_reader.proofs.Common.{layer_size, Grid, Limits, FlowModel, Period, Refusal, Area, each_number, All, Bool, List, None, Ok, Option, Result, Some, ap, length, pos, refl, subst, suc, sum}
use Rattle.model_reader.proofs.Common.{sum_by, sym, zero, ℕ, ℤ, ◌+◌, ◌∙◌, ◌≡◌, ◌≤◌, if◌then◌else◌, IsDiscretized, IsGridWithin, IsOfBeds, HasFlow, is_transient, steps, [], cond, map, not, ◌∷◌, ◌||◌}
use Rattle.model_reader.proofs.Common.{length-map, with_basics}
use Rattle.array_text.specs.{IsShort}
use Rattle.number_limits.specs.{declared.passing.Check.Check, declared.passing.Check.TheVariants.Properties as PropertyCheck}
use Rattle.std.proofs.lemmas.List.Sums.{sum-map}
use Rattle.std.specs.List.{list_any}
use Rattle.outside.specs.declared.codes.Code.{Code}
use Rattle.lpf_package.specs.declared.layer.Properties.{Properties}

-- where each step that is passed is passed otherwise too
passed_again : (step other : ℕ → Unit {0} → Result (Unit {0}) Refusal) → ((i : ℕ) → step i tt ≡ Ok tt → other i tt ≡ Ok tt) → (n i : ℕ) →
    GivesOnly (λ u. each_number other i n tt ≡ Ok tt) (each_number step i n tt)
unfolding each_number
passed_again step other again zero i = ok_gives_only refl
passed_again step other again (suc n) i = goes_on (step i tt) _ (λ u e. rw (again i e) (passed_again step other again n (i + 1)))

cell_again : (g : Grid) (file other : List ℕ) (c : ℕ) (o : Option Code) → at_cell g file c o ≡ Ok tt → at_cell g other c o ≡ Ok tt
cell_again g file other c None h = refl
cell_again g file other c (Some code) h = absurd cc

pub checked_again : (m : FlowModel) (file other : List ℕ) (check : Check) → check_result m file check ≡ Ok tt → check_result m other check ≡ Ok tt
unfolding check_result
checked_again m file other check h = (passed_again (cell_step m file check) (cell_step m other check) (λ c k. cell_again m.grid file other c (fault_at check m c) k) (cell_count m.grid) 0).gives tt h

tested_again : (file other : List ℕ) (g : Grid) (c : ℕ) (o : Option Code) → cell_tested file g c o ≡ Ok tt → cell_tested other g c o ≡ Ok tt
tested_again file other g c None h = refl
tested_again file other g c (Some code) h = absurd cc

column_again : (file other : List ℕ) (g : Grid) (ibound : List ℤ) (a : Area) (i : ℕ) (o : Option ℕ) → column_tested file g ibound a i o ≡ Ok tt → column_tested other g ibound a i o ≡ Ok tt
column_again file other g ibound a i None h = refl
column_again file other g ibound a i (Some c) h = tested_again file other g c (if is_nonzero (int_at ibound c) then evap_fault (source a i) else None) h

pub columns_again : (file other : List ℕ) (g : Grid) (ibound : List ℤ) (option : ℤ) (a : Area) → columns_tested file g ibound option a ≡ Ok tt → columns_tested other g ibound option a ≡ Ok tt
unfolding columns_tested
columns_again file other g ibound option a h =
    (passed_again (column_step file g ibound option a) (column_step other g ibound option a) (λ i k.
    column_again file other g ibound a i (chosen_cell g ibound option a.layers i) k) (layer_size g) 0).gives tt h

-- What is known of a model after LPF.
-- another model with this grid, LENUNI, and as many periods of as many steps
pub discretized_again : (m n : FlowModel) → n.grid ≡ m.grid → n.lenuni ≡ m.lenuni → length n.periods ≡ length m.periods → sum_by (λ p. p.nstp) n.periods ≡
    sum_by (λ p. p.nstp) m.periods → All IsTimed n.periods
    → IsDiscretized m → IsDiscretized n
discretized_again m n grid lenuni many sum times d = record {
  grid = subst (λ (g : Grid). IsGrid g) (sym grid) d.grid;
  laycbd = subst (λ (g : Grid). All IsShort g.laycbd) (sym grid) d.laycbd;
  bed_bottom = subst (λ (g : Grid). IsOfBeds g g.bed_bottom) (sym grid) d.bed_bottom;
  lenuni = subst (λ (z : ℤ). IsShort z) (sym lenuni) d.lenuni;
  some = subst (λ (n : ℕ). 1 ≤ n) (sym many) d.some;
  few = subst (λ (n : ℕ). n ≤ 1000) (sym many) d.few;
  steps = subst (λ (n : ℕ). n ≤ 100000) (sym sum) d.steps;
  times = times;
}

-- a model whose discretization, arrays and properties are in limits and pass their tests, whatever its stresses
pub record IsSound (limits : Limits) (m : FlowModel) : Type 0 where
  pub discretized : IsDiscretized m
  pub within : IsGridWithin limits m.grid
  pub ibound : length m.ibound ≡ cell_count m.grid
  pub strt : (length m.strt ≡ cell_count m.grid) × All IsDec m.strt
  pub flow : HasFlow m
  pub passed : (check : Check) (file : List ℕ) → check_result m file check ≡ Ok tt

-- what is known of a model after LPF
pub record IsFlow (limits : Limits) (m : FlowModel) : Type 0 where
  pub sound : IsSound limits m
  pub new : All IsNewPeriod m.periods
  pub options : (m.nrchop ≡ pos 0) × (m.nevtop ≡ pos 0)

-- other stresses of as many steps
abbrev pub staged : FlowModel → ℤ → ℤ → List Period → FlowModel
staged core nrchop nevtop ps = record core { nrchop = nrchop; nevtop = nevtop; periods = ps }

pub checks_kept : (core : FlowModel) (nrchop nevtop : ℤ) (ps : List Period) (check : Check) (file : List ℕ) → check_result (staged core nrchop nevtop ps) file check ≡ check_result core file check
unfolding check_result fault_at
checks_kept core nrchop nevtop ps Thickness file = refl
checks_kept core nrchop nevtop ps x file = refl

same_count : (ps qs : List Period) → map steps ps ≡ map steps qs → length ps ≡ length qs
same_count ps qs e = sym (length-map ps steps) ∙ ap (λ (xs : List (ℕ × Bool)). length xs) e ∙ length-map qs steps

-- what is seen of periods through their steps is the same
same_view : {B : Type 0} (g : ℕ × Bool → B) (h : Period → B) → ((p : Period) → g (steps p) ≡ h p) → (ps qs : List Period) → map steps ps ≡ map steps qs → map h ps ≡ map h qs
same_view g h seen ps qs e = sym (viewed ps) ∙ ap (λ (xs : List (ℕ × Bool)). map g xs) e ∙ viewed qs
  where
    viewed : (xs : List Period) → map g (map steps xs) ≡ map h xs
    viewed [] = refl
    viewed (p ∷ xs) = λ i. seen p i ∷ viewed xs i

same_sum : (ps qs : List Period) → map steps ps ≡ map steps qs → sum_by (λ p. p.nstp) ps ≡ sum_by (λ p. p.nstp) qs
same_sum ps qs e = sym (sum-map (λ p. p.nstp) ps) ∙ ap sum (same_view (λ x. x.0) (λ p. p.nstp) (λ p. refl) ps qs e) ∙ sum-map (λ p. p.nstp) qs

any_unsteady : (ps : List Period) → is_transient ps ≡ list_any (λ b. not b) (map (λ p. p.steady) ps)
any_unsteady [] = refl
any_unsteady (p ∷ ps) = ap (λ (b : Bool). not p.steady || b) (any_unsteady ps)

same_transient : (ps qs : List Period) → map steps ps ≡ map steps qs → is_transient ps ≡ is_transient qs
same_transient ps qs e = any_unsteady ps ∙ ap (λ (bs : List Bool). list_any (λ b. not b) bs) (same_view (λ x. x.1) (λ p. p.steady) (λ p. refl) ps qs e) ∙ sym (any_unsteady qs)

flow_again : (core : FlowModel) (nrchop nevtop : ℤ) (ps : List Period) → map steps ps ≡ map steps core.periods → HasFlow core → HasFlow (staged core nrchop nevtop ps)
flow_again core nrchop nevtop ps same h = record {
  layvka = h.layvka;
  hk = h.hk;
  hani = h.hani;
  vka = h.vka;
  ss = (h.ss.0 ∙ ap (λ (b : Bool). cond b (cell_count core.grid) 0) (sym (same_transient ps core.periods same)), h.ss.1);
  vkcb = h.vkcb;
  beds = h.beds;
}

pub sound_again : (limits : Limits) (core : FlowModel) (nrchop nevtop : ℤ) (ps : List Period) → map steps ps ≡ map steps core.periods → All IsTimed ps →
    IsSound limits core → IsSound limits (staged core nrchop nevtop ps)
sound_again limits core nrchop nevtop ps same times h = record {
  discretized = discretized_again core (staged core nrchop nevtop ps) refl refl (same_count ps core.periods same) (same_sum ps core.periods same) times h.discretized;
  within = h.within;
  ibound = h.ibound;
  strt = h.strt;
  flow = flow_again core nrchop nevtop ps same h.flow;
  passed = λ check file. checks_kept core nrchop nevtop ps check file ∙ h.passed check file;
}

thickness_kept : (m : FlowModel) (c : Bool) (layvka : List ℤ) (p : Properties) (file : List ℕ) → check_result (with_properties m c layvka p) file Thickness ≡ check_result m file Thickness
unfolding check_result fault_at
thickness_kept m c layvka p file = refl

heads_kept : (m : FlowModel) (c : Bool) (layvka : List ℤ) (p : Properties) (file : List ℕ) → check_result (with_properties m c layvka p) file StartHead ≡ check_result m file StartHead
unfolding check_result fault_at
heads_kept m c layvka p file = refl

all_passed : (m : FlowModel) (c : Bool) (layvka : List ℤ) (p : Properties) (dis bas lpf : List ℕ) → check_result m dis Thickness ≡ Ok tt →
    check_result m bas StartHead ≡ Ok tt → check_result (with_properties m c layvka p) lpf PropertyCheck ≡ Ok tt
    → (check : Check) (file : List ℕ) → check_result (with_properties m c layvka p) file check ≡ Ok tt
all_passed m c layvka p dis bas lpf thick heads good Thickness file = checked_again (with_properties m c layvka p) dis file Thickness (thickness_kept m c layvka p dis ∙ thick)
all_passed m c layvka p dis bas lpf thick heads good StartHead file = checked_again (with_properties m c layvka p) bas file StartHead (heads_kept m c layvka p bas ∙ heads)
all_passed m c layvka p dis bas lpf thick heads good PropertyCheck file = checked_again (with_properties m c layvka p) lpf file PropertyCheck good

pub flow_is : (limits : Limits) (b basic flow : FlowModel) (dis bas lpf : List ℕ) → IsStarted limits b → HasBasics b basic → HasFlow flow → SameBut basic flow
    → check_result basic dis Thickness ≡ Ok tt → check_result basic bas StartHead ≡ Ok tt → check_result flow lpf PropertyCheck ≡ Ok tt → IsFlow limits flow
flow_is limits b basic flow dis bas lpf started basics has same thick heads good =
    let p : Properties = record { hk = flow.hk; hani = flow.hani; vka = flow.vka; ss = flow.ss; vkcb = flow.vkcb } in
    let only : flow ≡ with_properties (with_basics b basic.ibound basic.strt) flow.coefficient flow.layvka p =
    same ∙ ap (λ (m : FlowModel). with_properties m flow.coefficient flow.layvka p) basics.only in
    subst (λ (m : FlowModel). IsFlow limits m) (sym only) (record {
      sound = record {
        discretized = discretized_again b _ refl refl refl refl started.begun.discretized.times started.begun.discretized;
        within = started.within;
        ibound = basics.ibound;
        strt = basics.strt;
        flow = subst (λ (m : FlowModel). HasFlow m) only has;
        passed = λ check file.
            ap (λ (m : FlowModel). check_result (with_properties m flow.coefficient flow.layvka p) file check) (sym basics.only)
            ∙ all_passed basic flow.coefficient flow.layvka p dis bas lpf thick heads (subst (λ (m : FlowModel). check_result m lpf PropertyCheck ≡ Ok tt) same good) check file;
      };
      new = started.begun.periods;
      options = (ap (λ (m : FlowModel). m.nrchop) started.begun.new, ap (λ (m : FlowModel). m.nevtop) started.begun.new);
    })
