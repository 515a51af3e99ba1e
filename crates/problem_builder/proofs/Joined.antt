-- Lists of a cell's entries, put together from their kinds.
use Rattle.problem_builder.proofs.Common.{◌≡◌, ℕ, ◌+◌, ◌<◌, ◌≤◌, Bool, true, cond, Option, Some, None, List, [], ◌∷◌, ◌++◌, map, refl, sym, ap, ◌∙◌, length, get_or, take, take_all, take_more}
use Rattle.problem_builder.proofs.Common.{filter_map-append, option_to_list, cons_option, filter_map, Bound, Flow, Fixed, Face, Entry, FlowModel, TimeStep, FixedSource, ToConstant, Received, as_well}
use Rattle.problem_builder.proofs.Common.{as_general, through, Dec, whole_flow, Branches, constant_over, fixed_over, well_of, general_of, option_map, FlowPair, recharge_pair, flow_of_pair, AllZip}
use Rattle.problem_builder.proofs.Common.{Well, map-append, map-map}
use Rattle.model_types.specs.declared.entry.Entry.TheVariants.{River as RiverEntry, Drain as DrainEntry, General as GeneralEntry}
use Rattle.step_problem.specs.declared.entry.FlowKind.TheVariants.{Recharge}

-- Loops that push what there is.
as_list : {Y : Type 0} (o : Option Y) → option_to_list o ≡ cons_option o []
as_list None = refl
as_list (Some y) = refl

-- a list with what one more item of the other list gives
pub push_given : {X Y : Type 0} (h : X → Option Y) (xs : List X) (x : X) (front new : List Y) (o : Option Y) → new ≡ front ++ option_to_list o → o ≡ h x →
    front ≡ filter_map h xs → new ≡ filter_map h (xs ++ x ∷ [])
push_given h xs x front new o e gives so_far = e ∙ (λ t. so_far t ++ option_to_list (gives t)) ∙ ap (λ ys. filter_map h xs ++ ys) (as_list (h x)) ∙ sym (filter_map-append h xs (x ∷ []))

-- the step of a loop that pushes what an item of the list gives
pub push_next : {X Y : Type 0} (h : X → Option Y) (xs : List X) (i : ℕ) (d : X) (front new : List Y) (o : Option Y) → i < length xs → new ≡ front ++ option_to_list o → o ≡ h (get_or xs i d) →
    front ≡ filter_map h (take i xs) → new ≡ filter_map h (take (i + 1) xs)
push_next h xs i d front new o lt e gives so_far = push_given h (take i xs) (get_or xs i d) front new o e gives so_far ∙ ap (filter_map h) (sym (take_more xs i d lt))

made_cons : {Y Z : Type 0} (f : Y → Z) (o : Option Y) (ys : List Y) → cons_option (option_map f o) (map f ys) ≡ map f (cons_option o ys)
made_cons f None ys = refl
made_cons f (Some y) ys = refl

-- what is made of the items that there are
pub made_of : {X Y Z : Type 0} (f : Y → Z) (g : X → Option Y) (h : X → Option Z) → ((x : X) → h x ≡ option_map f (g x)) → (xs : List X) → filter_map h xs ≡ map f (filter_map g xs)
made_of f g h e [] = refl
made_of f g h e (x ∷ xs) = (λ t. cons_option (e x t) (made_of f g h e xs t)) ∙ made_cons f (g x) (filter_map g xs)

pub made_list : {X Y : Type 0} (f : X → Y) (o : Option X) → option_to_list (option_map f o) ≡ map f (option_to_list o)
made_list f None = refl
made_list f (Some x) = refl

-- its end: all that is made of the items of a list
pub made_all : {X Y Z : Type 0} (f : Y → Z) (g : X → Option Y) (xs ys : List X) (i : ℕ) (all : List Z) → length xs ≤ i → xs ≡ ys → all ≡
    filter_map (λ x. option_map f (g x)) (take i xs) → all ≡ map f (filter_map g ys)
made_all f g xs ys i all le e so_far = so_far ∙ ap (filter_map (λ x. option_map f (g x))) (take_all i xs le ∙ e) ∙ made_of f g (λ x. option_map f (g x)) (λ x. refl) ys

-- what is made of a face that passes a test
pub made_through : {X : Type 0} (f : Face → X) (test : ℕ → Bool) (o : Option Face) (face : Face) (x : X) → o ≡ Some face → test face.end ≡ true → x ≡ f face → Some x ≡ option_map f (through test o)
made_through f test o face x e t r = ap Some r ∙ sym (ap (λ q. option_map f (through test q)) e ∙ ap (λ b. option_map f (cond b (Some face) None)) t)

module _ (m : FlowModel) (s : ℕ) (at : TimeStep) (old : List Bound) (b : Branches) (c : ℕ) where
  generals : (x : Entry) → general_of s c x ≡ option_map (fixed_over m s at old b c) (as_general x)
  generals (Well cell q) = refl
  generals (RiverEntry cell stage k bottom) = refl
  generals (DrainEntry cell elevation k) = refl
  generals (GeneralEntry cell head k) = refl

  -- storage, then constant heads, then general heads
  pub fixed_are : (o : Option Fixed) (storage : Option FixedSource) (faces : List Face) (ks gs : List Fixed) (entries : List Entry) (first second third : List Fixed) →
      first ≡ [] ++ option_to_list o → o ≡ option_map (fixed_over m s at old b c) storage → ks ≡ map (constant_over m s at old b) faces → gs ≡ filter_map (general_of s c) entries →
      second ≡ first ++ ks → third ≡ second ++ gs → third ≡ map (fixed_over m s at old b c) (option_to_list storage ++ map ToConstant faces ++ filter_map as_general entries)
  fixed_are o storage faces ks gs entries first second third e₁ stored k g e₃ e₄ =
      let F = fixed_over m s at old b c in
      let a : first ≡ map F (option_to_list storage) = e₁ ∙ ap option_to_list stored ∙ made_list F storage in
      let k' : ks ≡ map F (map ToConstant faces) = k ∙ sym (map-map F ToConstant faces) in
      let d : gs ≡ map F (filter_map as_general entries) = g ∙ made_of F as_general (general_of s c) generals entries in
      e₄ ∙ ap (λ xs. xs ++ gs) e₃ ∙ (λ t. (a t ++ k' t) ++ d t)
      ∙ sym (map-append F (option_to_list storage ++ map ToConstant faces) (filter_map as_general entries) ∙ ap (λ xs.
      xs ++ map F (filter_map as_general entries)) (map-append F (option_to_list storage) (map ToConstant faces)))

module _ (m : FlowModel) (s c : ℕ) where
  wells : (x : Entry) → well_of s x ≡ option_map (whole_flow m s c) (as_well x)
  wells (Well cell q) = refl
  wells (RiverEntry cell stage k bottom) = refl
  wells (DrainEntry cell elevation k) = refl
  wells (GeneralEntry cell head k) = refl

  -- recharge, then wells
  pub flows_are : (o : Option Flow) (recharge : Option Dec) (ws : List Flow) (entries : List Entry) (first second : List Flow) →
      first ≡ [] ++ option_to_list o → o ≡ option_map (λ rate. whole_flow m s c (Received rate)) recharge → ws ≡ filter_map (well_of s) entries → second ≡ first ++ ws →
      second ≡ map (whole_flow m s c) (map Received (option_to_list recharge) ++ filter_map as_well entries)
  flows_are o recharge ws entries first second e received h f =
      let F = whole_flow m s c in
      let a : first ≡ map F (map Received (option_to_list recharge)) = e ∙ ap option_to_list received ∙ made_list (λ rate. F (Received rate)) recharge ∙ sym
      (map-map F Received (option_to_list recharge)) in
      let b : ws ≡ map F (filter_map as_well entries) = h ∙ made_of F as_well (well_of s) wells entries in
      f ∙ (λ t. a t ++ b t) ∙ sym (map-append F (map Received (option_to_list recharge)) (filter_map as_well entries))

-- the flow of the recharge that a cell receives
pub recharge_is_whole_flow : (m : FlowModel) (s c : ℕ) (rate : Option Dec) (pair : Option FlowPair) → pair ≡ option_map (recharge_pair m s c) rate →
    option_map (flow_of_pair Recharge) pair ≡ option_map (λ r. whole_flow m s c (Received r)) rate
recharge_is_whole_flow m s c None pair e = ap (option_map (flow_of_pair Recharge)) e
recharge_is_whole_flow m s c (Some r) pair e = ap (option_map (flow_of_pair Recharge)) e

-- what a list is after a push and an extension, as the clauses say it
pub first_is_pushed : {X : Type 0} (empty first : List X) (o : Option X) → empty ≡ [] → first ≡ empty ++ option_to_list o → first ≡ [] ++ option_to_list o
first_is_pushed empty first o e h = h ∙ ap (λ xs. xs ++ option_to_list o) e

pub extended : {X : Type 0} (old new more seen : List X) → seen ≡ more → new ≡ old ++ seen → new ≡ old ++ more
extended old new more seen e h = h ∙ ap (λ xs. old ++ xs) e

-- a relation of the items of two lists
pub AllZip-weaker : {X Y : Type 0} (R S : X → Y → Type 0) → ((x : X) (y : Y) → R x y → S x y) → (xs : List X) (ys : List Y) → AllZip R xs ys → AllZip S xs ys
AllZip-weaker R S h [] [] k = tt
AllZip-weaker R S h [] (y ∷ ys) k = absurd k
AllZip-weaker R S h (x ∷ xs) [] k = absurd k
AllZip-weaker R S h (x ∷ xs) (y ∷ ys) k = (h x y k.0, AllZip-weaker R S h xs ys k.1)
