-- The files of list packages (TM 6-A16, input instructions, WEL, RIV, DRN, GHB, CHD).
use Rattle.std.specs.Prelude.{ℕ, List, [], ◌∷◌, ◌++◌, map, length, max, fold, codes, decimal, if◌then◌else◌}
use Rattle.std.specs.List.{flat_map}
use Rattle.decimal_input.specs.declared.dec.Dec.{Dec}
use Rattle.model_types.specs.{declared.entry.Entry.Entry, declared.entry.Entry.TheVariants.Well, declared.entry.Entry.TheVariants.River}
use Rattle.model_types.specs.{declared.entry.Entry.TheVariants.Drain, declared.entry.Entry.TheVariants.General, declared.grid.Grid.Grid}
use Rattle.model_types.specs.{declared.model.FlowModel.FlowModel, place, cell_of, is_int, declared.period.Period.Period}
use Rattle.model_types.specs.declared.entry.Given.{Given}
use Rattle.array_text.specs.{number_word, Line, integer_word, real_array, integer_array}

-- WEL: Q; RIV: Stage Cond Rbot; DRN: Elevation Cond; GHB: Bhead Cond
abbrev pub numbers_of : Entry → List Dec
numbers_of (Well cell q) = q ∷ []
numbers_of (River cell stage k bottom) = stage ∷ k ∷ bottom ∷ []
numbers_of (Drain cell elevation k) = elevation ∷ k ∷ []
numbers_of (General cell head k) = head ∷ k ∷ []

-- CHD: Shead Ehead
abbrev pub heads_of : Given → List Dec
heads_of x = x.shead ∷ x.ehead ∷ []

-- item 2: the greatest number of entries, MXACTW, MXACTR, MXACTD, MXACTB or MXACTC, and no file for flows
unfoldable pub list_item_2 : {E : Type 0} → List (List E) → Line
list_item_2 lists = decimal (fold max 0 (map length lists)) ∷ codes "0" ∷ []

-- item 5: ITMP NP
unfoldable pub list_item_5 : {E : Type 0} → List E → Line
list_item_5 list = decimal (length list) ∷ codes "0" ∷ []

-- item 6: Layer Row Column, and the numbers of the package
unfoldable pub list_item_6 : Grid → ℕ → List Dec → Line
list_item_6 g cell numbers = map decimal (place g cell) ++ map number_word numbers

-- a period's list
unfoldable pub period_list : {E : Type 0} → Grid → (E → ℕ) → (E → List Dec) → List E → List Line
period_list g cell numbers list = list_item_5 list ∷ map (λ x. list_item_6 g (cell x) (numbers x)) list

unfoldable pub list_lines : {E : Type 0} → Grid → (E → ℕ) → (E → List Dec) → List (List E) → List Line
list_lines g cell numbers lists = list_item_2 lists ∷ flat_map (period_list g cell numbers) lists

-- the file of WEL, RIV, DRN or GHB, by the list that a stress period has of it
abbrev pub entry_lines : FlowModel → (Period → List Entry) → List Line
entry_lines m list = list_lines m.grid cell_of numbers_of (map list m.periods)

-- The files of recharge and evapotranspiration (TM 6-A16, input instructions, RCH and EVT).
module _ (m : FlowModel) where
  -- RCH item 2: NRCHOP IRCHCB
  unfoldable pub rch_item_2 : Line
  rch_item_2 = integer_word m.nrchop ∷ codes "0" ∷ []

  -- RCH items 5, 6 and 8: INRECH INIRCH; RECH(NCOL,NROW) - U2DREL; where NRCHOP is 2, IRCH(NCOL,NROW) - U2DINT
  unfoldable pub rch_items : Period → List Line
  rch_items p =
      (codes "1" ∷ codes "1" ∷ []) ∷ (real_array m.grid.rows m.grid.cols p.stresses.recharge
      ++ (if is_int m.nrchop 2 then integer_array m.grid.rows m.grid.cols p.stresses.irch else []))

  unfoldable pub rch_lines : List Line
  rch_lines = rch_item_2 ∷ flat_map rch_items m.periods

  -- EVT item 2: NEVTOP IEVTCB
  unfoldable pub evt_item_2 : Line
  evt_item_2 = integer_word m.nevtop ∷ codes "0" ∷ []

  -- EVT items 5, 6, 7, 9 and 10: INSURF INEVTR INEXDP INIEVT; SURF, EVTR and EXDP, each (NCOL,NROW) - U2DREL; where NEVTOP is 2, IEVT(NCOL,NROW) - U2DINT
  unfoldable pub evt_items : Period → List Line
  evt_items p =
      (codes "1" ∷ codes "1" ∷ codes "1" ∷ codes "1" ∷ []) ∷ (real_array m.grid.rows m.grid.cols p.stresses.surf
      ++ (real_array m.grid.rows m.grid.cols p.stresses.evtr ++ (real_array m.grid.rows m.grid.cols p.stresses.exdp
      ++ (if is_int m.nevtop 2 then integer_array m.grid.rows m.grid.cols p.stresses.ievt else []))))

  unfoldable pub evt_lines : List Line
  evt_lines = evt_item_2 ∷ flat_map evt_items m.periods
