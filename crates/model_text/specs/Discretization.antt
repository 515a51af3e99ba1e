-- The file of the discretization (TM 6-A16, input instructions, DIS).
use Rattle.std.specs.Prelude.{ℕ, Bool, true, false, List, [], ◌∷◌, ◌++◌, map, length, codes, decimal, if◌then◌else◌, ◌*◌, ℤ, take, drop, replicate}
use Rattle.model_types.specs.{declared.grid.Grid.Grid, declared.model.FlowModel.FlowModel, declared.period.Period.Period, int_at, is_nonzero, layer_size}
use Rattle.array_text.specs.{number_word, integer_word, Line, row_line, real_array, integer_array}
use Rattle.std.specs.List.{flat_map, range_with_len}
use Rattle.decimal_input.specs.declared.dec.Dec.{Dec}
use Rattle.lpf_package.specs.{is_transient}

-- Lists by cell, layer by layer.
module _ (g : Grid) where
  -- the values of layer k, from 0
  abbrev pub layer_values : {X : Type 0} → ℕ → List X → List X
  layer_values k xs = take (layer_size g) (drop (k * layer_size g) xs)

  -- (NCOL,NROW) - U2DREL: an array of layer k
  abbrev pub real_layer : List Dec → ℕ → List Line
  real_layer xs k = real_array g.rows g.cols (layer_values k xs)

  -- (NCOL,NROW) - U2DINT
  abbrev pub integer_layer : List ℤ → ℕ → List Line
  integer_layer xs k = integer_array g.rows g.cols (layer_values k xs)

  -- these lines for each layer in turn
  abbrev pub each_layer : (ℕ → List Line) → List Line
  each_layer lines = flat_map lines (range_with_len 0 g.layers)

module _ (m : FlowModel) where
  -- item 1: NLAY NROW NCOL NPER ITMUNI LENUNI
  unfoldable pub dis_item_1 : Line
  dis_item_1 = decimal m.grid.layers ∷ decimal m.grid.rows ∷ decimal m.grid.cols ∷ decimal (length m.periods) ∷ codes "0" ∷ integer_word m.lenuni ∷ []

module _ (g : Grid) where
  -- item 2: LAYCBD(NLAY)
  unfoldable pub dis_item_2 : Line
  dis_item_2 = row_line integer_word g.laycbd

  -- item 3: DELR(NCOL) - U1DREL
  unfoldable pub dis_item_3 : List Line
  dis_item_3 = real_array 1 g.cols g.delr

  -- item 4: DELC(NROW) - U1DREL
  unfoldable pub dis_item_4 : List Line
  dis_item_4 = real_array 1 g.rows g.delc

  -- item 5: Top(NCOL,NROW) - U2DREL
  unfoldable pub dis_item_5 : List Line
  dis_item_5 = real_array g.rows g.cols g.top

  -- item 6: BOTM(NCOL,NROW) - U2DREL, for a layer and the confining bed below it, if there is one
  unfoldable pub dis_item_6 : ℕ → List Line
  dis_item_6 k = real_layer g g.bottom k ++ (if is_nonzero (int_at g.laycbd k) then real_layer g g.bed_bottom k else [])

-- steady or transient
abbrev pub steady_word : Bool → List ℕ
steady_word true = codes "SS"
steady_word false = codes "TR"

-- item 7: PERLEN NSTP TSMULT Ss/Tr
unfoldable pub dis_item_7 : Period → Line
dis_item_7 p = number_word p.perlen ∷ decimal p.nstp ∷ number_word p.tsmult ∷ steady_word p.steady ∷ []

unfoldable pub dis_lines : FlowModel → List Line
dis_lines m =
    dis_item_1 m ∷ dis_item_2 m.grid ∷ (dis_item_3 m.grid ++ (dis_item_4 m.grid ++ (dis_item_5 m.grid
    ++ (each_layer m.grid (dis_item_6 m.grid) ++ map dis_item_7 m.periods))))

-- The file of the basic package (TM 6-A16, input instructions, BAS6).
-- item 1: Options
unfoldable pub bas_item_1 : Line
bas_item_1 = codes "FREE" ∷ []

module _ (m : FlowModel) where
  -- item 2: IBOUND(NCOL,NROW) - U2DINT, for each layer
  unfoldable pub bas_item_2 : List Line
  bas_item_2 = each_layer m.grid (integer_layer m.grid m.ibound)

-- item 3: HNOFLO
unfoldable pub bas_item_3 : Line
bas_item_3 = codes "0" ∷ []

module _ (m : FlowModel) where
  -- item 4: STRT(NCOL,NROW) - U2DREL, for each layer
  unfoldable pub bas_item_4 : List Line
  bas_item_4 = each_layer m.grid (real_layer m.grid m.strt)

unfoldable pub bas_lines : FlowModel → List Line
bas_lines m = bas_item_1 ∷ (bas_item_2 m ++ (bas_item_3 ∷ bas_item_4 m))

-- The file of the layer-property flow package (TM 6-A16, input instructions, LPF).
-- the option that says that SS is a storage coefficient
abbrev pub storage_option : Bool → Line
storage_option true = codes "STORAGECOEFFICIENT" ∷ []
storage_option false = []

module _ (m : FlowModel) where
  -- item 1: ILPFCB HDRY NPLPF and options
  unfoldable pub lpf_item_1 : Line
  lpf_item_1 = codes "0" ∷ codes "0" ∷ codes "0" ∷ storage_option m.coefficient

  -- item 2: LAYTYP(NLAY), item 3: LAYAVG(NLAY), item 6: LAYWET(NLAY): confined layers, harmonic means, no wetting
  unfoldable pub lpf_zeros : Line
  lpf_zeros = replicate m.grid.layers (codes "0")

  -- item 4: CHANI(NLAY): HANI follows for each layer
  unfoldable pub lpf_item_4 : Line
  lpf_item_4 = replicate m.grid.layers (codes "-1")

  -- item 5: LAYVKA(NLAY)
  unfoldable pub lpf_item_5 : Line
  lpf_item_5 = row_line integer_word m.layvka

  -- items 10 to 15 of a layer: HK, HANI, VKA, Ss where a period is transient, VKCB where a confining bed lies below, each (NCOL,NROW) - U2DREL
  unfoldable pub lpf_arrays : ℕ → List Line
  lpf_arrays k =
      real_layer m.grid m.hk k ++ (real_layer m.grid m.hani k ++ (real_layer m.grid m.vka k
      ++ ((if is_transient m.periods then real_layer m.grid m.ss k else [])
      ++ (if is_nonzero (int_at m.grid.laycbd k) then real_layer m.grid m.vkcb k else []))))

unfoldable pub lpf_lines : FlowModel → List Line
lpf_lines m = lpf_item_1 m ∷ lpf_zeros m ∷ lpf_zeros m ∷ lpf_item_4 m ∷ lpf_item_5 m ∷ lpf_zeros m ∷ each_layer m.grid (lpf_arrays m)
