-- What two models share of each package, in the order in which a deck is read.
use Rattle.std.specs.Prelude.{◌≡◌, List, [], ◌∷◌, length}
use Rattle.std.specs.List.{AllZip}
use Rattle.name_file.specs.declared.package.Package.{Package}
use Rattle.name_file.specs.declared.package.Package.TheVariants.{Dis, Bas, Lpf, Wel, Riv, Drn, Ghb, Rch, Chd, Evt}
use Rattle.model_types.specs.{declared.model.FlowModel.FlowModel, declared.period.Period.Period}
use Rattle.deck_span.specs.Alike.{AreEntriesAlike, AreGivenAlike, AreRatesAlike}

-- the packages in reading order
abbrev pub comparing_order : List Package
comparing_order = Dis ∷ Bas ∷ Lpf ∷ Wel ∷ Riv ∷ Drn ∷ Ghb ∷ Chd ∷ Rch ∷ Evt ∷ []

-- DIS: the grid, LENUNI and NPER
pub record SharesGrid (a b : FlowModel) : Type 0 where
  pub grid : b.grid ≡ a.grid
  pub lenuni : b.lenuni ≡ a.lenuni
  pub nper : length b.periods ≡ length a.periods

-- BAS6: IBOUND; and STRT has as many numbers
pub record SharesBounds (a b : FlowModel) : Type 0 where
  pub ibound : b.ibound ≡ a.ibound
  pub strt : length b.strt ≡ length a.strt

-- LPF: its options, and each of its arrays
pub record SharesProperties (a b : FlowModel) : Type 0 where
  pub coefficient : b.coefficient ≡ a.coefficient
  pub layvka : b.layvka ≡ a.layvka
  pub hk : b.hk ≡ a.hk
  pub hani : b.hani ≡ a.hani
  pub vka : b.vka ≡ a.vka
  pub ss : b.ss ≡ a.ss
  pub vkcb : b.vkcb ≡ a.vkcb

-- what a package has once
abbrev pub SharesHead : Package → FlowModel → FlowModel → Type 0
SharesHead Dis a b = SharesGrid a b
SharesHead Bas a b = SharesBounds a b
SharesHead Lpf a b = SharesProperties a b
SharesHead Rch a b = b.nrchop ≡ a.nrchop
SharesHead Evt a b = b.nevtop ≡ a.nevtop
SharesHead kind a b = Unit {0}

-- DIS: the period's length, its steps and its state
pub record SharesTimes (p q : Period) : Type 0 where
  pub perlen : q.perlen ≡ p.perlen
  pub nstp : q.nstp ≡ p.nstp
  pub tsmult : q.tsmult ≡ p.tsmult
  pub steady : q.steady ≡ p.steady

-- RCH: IRCH; and RECH has as many numbers
pub record SharesRecharge (p q : Period) : Type 0 where
  pub recharge : length q.stresses.recharge ≡ length p.stresses.recharge
  pub irch : q.stresses.irch ≡ p.stresses.irch

-- EVT: where EVTR is 0, EXDP and IEVT; and SURF has as many numbers
pub record SharesEvaporation (p q : Period) : Type 0 where
  pub surf : length q.stresses.surf ≡ length p.stresses.surf
  pub evtr : AllZip AreRatesAlike p.stresses.evtr q.stresses.evtr
  pub exdp : q.stresses.exdp ≡ p.stresses.exdp
  pub ievt : q.stresses.ievt ≡ p.stresses.ievt

-- what a package has in a stress period; of a list: entries of the same cells in the same order
abbrev pub SharesIn : Package → Period → Period → Type 0
SharesIn Dis p q = SharesTimes p q
SharesIn Bas p q = Unit {0}
SharesIn Lpf p q = Unit {0}
SharesIn Wel p q = AllZip AreEntriesAlike p.stresses.wells q.stresses.wells
SharesIn Riv p q = AllZip AreEntriesAlike p.stresses.rivers q.stresses.rivers
SharesIn Drn p q = AllZip AreEntriesAlike p.stresses.drains q.stresses.drains
SharesIn Ghb p q = AllZip AreEntriesAlike p.stresses.generals q.stresses.generals
SharesIn Chd p q = AllZip AreGivenAlike p.stresses.given q.stresses.given
SharesIn Rch p q = SharesRecharge p q
SharesIn Evt p q = SharesEvaporation p q

-- two models share a package
pub record Shares (kind : Package) (a b : FlowModel) : Type 0 where
  pub head : SharesHead kind a b
  pub periods : AllZip (SharesIn kind) a.periods b.periods
