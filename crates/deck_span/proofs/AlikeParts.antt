-- Two models are alike exactly where they share each package.
use Rattle.deck_span.proofs.Common.{◌≡◌, suc, List, [], ◌∷◌, length, refl, ap, All, lit<, AllZip, All-nil, All-cons, Package, Dis, Bas, Lpf, Wel, Riv, Drn, Ghb, Rch, Chd, Evt, FlowModel, Period}
use Rattle.deck_span.proofs.Common.{Shares, SharesBounds, SharesEvaporation, SharesGrid, SharesIn, SharesProperties, SharesTimes, comparing_order, AreAlike, ArePeriodsAlike, frame, no_stresses}

module _ {X : Type 0} where
  each_of : (R S : X → X → Type 0) → ((x y : X) → R x y → S x y) → (xs ys : List X) → AllZip R xs ys → AllZip S xs ys
  each_of R S turn [] [] h = tt
  each_of R S turn [] (y ∷ ys) h = absurd h
  each_of R S turn (x ∷ xs) [] h = absurd h
  each_of R S turn (x ∷ xs) (y ∷ ys) h = (turn x y h.0, each_of R S turn xs ys h.1)

  long : (R : X → X → Type 0) (xs ys : List X) → AllZip R xs ys → length ys ≡ length xs
  long R [] [] h = refl
  long R [] (y ∷ ys) h = absurd h
  long R (x ∷ xs) [] h = absurd h
  long R (x ∷ xs) (y ∷ ys) h = ap suc (long R xs ys h.1)

period_alike : (p q : Period) → SharesIn Dis p q → SharesIn Wel p q → SharesIn Riv p q → SharesIn Drn p q → SharesIn Ghb p q → SharesIn Chd p q →
    SharesIn Rch p q → SharesIn Evt p q → ArePeriodsAlike p q
period_alike p q d w r n g c h e = record {
  same = λ i. record {
    perlen = d.perlen i;
    nstp = d.nstp i;
    tsmult = d.tsmult i;
    steady = d.steady i;
    stresses = record no_stresses { irch = h.irch i; exdp = e.exdp i; ievt = e.ievt i };
  };
  wells = w;
  rivers = r;
  drains = n;
  generals = g;
  given = c;
  recharge = h.recharge;
  surf = e.surf;
  evtr = e.evtr;
}

joined : (ps qs : List Period) → AllZip (SharesIn Dis) ps qs → AllZip (SharesIn Wel) ps qs → AllZip (SharesIn Riv) ps qs → AllZip (SharesIn Drn) ps qs →
    AllZip (SharesIn Ghb) ps qs → AllZip (SharesIn Chd) ps qs → AllZip (SharesIn Rch) ps qs → AllZip (SharesIn Evt) ps qs → AllZip ArePeriodsAlike ps qs
joined [] [] d w r n g c h e = tt
joined [] (q ∷ qs) d w r n g c h e = absurd d
joined (p ∷ ps) [] d w r n g c h e = absurd d
joined (p ∷ ps) (q ∷ qs) d w r n g c h e = (period_alike p q d.0 w.0 r.0 n.0 g.0 c.0 h.0 e.0, joined ps qs d.1 w.1 r.1 n.1 g.1 c.1 h.1 e.1)

-- what the frames of two periods say of a package
times_shared : (p q : Period) → ArePeriodsAlike p q → SharesTimes p q
times_shared p q h = record {
  perlen = ap (λ (r : Period). r.perlen) h.same;
  nstp = ap (λ (r : Period). r.nstp) h.same;
  tsmult = ap (λ (r : Period). r.tsmult) h.same;
  steady = ap (λ (r : Period). r.steady) h.same;
}

evaporation_shared : (p q : Period) → ArePeriodsAlike p q → SharesEvaporation p q
evaporation_shared p q h = record {
  surf = h.surf;
  evtr = h.evtr;
  exdp = ap (λ (r : Period). r.stresses.exdp) h.same;
  ievt = ap (λ (r : Period). r.stresses.ievt) h.same;
}

module _ (a b : FlowModel) where
  frames : SharesGrid a b → SharesBounds a b → SharesProperties a b → b.nrchop ≡ a.nrchop → b.nevtop ≡ a.nevtop → frame b ≡ frame a
  frames g s l r e = λ i. record {
    grid = g.grid i;
    lenuni = g.lenuni i;
    ibound = s.ibound i;
    strt = [];
    layvka = l.layvka i;
    coefficient = l.coefficient i;
    hk = l.hk i;
    hani = l.hani i;
    vka = l.vka i;
    ss = l.ss i;
    vkcb = l.vkcb i;
    nrchop = r i;
    nevtop = e i;
    periods = [];
  }

  alike_of : Shares Dis a b → Shares Bas a b → Shares Lpf a b → Shares Wel a b → Shares Riv a b → Shares Drn a b → Shares Ghb a b → Shares Chd a b → Shares Rch a b → Shares Evt a b → AreAlike a b
  alike_of d s l w r n g c h e = record {
    same = frames d.head s.head l.head h.head e.head;
    strt = s.head.strt;
    periods = joined a.periods b.periods d.periods w.periods r.periods n.periods g.periods c.periods h.periods e.periods;
  }

  pub shared_alike : All (λ x. Shares x a b) comparing_order → AreAlike a b
  shared_alike h = alike_of (h 0 Dis (lit< tt)) (h 1 Dis (lit< tt)) (h 2 Dis (lit< tt)) (h 3 Dis (lit< tt)) (h 4 Dis (lit< tt)) (h 5 Dis (lit< tt))
      (h 6 Dis (lit< tt)) (h 7 Dis (lit< tt)) (h 8 Dis (lit< tt)) (h 9 Dis (lit< tt))

  -- one package of models that are alike
  periods_of : (x : Package) → AreAlike a b → ((p q : Period) → ArePeriodsAlike p q → SharesIn x p q) → AllZip (SharesIn x) a.periods b.periods
  periods_of x h part = each_of ArePeriodsAlike (SharesIn x) part a.periods b.periods h.periods

  grids : AreAlike a b → SharesGrid a b
  grids h = record { grid = ap (λ (m : FlowModel). m.grid) h.same; lenuni = ap (λ (m : FlowModel). m.lenuni) h.same; nper = long ArePeriodsAlike a.periods b.periods h.periods }

  bounds : AreAlike a b → SharesBounds a b
  bounds h = record { ibound = ap (λ (m : FlowModel). m.ibound) h.same; strt = h.strt }

  layers : AreAlike a b → SharesProperties a b
  layers h = record {
    coefficient = ap (λ (m : FlowModel). m.coefficient) h.same;
    layvka = ap (λ (m : FlowModel). m.layvka) h.same;
    hk = ap (λ (m : FlowModel). m.hk) h.same;
    hani = ap (λ (m : FlowModel). m.hani) h.same;
    vka = ap (λ (m : FlowModel). m.vka) h.same;
    ss = ap (λ (m : FlowModel). m.ss) h.same;
    vkcb = ap (λ (m : FlowModel). m.vkcb) h.same;
  }

  pub alike_shares : (x : Package) → AreAlike a b → Shares x a b
  alike_shares Dis h = record { head = grids h; periods = periods_of Dis h times_shared }
  alike_shares Bas h = record { head = bounds h; periods = periods_of Bas h (λ p q k. tt) }
  alike_shares Lpf h = record { head = layers h; periods = periods_of Lpf h (λ p q k. tt) }
  alike_shares Wel h = record { head = tt; periods = periods_of Wel h (λ p q k. k.wells) }
  alike_shares Riv h = record { head = tt; periods = periods_of Riv h (λ p q k. k.rivers) }
  alike_shares Drn h = record { head = tt; periods = periods_of Drn h (λ p q k. k.drains) }
  alike_shares Ghb h = record { head = tt; periods = periods_of Ghb h (λ p q k. k.generals) }
  alike_shares Chd h = record { head = tt; periods = periods_of Chd h (λ p q k. k.given) }
  alike_shares Rch h = record {
    head = ap (λ (m : FlowModel). m.nrchop) h.same;
    periods =
        periods_of Rch h (λ p q k. record { recharge = k.recharge; irch = ap (λ (r : Period). r.stresses.irch) k.same });
  }
  alike_shares Evt h = record { head = ap (λ (m : FlowModel). m.nevtop) h.same; periods = periods_of Evt h evaporation_shared }

  -- each of these packages
  pub alike_shares_each : (xs : List Package) → AreAlike a b → All (λ x. Shares x a b) xs
  alike_shares_each [] h = All-nil (λ x. Shares x a b)
  alike_shares_each (x ∷ xs) h = All-cons (λ x. Shares x a b) x xs (alike_shares x h) (alike_shares_each xs h)
