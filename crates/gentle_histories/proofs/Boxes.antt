-- All heads between a lower and an upper vector: bounds of thicknesses, conductances and falls of head, and the flow over a face as heads rise by little.
use Rattle.gentle_histories.proofs.Common.{◌≡◌, ℕ, zero, suc, ◌+◌, ◌*◌, ◌<◌, ◌≤◌, inl, inr, true, ℤ, pos, neg_ℤ, ◌-ℤ◌, ◌*ℤ◌, ◌≤ℤ◌, ap, sym, ◌∙◌, subst, arith, mod-le, mul-le-mul_left, cases_eq, ints}
use Rattle.gentle_histories.proofs.Common.{unsigned_abs, Fraction, Ratio, as_fraction, whole, AtMost, times, den, AtMost-trans, mul_mono_right, neg_times, minus, FlowModel, Face, IsModel, cell_count}
use Rattle.gentle_histories.proofs.Common.{is_active, span, stride, IsFaceOf, before_le, end_within, below_then_at_most, minus_rises, ConvertibleLayers, conductance_at, IsWetAt, IsWetCell}
use Rattle.gentle_histories.proofs.{Branches.AreThicknesses, Branches.IsCell, Branches.branch_alike, Depths.depth_rises, Depths.lower_some, Depths.near_depths, Depths.upper_some, Grows.AreAlike}
use Rattle.gentle_histories.proofs.{Near.IsNear, Near.near_order, Near.near_plus, Near.near_weaker, Near.near_opposite, Products.product_near}
unfoldable use Rattle.water_table.specs.{saturated_thickness}

-- a bound of finitely many numbers
pub bound_exists : (n : ℕ) (f : ℕ → ℕ) → (q : ℕ) × ((c : ℕ) → c < n → f c ≤ q)
bound_exists zero f = (0, λ c lt. absurd (omega (arith, lt)))
bound_exists (suc n) f =
    let (q, below) = bound_exists n f in (
      q + f n,
      λ c lt. elim (cases_eq c n) [
        | inl last ↦ omega (arith, ap f last)
        | inr early ↦ omega (arith, below c (omega (arith, lt, early)))
      ],
    )

module _ (m : FlowModel) (w : ConvertibleLayers) where
  -- At both vectors active cells are wet, and n bounds what follows from them: one over each thickness at the lower heads, each thickness at the upper ones,
  -- and the magnitude of each head.
  pub record IsBox (low high : ℕ → Fraction) (n : ℕ) : Type 0 where
    pub wet_low : (c : ℕ) → IsCell m c → IsWetAt m w low c
    pub wet_high : (c : ℕ) → IsCell m c → IsWetAt m w high c
    pub least : (c : ℕ) → IsCell m c → den (saturated_thickness m w low c) ≤ n
    pub most : (c : ℕ) → IsCell m c → (saturated_thickness m w high c).num ≤ n
    pub bottom : (c : ℕ) → IsCell m c → AtMost (whole (neg_ℤ (pos n))) (low c)
    pub top : (c : ℕ) → IsCell m c → AtMost (high c) (whole (pos n))

  pub box_exists : (low high : ℕ → Fraction) → ((c : ℕ) → IsCell m c → IsWetAt m w low c) → ((c : ℕ) → IsCell m c → IsWetAt m w high c) → (n : ℕ) × IsBox low high n
  box_exists low high wet wet' =
      let (n, below) = bound_exists (cell_count m.grid)
      (λ c. den (saturated_thickness m w low c) + (saturated_thickness m w high c).num + unsigned_abs (low c).num + unsigned_abs (high c).num) in (
        n,
        record {
          wet_low = wet;
          wet_high = wet';
          least = λ c here. omega (arith, below c here.within);
          most = λ c here. omega (arith, below c here.within);
          bottom = λ c here. record { at_most = least_of (low c).num (low c).less n (omega (arith, below c here.within)) };
          top = λ c here. record { at_most = most_of (high c).num (high c).less n (omega (arith, below c here.within)) };
        },
      )
    where
      least_of : (z : ℤ) (l n : ℕ) → unsigned_abs z ≤ n → (neg_ℤ (pos n) *ℤ pos (suc l)) ≤ℤ (z *ℤ pos 1)
      least_of z l n le = omega (arith, ints, mul_mono_right (suc l) (neg_ℤ (pos n)) (neg_ℤ (pos (unsigned_abs z))) (omega (arith, ints, le)), small (unsigned_abs z) l)
        where
          small : (k l : ℕ) → (neg_ℤ (pos k) *ℤ pos (suc l)) ≤ℤ neg_ℤ (pos k)
          small k l = omega (arith, ints, neg_times (pos k) (pos (suc l)), mul-le-mul_left k (let e : 1 ≤ suc l = omega arith in e))

      most_of : (z : ℤ) (l n : ℕ) → unsigned_abs z ≤ n → (z *ℤ pos 1) ≤ℤ (pos n *ℤ pos (suc l))
      most_of z l n le = omega (arith, ints, le, mul-le-mul_left n (let e : 1 ≤ suc l = omega arith in e))

  -- heads between
  pub record LieIn (low high h : ℕ → Fraction) : Type 0 where
    pub above : (c : ℕ) → IsCell m c → AtMost (low c) (h c)
    pub below : (c : ℕ) → IsCell m c → AtMost (h c) (high c)

  module _ (valid : IsModel m) (low high : ℕ → Fraction) (n : ℕ) (box : IsBox low high n) where
    abbrev depth : (ℕ → Fraction) → ℕ → Ratio
    depth = saturated_thickness m w

    wet_pair : (h g : ℕ → Fraction) → LieIn low high h → LieIn low high g → (c : ℕ) → IsCell m c → IsWetCell m w h g c
    wet_pair h g p q c here = record {
      within = here.within;
      active = here.active;
      at_h = λ converts. below_then_at_most _ _ _ (box.wet_low c here converts) (p.above c here);
      at_g = λ converts. below_then_at_most _ _ _ (box.wet_low c here converts) (q.above c here);
    }

    module _ (h : ℕ → Fraction) (p : LieIn low high h) (c : ℕ) (here : IsCell m c) where
      from_low : IsWetCell m w h low c
      from_low = record {
        within = here.within;
        active = here.active;
        at_h = λ converts. below_then_at_most _ _ _ (box.wet_low c here converts) (p.above c here);
        at_g = box.wet_low c here;
      }

      to_high : IsWetCell m w high h c
      to_high = record {
        within = here.within;
        active = here.active;
        at_h = box.wet_high c here;
        at_g = λ converts. below_then_at_most _ _ _ (box.wet_low c here converts) (p.above c here);
      }

      -- a thickness is at least 1 / n
      least_depth : den (depth h c) ≤ n * (depth h c).num
      least_depth = reach (depth low c).num (den (depth low c)) (depth h c).num (den (depth h c)) (lower_some m w valid h low c from_low (p.above c here))
          (depth_rises m w valid h low c from_low (p.above c here)).cross (box.least c here)
        where
          reach : (ln ld hn hd : ℕ) → 0 < ln → ln * hd * 1 ≤ 1 * (hn * ld) → ld ≤ n → hd ≤ n * hn
          reach ln ld hn hd some le least = omega (arith, le, mul-le-mul_left hn least, mul-le-mul_left hd (let e : 1 ≤ ln = omega (arith, some) in e))

      -- and by n * n alike with the one at the lower heads
      alike_low : AreThicknesses (n * n) 1 (depth h c) (depth low c)
      alike_low =
          let some = lower_some m w valid h low c from_low (p.above c here) in
          let rises = (depth_rises m w valid h low c from_low (p.above c here)).cross in
          record {
            some = upper_some m w valid h low c from_low (p.above c here);
            more = some;
            alike = record {
              there = record {
                cross = reach (depth low c).num (den (depth low c)) (depth h c).num (den (depth h c)) (depth high c).num (depth high c).less some (box.least c here)
                    (box.most c here) (depth_rises m w valid high h c to_high (p.below c here)).cross;
              };
              back = record { cross = back (depth low c).num (depth low c).less (depth h c).num (den (depth h c)) (box.least c here) rises };
            };
          }
        where
          reach : (ln ld hn hd un u : ℕ) → 0 < ln → ld ≤ n → un ≤ n → hn * suc u * 1 ≤ 1 * (un * hd) → hn * ld * 1 ≤ n * n * (ln * hd)
          reach ln ld hn hd un u some least most le =
              let a : hn ≤ n * hd = omega (arith, le, mul-le-mul_left hn (let e : 1 ≤ suc u = omega arith in e), mul-le-mul_left hd most) in
              omega (arith, mul-le-mul_left ld a, mul-le-mul_left (n * hd) least, mul-le-mul_left (n * n * hd) (let e : 1 ≤ ln = omega (arith, some) in e))

          back : (ln l hn hd : ℕ) → suc l ≤ n → ln * hd * 1 ≤ 1 * (hn * suc l) → ln * hd * 1 ≤ n * n * (hn * suc l)
          back ln l hn hd least le = omega (arith, le, mul-le-mul_left (hn * suc l) (let e : 1 ≤ n * n = square n (omega (arith, least)) in e))
            where
              square : (n : ℕ) → 1 ≤ n → 1 ≤ n * n
              square n le = omega (arith, mul-le-mul_left n le)

    -- over a face: its two cells
    pub record IsFace (x : Face) : Type 0 where
      pub first : IsCell m x.first
      pub next : IsCell m (x.first + stride m.grid x.axis)

    pub face_cells : (i : ℕ) (x : Face) → IsCell m i → is_active m x.end ≡ true → IsFaceOf m.grid i x → IsFace x
    face_cells i x here active (inl (has, first, end)) =
        let e : x.first + stride m.grid x.axis ≡ i = omega (arith, first, before_le m.grid x.axis i has, mod-le i (span m.grid x.axis)) in
        let same : x.end ≡ x.first = end ∙ sym first in
        record {
          first = record { within = omega (arith, first, here.within); active = subst (λ (c : ℕ). is_active m c ≡ true) same active };
          next = subst (IsCell m) (sym e) here;
        }
    face_cells i x here active (inr (has, first, end)) =
        let e : x.end ≡ x.first + stride m.grid x.axis = omega (arith, first, end) in
        record {
          first = subst (IsCell m) (sym first) here;
          next = subst (IsCell m) e (record { within = end_within m.grid i x valid.grid.size here.within (inr (has, first, end)); active = active });
        }

    -- the rate at which a flow over a face falls as the head that it goes to rises
    abbrev pub face_rate : Face → ℕ
    face_rate x = n * n * (conductance_at m w low x.axis x.first).num * (n * (n + n) + 1)

    module _ (d : ℕ) (some : 0 < d) (h g : ℕ → Fraction) (p : LieIn low high h) (q : LieIn low high g) (rises : (c : ℕ) → IsCell m c → AtMost (h c) (g c))
        (near : (c : ℕ) → IsCell m c → IsNear d 1 (g c) (h c)) where
      raised : (c : ℕ) → IsCell m c → AreThicknesses (d + n) d (depth g c) (depth h c)
      raised c here = near_depths m w valid g h c (wet_pair g h q p c here) (rises c here) d n some (near c here) (least_depth h p c here)

      module _ (x : Face) (face : IsFace x) where
        abbrev at_h : Ratio
        at_h = conductance_at m w h x.axis x.first

        abbrev at_g : Ratio
        at_g = conductance_at m w g x.axis x.first

        alike : AreAlike (d + n) d at_g at_h
        alike = branch_alike m valid (d + n) d (omega arith) (depth g) (depth h) x.axis x.first face.first face.next (raised x.first face.first) (raised _ face.next)

        bounded : (f : ℕ → Fraction) → LieIn low high f → (conductance_at m w f x.axis x.first).num ≤
            n * n * (conductance_at m w low x.axis x.first).num * den (conductance_at m w f x.axis x.first)
        bounded f r =
            let le : 1 ≤ n * n = square n (least_of (box.least x.first face.first)) in
            let a = branch_alike m valid (n * n) 1 le (depth f) (depth low) x.axis x.first face.first face.next (alike_low f r x.first face.first) (alike_low f r _ face.next) in
            most (conductance_at m w f x.axis x.first).num (den (conductance_at m w f x.axis x.first)) (conductance_at m w low x.axis x.first).num
            (conductance_at m w low x.axis x.first).less a.there.cross
          where
            square : (n : ℕ) → 1 ≤ n → 1 ≤ n * n
            square n le = omega (arith, mul-le-mul_left n le)

            least_of : {l : ℕ} → suc l ≤ n → 1 ≤ n
            least_of {l} le = omega (arith, le)

            most : (fn fd ln l : ℕ) → fn * suc l * 1 ≤ n * n * (ln * fd) → fn ≤ n * n * ln * fd
            most fn fd ln l le = omega (arith, le, mul-le-mul_left fn (let e : 1 ≤ suc l = omega arith in e))

        -- from cell j to cell i over the face
        pub face_near : (i j : ℕ) → IsCell m i → IsCell m j →
            IsNear d (face_rate x) (times (as_fraction at_h) (minus (h j) (h i))) (times (as_fraction at_g) (minus (g j) (g i)))
        face_near i j here there =
            product_near at_h at_g d n (n * n * (conductance_at m w low x.axis x.first).num) (n + n) (minus (h j) (h i)) (minus (g j) (g i)) some
            (record { there = alike.back; back = alike.there }) (bounded h p) (bounded g q) (record {
              low = AtMost-trans (sum_of (neg_ℤ (pos n)) (pos n) (neg_ℤ (pos (n + n))) (omega (arith, ints))).1
                  (minus_rises (whole (neg_ℤ (pos n))) (h j) (whole (pos n)) (h i) (AtMost-trans (box.bottom j there) (p.above j there)) (AtMost-trans (p.below i here) (box.top i here)));
              high = AtMost-trans (minus_rises (h j) (whole (pos n)) (h i) (whole (neg_ℤ (pos n))) (AtMost-trans (p.below j there) (box.top j there))
                  (AtMost-trans (box.bottom i here) (p.above i here))) (sum_of (pos n) (neg_ℤ (pos n)) (pos (n + n)) (omega (arith, ints))).0;
            }) (near_weaker d some (0 + 1) 1 _ _ (omega arith) (near_plus d some 0 1 (h j) (g j) _ _ (near_order d some 0 (h j) (g j) (rises j there))
            (near_opposite d some 1 (g i) (h i) (near i here))))
          where
            sum_of : (a b c : ℤ) → a -ℤ b ≡ c → AtMost (minus (whole a) (whole b)) (whole c) × AtMost (whole c) (minus (whole a) (whole b))
            sum_of a b c e = (record { at_most = omega (arith, ints, e) }, record { at_most = omega (arith, ints, e) })
