-- The branches of a step of the differences of two plans' heads (TM 6-A16, chapter 6: RIV, DRN and EVT, whose flows are linear in
-- the head between two heads). Between a head in the base plan and one in the other plan such a flow changes as over the part of
-- its conductance that acts: the share of the way between the two heads on which it changes.
use Rattle.std.specs.Prelude.{ℕ, ◌*◌, ◌-◌, min, ℤ, pos, neg_ℤ, ◌-ℤ◌, cond, int_lt, not, unsigned_abs, ◌/◌}
use Rattle.std.specs.Int.{div_ceil, int_max, int_min}
use Rattle.step_problem.specs.{declared.entry.Drain.Drain, declared.entry.Evap.Evap, declared.entry.Fixed.Fixed, declared.entry.FixedKind.FixedKind}
use Rattle.step_problem.specs.{declared.entry.FixedKind.TheVariants.Constant, declared.entry.FixedKind.TheVariants.General}
use Rattle.step_problem.specs.{declared.entry.FixedKind.TheVariants.Storage, declared.entry.Flow.Flow, declared.entry.River.River, declared.heads.Bound.Bound}
use Rattle.step_problem.specs.{declared.heads.Side.Side, declared.heads.Side.TheVariants.High, declared.heads.Side.TheVariants.Low}

-- a / b, rounded down on the low side, up on the high side
abbrev pub divided : Side → ℕ → ℕ → ℕ
divided Low a b = a / b
divided High a b = div_ceil a b

-- The part of the conductance c that acts between a lower and a higher head, where only the way above a foot counts: all of it
-- where both heads lie above, none where both lie below, else the share (higher head - foot) / (higher head - lower head).
unfoldable pub acting_between : Side → ℕ → ℤ → ℤ → ℤ → ℕ
acting_between side c foot low high =
    cond (not (int_lt low foot)) c
    (cond (not (int_lt foot high)) 0
    (divided side (c * unsigned_abs (high -ℤ foot)) (unsigned_abs (high -ℤ low))))

-- between two heads, in either order
abbrev pub acting : Side → ℕ → ℤ → ℤ → ℤ → ℕ
acting side c foot x y = acting_between side c foot (int_min x y) (int_max x y)

-- a branch of the cell of this number to a known head of 0, over a conductance from lo to hi
abbrev pub branch : ℕ → ℕ → ℕ → Fixed
branch id lo hi = record { kind = General; source = id; lo = min lo hi; hi = hi; head_lo = pos 0; head_hi = pos 0 }

-- A river, where the heads lie within x in the base plan and within y in the other one. What acts rises with both heads and falls
-- with the bottom: so it is least at both lower heads and the highest bottom, greatest at both upper heads and the lowest bottom.
abbrev pub river_branch : ℕ → Bound → Bound → River → Fixed
river_branch id x y r = branch id (acting Low r.lo r.bottom_hi x.low y.low) (acting High r.hi r.bottom_lo x.high y.high)

-- a drain, by its elevation
abbrev pub drain_branch : ℕ → Bound → Bound → Drain → Fixed
drain_branch id x y r = branch id (acting Low r.lo r.elev_hi x.low y.low) (acting High r.hi r.elev_lo x.high y.high)

-- an evapotranspiration: what acts above its extinction elevation, less what acts above its surface
abbrev pub evap_least : Bound → Bound → Evap → ℕ
evap_least x y r = acting Low r.lo r.ext_hi x.low y.low - acting High r.lo r.surf_lo x.high y.high

abbrev pub evap_most : Bound → Bound → Evap → ℕ
evap_most x y r = acting High r.hi r.ext_lo x.high y.high - acting Low r.hi (int_max r.surf_hi r.ext_hi) x.low y.low

abbrev pub evap_branch : ℕ → Bound → Bound → Evap → Fixed
evap_branch id x y r = branch id (evap_least x y r) (evap_most x y r)

-- the lower and the upper end of a known head's difference: the old difference over storage, 0 at a constant or a general head
abbrev pub known_low : Bound → FixedKind → ℤ
known_low old Storage = old.low
known_low old Constant = pos 0
known_low old General = pos 0

abbrev pub known_high : Bound → FixedKind → ℤ
known_high old Storage = old.high
known_high old Constant = pos 0
known_high old General = pos 0

abbrev pub known_branch : Bound → Fixed → Fixed
known_branch old f = record f { head_lo = known_low old f.kind; head_hi = known_high old f.kind }

-- a flow turned round: what the plan takes, the base plan has more
abbrev pub turned : Flow → Flow
turned q = record q { lo = neg_ℤ q.hi; hi = neg_ℤ q.lo }
