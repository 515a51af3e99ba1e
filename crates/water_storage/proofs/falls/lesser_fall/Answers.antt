use Rattle.water_storage.proofs.Common.{FitsSigned, rules, ◌≡◌, ◌-ℤ◌, ◌∙◌, to_z-of_z, w128, w64, int_min}
use Rattle.water_storage.proofs.Clamped.{lesser_down, lesser_up}
use Rattle.water_storage.proofs.falls.lesser_fall.Goals as goal

pub difference-requires : goal.difference-requires
difference-requires c =
    let p : FitsSigned w128 c.lesser.result = search rules in
    let q : FitsSigned w128 c.lesser-in-Low.result = search rules in
    let x : c.lesser.result ≡ int_min c.args.old.low c.args.top.low = search rules in
    let y : c.lesser-in-Low.result ≡ int_min c.args.new.high c.args.top.high = search rules in
    simp to_z-of_z (rw (x, y) (lesser_down _ _ _ _ c.requires.old.0 c.requires.new.1 c.requires.top.order c.requires.top.near))

pub difference-requires-in-High : goal.difference-requires-in-High
difference-requires-in-High c =
    let p : FitsSigned w128 c.lesser-in-High.result = search rules in
    let q : FitsSigned w128 c.lesser-in-High-2.result = search rules in
    let x : c.lesser-in-High.result ≡ int_min c.args.old.high c.args.top.high = search rules in
    let y : c.lesser-in-High-2.result ≡ int_min c.args.new.low c.args.top.low = search rules in
    simp to_z-of_z (rw (x, y) (lesser_up _ _ _ _ c.requires.old.1 c.requires.new.0 c.requires.top.order c.requires.top.near))

pub returns-in-Low : goal.returns-in-Low
returns-in-Low c =
    let p : FitsSigned w64 c.difference.result = search rules in
    let x : c.lesser.result ≡ int_min c.args.old.low c.args.top.low = search rules in
    let y : c.lesser-in-Low.result ≡ int_min c.args.new.high c.args.top.high = search rules in
    let d : c.difference.result ≡ c.lesser.result -ℤ c.lesser-in-Low.result = search rules in
    rw c.in-Low.is (simp to_z-of_z (d ∙ (λ i. x i -ℤ y i)))

pub returns-in-High : goal.returns-in-High
returns-in-High c =
    let p : FitsSigned w64 c.difference-in-High.result = search rules in
    let x : c.lesser-in-High.result ≡ int_min c.args.old.high c.args.top.high = search rules in
    let y : c.lesser-in-High-2.result ≡ int_min c.args.new.low c.args.top.low = search rules in
    let d : c.difference-in-High.result ≡ c.lesser-in-High.result -ℤ c.lesser-in-High-2.result = search rules in
    rw c.in-High.is (simp to_z-of_z (d ∙ (λ i. x i -ℤ y i)))
