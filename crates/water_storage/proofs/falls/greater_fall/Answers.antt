use Rattle.water_storage.proofs.Common.{FitsSigned, rules, ◌≡◌, ◌-ℤ◌, ◌∙◌, to_z-of_z, w128, w64, int_max}
use Rattle.water_storage.proofs.Clamped.{greater_down, greater_up}
use Rattle.water_storage.proofs.falls.greater_fall.Goals as goal

pub difference-requires : goal.difference-requires
difference-requires c =
    let p : FitsSigned w128 c.greater.result = search rules in
    let q : FitsSigned w128 c.greater-in-Low.result = search rules in
    let x : c.greater.result ≡ int_max c.args.old.low c.args.top.low = search rules in
    let y : c.greater-in-Low.result ≡ int_max c.args.new.high c.args.top.high = search rules in
    simp to_z-of_z (rw (x, y) (greater_down _ _ _ _ c.requires.old.0 c.requires.new.1 c.requires.top.order c.requires.top.near))

pub difference-requires-in-High : goal.difference-requires-in-High
difference-requires-in-High c =
    let p : FitsSigned w128 c.greater-in-High.result = search rules in
    let q : FitsSigned w128 c.greater-in-High-2.result = search rules in
    let x : c.greater-in-High.result ≡ int_max c.args.old.high c.args.top.high = search rules in
    let y : c.greater-in-High-2.result ≡ int_max c.args.new.low c.args.top.low = search rules in
    simp to_z-of_z (rw (x, y) (greater_up _ _ _ _ c.requires.old.1 c.requires.new.0 c.requires.top.order c.requires.top.near))

pub returns-in-Low : goal.returns-in-Low
returns-in-Low c =
    let p : FitsSigned w64 c.difference.result = search rules in
    let x : c.greater.result ≡ int_max c.args.old.low c.args.top.low = search rules in
    let y : c.greater-in-Low.result ≡ int_max c.args.new.high c.args.top.high = search rules in
    let d : c.difference.result ≡ c.greater.result -ℤ c.greater-in-Low.result = search rules in
    rw c.in-Low.is (simp to_z-of_z (d ∙ (λ i. x i -ℤ y i)))

pub returns-in-High : goal.returns-in-High
returns-in-High c =
    let p : FitsSigned w64 c.difference-in-High.result = search rules in
    let x : c.greater-in-High.result ≡ int_max c.args.old.high c.args.top.high = search rules in
    let y : c.greater-in-High-2.result ≡ int_max c.args.new.low c.args.top.low = search rules in
    let d : c.difference-in-High.result ≡ c.greater-in-High.result -ℤ c.greater-in-High-2.result = search rules in
    rw c.in-High.is (simp to_z-of_z (d ∙ (λ i. x i -ℤ y i)))
