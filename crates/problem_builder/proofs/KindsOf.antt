-- What the kind of a cell says of it.
use Rattle.problem_builder.proofs.Common.{◌≡◌, ℕ, true, false, FlowModel, NoFlow, arith, Variable, is_variable, is_constant, kind_of}
use Rattle.model_types.specs.declared.given_heads.Kind.TheVariants.{Constant}

module _ (m : FlowModel) (p c : ℕ) where
  pub variable_kind : kind_of m p c ≡ Variable → is_variable m p c ≡ true
  variable_kind e = grind arith

  pub constant_kind : kind_of m p c ≡ Constant → is_constant m p c ≡ true
  constant_kind e = grind arith

  pub constant_no_variable : kind_of m p c ≡ Constant → is_variable m p c ≡ true → ⊥
  constant_no_variable e k = grind arith

  pub no_flow_no_variable : kind_of m p c ≡ NoFlow → is_variable m p c ≡ true → ⊥
  no_flow_no_variable e k = grind arith

  -- a variable cell isn't constant, nor is one without flow
  pub variable_constant : kind_of m p c ≡ Variable → is_constant m p c ≡ false
  variable_constant e = grind arith

  pub no_flow_constant : kind_of m p c ≡ NoFlow → is_constant m p c ≡ false
  no_flow_constant e = grind arith
