-- The constants 0 and 1 are integers anywhere.
use Rattle.std.proofs.Common.{◌≡◌, ℕ, List, Bool, Some, refl}
use Rattle.std.specs.Prelude.{pos, codes}
use Rattle.lt_model.specs.declared.scalar.DataModel.{DataModel}
use Rattle.lt_model.specs.declared.scalar.DataModel.TheVariants as model
use Rattle.lt_model.specs.declared.scalar.Scalar.TheVariants as S
use Rattle.lt_tree.specs.Typing.Types.{is_integer}
use Rattle.lt_tree.specs.Typing.Constants.{constant_of}
use Rattle.lt_tree.specs.Typing.Entities.{Known}
use Rattle.lt_objectives.specs.Decisions.{zero_constant, one}
use Rattle.lt_mark_typing.specs.Placed.{IsThere}
use Rattle.lt_mark_typing.specs.Laws.{PredicatesAreMade}
use Rattle.lt_objective_typing.proofs.Made.{constant_there}

pub zero_is : (m : DataModel) → constant_of m (codes "0") ≡ Some (record { type = S.Int; value = pos 0 })
zero_is model.Ilp32 = refl
zero_is model.Lp64 = refl
zero_is model.Llp64 = refl
zero_is model.Ilp32U = refl
zero_is model.Lp64U = refl
zero_is model.Llp64U = refl

one_is : (m : DataModel) → constant_of m (codes "1") ≡ Some (record { type = S.Int; value = pos 1 })
one_is model.Ilp32 = refl
one_is model.Lp64 = refl
one_is model.Llp64 = refl
one_is model.Ilp32U = refl
one_is model.Lp64U = refl
one_is model.Llp64U = refl

module _ (made : PredicatesAreMade) {new : ℕ → Bool} {used : List ℕ} {known : Known} where
  pub zero_there : IsThere is_integer new used known zero_constant
  zero_there = constant_there made (codes "0") (record { type = S.Int; value = pos 0 }) (zero_is known.model)

  pub one_there : IsThere is_integer new used known one
  one_there = constant_there made (codes "1") (record { type = S.Int; value = pos 1 }) (one_is known.model)
