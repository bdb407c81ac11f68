-- What is made of predicates is one, and a pure expression that is typed where it stands is one.
use Rattle.std.proofs.Common.{◌≡◌, ℕ, List, Bool, true, Some}
use Rattle.lt_model.specs.declared.operator.Op.{Op}
use Rattle.lt_tree.specs.declared.expression.LogicalOp.{LogicalOp}
use Rattle.lt_tree.specs.declared.expression.UnaryOp.TheVariants as unary
use Rattle.lt_tree.specs.Tree as c
use Rattle.lt_tree.specs.Purity.{is_pure}
use Rattle.lt_tree.specs.Typing.Types.{CType, is_scalar, is_integer}
use Rattle.lt_tree.specs.Typing.Constants.{TypedConstant, constant_of}
use Rattle.lt_tree.specs.Typing.Entities.{Known}
use Rattle.lt_mark_typing.specs.Placed.{IsAt, IsThere}
use Rattle.lt_mark_typing.specs.Laws.{PredicatesAreMade, PureExpressionsAreThere, NamedObjectsAreKnown}
use Rattle.lt_erased_typing.specs.Literals.{NamesObjects}
use Rattle.lt_objective_typing.proofs.Old.{no_marks_in}

module _ (made : PredicatesAreMade) {new : ℕ → Bool} {used : List ℕ} {known : Known} where
  pub negated : (it : c.Expression) → IsThere is_scalar new used known it → IsThere is_integer new used known (c.Unary unary.Not it)
  negated it h = (made new used known it it it).0 h

  pub connected : (op : LogicalOp) (it other : c.Expression) → IsThere is_scalar new used known it → IsThere is_scalar new used known other
      → IsThere is_integer new used known (c.Logical op it other)
  connected op it other h g = (made new used known it it other).1 op h g

  pub minus : (it : c.Expression) → IsThere is_integer new used known it → IsThere is_integer new used known (c.Unary unary.Minus it)
  minus it h = (made new used known it it it).2 h

  pub operated : (op : Op) (it other : c.Expression) → IsThere is_integer new used known it → IsThere is_integer new used known other
      → IsThere is_integer new used known (c.Binary op it other)
  operated op it other h g = (made new used known it it other).3 op h g

  pub chosen : (test it other : c.Expression) → IsThere is_scalar new used known test → IsThere is_integer new used known it → IsThere is_integer new used known other
      → IsThere is_integer new used known (c.Conditional test it other)
  chosen test it other t h g = (made new used known test it other).4 t h g

  pub integer_there : (it : c.Expression) → IsThere is_integer new used known it → IsThere is_scalar new used known it
  integer_there it h = (made new used known it it it).5 h

  pub constant_there : (text : List ℕ) (found : TypedConstant) → constant_of known.model text ≡ Some found → IsThere is_integer new used known (c.Constant text)
  constant_there text found e = (made new used known (c.Constant text) (c.Constant text) (c.Constant text)).7 text found e

-- where marks were put in front of it, each object is known that has a name in scope
pub there : PureExpressionsAreThere → NamedObjectsAreKnown → (new : ℕ → Bool) (used : List ℕ) (known : Known) (test : CType → Bool) (it : c.Expression) → is_pure it ≡ true
    → (NamesObjects known → IsAt test known it) → IsThere test new used known it
there quiet named new used known test it p h = (
  p,
  λ further other b.
      let found = h (λ name n is_register e. named new used further known other b name n is_register e) in
      (quiet new used known test it found.0 found.1 found.2 found.3 p (no_marks_in new it p) found.4 found.5 found.6).1 further other b,
)
