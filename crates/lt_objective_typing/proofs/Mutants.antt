-- That an expression and its mutants differ is a predicate.
use Rattle.std.proofs.Common.{◌≡◌, ℕ, List, [], ◌∷◌, Bool, true, false, refl}
use Rattle.std.specs.Prelude.{◌&&◌, not, if◌then◌else◌, map, filter}
use Rattle.std.specs.List.{AllByRecursion}
use Rattle.lt_model.specs.declared.operator.Op.{Op}
use Rattle.lt_model.specs.declared.operator.Op.TheVariants as O
use Rattle.lt_tree.specs.declared.expression.LogicalOp.{LogicalOp}
use Rattle.lt_tree.specs.Tree as c
use Rattle.lt_tree.specs.Typing.Types.{is_integer, is_scalar}
use Rattle.lt_tree.specs.Typing.Operands.{is_equality}
use Rattle.lt_tree.specs.Typing.Entities.{Known}
use Rattle.lt_objectives.specs.Decisions.{inequality, zero_constant}
use Rattle.lt_objectives.specs.Mutants.{same_op, is_one_of, arithmetic, relations, pointer_relations, with_others, is_fitting, is_signed_integer, minus, absolute, other_connector, connector_mutants}
use Rattle.lt_mark_typing.specs.Placed.{IsThere}
use Rattle.lt_mark_typing.specs.Laws.{PredicatesAreMade}
use Rattle.lt_objective_typing.specs.Laws.{differences_from, MutantsGivePredicates}
use Rattle.lt_objective_typing.proofs.Made.{connected, operated, chosen, integer_there}
use Rattle.lt_objective_typing.proofs.Made as predicate
use Rattle.lt_objective_typing.proofs.Constants.{zero_there}
use Rattle.lt_objective_typing.proofs.Equalities.{equal, unequal, exchanged}

module _ (made : PredicatesAreMade) (new : ℕ → Bool) (used : List ℕ) (known : Known) where
  abbrev There : c.Expression → Type 0
  There e = IsThere is_scalar new used known e

  abbrev Integer : c.Expression → Type 0
  Integer e = IsThere is_integer new used known e

  differ : (e other : c.Expression) → Integer e → Integer other → There (inequality e other)
  differ e other h g = integer_there made (inequality e other) (operated made O.Ne e other h g)

  -- ---- other operators

  others : (e left right : c.Expression) → Integer e → ((op : Op) → Integer (c.Binary op left right)) → (list : List Op)
      → AllByRecursion There (differences_from e (map (λ other. c.Binary other left right) list))
  others e left right h f [] = tt
  others e left right h f (op ∷ ops) = (differ e (c.Binary op left right) h (f op), others e left right h f ops)

  others_if : (b : Bool) (e left right : c.Expression) → Integer e → ((op : Op) → Integer (c.Binary op left right)) → (list : List Op)
      → AllByRecursion There (differences_from e (if b then map (λ other. c.Binary other left right) list else []))
  others_if true e left right h f list = others e left right h f list
  others_if false e left right h f list = tt

  with_any : (ops : List Op) (op : Op) (left right : c.Expression) → Integer left → Integer right → AllByRecursion There (differences_from (c.Binary op left right) (with_others ops op left right))
  with_any ops op left right h g =
      others_if (is_one_of op ops) (c.Binary op left right) left right (operated made op left right h g) (λ other. operated made other left right h g) (filter (λ other. not (same_op op other)) ops)

  pub arithmetic_if : (b : Bool) (op : Op) (left right : c.Expression) → (b ≡ true → Integer left × Integer right)
      → AllByRecursion There (differences_from (c.Binary op left right) (if b then with_others arithmetic op left right else []))
  arithmetic_if true op left right h = let them = h refl in with_any arithmetic op left right them.0 them.1
  arithmetic_if false op left right h = tt

  pub pointers : (op : Op) (left right : c.Expression) → (is_equality op ≡ true → Integer (c.Binary op left right)) → AllByRecursion There (differences_from (c.Binary op left right) (with_others pointer_relations op left right))
  pointers O.Eq left right h = (differ (c.Binary O.Eq left right) (c.Binary O.Ne left right) (h refl) (exchanged equal unequal left right (h refl)), tt)
  pointers O.Ne left right h = (differ (c.Binary O.Ne left right) (c.Binary O.Eq left right) (h refl) (exchanged unequal equal left right (h refl)), tt)
  pointers _ left right h = tt

  pub relational_if : (b : Bool) (op : Op) (left right : c.Expression) → (b ≡ true → Integer left × Integer right) → (is_equality op ≡ true → Integer (c.Binary op left right))
      → AllByRecursion There (differences_from (c.Binary op left right) (with_others (if b then relations else pointer_relations) op left right))
  relational_if true op left right h g = let them = h refl in with_any relations op left right them.0 them.1
  relational_if false op left right h g = pointers op left right g

  -- ---- the other connector, and absolute values

  pub connectors : (op : LogicalOp) (left right : c.Expression) → There left → There right → AllByRecursion There (differences_from (c.Logical op left right) (connector_mutants (c.Logical op left right)))
  connectors op left right h g =
      (differ (c.Logical op left right) (c.Logical (other_connector op) left right) (connected made op left right h g) (connected made (other_connector op) left right h g), tt)

  absolute_there : (e : c.Expression) → Integer e → Integer (absolute e)
  absolute_there e h =
      chosen made (c.Binary O.Lt e zero_constant) (minus e) e (integer_there made (c.Binary O.Lt e zero_constant) (operated made O.Lt e zero_constant h (zero_there made))) (predicate.minus made e h) h

  pub absolutes : (b : Bool) (e : c.Expression) → (b ≡ true → Integer e) → AllByRecursion There (differences_from e (if b then absolute e ∷ minus (absolute e) ∷ [] else []))
  absolutes true e f = let h = f refl in (differ e (absolute e) h (absolute_there e h), (differ e (minus (absolute e)) h (predicate.minus made (absolute e) (absolute_there e h)), tt))
  absolutes false e f = tt

pub of_mutants : PredicatesAreMade → MutantsGivePredicates
of_mutants made new used known model t u op connector left right e = (
  λ h g. (arithmetic_if made new used known (is_integer t && is_integer u) op left right (λ b. (h, g)), with_any made new used known relations op left right h g),
  λ h. pointers made new used known op left right (λ b. h),
  λ h g. connectors made new used known connector left right h g,
  λ h. absolutes made new used known (is_fitting e && is_signed_integer model t) e (λ b. h),
)
