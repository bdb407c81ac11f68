-- That what is marked is typed again.
use Rattle.std.specs.Prelude.{◌≡◌, ◌<◌, ℕ, Bool, true, List, [], ◌++◌, length, filter_map, Some}
use Rattle.std.specs.List.{AllByRecursion}
use Rattle.lt_model.specs.declared.scalar.DataModel.{DataModel}
use Rattle.lt_model.specs.declared.operator.Op.{Op}
use Rattle.lt_tree.specs.declared.expression.LogicalOp.{LogicalOp}
use Rattle.lt_tree.specs.declared.expression.UnaryOp.TheVariants as unary
use Rattle.lt_tree.specs.Tree as c
use Rattle.lt_tree.specs.Typing.Types.{CType, is_scalar, is_integer}
use Rattle.lt_tree.specs.Purity.{is_pure}
use Rattle.lt_tree.specs.Nodes.{in_expression}
use Rattle.lt_tree.specs.Typing.Steps.{Goes}
use Rattle.lt_tree.specs.Typing.Entities.{Known, Object, Fact, an_object, meaning_of, greatest_label_id, starting}
use Rattle.lt_tree.specs.Typing.Expressions.{Typed, Use, as_value, own_type, as_it_is_read, faults_of_any}
use Rattle.lt_tree.specs.Typing.Constants.{TypedConstant, constant_of}
use Rattle.lt_tree.specs.Typing.Operations.{object_named}
use Rattle.lt_tree.specs.Typing.ExpressionTyping.{expression}
use Rattle.lt_tree.specs.Typing.StatementTyping.{Around, statement, items}
use Rattle.lt_tree.specs.Typing.UnitTyping.{defined_in, IsProgramTo}
use Rattle.lt_tree.specs.Typing.Programs.{Program}
use Rattle.lt_mark_laws.specs.Added.{AddsStatement, AddsItems}
use Rattle.lt_object_laws.specs.Renamed.{statement_with, items_with}
use Rattle.lt_object_laws.specs.Further.{IsFurther}
use Rattle.lt_mark_typing.specs.Renumbered.{typed_with}
use Rattle.lt_mark_typing.specs.Beside.{IsBeside, Position, use_of, AddsWith, Follows}
use Rattle.lt_mark_typing.specs.Placed.{AreOld, IsThere, AddsTo}
use Rattle.lt_mark_typing.specs.PlacedItems.{AddsToStatement, AddsToItems}
use Rattle.lt_mark_typing.specs.PlacedUnits.{AddsToUnit}
use Rattle.lt_mark_typing.specs.MarkedPrograms.{AddsBeside}

-- Where the typing of an expression goes on, so does that of the expression with marks added, each of which stands where it may; and it gives the
-- typed expression with these marks added, which no operator around it tells from the other.
abbrev pub ExpressionsAreTypedAgain : Type 0
ExpressionsAreTypedAgain =
    (new : ℕ → Bool) (position : Position) (used after : List ℕ) (further : List Bool) (known other : Known) (it marked : c.Expression)
    → AddsTo new position used after known it marked → IsBeside new used further known other
    → Follows new after further (AddsWith new position) (expression it (use_of position) known) (expression marked (use_of position) other)

-- An expression in which no mark is added is typed as the same, but for the numbers of objects, whatever marks were added in front of it.
abbrev pub OthersAreTypedAlike : Type 0
OthersAreTypedAlike =
    (new : ℕ → Bool) (role : Use) (used : List ℕ) (further : List Bool) (known other : Known) (it : c.Expression)
    → AreOld new (in_expression it) → IsBeside new used further known other
    → Follows new used further (λ r (x y : Typed). y ≡ typed_with r x) (expression it role known) (expression it role other)

-- Each object of the first text that a name stands for is known there.
abbrev pub NamedObjectsAreKnown : Type 0
NamedObjectsAreKnown =
    (new : ℕ → Bool) (used : List ℕ) (further : List Bool) (known other : Known) → IsBeside new used further known other
    → (name : List ℕ) (n : ℕ) (is_register : Bool) → meaning_of name known ≡ Some (an_object n is_register) → n < length known.objects

-- The same of statements, and of the items of blocks.
abbrev pub StatementsAreTypedAgain : Type 0
StatementsAreTypedAgain =
    (new : ℕ → Bool) (used after : List ℕ) (further : List Bool) (around : Around) (known other : Known) → IsBeside new used further known other
    → ((it marked : c.Statement) → AddsToStatement new used after around known it marked
    → Follows new after further (λ r a b. AddsStatement new (statement_with r a) b) (statement it around known) (statement marked around other))
    × ((them marked : c.Items) → AddsToItems new used after around known them marked
    → Follows new after further (λ r a b. AddsItems new (items_with r a) b) (items them around known) (items marked around other))

-- A unit with marks added, each where it may stand, has a typed program, if the unit has one: that of the unit with these marks added, which may have
-- further objects, but for the list of types. (The types of predicates may come into it, and before others.) Ids go to the greatest that a label can have.
abbrev pub UnitsAreTypedAgain : Type 0
UnitsAreTypedAgain =
    (new : ℕ → Bool) (greatest : ℕ) (model : DataModel) (unit marked : c.Unit) (after : List ℕ) (program : Program)
    → AddsToUnit new [] after (starting greatest model (filter_map defined_in unit)) unit marked → filter_map defined_in marked ≡ filter_map defined_in unit
    → IsProgramTo greatest model unit program
    → (other : Program) × (further : List Bool) × IsProgramTo greatest_label_id model marked other × AddsBeside new further program other

-- What is made of predicates is one: negations and `&&` and `||` of scalars, and `-`, `?:` and other operators of integers. Constants are predicates, and
-- so are names of objects that break no rule where they are read.
abbrev pub PredicatesAreMade : Type 0
PredicatesAreMade =
    (new : ℕ → Bool) (used : List ℕ) (known : Known) (test it other : c.Expression)
    → (IsThere is_scalar new used known it → IsThere is_integer new used known (c.Unary unary.Not it))
    × ((op : LogicalOp) → IsThere is_scalar new used known it → IsThere is_scalar new used known other → IsThere is_integer new used known (c.Logical op it other))
    × (IsThere is_integer new used known it → IsThere is_integer new used known (c.Unary unary.Minus it))
    × ((op : Op) → IsThere is_integer new used known it → IsThere is_integer new used known other → IsThere is_integer new used known (c.Binary op it other))
    × (IsThere is_scalar new used known test → IsThere is_integer new used known it → IsThere is_integer new used known other
    → IsThere is_integer new used known (c.Conditional test it other))
    × (IsThere is_integer new used known it → IsThere is_scalar new used known it)
    × ((name : List ℕ) (n : ℕ) (is_register : Bool) → meaning_of name known ≡ Some (an_object n is_register) → faults_of_any known.structs as_value (object_named known n is_register) ≡ []
    → is_scalar (own_type (as_it_is_read (object_named known n is_register))) ≡ true → IsThere is_scalar new used known (c.Name name))
    × ((text : List ℕ) (found : TypedConstant) → constant_of known.model text ≡ Some found → IsThere is_integer new used known (c.Constant text))

-- A pure expression of the text that finds nothing but facts and further objects is a predicate where it stands, if it is a scalar: it is typed in the same way
-- where labels are put in front of it.
abbrev pub PureExpressionsAreThere : Type 0
PureExpressionsAreThere =
    (new : ℕ → Bool) (used : List ℕ) (known : Known) (test : CType → Bool) (it : c.Expression) (x : Typed) (next : ℕ) (facts : List Fact) (more : List Object)
    → is_pure it ≡ true → AreOld new (in_expression it) → AllByRecursion IsFurther more
    → expression it as_value known ≡ Goes x (record known { next = next; objects = known.objects ++ more; facts = facts }) → test (own_type x) ≡ true
    → IsThere test new used known it
