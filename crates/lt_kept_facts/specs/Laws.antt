-- That what is known of nodes stays when marks are added.
use Rattle.std.specs.Prelude.{◌≡◌, ℕ, Bool, List, [], ◌++◌, filter_map}
use Rattle.lt_model.specs.declared.scalar.DataModel.{DataModel}
use Rattle.lt_tree.specs.Tree as c
use Rattle.lt_tree.specs.Nodes.{in_expression, nodes}
use Rattle.lt_tree.specs.Typing.Entities.{Known, Fact, greatest_label_id, starting}
use Rattle.lt_tree.specs.Typing.Steps.{Goes}
use Rattle.lt_tree.specs.Typing.Expressions.{Typed}
use Rattle.lt_tree.specs.Typing.ExpressionTyping.{expression}
use Rattle.lt_tree.specs.Typing.UnitTyping.{defined_in, IsProgramTo}
use Rattle.lt_tree.specs.Typing.Programs.{Program}
use Rattle.lt_objectives.specs.Places.{type_at, is_constant}
use Rattle.lt_mark_typing.specs.Beside.{IsBeside, Position, use_of}
use Rattle.lt_mark_typing.specs.Placed.{AddsTo}
use Rattle.lt_mark_typing.specs.PlacedUnits.{AddsToUnit}
use Rattle.lt_kept_facts.specs.Asked.{seen}

-- An expression with marks added, each where it may stand, notes the same of the nodes that are there without the marks too: one by one of the same type, and
-- integer constants or not.
abbrev pub ExpressionsNoteTheSame : Type 0
ExpressionsNoteTheSame =
    (new : ℕ → Bool) (position : Position) (used after : List ℕ) (further : List Bool) (known other : Known) (it marked : c.Expression) (x y : Typed) (behind last : Known)
    → AddsTo new position used after known it marked → IsBeside new used further known other
    → expression it (use_of position) known ≡ Goes x behind → expression marked (use_of position) other ≡ Goes y last
    → (more others : List Fact) → behind.facts ≡ known.facts ++ more → last.facts ≡ other.facts ++ others
    → seen more known.next (in_expression it) ≡ seen others other.next (in_expression marked)

-- A typed unit with marks added, each where it may stand, knows the same of the nodes that are there without the marks too, one by one.
abbrev pub UnitsNoteTheSame : Type 0
UnitsNoteTheSame =
    (new : ℕ → Bool) (greatest : ℕ) (model : DataModel) (unit marked : c.Unit) (after : List ℕ) (program other : Program)
    → AddsToUnit new [] after (starting greatest model (filter_map defined_in unit)) unit marked → filter_map defined_in marked ≡ filter_map defined_in unit
    → IsProgramTo greatest model unit program → IsProgramTo greatest_label_id model marked other
    → seen program.facts 0 (nodes unit) ≡ seen other.facts 0 (nodes marked)

-- Where the programs of two units know the same of the nodes outside of marks, one by one, objectives of the second unit find the same by either program.
abbrev pub FactsAreFoundByEither : Type 0
FactsAreFoundByEither =
    (program other : Program) → seen program.facts 0 (nodes program.unit) ≡ seen other.facts 0 (nodes other.unit)
    → (k : ℕ) → (type_at other.unit program k ≡ type_at other.unit other k) × (is_constant other.unit program k ≡ is_constant other.unit other k)
