-- What is known where the labels at the start of a function's body stand: behind the marks with which it begins.
use Rattle.std.specs.Prelude.{◌≡◌, ℕ, Bool, true, false, List, ◌∷◌, slice_get, Some}
use Rattle.std.specs.List.{flat_map}
use Rattle.lt_tree.specs.Tree as c
use Rattle.lt_tree.specs.Typing.TypedTree.{Mark}
use Rattle.lt_tree.specs.Typing.Entities.{Known, Object, parameter, an_object, meaning_of}
use Rattle.lt_tree.specs.Typing.Steps.{Goes}
use Rattle.lt_tree.specs.Typing.Expressions.{has_pointer_to_function}
use Rattle.lt_tree.specs.Typing.Specifying.{Specified, elsewhere}
use Rattle.lt_tree.specs.Typing.Declarators.{Declares}
use Rattle.lt_tree.specs.Typing.Declaring.{definition_faults}
use Rattle.lt_tree.specs.Typing.ExpressionTyping.{mark, specifiers, declarator}
use Rattle.lt_tree.specs.Typing.UnitTyping.{objects_of, external}
use Rattle.lt_tree.specs.Typing.Programs.{Program}
use Rattle.lt_objectives.specs.declared.criteria.Criterion.TheVariants as C
use Rattle.lt_objectives.specs.Objectives.{domains_of_object, parameters_at}
use Rattle.lt_objective_places.specs.Stands.{IsAmong}
use Rattle.lt_objective_places.specs.Pieces.{an_external, IsIn}
use Rattle.lt_mark_typing.specs.Placed.{entered}
use Rattle.lt_mark_typing.specs.PlacedUnits.{in_body}
use Rattle.lt_objective_typing.specs.Laws.{ArePredicates}
use Rattle.lt_typed_nodes.specs.Coming.{ComesTo}
use Rattle.lt_typed_nodes.specs.Reaching.{externals, IsReached}
use Rattle.lt_objective_marks.specs.Settings.{Setting}

-- whether the items of a block begin with a mark
abbrev pub begins_with_mark : c.Items → Bool
begins_with_mark (c.a_label m rest) = true
begins_with_mark list = false

-- the second is known behind the marks with which these items begin, where the first is before them
pub data IsBehindMarks : c.Items → Known → Known → Type 0 where
  no_mark : {list : c.Items} {known : Known} → begins_with_mark list ≡ false → IsBehindMarks list known known
  a_mark : {m : c.Mark} {typed : Mark} {rest : c.Items} {known next behind : Known}
      → mark m (entered known) ≡ Goes typed next → IsBehindMarks rest next behind → IsBehindMarks (c.a_label m rest) known behind

-- The domains of a function's parameters have predicates at the start of its body.
abbrev pub DomainsAreThere : Type 0
DomainsAreThere =
    (new : ℕ → Bool) (unit : c.Unit) (program : Program) (id : ℕ) (setting : Setting new unit program C.InputDomain id)
    → (s : c.Specifiers) (d : c.Declarator) (body : c.Items) (xs : List c.External) (known : Known) → IsReached setting.greatest setting.model unit (externals (c.Defines s d body ∷ xs)) known
    → IsIn unit known.next (an_external (c.Defines s d body)) → ComesTo program.facts known (external (c.Defines s d body) known)
    → (it : Specified) (next : Known) (declared : Declares) (last : Known)
    → specifiers s elsewhere (entered known) ≡ Goes it next → declarator d it true (definition_faults it.storage) next ≡ Goes declared last
    → (behind : Known) → IsBehindMarks body (in_body declared last) behind → (used : List ℕ) → ArePredicates new used behind (flat_map (domains_of_object program) (parameters_at unit program known.next))

-- Behind the marks with which the body of a function begins the name of each parameter stands for its object, which is no pointer to a function.
abbrev pub ParametersAreNamed : Type 0
ParametersAreNamed =
    (d : c.Declarator) (it : Specified) (body : c.Items) (next : Known) (declared : Declares) (last : Known)
    → declarator d it true (definition_faults it.storage) next ≡ Goes declared last → (n : ℕ) → IsAmong n (objects_of declared.parameters)
    → (o : Object) × (is_register : Bool) × (slice_get last.objects n ≡ Some o) × (o.life ≡ parameter) × (has_pointer_to_function o.type ≡ false)
    × ((behind : Known) → IsBehindMarks body (in_body declared last) behind → meaning_of o.name behind ≡ Some (an_object n is_register))
