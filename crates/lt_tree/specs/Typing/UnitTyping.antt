-- The typing of units, C11 6.9: the typed program of a unit, or the first rule that it breaks.
use Rattle.std.specs.Prelude.{◌≡◌, ℕ, true, false, List, [], ◌∷◌, ◌++◌, filter_map, Option, Some, None, unwrap_or}
use Rattle.lt_model.specs.declared.scalar.DataModel.{DataModel}
use Rattle.lt_tree.specs.Tree as c
use Rattle.lt_tree.specs.Typing.Types.{CType, Void, Function}
use Rattle.lt_tree.specs.Typing.Rules.{Rule}
use Rattle.lt_tree.specs.Typing.TypedTree.{Items}
use Rattle.lt_tree.specs.Typing.Entities.{Known, Frame, no_names, greatest_written_id, starting}
use Rattle.lt_tree.specs.Typing.Steps.{Outcome, Goes, Breaks, Walk, ◌>>=◌, ◌>>◌, gives, enter, settle, changes, within}
use Rattle.lt_tree.specs.Typing.Expressions.{Typed, as_place, finish}
use Rattle.lt_tree.specs.Typing.Specifying.{elsewhere}
use Rattle.lt_tree.specs.Typing.Declarators.{Declares, Parameters}
use Rattle.lt_tree.specs.Typing.Operations.{judge_name, judge_constant, judge_plus, judge_minus, judge_complement, judge_not, judge_address_of, judge_dereference, judge_step, judge_size, judge_member, judge_arrow, judge_index, judge_function, judge_call, judge_cast}
use Rattle.lt_tree.specs.Typing.BinaryOperations.{judge_binary, judge_logical, judge_conditional, judge_assign, judge_update, judge_comma}
use Rattle.lt_tree.specs.Typing.MarkRules.{judge_decide, judge_after, judge_marked}
use Rattle.lt_tree.specs.Typing.NodeEnds.{text_at}
use Rattle.lt_tree.specs.Typing.ExpressionTyping.{expression, specifiers, declarator}
use Rattle.lt_tree.specs.Typing.Declaring.{definition_faults, declare_function}
use Rattle.lt_tree.specs.Typing.DeclarationTyping.{declaration}
use Rattle.lt_tree.specs.Typing.StatementTyping.{Around, items}
use Rattle.lt_tree.specs.Typing.Programs.{Program, Typing, typed, broken, program_of}

abbrev pub result_of : CType → CType
result_of (Function t ts dots) = t
result_of _ = Void

abbrev pub around_body : CType → Around
around_body t = record { result = result_of t; in_loop = false; in_switch = false }

abbrev pub frame_of : Option Parameters → Frame
frame_of None = no_names
frame_of (Some them) = them.frame

abbrev pub objects_of : Option Parameters → List ℕ
objects_of None = []
objects_of (Some them) = them.objects

-- one more function with its body
abbrev pub adds_function : ℕ → List ℕ → Declares → Items → Walk (Unit {0})
adds_function node name it body =
    changes (λ known. record known { functions = known.functions ++ record { node = node; name = name; type = it.type; parameters = objects_of it.parameters; body = body } ∷ [] })

-- A function is in scope in its own body, and its parameters are in the scope of the body's outermost block, C11 6.2.1p4.
abbrev pub defines : ℕ → List ℕ → Declares → c.Items → Walk (Unit {0})
defines node name it body = do
  declare_function name it.type
  inside ← within (frame_of it.parameters) (items body (around_body it.type))
  adds_function node name it inside.0

abbrev pub external : c.External → Walk (Unit {0})
external (c.Defines s d body) = do
  node ← enter
  it ← specifiers s elsewhere
  declared ← declarator d it true (definition_faults it.storage)
  defines node (unwrap_or declared.name []) declared body
external (c.Declared d) = do
  node ← enter
  it ← declaration d
  settle node it.faults

abbrev pub externals : List c.External → Walk (Unit {0})
externals [] = gives tt
externals (x ∷ xs) = external x >> externals xs

-- the name of a function that has a body
abbrev pub defined_in : c.External → Option (List ℕ)
defined_in (c.Defines s (c.declarator name parts) body) = name
defined_in (c.Declared d) = None

abbrev pub answer : c.Unit → Outcome (Unit {0}) → Typing
answer unit (Goes it known) = typed (program_of unit known)
answer unit (Breaks rule node) = broken rule node

-- the typed program of a unit whose labels have ids to a greatest, or the first rule that it breaks
unfoldable pub typing_to : ℕ → DataModel → c.Unit → Typing
unfolding judge_name judge_constant judge_plus judge_minus judge_complement judge_not judge_address_of judge_dereference judge_step judge_size judge_member judge_arrow judge_index judge_function judge_call judge_cast judge_binary judge_logical judge_conditional judge_assign judge_update judge_comma judge_decide judge_after judge_marked text_at finish
typing_to greatest model unit = answer unit (externals unit (starting greatest model (filter_map defined_in unit)))

-- the typed program of a unit as it is written, or the first rule that it breaks
abbrev pub typing : DataModel → c.Unit → Typing
typing model unit = typing_to greatest_written_id model unit

-- this program is the unit's, where ids are set aside but for a greatest
abbrev pub IsProgramTo : ℕ → DataModel → c.Unit → Program → Type 0
IsProgramTo greatest model unit program = typing_to greatest model unit ≡ typed program

-- this program is the unit's
abbrev pub IsProgramOf : DataModel → c.Unit → Program → Type 0
IsProgramOf model unit program = IsProgramTo greatest_written_id model unit program

-- of the rules that the unit breaks this is the first, at the node of this number
abbrev pub BreaksFirst : DataModel → c.Unit → Rule → ℕ → Type 0
BreaksFirst model unit rule node = typing model unit ≡ broken rule node

-- An expression where this is known, as it stands there; its nodes are numbered from 0.
unfoldable pub typing_of : Known → c.Expression → Outcome Typed
unfolding judge_name judge_constant judge_plus judge_minus judge_complement judge_not judge_address_of judge_dereference judge_step judge_size judge_member judge_arrow judge_index judge_function judge_call judge_cast judge_binary judge_logical judge_conditional judge_assign judge_update judge_comma judge_decide judge_after judge_marked text_at finish
typing_of known it = expression it as_place (record known { next = 0 })
