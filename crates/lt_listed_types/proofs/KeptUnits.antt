-- Typing of units keeps the types of what is known, and the functions of a unit's program get at memory by types of its list.
use Rattle.std.proofs.Common.{◌≡◌, refl, subst, true, List, [], ◌∷◌, ℕ}
use Rattle.std.specs.Prelude.{filter_map, unwrap_or}
use Rattle.lt_tree.specs.Tree as c
use Rattle.lt_tree.specs.Typing.Types.{CType}
use Rattle.lt_tree.specs.Typing.Entities.{Known, a_function, starting, bind_name}
use Rattle.lt_tree.specs.Typing.Steps.{Outcome, Goes, Breaks}
use Rattle.lt_tree.specs.Typing.Specifying.{elsewhere}
use Rattle.lt_tree.specs.Typing.Declaring.{definition_faults, with_declared}
use Rattle.lt_tree.specs.Typing.Programs.{Program, typed, program_of}
use Rattle.lt_tree.specs.Typing.UnitTyping.{around_body, frame_of, objects_of, external, externals, defined_in, answer, typing_to}
use Rattle.lt_type_laws.specs.Laws.{FunctionsAccess}
use Rattle.lt_listed_types.specs.Laws.{TypesOfAccessesAreListed}
use Rattle.lt_listed_types.proofs.Keeping.{Lists, lists_of, Names, Any, Good, Kept, went, same, behind, bind, judged, blocked, entered}
use Rattle.lt_listed_types.proofs.Growth.{function_added}
use Rattle.lt_listed_types.proofs.KeptExpressions.{of_specifiers, of_declarator}
use Rattle.lt_listed_types.proofs.KeptDeclarations.{declared}
use Rattle.lt_listed_types.proofs.KeptStatements.{of_declaration, of_items}
use Rattle.lt_listed_types.proofs.ListedPrograms.{program_named}

-- ---- units

module _ {types : List CType} where
  of_external : (it : c.External) (known : Known) → Kept types known (external it known)
  of_external (c.Defines sp d body) known =
      bind (of_specifiers sp elsewhere (entered known)) (λ it k kept h. bind (of_declarator d it true (definition_faults it.storage) k)
      (λ it k kept i.
      let name : List ℕ = unwrap_or it.name [] in
      let start = bind_name name a_function (with_declared name it.type k) in
      behind (declared name it.type k) (bind (blocked start.frames (of_items body (around_body it.type) (record start { frames = frame_of it.parameters ∷ start.frames })))
      (λ found k kept j. went (function_added (record { node = known.next; name = name; type = it.type; parameters = objects_of it.parameters; body = found.0 }) k j) tt))))
  of_external (c.Declared d) known = bind (of_declaration d (entered known)) (λ it k kept h. judged known.next it.faults k)

  of_externals : (them : List c.External) (known : Known) → Kept types known (externals them known)
  of_externals [] known = went same tt
  of_externals (x ∷ xs) known = bind (of_external x known) (λ u k kept h. of_externals xs k)

-- ---- the law

-- at the start of a unit
abbrev nothing_known : Lists
nothing_known = record { facts = []; structs = []; objects = []; functions = [] }

bodies_behind : {types : List CType} {a : Unit {0}} {known : Known} → Good types Any nothing_known (Goes a known) → Names types (lists_of known) → FunctionsAccess types known.functions
bodies_behind (went k h) named = k.bodies (λ none. tt) named

answered : (unit : c.Unit) (o : Outcome (Unit {0})) (program : Program) → ((types : List CType) → Good types Any nothing_known o) → answer unit o ≡ typed program
    → FunctionsAccess program.types program.functions
answered unit (Goes a known) program h is =
    let it : program_of unit known ≡ program = cc in
    let types : List CType = (program_of unit known).types in
    subst (λ (p : Program). FunctionsAccess p.types p.functions) it (bodies_behind (h types) (program_named (program_of unit known) refl))
answered unit (Breaks rule node) program h is = absurd cc

pub accesses_listed : TypesOfAccessesAreListed
unfolding typing_to
accesses_listed greatest model unit program is =
    let start = starting greatest model (filter_map defined_in unit) in answered unit (externals unit start) program (λ types. of_externals unit start) is
