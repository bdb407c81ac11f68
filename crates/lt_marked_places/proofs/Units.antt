-- Wherever the typing of a unit with marks added comes to, what stands there stands beside a part of the unit.
use Rattle.std.proofs.Common.{◌≡◌, ℕ, List, [], ◌∷◌, Bool, true, refl, sym, ap, ◌∙◌, subst}
use Rattle.std.specs.Prelude.{filter_map, unwrap_or}
use Rattle.lt_model.specs.declared.scalar.DataModel.{DataModel}
use Rattle.lt_tree.specs.Tree as c
use Rattle.lt_tree.specs.Nodes.{in_specifiers, in_declarator}
use Rattle.lt_tree.specs.Typing.Entities.{Known, a_function, bind_name, greatest_label_id, starting}
use Rattle.lt_tree.specs.Typing.Steps.{Outcome, Goes, goes_on}
use Rattle.lt_tree.specs.Typing.Expressions.{Use}
use Rattle.lt_tree.specs.Typing.Specifying.{Specified, elsewhere}
use Rattle.lt_tree.specs.Typing.Declarators.{Declares}
use Rattle.lt_tree.specs.Typing.Declaring.{definition_faults, with_declared}
use Rattle.lt_tree.specs.Typing.ExpressionTyping.{specifiers, declarator}
use Rattle.lt_tree.specs.Typing.UnitTyping.{around_body, frame_of, defines, external, defined_in}
use Rattle.lt_tree.specs.Typing.Programs.{Program}
use Rattle.lt_typed_nodes.specs.Coming.{entered}
use Rattle.lt_typed_nodes.specs.ComingItems.{DeclarationsAreComeTo, StatementsAreComeTo}
use Rattle.lt_typed_nodes.specs.Reaching as place
use Rattle.lt_typed_nodes.specs.Reaching.{ComesToMark, IsLabelAt, Piece, IsPart, IsReached, the_unit, a_part, a_body, declared, one_external, more_externals}
use Rattle.lt_object_laws.specs.Renamed.{renumbered}
use Rattle.lt_mark_typing.specs.Renumbered.{frames_with}
use Rattle.lt_mark_typing.specs.Further.{Agrees, no_objects}
use Rattle.lt_mark_typing.specs.Beside.{no_labels, IsBeside, Follows}
use Rattle.lt_mark_typing.specs.Placed.{AreOld}
use Rattle.lt_mark_typing.specs.PlacedUnits as p
use Rattle.lt_mark_typing.specs.PlacedUnits.{in_body, AddsToExternal, AddsToUnit}
use Rattle.lt_mark_typing.specs.Laws.{ExpressionsAreTypedAgain, StatementsAreTypedAgain}
use Rattle.lt_mark_typing.proofs.Numbers.{agrees_so_far}
use Rattle.lt_mark_typing.proofs.Going.{entered_beside}
use Rattle.lt_mark_typing.proofs.Names.{frames_known}
use Rattle.lt_mark_typing.proofs.Steps.{SameDeclares, declared_as, frames_beside}
use Rattle.lt_mark_typing.proofs.Unchanged.{of_specifiers, of_declarator}
use Rattle.lt_mark_typing.proofs.Declared.{function_beside}
use Rattle.lt_mark_typing.proofs.Units.{frame_there, definition_known, of_external}
use Rattle.lt_marked_places.specs.Laws.{ComesFrom}
use Rattle.lt_marked_places.proofs.Coming.{ComesToPiece}
use Rattle.lt_marked_places.proofs.Standing as stands
use Rattle.lt_marked_places.proofs.Standing.{Stands, StandsOn}
use Rattle.lt_marked_places.proofs.Both.{IsGone, gone, first_gone, BothGo, both}
use Rattle.lt_marked_places.proofs.Statements.{statement_part, items_part, cases_part}
use Rattle.lt_marked_places.proofs.Declarations.{declaration_as_it_is, declaration_part, declarators_part}
use Rattle.lt_marked_places.proofs.Initialisers.{start_part, initialiser_part, initialisers_part}

same_type : (r : ℕ → ℕ) (it other : Declares) → SameDeclares r it other → other.type ≡ it.type
same_type r it other e = ap (λ (it : Declares). it.type) e

module _ {new : ℕ → Bool} where
  definition_again : {used : List ℕ} {further : List Bool} (it : Specified) (d : c.Declarator) {k j : Known} → AreOld new (in_declarator d) → IsBeside new used further k j
      → Follows new used further SameDeclares (declarator d it true (definition_faults it.storage) k) (declarator d it true (definition_faults it.storage) j)
  definition_again it d h b = of_declarator d it true (definition_faults it.storage) (λ name further k j r g b built. definition_known b r g it.storage name built) h b

  -- where the body of a function begins
  body_beside : {used : List ℕ} {further : List Bool} (it other : Declares) {k j : Known} → ((r : ℕ → ℕ) → Agrees r further → SameDeclares r it other) → IsBeside new used further k j
      → IsBeside new used further (in_body it k) (in_body other j)
  body_beside {used} {further} it other {k} {j} s b =
      let name = unwrap_or it.name [] in
      let first : Known = bind_name name a_function (with_declared name it.type k) in
      let second : Known = bind_name name a_function (with_declared name it.type j) in
      let declares = function_beside name it.type b in
      subst (λ (that : Declares). IsBeside new used further (in_body it k) (in_body that j)) (sym (declared_as it other (renumbered further) (s (renumbered further) (agrees_so_far further))))
      (frames_beside (frame_of it.parameters ∷ first.frames) (frame_of other.parameters ∷ second.frames)
      (λ r g. ap (λ frames. frame_of other.parameters ∷ frames) (frames_known declares r g) ∙ ap (λ them. frame_of them ∷ frames_with r first.frames) (ap (λ (it : Declares). it.parameters) (s r g))
      ∙ ap (λ frame. frame ∷ frames_with r first.frames) (frame_there r it.parameters)) declares)

module _ (expressions_again : ExpressionsAreTypedAgain) (statements_again : StatementsAreTypedAgain) (statements_laws : StatementsAreComeTo) (declarations_laws : DeclarationsAreComeTo)
    (new : ℕ → Bool) (greatest : ℕ) (model : DataModel) (unit : c.Unit) (program : Program)
    (all_come : (it : Piece) (known : Known) → IsReached greatest model unit it known → ComesToPiece program.facts it known) where
  come : {it : Piece} {known : Known} → IsReached greatest model unit it known → ComesToPiece program.facts it known
  come {it} {known} reached = all_come it known reached

  -- ---- external declarations

  -- the function that a definition declares
  definition_goes : {s : c.Specifiers} {d : c.Declarator} {is : c.Items} {used : List ℕ} {further : List Bool} {known there k j : Known} {it : Specified} {what : Declares}
      → IsReached greatest model unit (place.an_external (c.Defines s d is)) known → AreOld new (in_specifiers s) → AreOld new (in_declarator d) → IsBeside new used further known there
      → specifiers s elsewhere (entered there) ≡ Goes it k → declarator d it true (definition_faults it.storage) k ≡ Goes what j
      → (found : Specified) × (next : Known) × (specifiers s elsewhere (entered known) ≡ Goes found next) × BothGo new used SameDeclares (declarator d found true (definition_faults found.storage) next) what j
  definition_goes {s} {d} {is} {known = known} {k = k} {j = j} {what = what} reached u h b specified declares =
      let rest : Specified → Known → Outcome (Unit {0}) = λ it k. goes_on (declarator d it true (definition_faults it.storage) k) (λ declared k. defines known.next (unwrap_or declared.name []) declared is k) in
      let way : IsGone (external (c.Defines s d is) known) = gone (come reached) in
      let first = both (of_specifiers s elsewhere u (entered_beside b)) (first_gone (specifiers s elsewhere (entered known)) rest way) specified in (
        first.found,
        first.known,
        first.goes,
        both (definition_again first.found d h first.beside)
            (first_gone (declarator d first.found true (definition_faults first.found.storage) first.known) (λ declared k. defines known.next (unwrap_or declared.name []) declared is k) (subst (λ o. IsGone (goes_on o rest)) first.goes way))
            (subst (λ (it : Specified). declarator d it true (definition_faults it.storage) k ≡ Goes what j) (first.related (renumbered first.behind) (agrees_so_far first.behind)) declares),
      )

  external_part : {marked : c.External} {there k : Known} {part : Piece}
      → Stands new greatest model unit (place.an_external marked) there → IsPart (place.an_external marked) there part k → Stands new greatest model unit part k
  external_part (stands.an_external reached (p.Defines {js = js} u h f) b) (a_body {declared = what} {j = j} specified declares) =
      let it = definition_goes reached u h b specified declares in
      let function = it.3 in
      subst (λ t. Stands new greatest model unit (place.items (around_body t) js) (in_body what j)) (sym (same_type (renumbered function.behind) function.found what (function.related (renumbered function.behind) (agrees_so_far function.behind))))
      (stands.items {further = function.behind} (a_part reached (a_body it.2 function.goes)) (f it.0 it.1 function.found function.known it.2 function.goes)
      (body_beside {further = function.behind} function.found what {k = function.known} function.related function.beside))
  external_part (stands.an_external reached (p.Declared {d = d} h) b) declared = stands.a_declaration (a_part reached declared) (declaration_as_it_is d h) (entered_beside b)

  externals_part : {marked : List c.External} {there k : Known} {part : Piece}
      → Stands new greatest model unit (place.externals marked) there → IsPart (place.externals marked) there part k → Stands new greatest model unit part k
  externals_part (stands.externals reached (p.an_external d f) b) one_external = stands.an_external (a_part reached one_external) d b
  externals_part (stands.externals reached (p.an_external d f) b) (more_externals is) =
      let first = both (of_external d b) (gone (come (a_part reached one_external))) is in
      stands.externals (a_part reached (more_externals first.goes)) (f first.found first.known first.goes) first.beside
  externals_part (stands.externals reached p.no_externals b) part = elim part [ ]

  -- ---- all of it, with the steps from expressions

  module _ (expression_part : (role : Use) (it : c.Expression) (there : Known) → StandsOn new greatest model unit (place.an_expression role it) there)
      (expressions_part : (them : c.Expressions) (there : Known) → StandsOn new greatest model unit (place.expressions them) there) where
    part_stands : (whole : Piece) (there : Known) → StandsOn new greatest model unit whole there
    part_stands (place.externals them) there part k h is = externals_part h is
    part_stands (place.an_external it) there part k h is = external_part h is
    part_stands (place.items around them) there part k h is = items_part expressions_again statements_again statements_laws new greatest model unit program all_come h is
    part_stands (place.a_statement around it) there part k h is = statement_part expressions_again statements_again statements_laws new greatest model unit program all_come h is
    part_stands (place.cases type seen around them) there part k h is = cases_part expressions_again statements_again statements_laws new greatest model unit program all_come h is
    part_stands (place.a_declaration effective it) there part k h is = declaration_part declarations_laws new greatest model unit program all_come h is
    part_stands (place.declarators it ds) there part k h is = declarators_part declarations_laws new greatest model unit program all_come h is
    part_stands (place.a_start is_static t i) there part k h is = start_part new greatest model unit program all_come h is
    part_stands (place.an_initialiser is_static filling i) there part k h is = initialiser_part new greatest model unit program all_come h is
    part_stands (place.initialisers is_static filling list) there part k h is = initialisers_part new greatest model unit program all_come h is
    part_stands (place.an_expression role e) there part k h is = expression_part role e there part k h is
    part_stands (place.expressions es) there part k h is = expressions_part es there part k h is

    pub all_stand : {after : List ℕ} {marked : c.Unit} {part : Piece} {there : Known} → AddsToUnit new [] after (starting greatest model (filter_map defined_in unit)) unit marked → filter_map defined_in marked ≡ filter_map defined_in unit
        → IsReached greatest_label_id model marked part there → Stands new greatest model unit part there
    all_stand {marked = marked} d e the_unit = stands.externals the_unit d
        (subst (λ names. IsBeside new [] [] (starting greatest model (filter_map defined_in unit)) (starting greatest_label_id model names)) (sym e)
        (record { same = λ r g. refl; objects = λ r g. no_objects; functions = λ r g. tt; labels = no_labels }))
    all_stand d e (a_part {whole = whole} {part = part} {known = known} {k = k} reached is) = part_stands whole known part k (all_stand d e reached) is

    -- with what is shown of labels in front of expressions
    pub labels_come : ((role : Use) (labels : c.Marks) (it : c.Expression) (known there : Known) (label : c.Mark) → Stands new greatest model unit (place.an_expression role (c.Marked labels it)) known
        → ComesToMark labels (entered known) label there → ComesFrom new greatest model unit label there)
        → (marked : c.Unit) (after : List ℕ) → AddsToUnit new [] after (starting greatest model (filter_map defined_in unit)) unit marked → filter_map defined_in marked ≡ filter_map defined_in unit
        → (label : c.Mark) (there : Known) → IsLabelAt greatest_label_id model marked label there → ComesFrom new greatest model unit label there
    labels_come label_comes marked after d e label there at = label_comes at.role at.marks_there at.it at.known there label (all_stand d e at.reached) at.comes
