-- The marks of objectives are added to a unit.
use Rattle.std.proofs.Common.{◌≡◌, refl, sym, ap, ◌∙◌, subst, ℕ, ◌+◌, Bool, false, List, [], ◌∷◌, inl, inr, length, Some, None, arith}
use Rattle.std.proofs.lemmas.Bool.{false≢true}
use Rattle.std.specs.Prelude.{filter_map}
use Rattle.lt_tree.specs.Tree as c
use Rattle.lt_tree.specs.Nodes.{in_declaration, in_external, nodes}
use Rattle.lt_tree.specs.Typing.Entities.{Known, starting}
use Rattle.lt_tree.specs.Typing.Programs.{Program}
use Rattle.lt_tree.specs.Typing.UnitTyping.{external, externals, defined_in}
use Rattle.lt_tree_laws.specs.Typing.NodeNumbers.{PartsAreNumbered}
use Rattle.lt_objectives.specs.declared.criteria.Criterion.{Criterion}
use Rattle.lt_objectives.specs.Objectives.{objectives}
use Rattle.lt_objectives.specs.Marked.{NewMark, external_with_marks, externals_with_marks, unit_with_marks}
use Rattle.lt_objective_places.specs.Pieces.{an_external, externals as the_externals, IsIn, the_unit, a_piece}
use Rattle.lt_objective_places.specs.Laws.{MarksAreOfOneNode}
use Rattle.lt_objective_places.proofs.Going.{all_stand}
use Rattle.lt_objective_places.proofs.NotOpen.{part_closed, declared_closed}
use Rattle.lt_mark_typing.specs.PlacedUnits as units
use Rattle.lt_mark_typing.specs.PlacedUnits.{AddsToExternal, AddsToUnit}
use Rattle.lt_objective_typing.specs.Laws.{LabelsOfObjectivesAreNew}
use Rattle.lt_typed_nodes.specs.Coming.{ComesTo}
use Rattle.lt_typed_nodes.specs.Reaching as place
use Rattle.lt_typed_nodes.specs.Reaching.{IsReached, one_external, more_externals, a_part}
use Rattle.lt_typed_nodes.proofs.ComingToItems.{externals_are_come_to, units_are_come_to}
use Rattle.lt_objective_marks.specs.Settings.{marks_of, Setting, AreUnused, IsAdded}
use Rattle.lt_objective_marks.specs.Laws.{ObjectivesAreAddedToExpressions}
use Rattle.lt_objective_marks.specs.Bodies.{DomainsAreThere}
use Rattle.lt_objective_marks.proofs.Keeping.{Lies}
use Rattle.lt_objective_marks.proofs.KeepingUnits as keeping
use Rattle.lt_objective_marks.proofs.Numbering as numbering
use Rattle.lt_objective_marks.proofs.Together.{nothing, two}
use Rattle.lt_objective_marks.proofs.Ways.{found_only, lies_behind}
use Rattle.lt_objective_marks.proofs.Pieces.{old_there}
use Rattle.lt_objective_marks.proofs.Statements.{same_declaration}
use Rattle.lt_objective_marks.proofs.Bodies.{of_definition, predicates_at_body}

module _ {new : ℕ → Bool} {unit : c.Unit} {program : Program} {criterion : Criterion} {id : ℕ} (setting : Setting new unit program criterion id)
    (new_labels : LabelsOfObjectivesAreNew) (numbered : PartsAreNumbered) (added : ObjectivesAreAddedToExpressions) (one_node : MarksAreOfOneNode) (domains : DomainsAreThere) where
  abbrev marks : List NewMark
  marks = marks_of unit program criterion id

  of_external : (used : List ℕ) (known : Known) (x : c.External) (xs : List c.External) (k : ℕ) → IsReached setting.greatest setting.model unit (place.externals (x ∷ xs)) known → known.next ≡ k → IsIn unit k (an_external x) → Lies false 1 known → ComesTo program.facts known (external x known)
      → AreUnused marks used k (length (in_external x)) → IsAdded marks used k (length (in_external x)) (λ after. AddsToExternal new used after known x (external_with_marks marks k x))
  of_external used known (c.Defines s d body) xs k reached at is lies comes unused =
      subst (λ k. IsIn unit k (an_external (c.Defines s d body)) → AreUnused marks used k (length (in_external (c.Defines s d body)))
      → IsAdded marks used k (length (in_external (c.Defines s d body))) (λ after. AddsToExternal new used after known (c.Defines s d body) (external_with_marks marks k (c.Defines s d body)))) at
      (λ is unused. of_definition setting new_labels numbered added one_node used known s d body known.next refl is lies comes (a_part reached one_external) unused
      (λ it next declared last e f behind there used. predicates_at_body domains new unit program criterion id setting s d body xs known reached is comes it next declared last e f behind there used)) is unused
  of_external used known (c.Declared d) xs k reached at is lies comes unused =
      let stands = all_stand unit k (an_external (c.Declared d)) is in
      let are = part_closed unit program k (1 + length (in_declaration d)) (k + 1) (length (in_declaration d)) (omega arith) (omega arith) (declared_closed program d stands.there) in
      nothing id (objectives unit program criterion) used k (length (in_external (c.Declared d)))
      (subst (λ e. AddsToExternal new used used known (c.Declared d) (c.Declared e)) (sym (same_declaration setting numbered added (k + 1) d (a_piece is (inl refl)) are))
      (units.Declared (old_there new (in_external (c.Declared d)) setting.old stands.there).1))

  of_externals : (used : List ℕ) (known : Known) (xs : List c.External) (k : ℕ) → IsReached setting.greatest setting.model unit (place.externals xs) known → known.next ≡ k → IsIn unit k (the_externals xs) → Lies false 1 known → ComesTo program.facts known (externals xs known)
      → AreUnused marks used k (length (nodes xs)) → IsAdded marks used k (length (nodes xs)) (λ after. AddsToUnit new used after known xs (externals_with_marks marks k xs))
  of_externals used known [] k reached at is lies comes unused = nothing id (objectives unit program criterion) used k 0 units.no_externals
  of_externals used known (x ∷ xs) k reached at is lies comes unused =
      let parts = externals_are_come_to.0 program.facts known (x ∷ xs) comes in
      let first = parts.0 in
      let j : ℕ = k + length (in_external x) in
      two id (objectives unit program criterion) used k (in_external x) (nodes xs) unused
      (of_external used known x xs k reached at (a_piece is (inl refl)) lies first)
      (λ between p unused. of_externals between first.behind xs j (a_part reached (more_externals first.goes))
      (numbering.behind first.found first.behind (numbering.of_external numbered x known) first.goes ∙ ap (λ n. n + length (in_external x)) at) (a_piece is (inr (inl refl)))
      (lies_behind (keeping.of_external x known lies) first.goes) (parts.1 first.found first.behind first.goes) unused)
      (λ between after p q. units.an_external p (found_only first (λ u next. AddsToUnit new between after next xs (externals_with_marks marks j xs)) q))

  -- a whole unit
  pub of_unit : (after : List ℕ) × AddsToUnit new [] after (starting setting.greatest setting.model (filter_map defined_in unit)) unit (unit_with_marks marks unit)
  of_unit =
      let it = of_externals [] (starting setting.greatest setting.model (filter_map defined_in unit)) unit 0 place.the_unit refl the_unit (refl, refl) (units_are_come_to setting.greatest setting.model unit program setting.typed) (λ n place is at w. absurd (false≢true is)) in
      (it.after, it.added)

-- ---- the functions of a marked unit are those of the unit

same_defined : (new_marks : List NewMark) (k : ℕ) (unit : c.Unit) → filter_map defined_in (externals_with_marks new_marks k unit) ≡ filter_map defined_in unit
same_defined new_marks k [] = refl
same_defined new_marks k (c.Defines s (c.declarator None parts) body ∷ xs) = same_defined new_marks (k + length (in_external (c.Defines s (c.declarator None parts) body))) xs
same_defined new_marks k (c.Defines s (c.declarator (Some name) parts) body ∷ xs) =
    ap (λ rest. name ∷ rest) (same_defined new_marks (k + length (in_external (c.Defines s (c.declarator (Some name) parts) body))) xs)
same_defined new_marks k (c.Declared d ∷ xs) = same_defined new_marks (k + length (in_external (c.Declared d))) xs

pub same_functions : (new_marks : List NewMark) (unit : c.Unit) → filter_map defined_in (unit_with_marks new_marks unit) ≡ filter_map defined_in unit
same_functions new_marks unit = same_defined new_marks 0 unit
