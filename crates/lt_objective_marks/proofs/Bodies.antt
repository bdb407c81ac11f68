-- The marks of objectives are added to the bodies of functions: labels behind the marks with which they begin, and the marks of their items.
use Rattle.std.proofs.Common.{◌≡◌, refl, sym, ap, ◌∙◌, subst, ℕ, suc, ◌+◌, ◌<◌, ◌≤◌, Bool, true, false, List, [], ◌∷◌, ◌++◌, inl, inr, length, length-append, Some, arith}
use Rattle.std.specs.Prelude.{pos, codes, unwrap_or}
use Rattle.lt_model.specs.declared.scalar.DataModel.{DataModel}
use Rattle.lt_model.specs.declared.scalar.DataModel.TheVariants as model
use Rattle.lt_model.specs.declared.scalar.Scalar.TheVariants as S
use Rattle.lt_tree.specs.Tree as c
use Rattle.lt_tree.specs.Nodes.{Node, in_mark, in_specifiers, in_declarator, in_items, in_external}
use Rattle.lt_tree.specs.Typing.Constants.{constant_of}
use Rattle.lt_tree.specs.Typing.MarkRules.{number_of_id}
use Rattle.lt_tree.specs.Typing.Entities.{Known}
use Rattle.lt_tree.specs.Typing.Steps.{Outcome, Goes, goes_on}
use Rattle.lt_tree.specs.Typing.Programs.{Program}
use Rattle.lt_tree.specs.Typing.Specifying.{Specified, elsewhere}
use Rattle.lt_tree.specs.Typing.Declarators.{Declares}
use Rattle.lt_tree.specs.Typing.Declaring.{definition_faults}
use Rattle.lt_tree.specs.Typing.ExpressionTyping.{mark, specifiers, declarator}
use Rattle.lt_tree.specs.Typing.StatementTyping.{Around, items}
use Rattle.lt_tree.specs.Typing.UnitTyping.{around_body, frame_of, defines, external}
use Rattle.lt_tree_laws.specs.Typing.NodeNumbers.{PartsAreNumbered}
use Rattle.lt_objectives.specs.declared.criteria.Criterion.{Criterion}
use Rattle.lt_objectives.specs.declared.criteria.Criterion.TheVariants as C
use Rattle.lt_objectives.specs.Decisions.{one}
use Rattle.lt_objectives.specs.Objectives.{at_start, Objective, objectives, all_at, at_body}
use Rattle.lt_objectives.specs.Marked.{NewMark, numbered, next_id, labels, items_with_marks, labels_before, after_leading, external_with_marks}
use Rattle.lt_objective_places.specs.Stands.{IsAmong, IsWithin}
use Rattle.lt_objective_places.specs.Pieces.{items as the_items, an_external, IsIn, a_piece}
use Rattle.lt_objective_places.specs.Laws.{AreTogether, MarksAreOfOneNode}
use Rattle.lt_objective_places.proofs.Among.{in_first, in_second}
use Rattle.lt_objective_places.proofs.Going.{all_stand}
use Rattle.lt_mark_typing.specs.Beside.{is_used}
use Rattle.lt_mark_typing.specs.Placed.{AreNewLabels, entered}
use Rattle.lt_mark_typing.specs.PlacedItems as adds
use Rattle.lt_mark_typing.specs.PlacedItems.{AddsToItems}
use Rattle.lt_mark_typing.specs.PlacedUnits as units
use Rattle.lt_mark_typing.specs.PlacedUnits.{in_body, AddsToExternal}
use Rattle.lt_mark_typing.proofs.Predicates.{integer_there, constant_there}
use Rattle.lt_mark_typing.proofs.Nodes.{old_first, old_second}
use Rattle.lt_objective_typing.specs.Laws.{ArePredicates, AreToldThere, LabelsOfObjectivesAreNew}
use Rattle.lt_typed_nodes.specs.Coming.{ComesTo}
use Rattle.lt_typed_nodes.specs.Reaching as place
use Rattle.lt_typed_nodes.specs.Reaching.{IsReached, a_part, behind_label, a_body}
use Rattle.lt_typed_nodes.proofs.ComingToItems.{statements_are_come_to, externals_are_come_to}
use Rattle.lt_objective_marks.specs.Settings.{marks_of, Setting, IsIdAt, AreUnused, AddsIdsOf, IsAdded}
use Rattle.lt_objective_marks.specs.Laws.{ObjectivesAreAddedToExpressions}
use Rattle.lt_objective_marks.specs.Bodies.{begins_with_mark, IsBehindMarks, no_mark, a_mark, DomainsAreThere}
use Rattle.lt_objective_marks.proofs.Ids.{next_from, next_both, numbered_both, fewer_unused, more_added, then_added, behind, next_of_all, id_of_all}
use Rattle.lt_objective_marks.proofs.Tags.{nothing_told}
use Rattle.lt_objective_marks.proofs.Keeping as kept
use Rattle.lt_objective_marks.proofs.Keeping.{Lies}
use Rattle.lt_objective_marks.proofs.KeepingUnits.{body_lies}
use Rattle.lt_objective_marks.proofs.Numbering as numbering
use Rattle.lt_objective_marks.proofs.Ways.{only_way, went_on, through, lies_behind}
use Rattle.lt_objective_marks.proofs.Pieces.{old_there}
use Rattle.lt_objective_marks.proofs.Statements.{of_items}

-- ---- labels as items

before_items : (new : ℕ → Bool) (ls : c.Marks) (used between after : List ℕ) (around : Around) (known : Known) (list js : c.Items) → known.is_unmarked ≡ false → AreNewLabels new used between known ls
    → AddsToItems new between after around known list js → AddsToItems new used after around known list (labels_before ls js)
before_items new c.no_marks used between after around known list js unmarked same it = subst (λ used. AddsToItems new used after around known list js) same it
before_items new (c.a_mark (c.mark predicate id tag c.no_bindings) rest) used between after around known list js unmarked h it =
    adds.an_added_label unmarked (h.0, h.1, h.2, h.3, refl) (before_items new rest (number_of_id id ∷ used) between after around known list js unmarked h.4 it)
before_items new (c.a_mark (c.mark predicate id tag (c.a_binding name value others)) rest) used between after around known list js unmarked h it = absurd h

-- the constant 1 is a predicate
one_is : (m : DataModel) → constant_of m (codes "1") ≡ Some (record { type = S.Int; value = pos 1 })
one_is model.Ilp32 = refl
one_is model.Lp64 = refl
one_is model.Llp64 = refl
one_is model.Ilp32U = refl
one_is model.Lp64U = refl
one_is model.Llp64U = refl

not_used : (b : Bool) → (b ≡ true → ⊥) → b ≡ false
not_used true h = absurd (h refl)
not_used false h = refl

body_inside : (k : ℕ) (xs ys zs : List Node) → k + 1 + length xs + length ys + length zs ≤ k + suc (length (xs ++ ys ++ zs))
body_inside k xs ys zs = omega (arith, length-append (xs ++ ys) zs, length-append xs ys)

-- at the start of a body are no mutants
told_at_body : (new : ℕ → Bool) (used : List ℕ) (known : Known) (unit : c.Unit) (program : Program) (criterion : Criterion) (k : ℕ) → AreToldThere new used known criterion (at_body unit program criterion k)
told_at_body new used known unit program C.AbsoluteValue k = tt
told_at_body new used known unit program C.ArithmeticOperator k = tt
told_at_body new used known unit program C.LogicalConnector k = tt
told_at_body new used known unit program C.RelationalOperator k = tt
told_at_body new used known unit program criterion k = nothing_told new used known criterion (λ is. is) (at_body unit program criterion k)

module _ {new : ℕ → Bool} {unit : c.Unit} {program : Program} {criterion : Criterion} {id : ℕ} (setting : Setting new unit program criterion id) (new_labels : LabelsOfObjectivesAreNew) where
  abbrev marks : List NewMark
  marks = marks_of unit program criterion id

  -- labels at the start of a body, numbered among all
  start_labels : (k : ℕ) (ps : List c.Expression) (t : AreTogether unit program criterion (all_at k at_start criterion ps)) (known : Known) (used : List ℕ)
      → ((used : List ℕ) → ArePredicates new used known ps) → ((used : List ℕ) → AreToldThere new used known criterion ps) → AreUnused marks used k 1
      → (between : List ℕ) × AreNewLabels new used between known (labels at_start (numbered (next_id id t.before) (all_at k at_start criterion ps)) k) × AddsIdsOf marks used between k 1
  start_labels k ps t known used are told unused =
      let these : List Objective = all_at k at_start criterion ps in
      let j : ℕ = next_id id t.before in
      let low : id ≤ j = next_from id t.before in
      let count = next_of_all k at_start criterion refl j ps in
      let all : next_id id (objectives unit program criterion) ≡ next_id (next_id j these) t.behind = ap (next_id id) t.all ∙ next_both id t.before (these ++ t.behind) ∙ next_both j these t.behind in
      let more = next_from (next_id j these) t.behind in
      let end : j + length ps ≤ next_id id (objectives unit program criterion) = omega (arith, more, count, all) in
      let first = setting.first in
      let last = setting.last in
      let among : marks ≡ numbered id t.before ++ (numbered j these ++ numbered (next_id j these) t.behind) =
      ap (numbered id) t.all ∙ numbered_both id t.before (these ++ t.behind) ∙ ap (λ rest. numbered id t.before ++ rest) (numbered_both j these t.behind) in
      let at : (n : ℕ) → j ≤ n → n < j + length ps → IsIdAt marks k n =
      λ n from to. let it = id_of_all k at_start criterion refl j n ps from to in
      (it.0, subst (IsAmong it.0) (sym among) (in_second it.0 (numbered id t.before) _ (in_first it.0 (numbered j these) (numbered (next_id j these) t.behind) it.1)), it.2, it.3, it.4) in
      let here : IsWithin k 1 k = (omega arith, omega arith) in
      let it = new_labels new used known at_start criterion k j ps refl are told (omega (arith, low, first)) (omega (arith, end, last))
      (λ n from to. (setting.fresh n (omega (arith, low, from)) (omega (arith, end, to)), not_used (is_used n used) (λ is. unused n k is (at n from to) here))) in
      (it.0, it.1, λ n is. elim (it.2 n is) [ inl old ↦ inl old | inr r ↦ inr (k, at n r.0 r.1, here) ])

  module _ (numbered_parts : PartsAreNumbered) (added : ObjectivesAreAddedToExpressions) where
    -- new labels at a place, behind the marks with which these items begin
    abbrev AreThere : ℕ → c.Marks → c.Items → Known → Type 0
    AreThere at ls list known =
        (behind : Known) → IsBehindMarks list known behind → (used : List ℕ) → AreUnused marks used at 1 → (between : List ℕ) × AreNewLabels new used between behind ls × AddsIdsOf marks used between at 1

    of_rest : {deep : ℕ} (at total : ℕ) (ls : c.Marks) (used : List ℕ) (around : Around) (known : Known) (list : c.Items) (k : ℕ) → known.next ≡ k → IsIn unit k (the_items list) → Lies false (suc (suc deep)) known
        → ComesTo program.facts known (items list around known) → IsReached setting.greatest setting.model unit (place.items around list) known → at + 1 ≤ k → k + length (in_items list) ≤ at + total → AreUnused marks used at total → begins_with_mark list ≡ false → AreThere at ls list known
        → IsAdded marks used at total (λ after. AddsToItems new used after around known list (labels_before ls (items_with_marks marks k list)))
    of_rest at total ls used around known list k is_at is lies comes reached low high unused none there =
        let them : List Objective = objectives unit program criterion in
        let first = there known (no_mark none) used (fewer_unused marks used at total at 1 (omega arith) (omega (arith, low, high)) unused) in
        let left = fewer_unused marks used at total k (length (in_items list)) (omega (arith, low)) high unused in
        let rest = of_items setting numbered_parts added first.0 around known list k is_at is lies comes reached (behind id them used first.0 at 1 k (length (in_items list)) low first.2 left) in
        record {
          after = rest.after;
          added = before_items new ls used first.0 rest.after around known list (items_with_marks marks k list) lies.0 first.1 rest.added;
          ids = then_added marks used first.0 rest.after at total (more_added marks used first.0 at total at 1 (omega arith) (omega (arith, low, high)) first.2)
              (more_added marks first.0 rest.after at total k (length (in_items list)) (omega (arith, low)) high rest.ids);
        }

    of_body : {deep : ℕ} (at total : ℕ) (ls : c.Marks) (used : List ℕ) (around : Around) (known : Known) (list : c.Items) (k : ℕ) → known.next ≡ k → IsIn unit k (the_items list) → Lies false (suc (suc deep)) known
        → ComesTo program.facts known (items list around known) → IsReached setting.greatest setting.model unit (place.items around list) known → at + 1 ≤ k → k + length (in_items list) ≤ at + total → AreUnused marks used at total → AreThere at ls list known
        → IsAdded marks used at total (λ after. AddsToItems new used after around known list (after_leading ls (items_with_marks marks k list)))
    of_body at total ls used around known c.no_items k is_at is lies comes reached low high unused there = of_rest at total ls used around known c.no_items k is_at is lies comes reached low high unused refl there
    of_body at total ls used around known (c.a_declaration d list) k is_at is lies comes reached low high unused there =
        of_rest at total ls used around known (c.a_declaration d list) k is_at is lies comes reached low high unused refl there
    of_body at total ls used around known (c.a_statement x list) k is_at is lies comes reached low high unused there =
        of_rest at total ls used around known (c.a_statement x list) k is_at is lies comes reached low high unused refl there
    of_body at total ls used around known (c.a_label m list) k is_at is lies comes reached low high unused there =
        let goes = went_on (mark m (entered known)) _ comes.goes in
        let j : ℕ = k + 1 + length (in_mark m) in
        let size = length-append (in_mark m) (in_items list) in
        let old = (old_there new (in_items (c.a_label m list)) setting.old (all_stand unit k (the_items (c.a_label m list)) is).there).1 in
        let it = of_body at total ls used around goes.1 list j
        (numbering.behind goes.0 goes.1 (numbering.of_mark numbered_parts m (entered known)) goes.2 ∙ ap (λ n. n + 1 + length (in_mark m)) is_at) (a_piece is (inl refl))
        (lies_behind (kept.of_mark m (entered known) lies) goes.2) (statements_are_come_to.1 program.facts known around (c.a_label m list) comes goes.0 goes.1 goes.2) (a_part reached (behind_label goes.2))
        (omega (arith, low)) (omega (arith, high, size)) unused (λ behind it used unused. there behind (a_mark goes.2 it) used unused) in
        record {
          after = it.after;
          added = adds.a_label (old_first new (in_mark m) (in_items list) old)
              (only_way (λ typed next. AddsToItems new used it.after around next list (after_leading ls (items_with_marks marks j list))) goes.2 it.added);
          ids = it.ids;
        }

    module _ (one_node : MarksAreOfOneNode) where
      -- a function, the labels at the start of whose body have predicates
      pub of_definition : (used : List ℕ) (known : Known) (s : c.Specifiers) (d : c.Declarator) (body : c.Items) (k : ℕ) → known.next ≡ k → IsIn unit k (an_external (c.Defines s d body)) → Lies false 1 known
          → ComesTo program.facts known (external (c.Defines s d body) known) → IsReached setting.greatest setting.model unit (place.an_external (c.Defines s d body)) known
          → AreUnused marks used k (length (in_external (c.Defines s d body)))
          → ((it : Specified) (next : Known) (declared : Declares) (last : Known) → specifiers s elsewhere (entered known) ≡ Goes it next → declarator d it true (definition_faults it.storage) next ≡ Goes declared last
          → (behind : Known) → IsBehindMarks body (in_body declared last) behind → (used : List ℕ) → ArePredicates new used behind (at_body unit program criterion k))
          → IsAdded marks used k (length (in_external (c.Defines s d body))) (λ after. AddsToExternal new used after known (c.Defines s d body) (external_with_marks marks k (c.Defines s d body)))
      of_definition used known s d body k at is lies comes reached unused predicates =
          let rest : Specified → Known → Outcome (Unit {0}) =
          λ it k. goes_on (declarator d it true (definition_faults it.storage) k) (λ declared. defines known.next (unwrap_or declared.name []) declared body) in
          let first = went_on (specifiers s elsewhere (entered known)) rest comes.goes in
          let second = went_on (declarator d first.0 true (definition_faults first.0.storage) first.1) (λ declared. defines known.next (unwrap_or declared.name []) declared body) (through rest comes.goes first.2) in
          let declared : Declares = second.0 in
          let name : List ℕ = unwrap_or declared.name [] in
          let j : ℕ = k + 1 + length (in_specifiers s) + length (in_declarator d) in
          let old = (old_there new (in_external (c.Defines s d body)) setting.old (all_stand unit k (an_external (c.Defines s d body)) is).there).1 in
          let front = old_first new (in_specifiers s ++ in_declarator d) (in_items body) old in
          let labelled = (one_node unit program criterion k id).1 s d body (all_stand unit k (an_external (c.Defines s d body)) is) in
          let js : c.Items = after_leading (labels at_start marks k) (items_with_marks marks j body) in
          let it = of_body k (length (in_external (c.Defines s d body))) (labels at_start marks k) used (around_body declared.type) (in_body declared second.1) body j
          (numbering.function_leaves numbered_parts name declared.type second.1
          ∙ numbering.behind declared second.1 (numbering.of_declarator numbered_parts d first.0 true (definition_faults first.0.storage) first.1) second.2
          ∙ ap (λ n. n + length (in_declarator d))
          (numbering.behind first.0 first.1 (numbering.of_specifiers numbered_parts s elsewhere (entered known)) first.2 ∙ ap (λ n. n + 1 + length (in_specifiers s)) at))
          (a_piece is (inl refl))
          (body_lies name declared.type (frame_of declared.parameters) second.1
          (lies_behind (kept.of_declarator d first.0 true (definition_faults first.0.storage) first.1 (lies_behind (kept.of_specifiers s elsewhere (entered known) lies) first.2)) second.2))
          (externals_are_come_to.1 program.facts known (c.Defines s d body) comes first.0 first.1 first.2 declared second.1 second.2) (a_part reached (a_body first.2 second.2))
          (omega arith) (body_inside k (in_specifiers s) (in_declarator d) (in_items body)) unused
          (λ behind there used unused.
          let found = start_labels k (at_body unit program criterion k) labelled.together behind used (predicates first.0 first.1 declared second.1 first.2 second.2 behind there)
          (λ used. told_at_body new used behind unit program criterion k) unused in
          (found.0, subst (AreNewLabels new used found.0 behind) (sym labelled.labels_are) found.1, found.2)) in
          record {
            after = it.after;
            added = units.Defines (old_first new (in_specifiers s) (in_declarator d) front) (old_second new (in_specifiers s) (in_declarator d) front)
                (λ a next b last e f. only_way
                (λ (a : Specified) next. (b : Declares) (last : Known) → declarator d a true (definition_faults a.storage) next ≡ Goes b last
                → AddsToItems new used it.after (around_body b.type) (in_body b last) body js)
                first.2 (λ b last f. only_way (λ (b : Declares) last. AddsToItems new used it.after (around_body b.type) (in_body b last) body js) second.2 it.added b last f) a next e b last f);
            ids = it.ids;
          }

-- ---- the predicates at the start of a body

pub predicates_at_body : DomainsAreThere → (new : ℕ → Bool) (unit : c.Unit) (program : Program) (criterion : Criterion) (id : ℕ) (setting : Setting new unit program criterion id)
    → (s : c.Specifiers) (d : c.Declarator) (body : c.Items) (xs : List c.External) (known : Known) → IsReached setting.greatest setting.model unit (place.externals (c.Defines s d body ∷ xs)) known
    → IsIn unit known.next (an_external (c.Defines s d body)) → ComesTo program.facts known (external (c.Defines s d body) known)
    → (it : Specified) (next : Known) (declared : Declares) (last : Known)
    → specifiers s elsewhere (entered known) ≡ Goes it next → declarator d it true (definition_faults it.storage) next ≡ Goes declared last
    → (behind : Known) → IsBehindMarks body (in_body declared last) behind → (used : List ℕ) → ArePredicates new used behind (at_body unit program criterion known.next)
predicates_at_body domains new unit program C.Function id setting s d body xs known reached is comes it next declared last e f behind there used =
    (integer_there {known = behind} one (constant_there {known = behind} (codes "1") (record { type = S.Int; value = pos 1 }) (one_is behind.model)), tt)
predicates_at_body domains new unit program C.InputDomain id setting s d body xs known reached is comes it next declared last e f behind there used =
    domains new unit program id setting s d body xs known reached is comes it next declared last e f behind there used
predicates_at_body domains new unit program _ id setting s d body xs known reached is comes it next declared last e f behind there used = tt
