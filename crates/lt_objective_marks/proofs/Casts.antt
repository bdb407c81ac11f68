-- The operand of a cast has its marks.
use Rattle.std.proofs.Common.{◌≡◌, inl, refl, ap, ◌∙◌, subst, ℕ, suc, ◌+◌, ◌≤◌, ◌++◌, length, length-append, Bool, false, arith}
use Rattle.lt_tree.specs.Tree as c
use Rattle.lt_tree.specs.Nodes.{in_expression, in_specifiers, in_declarator}
use Rattle.lt_tree.specs.Typing.Entities.{Known}
use Rattle.lt_tree.specs.Typing.Steps.{Outcome, goes_on}
use Rattle.lt_tree.specs.Typing.Expressions.{Typed, as_value, as_callee, finish}
use Rattle.lt_tree.specs.Typing.Operations.{judge_cast}
use Rattle.lt_tree.specs.Typing.Specifying.{Specified, elsewhere}
use Rattle.lt_tree.specs.Typing.Declarators.{Declares, type_name_faults}
use Rattle.lt_tree.specs.Typing.NodeEnds.{also}
use Rattle.lt_tree.specs.Typing.ExpressionTyping.{expression, specifiers, declarator}
use Rattle.lt_tree.specs.Typing.Programs.{Program}
use Rattle.lt_objectives.specs.declared.criteria.Criterion.{Criterion}
use Rattle.lt_objectives.specs.Marked.{with_marks}
use Rattle.lt_objective_places.specs.Stands as stands
use Rattle.lt_objective_places.specs.Pieces.{a_piece}
use Rattle.lt_mark_typing.specs.Beside.{in_use, use_of}
use Rattle.lt_mark_typing.specs.Placed.{AreOld, AddsTo, any_type_name}
use Rattle.lt_mark_typing.specs.Placed as placed
use Rattle.lt_mark_typing.proofs.Nodes.{old_first, old_second}
use Rattle.lt_typed_nodes.specs.Coming.{entered}
use Rattle.lt_typed_nodes.specs.Reaching as place
use Rattle.lt_typed_nodes.specs.Reaching.{a_part}
use Rattle.lt_objective_marks.specs.Settings.{Setting, a_value}
use Rattle.lt_objective_marks.proofs.Given.{Given}
use Rattle.lt_objective_marks.proofs.Ends.{ended, through, part_goes, same_found, same_behind}
use Rattle.lt_objective_marks.proofs.Whole.{new_marks, Inner, ValuesAreMarkable}
use Rattle.lt_objective_marks.proofs.Noted.{number_behind}
use Rattle.lt_objective_marks.proofs.Steps.{unused_of, inside_of, old_here, from_parts}
use Rattle.lt_objective_marks.proofs.Parts.{operand}

no_truth : stands.as_value ≡ stands.in_truth → ⊥
no_truth is = cc

no_callee : in_use as_value ≡ in_use as_callee → ⊥
no_callee is = cc

abbrev named : c.Declarator → Specified → Known → Outcome Declares
named d it known = declarator d it false (λ name known b. type_name_faults b) known

module _ (g : Given) {new : ℕ → Bool} {unit : c.Unit} {program : Program} {criterion : Criterion} {id : ℕ} (s : Setting new unit program criterion id) (markable : ValuesAreMarkable g s) where
  pub cast : (types : c.Specifiers) (d : c.Declarator) (operated : c.Expression) → Inner g s operated → Inner g s (c.Cast types d operated)
  cast types d operated inner_e role position used known h unused =
      let e = c.Cast types d operated in
      let taken = use_of position in
      let last = λ (t : Declares) (x : Typed) (i : Known). finish known.next taken (also t.faults (judge_cast t.type x i)) i in
      let third = λ (t : Declares) (j : Known). goes_on (expression operated as_value j) (last t) in
      let second = λ (it : Specified) (k : Known). goes_on (named d it k) third in
      let a = part_goes (specifiers types elsewhere (entered known)) second h.comes.goes in
      let behind_a = through second a.2 h.comes.goes in
      let b = part_goes (named d a.0 a.1) third behind_a in
      let behind_b = through third b.2 behind_a in
      let comes = g.operands.0 program.facts known taken e h.comes a.0 a.1 a.2 b.0 b.1 b.2 in
      let at = ended comes.behind known.next taken (also b.0.faults (judge_cast b.0.type comes.found comes.behind)) h.comes.found h.comes.behind (through (last b.0) comes.goes behind_b) in
      let size : length (in_expression e) ≡ suc (length (in_specifiers types) + length (in_declarator d) + length (in_expression operated)) =
      ap suc (length-append (in_specifiers types ++ in_declarator d) (in_expression operated) ∙ ap (λ n. n + length (in_expression operated)) (length-append (in_specifiers types) (in_declarator d))) in
      let n = known.next + 1 + length (in_specifiers types) + length (in_declarator d) in
      let number : b.1.next ≡ n = omega (arith, ap (λ (it : Known). it.next) at.next, number_behind g s e taken known h.comes, number_behind g s operated as_value b.1 comes, size) in
      let is_open = g.unmarked.declarator d a.0 false (λ name known b. type_name_faults b) a.1 b.0 b.1 b.2 ∙ g.unmarked.specifiers types elsewhere (entered known) a.0 a.1 a.2 ∙ h.marked in
      let fits : n + length (in_expression operated) ≤ known.next + length (in_expression e) = omega (arith, size) in
      let it = operand g s markable stands.as_value (in_use as_value) used b.1 operated n
      (record { number = number; isin = a_piece h.isin (inl refl); fits = a_value; marked = is_open; comes = comes; reached = a_part h.reached (place.a_cast a.2 b.2); taken = tt }) no_truth no_callee inner_e
      (unused_of (new_marks g s) used known.next (length (in_expression e)) n (length (in_expression operated)) (omega arith) fits unused) in
      let old = (old_here g s known.next e h.isin).1 in
      let front = old_first new (in_specifiers types ++ in_declarator d) (in_expression operated) old in
      from_parts g s role position used it.after known e h
      (placed.Cast (old_first new (in_specifiers types) (in_declarator d) front) (old_second new (in_specifiers types) (in_declarator d) front)
      (λ spec next declared k first then. subst (λ k. AddsTo new (in_use as_value) used it.after k operated (with_marks (new_marks g s) n operated))
      (same_behind b.2 (ap (λ i. named d i a.1) (same_found a.2 first) ∙ ap (named d spec) (same_behind a.2 first) ∙ then)) it.added))
      (inside_of (new_marks g s) used it.after known.next (length (in_expression e)) n (length (in_expression operated)) (omega arith) fits it.ids)
