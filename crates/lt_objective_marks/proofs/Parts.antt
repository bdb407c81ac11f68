-- The operands of an expression have their marks.
use Rattle.std.proofs.Common.{◌≡◌, refl, sym, ◌∙◌, subst, ℕ, suc, ◌+◌, ◌≤◌, List, length, Bool, false, arith}
use Rattle.lt_tree.specs.Tree as c
use Rattle.lt_tree.specs.Nodes.{in_expression}
use Rattle.lt_tree.specs.Typing.Entities.{Known}
use Rattle.lt_tree.specs.Typing.Steps.{Goes}
use Rattle.lt_tree.specs.Typing.Expressions.{Typed, Use, as_callee}
use Rattle.lt_tree.specs.Typing.ExpressionTyping.{expression}
use Rattle.lt_tree.specs.Typing.Programs.{Program}
use Rattle.lt_objectives.specs.declared.criteria.Criterion.{Criterion}
use Rattle.lt_objectives.specs.Objectives.{objectives}
use Rattle.lt_objectives.specs.Marked.{within, with_marks}
use Rattle.lt_objective_places.specs.Stands.{IsAmong, Role}
use Rattle.lt_objective_places.specs.Stands as stands
use Rattle.lt_objective_places.specs.Pieces.{an_expression, IsIn}
use Rattle.lt_mark_typing.specs.Beside.{Position, in_use, use_of}
use Rattle.lt_mark_typing.specs.Placed.{AddsTo, AddsToParts}
use Rattle.lt_typed_nodes.specs.Coming.{ComesToIt, entered}
use Rattle.lt_typed_nodes.specs.Reaching as place
use Rattle.lt_typed_nodes.specs.Reaching.{IsPart, IsReached, a_part}
use Rattle.lt_objective_marks.specs.Settings.{Setting, AreUnused, IsAdded, Fits, IsTaken}
use Rattle.lt_objective_marks.proofs.Given.{Given}
use Rattle.lt_objective_marks.proofs.Whole.{UnusedInside, new_marks, Here, Inside, Inner, ValuesAreMarkable, whole}
use Rattle.lt_objective_marks.proofs.Noted.{number_behind}
use Rattle.lt_objective_marks.proofs.Steps.{unused_of, inside_of, two, at_behind, from_parts, moved_to}

module _ (g : Given) {new : ℕ → Bool} {unit : c.Unit} {program : Program} {criterion : Criterion} {id : ℕ} (s : Setting new unit program criterion id) (markable : ValuesAreMarkable g s) where
  -- the marks of an operand
  abbrev pub Added : Position → List ℕ → Known → c.Expression → ℕ → Type 0
  Added position used known e k = IsAdded (new_marks g s) used k (length (in_expression e)) (λ after. AddsTo new position used after known e (with_marks (new_marks g s) k e))

  -- an operand that stands at a number
  pub record Operand (role : Role) (position : Position) (known : Known) (e : c.Expression) (k : ℕ) : Type 0 where
    pub number : known.next ≡ k
    pub isin : IsIn unit k (an_expression role e)
    pub fits : Fits role position
    pub marked : known.is_unmarked ≡ false
    pub comes : ComesToIt program.facts known (use_of position) e
    pub reached : IsReached s.greatest s.model unit (place.an_expression (use_of position) e) known
    pub taken : IsTaken role position known e

  pub here_of : (role : Role) (position : Position) (known : Known) (e : c.Expression) (k : ℕ) → Operand role position known e k → Here g s role position known e
  here_of role position known e k o =
      record { isin = subst (λ n. IsIn unit n (an_expression role e)) (sym o.number) o.isin; fits = o.fits; marked = o.marked; comes = o.comes; reached = o.reached; taken = o.taken }

  pub operand : (role : Role) (position : Position) (used : List ℕ) (known : Known) (e : c.Expression) (k : ℕ) → Operand role position known e k → (role ≡ stands.in_truth → ⊥) → (position ≡ in_use as_callee → ⊥)
      → Inner g s e → AreUnused (new_marks g s) used k (length (in_expression e)) → Added position used known e k
  operand role position used known e k o no_truth other inner unused =
      moved_to g s position used known e k o.number
      (whole g s markable role position used known e (here_of role position known e k o) no_truth other inner (subst (λ n. AreUnused (new_marks g s) used n (length (in_expression e))) (sym o.number) unused))

  -- ---- one operand

  module _ (role : Role) (position : Position) (used : List ℕ) (known : Known) where
    -- an operand right behind its operator
    pub first_in : (e d : c.Expression) (inner_role : Role) (inner_position : Position) → Here g s role position known e → IsIn unit (known.next + 1) (an_expression inner_role d) → Fits inner_role inner_position
        → ComesToIt program.facts (entered known) (use_of inner_position) d → IsPart (place.an_expression (use_of position) e) known (place.an_expression (use_of inner_position) d) (entered known)
        → IsTaken inner_role inner_position (entered known) d → Operand inner_role inner_position (entered known) d (known.next + 1)
    first_in e d inner_role inner_position h isin fits comes part taken =
        record { number = refl; isin = isin; fits = fits; marked = h.marked; comes = comes; reached = a_part h.reached part; taken = taken }

    pub one : (e d : c.Expression) (inner_role : Role) (inner_position : Position) → length (in_expression e) ≡ suc (length (in_expression d)) → Here g s role position known e
        → UnusedInside (new_marks g s) used known.next (length (in_expression e))
        → Operand inner_role inner_position (entered known) d (known.next + 1) → (inner_role ≡ stands.in_truth → ⊥) → (inner_position ≡ in_use as_callee → ⊥) → Inner g s d
        → ((after : List ℕ) → AddsTo new inner_position used after (entered known) d (with_marks (new_marks g s) (known.next + 1) d) → AddsToParts new position used after known e (within (new_marks g s) known.next e))
        → Inside g s position used known e
    one e d inner_role inner_position size h unused o no_truth other inner build =
        let fits : known.next + 1 + length (in_expression d) ≤ known.next + length (in_expression e) = omega (arith, size) in
        let it = operand inner_role inner_position used (entered known) d (known.next + 1) o no_truth other inner
        (unused_of (new_marks g s) used known.next (length (in_expression e)) (known.next + 1) (length (in_expression d)) (omega arith) fits unused) in
        from_parts g s role position used it.after known e h (build it.after it.added)
        (inside_of (new_marks g s) used it.after known.next (length (in_expression e)) (known.next + 1) (length (in_expression d)) (omega arith) fits it.ids)

    -- ---- two operands

    -- the second, behind the first
    pub second_in : (e l r : c.Expression) (first : Use) (inner_role : Role) (inner_position : Position) → Here g s role position known e → (left : ComesToIt program.facts (entered known) first l)
        → IsIn unit (known.next + 1 + length (in_expression l)) (an_expression inner_role r) → Fits inner_role inner_position
        → ComesToIt program.facts left.behind (use_of inner_position) r → IsPart (place.an_expression (use_of position) e) known (place.an_expression (use_of inner_position) r) left.behind
        → IsTaken inner_role inner_position left.behind r → Operand inner_role inner_position left.behind r (known.next + 1 + length (in_expression l))
    second_in e l r first inner_role inner_position h left isin fits comes part taken = record {
      number = number_behind g s l first (entered known) left;
      isin = isin;
      fits = fits;
      marked = g.unmarked.expression l first (entered known) left.found left.behind left.goes ∙ h.marked;
      comes = comes;
      reached = a_part h.reached part;
      taken = taken;
    }

    pub both : (e l r : c.Expression) (first_role second_role : Role) (first_position second_position : Position) → length (in_expression e) ≡ suc (length (in_expression l) + length (in_expression r))
        → Here g s role position known e → UnusedInside (new_marks g s) used known.next (length (in_expression e))
        → (left : ComesToIt program.facts (entered known) (use_of first_position) l) → Operand first_role first_position (entered known) l (known.next + 1)
        → Operand second_role second_position left.behind r (known.next + 1 + length (in_expression l))
        → (first_role ≡ stands.in_truth → ⊥) → (second_role ≡ stands.in_truth → ⊥) → (first_position ≡ in_use as_callee → ⊥) → (second_position ≡ in_use as_callee → ⊥) → Inner g s l → Inner g s r
        → ((between after : List ℕ) → AddsTo new first_position used between (entered known) l (with_marks (new_marks g s) (known.next + 1) l)
        → ((x : Typed) (next : Known) → expression l (use_of first_position) (entered known) ≡ Goes x next → AddsTo new second_position between after next r (with_marks (new_marks g s) (known.next + 1 + length (in_expression l)) r))
        → AddsToParts new position used after known e (within (new_marks g s) known.next e))
        → Inside g s position used known e
    both e l r first_role second_role first_position second_position size h unused left a b no_first no_second first_other second_other inner_l inner_r build =
        let j = known.next + 1 + length (in_expression l) in
        let it = two id (objectives unit program criterion) used known.next (length (in_expression e)) (known.next + 1) (length (in_expression l)) j (length (in_expression r))
        {F = λ between. AddsTo new first_position used between (entered known) l (with_marks (new_marks g s) (known.next + 1) l)}
        {G = λ between after. AddsTo new second_position between after left.behind r (with_marks (new_marks g s) j r)}
        (omega arith) (omega arith) (omega (arith, size)) unused
        (operand first_role first_position used (entered known) l (known.next + 1) a no_first first_other inner_l)
        (λ between. operand second_role second_position between left.behind r j b no_second second_other inner_r) in
        from_parts g s role position used it.after known e h
        (build it.between it.after it.first (at_behind left.goes (λ next. AddsTo new second_position it.between it.after next r (with_marks (new_marks g s) j r)) it.second)) it.ids
