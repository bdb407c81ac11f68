-- Labels in front of a value are of mutants.
use Rattle.std.proofs.Common.{◌≡◌, subst, ℕ, List, [], ◌∷◌, ◌++◌, Bool, true, false, ◌&&◌, if◌then◌else◌}
use Rattle.std.specs.Prelude.{map}
use Rattle.lt_tree.specs.Tree as c
use Rattle.lt_tree.specs.Erasure.{erased}
use Rattle.lt_tree.specs.Typing.Programs.{Program}
use Rattle.lt_objectives.specs.declared.criteria.Criterion.{Criterion}
use Rattle.lt_objectives.specs.Places.{is_open, is_value_position}
use Rattle.lt_objectives.specs.Decisions.{decisions, clauses, inequality}
use Rattle.lt_objectives.specs.Copies.{is_core, can_be_copied}
use Rattle.lt_objectives.specs.Objectives.{in_front, Objective, all_at, decided_at, at_test, mutants, differences}
use Rattle.lt_objective_places.specs.Stands.{IsAmong, MayStand}
use Rattle.lt_objective_places.specs.Stands as stands
use Rattle.lt_objective_marks.proofs.Predicates.{none_at}

module _ (unit : c.Unit) (program : Program) where
  -- there are mutants of what differs from some
  some_mutant : (criterion : Criterion) (k : ℕ) (e : c.Expression) (b : Bool) (list : List c.Expression) (it : Objective)
      → IsAmong it (if b then all_at k in_front criterion (map (inequality (erased e)) list) else []) → (list ≡ [] → ⊥)
  some_mutant criterion k e false list it h none = h
  some_mutant criterion k e true [] it h none = h
  some_mutant criterion k e true (m ∷ ms) it h none = cc

  at_it : (criterion : Criterion) (k : ℕ) (e : c.Expression) (b : Bool) (tests others : List Objective) (it : Objective) → tests ≡ [] → IsAmong it (if b then tests ++ others else []) → IsAmong it others
  at_it criterion k e true tests others it none h = subst (λ list. IsAmong it (list ++ others)) none h
  at_it criterion k e false tests others it none h = absurd h

  pub mutants_there : (criterion : Criterion) (k : ℕ) (e : c.Expression) (it : Objective) → MayStand unit program criterion stands.as_value k e it in_front → (mutants unit program criterion k e (erased e) ≡ [] → ⊥)
  mutants_there criterion k e it may =
      some_mutant criterion k e (can_be_copied unit k e && is_value_position unit k) (mutants unit program criterion k e (erased e)) it
      (at_it criterion k e (is_core e && is_open unit program k) (at_test criterion (can_be_copied unit k e) (decided_at (decisions unit) k) (decided_at (clauses unit) k) k e) (differences unit program criterion k e) it
      (none_at unit criterion (can_be_copied unit k e) k e may.2.1) may.3)
