-- The marks of objectives are added to initialisers of objects that are created where their declarations are reached.
use Rattle.std.proofs.Common.{◌≡◌, refl, sym, ap, ◌∙◌, subst, ℕ, ◌+◌, Bool, false, List, inl, inr, length, Option, Some, None}
use Rattle.lt_tree.specs.Tree as c
use Rattle.lt_tree.specs.Nodes.{in_expression, in_initialiser, in_initialisers}
use Rattle.lt_tree.specs.Typing.Types.{CType}
use Rattle.lt_tree.specs.Typing.Entities.{Known}
use Rattle.lt_tree.specs.Typing.Expressions.{as_value}
use Rattle.lt_tree.specs.Typing.Programs.{Program}
use Rattle.lt_tree.specs.Typing.Filling.{Filling, text_in, only_text, begins_with_braces, filling_of}
use Rattle.lt_tree.specs.Typing.InitialiserTyping.{Judges, filling_for, initialiser, initialisers, object_initialiser}
use Rattle.lt_tree_laws.specs.Typing.NodeNumbers.{PartsAreNumbered}
use Rattle.lt_objectives.specs.declared.criteria.Criterion.{Criterion}
use Rattle.lt_objectives.specs.Objectives.{objectives}
use Rattle.lt_objectives.specs.Marked.{initialiser_with_marks, initialisers_with_marks}
use Rattle.lt_objective_places.specs.Stands.{IsAmong}
use Rattle.lt_objective_places.specs.Stands as stands
use Rattle.lt_objective_places.specs.Pieces.{an_initialiser, initialisers as the_initialisers, IsIn, a_piece}
use Rattle.lt_objective_places.proofs.Going.{all_stand}
use Rattle.lt_mark_typing.specs.Beside.{in_use}
use Rattle.lt_mark_typing.specs.Placed.{entered}
use Rattle.lt_mark_typing.specs.PlacedInitialisers as adds
use Rattle.lt_mark_typing.specs.PlacedInitialisers.{AddsToInitialiser, AddsToInitialisers, AddsToObject}
use Rattle.lt_typed_nodes.specs.Coming.{ComesTo, ComesToOne}
use Rattle.lt_typed_nodes.specs.Reaching as place
use Rattle.lt_typed_nodes.specs.Reaching.{IsReached, a_part}
use Rattle.lt_typed_nodes.proofs.ComingToItems.{initialisers_are_come_to}
use Rattle.lt_objective_marks.specs.Settings.{marks_of, Setting, AreUnused, IsAdded}
use Rattle.lt_objective_marks.specs.Laws.{ObjectivesAreAddedToExpressions}
use Rattle.lt_objective_marks.proofs.Keeping.{Lies}
use Rattle.lt_objective_marks.proofs.KeepingUnits as keeping
use Rattle.lt_objective_marks.proofs.Numbering as numbering
use Rattle.lt_objective_marks.proofs.Together.{nothing, in_node, two}
use Rattle.lt_objective_marks.proofs.Ways.{found_only, lies_behind}
use Rattle.lt_objective_marks.proofs.Pieces.{a_value, old_there, no_text, text_alone, same_text, of_expression}

module _ {new : ℕ → Bool} {unit : c.Unit} {program : Program} {criterion : Criterion} {id : ℕ} (setting : Setting new unit program criterion id)
    (numbered : PartsAreNumbered) (added : ObjectivesAreAddedToExpressions) where
  -- marks are added to an initialiser, and to several
  abbrev Initialised : List ℕ → Known → Filling → c.Initialiser → ℕ → Type 0
  Initialised used known filling i k =
      IsAdded (marks_of unit program criterion id) used k (length (in_initialiser i))
      (λ after. AddsToInitialiser new used after known filling i (initialiser_with_marks (marks_of unit program criterion id) k i))

  abbrev AllInitialised : List ℕ → Known → Filling → c.Initialisers → ℕ → Type 0
  AllInitialised used known filling list k =
      IsAdded (marks_of unit program criterion id) used k (length (in_initialisers list))
      (λ after. AddsToInitialisers new used after known filling list (initialisers_with_marks (marks_of unit program criterion id) k list))

  same_only : (k : ℕ) (list : c.Initialisers) → IsIn unit k (the_initialisers list) → only_text (initialisers_with_marks (marks_of unit program criterion id) k list) ≡ only_text list
  same_only k c.no_initialisers is = refl
  same_only k (c.an_initialiser (c.Value e) c.no_initialisers) is = same_text unit program criterion id (k + 1) e (a_piece (a_piece is (inl refl)) (inl refl))
  same_only k (c.an_initialiser (c.Value e) (c.an_initialiser i rest)) is = refl
  same_only k (c.an_initialiser (c.Braces list) rest) is = refl

  same_braces : (k : ℕ) (list : c.Initialisers) → begins_with_braces (initialisers_with_marks (marks_of unit program criterion id) k list) ≡ begins_with_braces list
  same_braces k c.no_initialisers = refl
  same_braces k (c.an_initialiser (c.Value e) rest) = refl
  same_braces k (c.an_initialiser (c.Braces list) rest) = refl

  text_is : (e : c.Expression) (bytes : List ℕ) → text_in e ≡ Some bytes → e ≡ c.Text bytes
  text_is (c.Text text) bytes e = cc
  text_is _ bytes e = absurd cc

  of_value : {deep : ℕ} (used : List ℕ) (known : Known) (filling : Filling) (e : c.Expression) (k : ℕ) → known.next ≡ k → IsIn unit k (an_initialiser (c.Value e)) → Lies false deep known
      → (text_in e ≡ None → ComesToOne program.facts known as_value e) → IsReached setting.greatest setting.model unit (place.an_initialiser false filling (c.Value e)) known → AreUnused (marks_of unit program criterion id) used k (length (in_initialiser (c.Value e))) → (found : Option (List ℕ)) → text_in e ≡ found
      → Initialised used known filling (c.Value e) k
  of_value used known filling e k at is lies comes reached unused None none =
      in_node id (objectives unit program criterion) used k (length (in_expression e)) unused
      (of_expression setting added stands.as_value (in_use as_value) used (entered known) e (k + 1) (ap (λ n. n + 1) at) (a_piece is (inl refl)) a_value lies (comes none) (a_part reached (place.a_value none)) tt)
      (λ after it. adds.Value none (no_text (marks_of unit program criterion id) (k + 1) e none) it)
  of_value used known filling e k at is lies comes reached unused (Some bytes) some =
      subst (λ e. IsIn unit k (an_initialiser (c.Value e)) → Initialised used known filling (c.Value e) k) (sym (text_is e bytes some)) alone is
    where
      alone : IsIn unit k (an_initialiser (c.Value (c.Text bytes))) → Initialised used known filling (c.Value (c.Text bytes)) k
      alone is =
          nothing id (objectives unit program criterion) used k (length (in_initialiser (c.Value (c.Text bytes))))
          (subst (λ e. AddsToInitialiser new used used known filling (c.Value (c.Text bytes)) (c.Value e)) (sym (text_alone unit program criterion id (k + 1) bytes (a_piece is (inl refl))))
          (adds.as_it_is (old_there new (in_initialiser (c.Value (c.Text bytes))) setting.old (all_stand unit k (an_initialiser (c.Value (c.Text bytes))) is).there)))

  mutual
    of_initialiser : {deep : ℕ} (used : List ℕ) (known : Known) (filling : Filling) (i : c.Initialiser) (k : ℕ) → known.next ≡ k → IsIn unit k (an_initialiser i) → Lies false deep known
        → ComesTo program.facts known (initialiser i false filling known) → IsReached setting.greatest setting.model unit (place.an_initialiser false filling i) known → AreUnused (marks_of unit program criterion id) used k (length (in_initialiser i)) → Initialised used known filling i k
    of_initialiser used known filling (c.Value e) k at is lies comes reached unused = of_value used known filling e k at is lies (initialisers_are_come_to.1 program.facts known false filling (c.Value e) comes) reached unused (text_in e) refl
    of_initialiser used known filling (c.Braces list) k at is lies comes reached unused =
        in_node id (objectives unit program criterion) used k (length (in_initialisers list)) unused
        (of_initialisers used (entered known) (filling_for (entered known) list filling.left) list (k + 1) (ap (λ n. n + 1) at) (a_piece is (inl refl)) lies
        (initialisers_are_come_to.1 program.facts known false filling (c.Braces list) comes) (a_part reached place.braces))
        (λ after it. adds.Braces (same_only (k + 1) list (a_piece is (inl refl))) (same_braces (k + 1) list) it)

    of_initialisers : {deep : ℕ} (used : List ℕ) (known : Known) (filling : Filling) (list : c.Initialisers) (k : ℕ) → known.next ≡ k → IsIn unit k (the_initialisers list) → Lies false deep known
        → ComesTo program.facts known (initialisers list false filling known) → IsReached setting.greatest setting.model unit (place.initialisers false filling list) known → AreUnused (marks_of unit program criterion id) used k (length (in_initialisers list)) → AllInitialised used known filling list k
    of_initialisers used known filling c.no_initialisers k at is lies comes reached unused = nothing id (objectives unit program criterion) used k 0 adds.no_initialisers
    of_initialisers used known filling (c.an_initialiser i rest) k at is lies comes reached unused =
        let parts = initialisers_are_come_to.2 program.facts known false filling (c.an_initialiser i rest) comes in
        let first = parts.0 in
        two id (objectives unit program criterion) used k (in_initialiser i) (in_initialisers rest) unused
        (of_initialiser used known filling i k at (a_piece is (inl refl)) lies first (a_part reached place.one_initialiser))
        (λ between p unused. of_initialisers between first.behind first.found rest (k + length (in_initialiser i))
        (numbering.behind first.found first.behind (numbering.of_initialiser numbered i false filling known) first.goes ∙ ap (λ n. n + length (in_initialiser i)) at) (a_piece is (inr (inl refl)))
        (lies_behind (keeping.of_initialiser i false filling known lies) first.goes) (parts.1 first.found first.behind first.goes)
        (a_part reached (place.more_initialisers first.goes)) unused)
        (λ between after p q. adds.an_initialiser p
        (found_only first (λ filled next. AddsToInitialisers new between after next filled rest (initialisers_with_marks (marks_of unit program criterion id) (k + length (in_initialiser i)) rest)) q))

  -- an initialiser of an object, but for a lone string literal
  pub of_object : {deep : ℕ} (used : List ℕ) (known : Known) (t : CType) (judge : Judges) (i : c.Initialiser) (k : ℕ) → known.next ≡ k → IsIn unit k (an_initialiser i) → Lies false deep known
      → ((e : c.Expression) → i ≡ c.Value e → text_in e ≡ None) → ComesTo program.facts known (object_initialiser false t judge i known)
      → IsReached setting.greatest setting.model unit (place.a_start false t i) known → AreUnused (marks_of unit program criterion id) used k (length (in_initialiser i))
      → IsAdded (marks_of unit program criterion id) used k (length (in_initialiser i)) (λ after. AddsToObject new used after known t i (initialiser_with_marks (marks_of unit program criterion id) k i))
  of_object used known t judge (c.Value e) k at is lies none comes reached unused =
      in_node id (objectives unit program criterion) used k (length (in_expression e)) unused
      (of_expression setting added stands.as_value (in_use as_value) used (entered known) e (k + 1) (ap (λ n. n + 1) at) (a_piece is (inl refl)) a_value lies
      (initialisers_are_come_to.0 program.facts known false t judge (c.Value e) comes (none e refl)) (a_part reached (place.start_value (none e refl))) tt)
      (λ after it. adds.Value (none e refl) (no_text (marks_of unit program criterion id) (k + 1) e (none e refl)) it)
  of_object used known t judge (c.Braces list) k at is lies none comes reached unused =
      in_node id (objectives unit program criterion) used k (length (in_initialisers list)) unused
      (of_initialisers used (entered known) (filling_of (entered known) 0 t list) list (k + 1) (ap (λ n. n + 1) at) (a_piece is (inl refl)) lies
      (initialisers_are_come_to.0 program.facts known false t judge (c.Braces list) comes) (a_part reached place.start_braces))
      (λ after it. adds.Braces (same_only (k + 1) list (a_piece is (inl refl))) (same_braces (k + 1) list) it)
