-- The program of the first unit knows as much of a marked unit as the unit's own program.
use Rattle.std.proofs.Common.{◌≡◌, refl, ◌∙◌, subst, ℕ}
use Rattle.lt_model.specs.declared.scalar.DataModel.{DataModel}
use Rattle.lt_tree.specs.Tree as c
use Rattle.lt_tree.specs.Typing.Entities.{greatest_label_id}
use Rattle.lt_tree.specs.Typing.UnitTyping.{IsProgramTo}
use Rattle.lt_tree.specs.Typing.Programs.{Program}
use Rattle.lt_tree_laws.specs.Typing.NodeNumbers.{PartsAreNumbered}
use Rattle.lt_objectives.specs.Objectives.{objectives}
use Rattle.lt_kept_facts.specs.Known.{KnowTheSame}
use Rattle.lt_kept_facts.specs.Objectives.{ObjectivesAreFoundByEither, MarkedUnitsKnowTheSame}
use Rattle.lt_kept_facts.proofs.Marked.{unit_of}
use Rattle.lt_objective_marks.specs.Rounds.{IsMadeFrom, first_unit, marked_unit, FirstProgramsKnowAsMuch}
use Rattle.lt_objective_marks.proofs.FunctionsStand.{functions_stand}

know_itself : (p : Program) → KnowTheSame p p
know_itself p = record { model = refl; facts = refl; parameters = refl }

know_on : {p q r : Program} → KnowTheSame p q → KnowTheSame q r → KnowTheSame p r
know_on h g = record { model = h.model ∙ g.model; facts = h.facts ∙ g.facts; parameters = h.parameters ∙ g.parameters }

module _ (numbered : PartsAreNumbered) (marked_know : MarkedUnitsKnowTheSame) where
  -- so it is in each round, in which the unit has a program
  in_rounds : {model : DataModel} {first : Program} {greatest : ℕ} {unit : c.Unit} {own : Program} → IsMadeFrom model first greatest unit own → KnowTheSame first own × IsProgramTo greatest model unit own
  in_rounds {first = first} (first_unit is) = (know_itself first, is)
  in_rounds {model} (marked_unit {new} {after} {greatest} {unit} {other} {own} {program} made adds names is) =
      let before = in_rounds made in
      let here = marked_know new greatest model unit other after own program adds names before.1 is (functions_stand numbered greatest model unit own before.1) (functions_stand numbered greatest_label_id model other program is) in
      (know_on before.0 here, is)

  pub first_programs_know : ObjectivesAreFoundByEither → FirstProgramsKnowAsMuch
  first_programs_know either model first greatest unit own criterion made =
      let it = in_rounds made in
      subst (λ u. objectives u first criterion ≡ objectives u own criterion) (unit_of greatest model unit own it.1) (either first own it.0 criterion)
