-- What is known of the nodes of a unit.
use Rattle.std.specs.Prelude.{◌≡◌, ℕ, List, map}
use Rattle.lt_tree.specs.Tree as c
use Rattle.lt_tree.specs.Typing.Programs.{Program}
use Rattle.lt_objectives.specs.Places.{sites as sites_of, is_open, is_value_position}
use Rattle.lt_objectives.specs.Decisions.{decisions, clauses}
use Rattle.lt_objectives.specs.Objectives.{decided_at}
use Rattle.lt_sites.specs.Sites.{AreSitesOf}
use Rattle.lt_copies.specs.Fitting.{fits_at}
use Rattle.lt_facts.specs.Facts.{AreFunctionIndices, families}
use Rattle.lt_survey.specs.declared.survey.Survey.{Survey}

-- what is so of the node of each number
abbrev pub by_number : {A : Type 0} → c.Unit → (ℕ → A) → List A
by_number unit of = map (λ site. of site.number) (sites_of unit)

pub record IsSurvey (unit : c.Unit) (program : Program) (it : Survey) : Type 0 where
  pub sites : AreSitesOf it.sites.items unit
  pub open_places : it.open.items ≡ by_number unit (is_open unit program)
  pub values : it.values.items ≡ by_number unit (is_value_position unit)
  pub copied : it.copied.items ≡ map (fits_at unit) (sites_of unit)
  pub decisions : it.decisions.items ≡ by_number unit (decided_at (decisions unit))
  pub clauses : it.clauses.items ≡ by_number unit (decided_at (clauses unit))
  pub families : it.families.items ≡ families unit program
  pub functions : AreFunctionIndices unit program it.functions.items
