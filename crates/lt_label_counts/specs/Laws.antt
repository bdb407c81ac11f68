-- Bounds of what a text can have, and of what criteria can ask for in it.
use Rattle.std.specs.Prelude.{ℕ, suc, ◌≤◌, List, length, None}
use Rattle.lt_model.specs.declared.scalar.DataModel.{DataModel}
use Rattle.lt_token.specs.Tokens.{Token, Lexes}
use Rattle.lt_tree.specs.Tree as c
use Rattle.lt_tree.specs.Nodes.{nodes}
use Rattle.lt_tree.specs.Units.{Derives}
use Rattle.lt_tree.specs.Ids.{ids_of_unit, greatest_id}
use Rattle.lt_tree.specs.Typing.Programs.{Program}
use Rattle.lt_tree.specs.Typing.UnitTyping.{IsProgramOf}
use Rattle.lt_objectives.specs.Criteria.{criteria_in}
use Rattle.lt_survey.specs.Marking.{IdsPass}
use Rattle.lt_label_counts.specs.Needs.{needs}

-- What the nodes of a unit outside of marks need is no more than the bytes of its text.
abbrev pub TextsHaveFewNodes : Type 0
TextsHaveFewNodes =
    (text : List ℕ) (tokens : List Token) (unit : c.Unit) (spots : List ℕ) → Lexes text tokens None → Derives tokens unit spots → needs 0 (nodes unit) ≤ length text

-- The ids of the labels of criteria, each criterion once, that go on from the greatest id of a unit of a text of at most 4 MiB don't pass the greatest.
abbrev pub IdsNeverPass : Type 0
IdsNeverPass =
    (model : DataModel) (text : List ℕ) (tokens : List Token) (unit : c.Unit) (spots : List ℕ) (program : Program) (set : ℕ)
    → length text ≤ 4194304 → Lexes text tokens None → Derives tokens unit spots → IsProgramOf model unit program
    → IdsPass (criteria_in set) unit program (suc (greatest_id (ids_of_unit unit))) → ⊥
