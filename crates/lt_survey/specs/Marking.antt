-- Units with the marks of criteria, one criterion after the other.
use Rattle.std.specs.Prelude.{◌≡◌, ◌<◌, ◌⊎◌, ℕ, ◌+◌, List, [], ◌∷◌, filter}
use Rattle.lt_tree.specs.Tree as c
use Rattle.lt_tree.specs.UnitView.{unit_of}
use Rattle.lt_tree.specs.Typing.Programs.{Program}
use Rattle.lt_objectives.specs.declared.criteria.Criterion.{Criterion}
use Rattle.lt_objectives.specs.declared.criteria.Criteria.{Criteria}
use Rattle.lt_objectives.specs.Criteria.{is_in}
use Rattle.lt_objectives.specs.Objectives.{Objective, objectives}
use Rattle.lt_objectives.specs.Marked.{numbered, next_id, unit_with_marks, marked_by}
use Rattle.lt_numbering.specs.Numbering.{most_id}
use Rattle.lt_survey.specs.declared.marking.Marked.{Marked}

-- The unit with the marks of these objectives, and the id that follows.
pub record IsMarkedWith (unit : c.Unit) (id : ℕ) (them : List Objective) (it : Marked) : Type 0 where
  pub marks : unit_of it.unit ≡ unit_with_marks (numbered id them) unit
  pub next : it.next ≡ next_id id them

-- the id that follows the marks of these criteria
abbrev pub next_behind : List Criterion → c.Unit → Program → ℕ → ℕ
next_behind [] unit program id = id
next_behind (criterion ∷ rest) unit program id =
    let them = objectives unit program criterion in next_behind rest (unit_with_marks (numbered id them) unit) program (next_id id them)

-- An id of the marks of these criteria would pass the greatest.
abbrev pub IdsPass : List Criterion → c.Unit → Program → ℕ → Type 0
IdsPass [] unit program id = ⊥
IdsPass (criterion ∷ rest) unit program id =
    let them = objectives unit program criterion in
    (most_id + 1 < next_id id them) ⊎ IdsPass rest (unit_with_marks (numbered id them) unit) program (next_id id them)

-- a set of criteria, by its bits
abbrev pub bits_of : Criteria → ℕ
bits_of set = set.0

-- those of these criteria that are in a set
abbrev pub chosen : List Criterion → (set : ℕ) → List Criterion
chosen criteria set = filter (is_in set) criteria

-- The unit with the marks of criteria, each applied to what the one before gave, and the id that follows.
pub record IsMarkedBy (criteria : List Criterion) (unit : c.Unit) (program : Program) (id : ℕ) (it : Marked) : Type 0 where
  pub marks : unit_of it.unit ≡ marked_by criteria unit program id
  pub next : it.next ≡ next_behind criteria unit program id
