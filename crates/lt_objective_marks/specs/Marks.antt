-- New marks that are old for those that come later: their ids and their predicates have none of the ids that are new then.
use Rattle.std.specs.Prelude.{◌≡◌, ◌⊎◌, ℕ, suc, Bool, true, false}
use Rattle.std.specs.Fmt.{decimal}
use Rattle.lt_tree.specs.Nodes.{in_expression}
use Rattle.lt_tree.specs.Purity.{is_pure}
use Rattle.lt_tree.specs.Typing.MarkRules.{number_of_id}
use Rattle.lt_objectives.specs.Objectives.{Form, around, Objective}
use Rattle.lt_objectives.specs.Marked.{NewMark}
use Rattle.lt_mark_typing.specs.Placed.{AreOld}

-- the ids of a mark of this form, and the marks in its predicate, are no new ones
abbrev pub IsOldAs : (ℕ → Bool) → Form → NewMark → Type 0
IsOldAs new around mark = (new (number_of_id (decimal mark.id)) ≡ false) × (new (number_of_id (decimal (suc mark.id))) ≡ false)
IsOldAs new form mark = (new (number_of_id (decimal mark.id)) ≡ false) × AreOld new (in_expression mark.objective.predicate)

abbrev pub IsOldMark : (ℕ → Bool) → NewMark → Type 0
IsOldMark new mark = IsOldAs new mark.objective.form mark

-- of an objective that stands in front of something the predicate is pure
abbrev pub IsPurelyLabelled : Objective → Type 0
IsPurelyLabelled it = (it.form ≡ around) ⊎ (is_pure it.predicate ≡ true)
