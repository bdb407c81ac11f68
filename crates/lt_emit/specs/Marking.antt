-- What is promised of the code of marks.
use Rattle.std.specs.Prelude.{◌≡◌, ℕ, List, [], Bool, true, not, Some, slice_get}
use Rattle.std.specs.List.{list_all}
use Rattle.lt_tree.specs.declared.typed.tree.Mark.{Mark}
use Rattle.lt_tree.specs.Typing.ValueView.{marks_in}
use Rattle.lt_ir.specs.declared.pure.Pure.{Pure}
use Rattle.lt_ir.specs.declared.node.Node.TheVariants as node
use Rattle.lt_ir.specs.PureView.{pure_of}
use Rattle.lt_ir.specs.Ranges.{is_lookable}
use Rattle.lt_code.specs.Pieces.{◌▸◌}
use Rattle.lt_code.specs.Code.{IsLabel, fixed_mark, marks}
use Rattle.lt_code.specs.Costs.{Cost, marks_of}
use Rattle.lt_emit.specs.declared.builder.Builder.{Builder}
use Rattle.lt_emit.specs.Spending.{piece}
use Rattle.lt_emit.specs.Emission.{Here, Finished, site_in, counts_at}
use Rattle.lt_emit.specs.Known.{IsLabelled, AreMarked}

-- the variables that pure expressions name are there
abbrev pub AreLookable : Builder → Pure → List Pure → Type 0
AreLookable b q qs =
    (is_lookable (counts_at b) (pure_of q) ≡ true) × (list_all (λ q. is_lookable (counts_at b) (pure_of q)) qs ≡ true)

-- a mark of the label with an id
abbrev pub LabelStands : (id : ℕ) → Pure → List Pure → (to from : ℕ) → Here → Finished → Type 0
LabelStands id q qs to from here it =
    (names : List (List ℕ)) → IsLabelled here id names
    → (k : ℕ) × IsLabel (site_in here it) k id names
    × (slice_get it.nodes (it.point from) ≡ Some (node.Mark k q qs (it.point to)))

-- a mark that is true, or isn't
abbrev pub FixedMarkStands : (id : ℕ) → Bool → (to from : ℕ) → Here → Finished → Type 0
FixedMarkStands id b to from here it =
    IsLabelled here id [] → fixed_mark (site_in here it) id b (it.point from) (it.point to)

-- one that is true, and one that isn't
abbrev pub BothMarksStand : (when_true when_false : ℕ) → Bool → (to from : ℕ) → Here → Finished → Type 0
BothMarksStand when_true when_false b to from here it =
    IsLabelled here when_true [] → IsLabelled here when_false []
    → (fixed_mark (site_in here it) when_true b ▸ fixed_mark (site_in here it) when_false (not b)) (it.point from) (it.point to)

-- marks, one behind the other, and what they cost
abbrev pub marks_cost : List Mark → Here → Cost
marks_cost all here = piece (marks_of (marks_in here.types all)) 0

abbrev pub MarksStand : List Mark → (to from : ℕ) → Here → Finished → Type 0
MarksStand all to from here it =
    AreMarked here (marks_in here.types all)
    → marks (site_in here it) (marks_in here.types all) (it.point from) (it.point to)
