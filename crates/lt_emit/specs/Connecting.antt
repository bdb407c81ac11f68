-- What is promised of the code of `&&`, `||`, `?:` and `,`.
use Rattle.std.specs.Prelude.{ℕ, ◌+◌, List, Bool, true, false}
use Rattle.lt_tree.specs.declared.typed.tree.Value.{Value}
use Rattle.lt_tree.specs.Typing.ValueView.{value_of, values_in}
use Rattle.lt_tree.specs.Typing.TypedTree as e
use Rattle.lt_ir.specs.declared.node.Parts.TheVariants.{Sequenced, Settled}
use Rattle.lt_meaning.specs.Expressions.{Fate, fate_of_part}
use Rattle.lt_code.specs.Pieces.{Piece, nothing, ◌▸◌}
use Rattle.lt_code.specs.Code.{Site, codes_of, value_code, test_code, clash, up_to, content_moved, second, branch, parts_of}
use Rattle.lt_code.specs.Costs.{Cost, ◌⊕◌, nodes_of_parts, behind_parts, calls_in_all}
use Rattle.lt_emit.specs.Spending.{piece}
use Rattle.lt_emit.specs.Emission.{Here, Finished, site_in}
use Rattle.lt_emit.specs.Stands.{value_cost, test_cost}
use Rattle.lt_emit.specs.Known.{IsKnown, AreKnown}
use Rattle.lt_emit.specs.declared.fate.Fate.{Fate as HeldFate}
use Rattle.lt_emit.specs.Fate.{fate_of, part_fate}

-- the right operand of `&&` and `||`, and what it costs
abbrev pub second_cost : Value → (r : ℕ) → Here → Cost
second_cost right r here = piece 3 (r + 2) ⊕ test_cost (λ types. value_of types right) (r + 1) here

abbrev pub SecondStands : Value → (r on off from : ℕ) → Here → Finished → Type 0
SecondStands right r on off from here it =
    IsKnown here (value_of here.types right)
    → second (site_in here it) r (test_code (site_in here it) (value_of here.types right) (r + 1)) (it.point from) (it.point on)
    (it.point off)

-- a branch of `?:`
abbrev pub branch_cost : Value → (r : ℕ) → Here → Cost
branch_cost v r here = piece 1 (r + 1) ⊕ value_cost (λ types. value_of types v) (r + 1) here

abbrev pub BranchStands : HeldFate → Value → (r to from : ℕ) → Here → Finished → Type 0
BranchStands fate v r to from here it =
    IsKnown here (value_of here.types v)
    → branch (site_in here it) (fate_of fate) r (codes_of (site_in here it) (value_of here.types v)) (it.point from) (it.point to)

-- ---- parts of a comma expression, whose values are in the register behind r

-- the last of them gives the value
abbrev pub joined_in : Site → (r : ℕ) → Piece
joined_in s r from to = up_to s (r + 1) (clash s (Sequenced r (r + 1)) ▸ content_moved s r (r + 1)) from to

-- behind another there is a sequence point
abbrev pub settled_in : Site → (r : ℕ) → Piece
settled_in s r = clash s (Settled (r + 1)) ▸ clash s (Sequenced r (r + 1))

abbrev pub behind_part : Site → (is_last : Bool) → (r : ℕ) → Piece
behind_part s true r = joined_in s r
behind_part s false r = settled_in s r

abbrev pub part_cost : Value → (r : ℕ) → Here → Cost
part_cost v r here = piece 2 (r + 2) ⊕ value_cost (λ types. value_of types v) (r + 1) here

abbrev pub PartStands : HeldFate → (is_last : Bool) → Value → (r to from : ℕ) → Here → Finished → Type 0
PartStands fate is_last v r to from here it =
    IsKnown here (value_of here.types v)
    → (value_code (site_in here it) (part_fate (fate_of fate) is_last) (value_of here.types v) (r + 1)
    ▸ behind_part (site_in here it) is_last r) (it.point from) (it.point to)

-- those from one on
abbrev pub parts_from : Site → Fate → e.Values → (r : ℕ) → Piece
parts_from s fate e.no_values r = nothing
parts_from s fate (e.a_value v vs) r = parts_of s fate (value_code s (fate_of_part fate vs) v) vs r

abbrev pub parts_cost : List Value → (r : ℕ) → Here → Cost
parts_cost parts r here = record {
  nodes = nodes_of_parts (values_in here.types parts);
  registers = behind_parts (values_in here.types parts) + 1 + r;
  loops = 0;
  calls = calls_in_all here.program.functions (values_in here.types parts);
}

abbrev pub PartsStand : HeldFate → List Value → (r to from : ℕ) → Here → Finished → Type 0
PartsStand fate parts r to from here it =
    AreKnown here (values_in here.types parts)
    → parts_from (site_in here it) (fate_of fate) (values_in here.types parts) r (it.point from) (it.point to)
