-- Pieces of code behind operands, and what compound assignments, `++` and `--` make of the value that lies there.
use Rattle.std.specs.Prelude.{ℕ, ◌+◌, pos}
use Rattle.lt_model.specs.declared.cell.Content.TheVariants as content
use Rattle.lt_model.specs.declared.operator.Op.TheVariants as O
use Rattle.lt_tree.specs.Typing.Types.{CType}
use Rattle.lt_tree.specs.Typing.TypedTree as e
use Rattle.lt_ir.specs.declared.node.Node.TheVariants as node
use Rattle.lt_ir.specs.declared.node.Parts.TheVariants.{Unsequenced}
use Rattle.lt_meaning.specs.Expressions.{scalar_in, all_ones}
use Rattle.lt_code.specs.Pieces.{Piece, one, ◌▸◌}
use Rattle.lt_code.specs.Code.{Site, program_in, up_to, constant, clash, scalar_target, scalar_stored, computed, stepped}
use Rattle.lt_code.specs.Code.{reads, target, late, assigned}
use Rattle.lt_emit.specs.declared.changes.Change.{Change}
use Rattle.lt_emit.specs.declared.changes.Change.TheVariants as change

-- `-a` and `~a`, behind `a`
abbrev pub negated : Site → CType → (r : ℕ) → Piece
negated s t r =
    up_to s (r + 1) (constant s (r + 1) (content.Number (pos 0))
    ▸ one s.stands (node.Apply r (r + 1) r O.Sub (scalar_in t)))

abbrev pub complemented : Site → CType → (r : ℕ) → Piece
complemented s t r =
    up_to s (r + 1) (constant s (r + 1) (all_ones (program_in s) t)
    ▸ one s.stands (node.Apply r r (r + 1) O.Xor (scalar_in t)))

-- an assignment, behind its operands
abbrev pub assignment : Site → CType → e.Value → (r : ℕ) → Piece
assignment s t v r =
    up_to s (r + 1) (reads s t (r + 1) ▸ clash s (Unsequenced r (r + 1)) ▸ target s t r ▸ late s v (r + 1)
    ▸ assigned s t r (r + 1))

-- ---- load, modify, store

abbrev pub updated_by : Change → CType → e.Place → e.Value → e.Value
updated_by (change.Computed op k) t p v = e.Update t op k p v
updated_by (change.Moved op size) t p v = e.UpdatePointer t op size p v

abbrev pub stepped_by : Change → CType → e.When → e.Place → e.Value
stepped_by (change.Computed op k) t when p = e.Step t when op k p
stepped_by (change.Moved op size) t when p = e.StepPointer t when op size p

-- what is made of the value that lay there, and of the right operand
abbrev pub modified : Change → Site → CType → (r : ℕ) → Piece
modified (change.Computed op k) s t r = computed s t op k r
modified (change.Moved op size) s t r = stepped s op size r

-- in so many nodes
abbrev pub change_nodes : Change → ℕ
change_nodes (change.Computed op k) = 3
change_nodes (change.Moved op size) = 1

-- and it is stored
abbrev pub changed : Change → Site → CType → (r gives : ℕ) → Piece
changed it s t r gives =
    up_to s (r + 3) (scalar_target s t r ▸ modified it s t r ▸ scalar_stored s t r (r + 3) gives)
