use Rattle.std.proofs.Common.{ℕ, set, true, sym, ◌∙◌, ◌+◌, subst}
use Rattle.lt_tree.specs.Typing.EntityView.{structs_of}
use Rattle.lt_input_blocks.specs.Cells.{AreSettled}
use Rattle.lt_input_blocks.proofs.CellLaws.{settle_law}
use Rattle.lt_input_blocks.proofs.cells.settle_at.Goals as goal

pub returns-then-holds_settled : goal.returns-then-holds_settled
returns-then-holds_settled c = λ types bound have before.
    subst (λ (n : ℕ). AreSettled (structs_of types c.args.structs.now) (bound + 1) (set c.args.cells.now c.args.place n) (set c.args.settled.now c.args.place true)) (sym c.struct_cells.ensures)
    (settle_law types c.args.facts.now c.args.structs.now have c.args.cells.now c.args.settled.now c.args.place bound c.index-structs-place.result c.requires.cells c.requires.settled c.if-place-structs.false
    c.index-structs-place.is (sym c.holds_settled.ensures ∙ c.if-holds_settled.true) before)
