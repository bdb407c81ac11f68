use Rattle.std.proofs.Common.{◌≡◌, ℕ, List, length, map, sym, ap, ◌∙◌, subst, arith}
use Rattle.std.proofs.lemmas.List.{length-map}
use Rattle.lt_tree.specs.Typing.EntityView.{struct_of, structs_of}
use Rattle.lt_input_blocks.specs.Cells.{AreCellsAt, struct_cells_by}
use Rattle.lt_input_blocks.proofs.CellLaws.{no_rounds, round_law}
use Rattle.lt_input_blocks.proofs.cells.cells_by_rounds.Goals as goal

pub loop-round-init : goal.loop-round-init
loop-round-init c = λ types have.
    subst (AreCellsAt (structs_of types c.args.structs.now) 0) (sym c.in_ok-cells.ensures) (no_rounds types c.args.structs.now (length c.args.structs.now))

pub loop-round-preserved : goal.loop-round-preserved
loop-round-preserved c = λ types have.
    round_law types c.args.facts.now c.args.structs.now have c.loop-round.cells.items c.in_ok-cells-2.cells.items c.loop-round._round (c.loop-round.invariant types have)
    (c.in_ok-cells-2.ensures ∙ ap (λ (l : List ℕ). map (λ it. struct_cells_by c.args.facts.now l it) c.args.structs.now) c.deref.ensures.value)

pub returns : goal.returns
returns c = λ types have.
    let long : length (structs_of types c.args.structs.now) ≡ length c.args.structs.now = length-map c.args.structs.now (struct_of types) in
    let end : c.loop-round._round ≡ length (structs_of types c.args.structs.now) = omega (arith, long, c.loop-round-test.false, c.loop-round.auto._round-end) in
    subst (λ (n : ℕ). AreCellsAt (structs_of types c.args.structs.now) n c.loop-round.cells.items) end (c.loop-round.invariant types have)
