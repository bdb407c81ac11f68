use Rattle.std.proofs.Common.{sym, ap, ◌∙◌, length}
use Rattle.std.proofs.lemmas.List.{length-map}
use Rattle.lt_tree.specs.Typing.TypeRows.{type_in}
use Rattle.lt_tree.specs.Typing.EntityView.{struct_of}
use Rattle.lt_tree.specs.Typing.Filling.{first_within, first_in_struct}
use Rattle.lt_unit.specs.LeftParts.{is_taken_for, runs_of}
use Rattle.lt_unit.proofs.initialiser.opening.open_within.Goals as goal

pub loop-turn-init : goal.loop-turn-init
loop-turn-init c = λ longer h known k.
    ap (λ depth. first_within known (is_taken_for c.args.taken) (first_in_struct known (is_taken_for c.args.taken) depth) c.args.first.offset (type_in longer c.args.first.ty) (runs_of longer c.args.left.now.items))
    (c.struct_count-depth.ensures ∙ sym (length-map c.args.types.now.structs (struct_of longer)) ∙ ap length (sym k.structs))

pub returns-in-None : goal.returns-in-None
returns-in-None c = λ longer h known k.
    let made = rw c.in-None.is at (c.in_ok-inwards.ensures longer h known k) in
    made ∙ c.loop-turn.invariant longer h known k

pub loop-turn-preserved : goal.loop-turn-preserved
loop-turn-preserved c = λ longer h known k.
    let made = rw c.in-Some.is at (c.in_ok-inwards.ensures longer h known k) in
    made ∙ c.loop-turn.invariant longer h known k
