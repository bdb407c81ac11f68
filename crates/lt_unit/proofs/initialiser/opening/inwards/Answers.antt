use Rattle.std.proofs.Common.{sym, ap, ◌∙◌}
use Rattle.lt_tree.specs.Typing.TypeRows.{type_in}
use Rattle.lt_tree.specs.Typing.Filling.{first_within, first_in_struct}
use Rattle.lt_table.proofs.TableFound.{then_ok}
use Rattle.lt_unit.specs.LeftParts.{plain, is_taken_for, runs_of}
use Rattle.lt_env.proofs.Judgements.{stays_in}
use Rattle.lt_unit.proofs.Openings.{plain_twice, plain_within}
use Rattle.lt_unit.proofs.initialiser.opening.inwards.Goals as goal

pub returns-in-Some-None : goal.returns-in-Some-None
returns-in-Some-None c = then_ok c.in_single.result (λ next made longer h known k.
    let is = c.in_ok-ty.ensures longer h in
    let array = rw c.in-Some-None.field-0-is at c.in-Some-None.ensures.array in
    made longer h known k (ap plain is ∙ plain_twice (type_in longer c.args.part.ty) ∙ sym is) (stays_in c.table.ensures array longer h)
    ∙ ap (λ t. first_within known (is_taken_for c.args.taken) (first_in_struct known (is_taken_for c.args.taken) c.args.depth.now) c.args.part.offset t (runs_of longer c.args.left.now.items)) is
    ∙ plain_within known (is_taken_for c.args.taken) (first_in_struct known (is_taken_for c.args.taken) c.args.depth.now) c.args.part.offset (type_in longer c.args.part.ty) (runs_of longer c.args.left.now.items))
    c.in_single.ensures

pub returns-in-Some-Some : goal.returns-in-Some-Some
returns-in-Some-Some c = then_ok c.in_array.result (λ next made longer h known k.
    let array = rw c.in-Some-Some.field-0-is at c.in-Some-Some.ensures.array in
    made longer h known k (first_in_struct known (is_taken_for c.args.taken) c.args.depth.now) (stays_in c.table.ensures array.2 longer h)
    ∙ ap (λ t. first_within known (is_taken_for c.args.taken) (first_in_struct known (is_taken_for c.args.taken) c.args.depth.now) c.args.part.offset t (runs_of longer c.args.left.now.items)) (c.in_ok-ty.ensures longer h)
    ∙ plain_within known (is_taken_for c.args.taken) (first_in_struct known (is_taken_for c.args.taken) c.args.depth.now) c.args.part.offset (type_in longer c.args.part.ty) (runs_of longer c.args.left.now.items))
    c.in_array.ensures
