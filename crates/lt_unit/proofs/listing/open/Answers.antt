use Rattle.std.proofs.Common.{◌∷◌, ◌++◌, [], Some, map, reverse, ap, sym, ◌∙◌}
use Rattle.std.proofs.lemmas.List.{reverse-append}
use Rattle.lt_unit.specs.declared.listing.Task.TheVariants as task
use Rattle.lt_unit.specs.Tasks.{parts_in}
use Rattle.lt_unit.proofs.Listings.{then_ok}
use Rattle.lt_unit.proofs.Tasks.{passed, opened}
use Rattle.lt_unit.proofs.listing.open.Goals as goal

pub returns-then-branch : goal.returns-then-branch
returns-then-branch c =
    passed c.args.types.now c.args.listed.now c.args.t c.in_ok-bare.bare (reverse c.args.tasks.now.items) c.requires c.in_ok-bare.ensures (c.in_ok-has.ensures ∙ ap Some c.if-branch.true)

pub returns : goal.returns
returns c =
    then_ok c.open_row.result
    (λ next.
    opened c.args.types.now c.args.listed.now c.args.t c.in_ok-bare.bare c.in-Some.row.now (reverse c.args.tasks.now.items) (reverse c.open_row.new.tasks.items) c.requires c.in_ok-bare.ensures (sym c.in-Some.ensures)
    (next ∙ ap (λ l. map task.List (parts_in c.in-Some.row.now) ++ l) (ap reverse c.in_ok-push.ensures.items ∙ reverse-append c.args.tasks.now.items (task.Add c.in_ok-bare.bare ∷ []))))
    c.open_row.ensures
