use Rattle.std.proofs.Common.{sym, subst}
use Rattle.lt_tree.specs.Typing.ConstancyView.{constancy_of}
use Rattle.lt_tree.specs.Typing.Operations.{object_size}
use Rattle.lt_table.specs.ConstantViews.{IsExtent}
use Rattle.lt_judge.specs.Knowing.{known_with}
use Rattle.lt_judge.proofs.shared.extent_of.Goals as goal

pub returns-in_ok-size-in-Address : goal.returns-in_ok-size-in-Address
returns-in_ok-size-in-Address c = λ longer more.
    subst (λ k. IsExtent (object_size (known_with longer c.args.types.now c.args.objects.now)) c.in_ok-size-in-Address.size (constancy_of k)) (sym c.in-Address.is)
    (sym (c.in_ok-size-in-Address.ensures longer more))
