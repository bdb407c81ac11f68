use Rattle.std.proofs.Common.{ap, subst}
use Rattle.lt_tree.specs.Typing.ConstancyView.{constancy_of}
use Rattle.lt_tree.specs.Typing.Operations.{object_size}
use Rattle.lt_table.specs.ConstantViews.{IsExtent}
use Rattle.lt_env.specs.Views.{typed_of, typed_in}
use Rattle.lt_judge.specs.Knowing.{known_with}
use Rattle.lt_env.proofs.Judgements.{stays_on, widens_on}
use Rattle.lt_judge.proofs.JudgedBinary.{known_kept, moved_is}
use Rattle.lt_judge.proofs.binary.pointers.moved.Goals as goal

pub returns-clause-made : goal.returns-clause-made
returns-clause-made c = λ longer more.
    let w1 = c.element_size.ensures.widens in
    let w2 = c.value_in.ensures.widens in
    let w3 = c.value_in-2.ensures.widens in
    let w23 = widens_on w2 w3 in
    let w123 = widens_on w1 w23 in
    let extent = subst (λ k. IsExtent (object_size k) c.in_ok-extent.extent (constancy_of c.in_ok-pointer.pointer.now.constancy))
    (known_kept longer c.args.types.now c.element_size.new.types c.args.objects.now w1) (stays_on w23 c.in_ok-extent.ensures longer more) in
    let at = typed_of longer in
    moved_is (known_with longer c.args.types.now c.args.objects.now) c.args.op (typed_in longer c.args.x) (typed_in longer c.args.y) _ _ _ _ _ _ _ _ _ _ _ _ _ _ _ _ _
    (ap at c.deref.ensures) (ap at c.deref-2.ensures) (ap at c.deref-3.ensures) (ap at c.deref-4.ensures) (ap at c.deref-5.ensures) (ap at c.deref-6.ensures) (ap at c.deref-7.ensures)
    (stays_on w23 c.in_ok-size.ensures.made longer more) (stays_on w23 c.in_ok-side.ensures longer more)
    (stays_on w23 c.in_ok-pointer.ensures longer more) (stays_on w23 c.in_ok-other.ensures longer more) (c.own_type-ty.ensures longer)
    (c.moved_towards-at.ensures (object_size (known_with longer c.args.types.now c.args.objects.now)) extent)
    (stays_on w3 c.in_ok-left.ensures.made longer more) (c.in_ok-right.ensures.made longer more) (c.in_ok-value.ensures longer) (c.in_ok-all.ensures longer)
