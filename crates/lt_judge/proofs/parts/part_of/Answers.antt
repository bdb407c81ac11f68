use Rattle.std.proofs.Common.{ap, sym, ◌∙◌}
use Rattle.lt_tree.specs.Typing.ConstancyView.{constancy_of}
use Rattle.lt_env.specs.Views.{typed_in, typed_of}
use Rattle.lt_judge.proofs.Members.{part_is}
use Rattle.lt_judge.proofs.parts.part_of.Goals as goal

pub returns-clause-made : goal.returns-clause-made
returns-clause-made c = λ longer more member type offset.
    ap (typed_of longer) c.in_ok-new.ensures.ok
    ∙ part_is (typed_in longer c.args.x) member (c.in_ok-place.ensures.made longer more) type offset
    (c.in-Some.ensures (typed_in longer c.args.x) member (ap (λ v. constancy_of v.constancy) (sym c.deref.ensures)) offset)
    (ap (λ v. v.is_register) c.deref-2.ensures) (ap (λ v. v.is_after) c.deref-3.ensures)
