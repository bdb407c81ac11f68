use Rattle.std.proofs.Common.{ap, sym, ◌∙◌}
use Rattle.lt_tree.specs.Typing.TypeRows.{type_in}
use Rattle.lt_tree.specs.Typing.TypedTree as e
use Rattle.lt_tree.specs.Typing.ConstancyView.{constancy_of}
use Rattle.lt_tree.specs.Typing.ValueView.{value_of}
use Rattle.lt_tree.specs.Typing.StatementView.{start_part_of}
use Rattle.lt_emit.proofs.Spent.{within, fitting}
use Rattle.lt_lower.proofs.Objects.{part_arm}
use Rattle.lt_lower.proofs.object.part.Goals as goal

pub returns-in-Stored : goal.returns-in-Stored
returns-in-Stored c =
    part_arm c.args.part.now (λ types. e.stored c.in-Stored.offset (value_of types c.deref.result.now)) c.args.object c.args.to
    (λ types. ap (start_part_of types) c.in-Stored.is ∙ ap (λ v. e.stored c.in-Stored.offset (value_of types v)) (sym c.deref.ensures))
    c.stored.ensures

pub returns-in-Fixed : goal.returns-in-Fixed
returns-in-Fixed c =
    part_arm c.args.part.now (λ types. e.fixed c.in-Fixed.offset (type_in types c.in-Fixed.ty) (constancy_of c.in-Fixed.content)) c.args.object c.args.to
    (λ types. ap (start_part_of types) c.in-Fixed.is)
    (within c.emit.ensures.code (λ from here it p known. p.0) (λ here. grind fitting))

pub returns-in-Letters : goal.returns-in-Letters
returns-in-Letters c =
    part_arm c.args.part.now (λ types. e.letters c.in-Letters.offset c.in-Letters.ty c.as_slice.result.now) c.args.object c.args.to
    (λ types. ap (start_part_of types) c.in-Letters.is ∙ ap (e.letters c.in-Letters.offset c.in-Letters.ty) (sym c.as_slice.ensures))
    (within c.letters.ensures (λ from here it p known. p) (λ here. grind fitting))
