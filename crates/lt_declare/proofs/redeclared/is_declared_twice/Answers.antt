use Rattle.std.proofs.Common.{sym, ap, ◌∙◌}
use Rattle.lt_env.specs.Going.{known_of}
use Rattle.std.proofs.Common.{not}
use Rattle.lt_tree.specs.Typing.TypeRows.{type_in}
use Rattle.lt_tree.specs.Typing.Operands.{holds}
use Rattle.lt_tree.specs.Typing.Declaring as declaring
use Rattle.lt_declare.specs.DeclaredKinds.{kind_in}
use Rattle.lt_declare.proofs.redeclared.is_declared_twice.Goals as goal

pub returns-in_ok-is_other-in-TypeName : goal.returns-in_ok-is_other-in-TypeName
returns-in_ok-is_other-in-TypeName c = λ longer h.
    let t = type_in longer c.args.t in
    c.in_ok-is_other-in-TypeName.ensures longer h ∙ ap (holds (λ e. not (declaring.is_same_typedef t e))) (c.find_here.ensures longer)
    ∙ ap (λ k. declaring.is_declared_twice (known_of longer c.args.walker.now) (kind_in k) c.args.name.now t c.args.has_initialiser) (sym c.in-TypeName.is)

pub returns-in_ok-is_twice-in-Function : goal.returns-in_ok-is_twice-in-Function
returns-in_ok-is_twice-in-Function c = λ longer h.
    c.in_ok-is_twice-in-Function.ensures longer h
    ∙ ap (λ k. declaring.is_declared_twice (known_of longer c.args.walker.now) (kind_in k) c.args.name.now (type_in longer c.args.t) c.args.has_initialiser) (sym c.in-Function.is)
