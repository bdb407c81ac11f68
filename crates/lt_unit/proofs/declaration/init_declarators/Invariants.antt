use Rattle.std.proofs.Common.{◌++◌, map, drop}
use Rattle.lt_tree.specs.UnitView as source
use Rattle.lt_tree.specs.Typing.Steps.{gives}
use Rattle.lt_tree.specs.Typing.DeclarationTyping as typing
use Rattle.lt_declare.specs.DeclaredViews.{specified_of}
use Rattle.lt_type.proofs.Turns.{Turning}
use Rattle.lt_unit.specs.UnitViews.{locals_of, with_storage}
use Rattle.lt_unit.proofs.declaration.init_declarators.Given as goal

abbrev pub invariant-more : goal.invariant-more
invariant-more l = Turning l.initial.walker l.walker (λ types. typing.init_declarators (with_storage l.class (specified_of types l.it)) (map source.init_declarator_of l.list))
    (λ types. typing.init_declarators (with_storage l.class (specified_of types l.it)) (map source.init_declarator_of (drop l.d-index l.list))) (λ types locals. gives (locals_of types l.all.items ++ locals))
