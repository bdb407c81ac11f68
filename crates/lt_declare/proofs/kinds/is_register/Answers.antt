use Rattle.std.proofs.Common.{ap, ◌∙◌}
use Rattle.std.proofs.Common.{◌&&◌, not}
use Rattle.lt_tree.specs.declared.specifier.Storage.TheVariants as storage
use Rattle.lt_tree.specs.Typing.Specifying as specifying
use Rattle.lt_declare.proofs.kinds.is_register.Goals as goal

pub returns-then-not-is_file_scope : goal.returns-then-not-is_file_scope
returns-then-not-is_file_scope c = λ types. c.is_class.ensures ∙ ap (λ b. not b && specifying.is_class storage.Register c.args.class) (c.if-not-is_file_scope.ensures types)

pub returns-else-not-is_file_scope : goal.returns-else-not-is_file_scope
returns-else-not-is_file_scope c = λ types. ap not c.if-not-is_file_scope.false ∙ ap (λ b. not b && specifying.is_class storage.Register c.args.class) (c.if-not-is_file_scope.ensures types)
