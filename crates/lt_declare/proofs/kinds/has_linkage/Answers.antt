use Rattle.std.proofs.Common.{ap, ◌∙◌}
use Rattle.std.proofs.Common.{◌||◌}
use Rattle.lt_tree.specs.declared.specifier.Storage.TheVariants as storage
use Rattle.lt_tree.specs.Typing.Specifying as specifying
use Rattle.lt_declare.proofs.kinds.has_linkage.Goals as goal

pub returns-then-is_file_scope : goal.returns-then-is_file_scope
returns-then-is_file_scope c = λ types. c.if-is_file_scope.true ∙ ap (λ b. b || specifying.is_class storage.Extern c.args.class) (c.if-is_file_scope.ensures types)

pub returns-else-is_file_scope : goal.returns-else-is_file_scope
returns-else-is_file_scope c = λ types. c.is_class.ensures ∙ ap (λ b. b || specifying.is_class storage.Extern c.args.class) (c.if-is_file_scope.ensures types)
