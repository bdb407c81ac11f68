use Rattle.std.proofs.Common.{if◌then◌else◌, ap, ◌∙◌}
use Rattle.lt_env.specs.Going.{known_of}
use Rattle.std.proofs.Common.{◌||◌, if◌then◌else◌}
use Rattle.lt_tree.specs.declared.specifier.Storage.TheVariants as storage
use Rattle.lt_tree.specs.Typing.Entities as entities
use Rattle.lt_tree.specs.Typing.Specifying as specifying
use Rattle.lt_declare.proofs.kinds.life_of.Goals as goal

pub returns : goal.returns
returns c = λ types.
    c.life.ensures ∙ ap (λ b. if b then entities.linked else (if c.is_class-is_static.result then entities.local_static else entities.automatic)) (c.has_linkage.ensures types)
    ∙ ap (λ s. if (entities.is_file_scope (known_of types c.args.walker.now) || specifying.is_class storage.Extern c.args.class) then entities.linked else (if s then entities.local_static else entities.automatic)) c.is_class-is_static.ensures
