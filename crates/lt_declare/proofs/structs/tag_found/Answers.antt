use Rattle.std.proofs.Common.{if◌then◌else◌, ap, ◌∙◌}
use Rattle.lt_tree.specs.Typing.Entities.{tagged_in, tag_here}
use Rattle.lt_env.specs.NamesValue.{frames_at}
use Rattle.lt_env.specs.Going.{known_of}
use Rattle.lt_declare.proofs.structs.tag_found.Goals as goal

pub returns-then-is_alone : goal.returns-then-is_alone
returns-then-is_alone c = λ types.
    c.find_tag_here.ensures types ∙ ap (λ b. if b then tag_here c.args.tag.now (known_of types c.args.walker.now) else tagged_in c.args.tag.now (frames_at types c.args.walker.now.names)) c.if-is_alone.ensures

pub returns-else-is_alone : goal.returns-else-is_alone
returns-else-is_alone c = λ types.
    c.find_tag.ensures types ∙ ap (λ b. if b then tag_here c.args.tag.now (known_of types c.args.walker.now) else tagged_in c.args.tag.now (frames_at types c.args.walker.now.names)) c.if-is_alone.ensures
