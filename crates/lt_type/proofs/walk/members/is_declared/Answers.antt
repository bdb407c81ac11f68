use Rattle.std.proofs.Common.{ap, ◌∙◌}
use Rattle.lt_tree.specs.Typing.Declarators.{has_member}
use Rattle.lt_declare.specs.DeclaredViews.{members_in}
use Rattle.lt_type.proofs.walk.members.is_declared.Goals as goal

pub returns-in-Some : goal.returns-in-Some
returns-in-Some c types = rw c.in-Some.is (c.has.ensures types ∙ ap (λ n. has_member n (members_in types c.args.members.now)) c.as_slice.ensures)
