use Rattle.std.proofs.Common.{◌∙◌, ap, sym}
use Rattle.std.specs.List.{list_any}
use Rattle.std.specs.Str.{bytes_eq}
use Rattle.lt_tree.specs.Typing.Declarators.{has_member}
use Rattle.lt_tree.specs.Typing.EntityView.{member_of}
use Rattle.lt_declare.specs.DeclaredViews.{members_in}
use Rattle.lt_env.proofs.NameMaps.{is_there, listed}
use Rattle.lt_declare.proofs.members.OpenMembers.has.Goals as goal

pub returns : goal.returns
returns c = λ types.
    c.is_some.ensures
    ∙ is_there (λ w. list_any (λ it. bytes_eq it.name w) c.self.inside.list.items) c.self.inside.names c.args.name.now _ c.self.invariant c.get.ensures.value
    ∙ sym (listed (λ it. bytes_eq it.name c.args.name.now) (member_of types) c.self.inside.list.items)
    ∙ ap (λ list. has_member c.args.name.now (members_in types list)) c.self.view_is
