-- Typing of externals keeps the tags that are in scope, and brings those that their specifiers name.
use Rattle.std.proofs.Common.{◌≡◌, sym, subst, ℕ, true, List, [], ◌∷◌}
use Rattle.std.specs.Prelude.{unwrap_or}
use Rattle.std.proofs.lemmas.List.{append-nil}
use Rattle.lt_tree.specs.Tree as c
use Rattle.lt_tree.specs.Typing.Entities.{Known, a_function, bind_name}
use Rattle.lt_tree.specs.Typing.Specifying.{elsewhere}
use Rattle.lt_tree.specs.Typing.Declaring.{definition_faults, with_declared}
use Rattle.lt_tree.specs.Typing.UnitTyping.{around_body, frame_of, external}
use Rattle.lt_objectives.specs.Tags.{Tags, tags_in, tags_behind}
use Rattle.lt_simple_copies.specs.Laws.{ItemsKeepTags}
use Rattle.lt_simple_copies.proofs.KeptScopes.{same, bound, Brings, went, kept, behind, bind, bind_first, judged, blocked, entered}
use Rattle.lt_simple_copies.proofs.KeptExpressions.{of_specifiers, of_declarator}
use Rattle.lt_simple_copies.proofs.KeptInitialisers.{of_initialiser}
use Rattle.lt_simple_copies.proofs.KeptDeclarations.{of_declare_object, declared_frames, of_init_declarator, of_declaration_by}
use Rattle.lt_simple_copies.proofs.KeptStatements.{of_declaration, of_optional, of_optional_test, of_start, of_labels, of_statement, of_block, of_items}

-- the tags that an external names
abbrev tags_of : c.External → Tags
tags_of (c.Defines sp d body) = tags_in sp
tags_of (c.Declared d) = tags_in d.specifiers

named_alone : (it : c.External) → tags_of it ≡ tags_behind [] it
named_alone (c.Defines sp d body) = sym (append-nil (tags_in sp))
named_alone (c.Declared d) = sym (append-nil (tags_in d.specifiers))

of_external : (it : c.External) (known : Known) → Brings (tags_of it) known (external it known)
of_external (c.Defines sp d body) known =
    bind_first (of_specifiers sp elsewhere (entered known)) (λ it k h. bind (of_declarator d it true (definition_faults it.storage) k)
    (λ it k kept i.
    let name : List ℕ = unwrap_or it.name [] in
    let start : Known = bind_name name a_function (with_declared name it.type k) in
    behind (declared_frames name it.type k) (behind (bound name a_function (with_declared name it.type k).frames)
    (bind (blocked start.frames (of_items body (around_body it.type) (record start { frames = frame_of it.parameters ∷ start.frames }))) (λ found k kept j. went same tt)))))
of_external (c.Declared d) known = bind_first (of_declaration d (entered known)) (λ it k h. judged known.next it.faults k)

pub items_keep : ItemsKeepTags
items_keep = (
  λ it is_static filling known. kept known (of_initialiser it is_static filling known),
  λ life is_register node name t known. kept known (of_declare_object life is_register node name t known),
  λ sp it known. kept known (of_init_declarator sp it known),
  λ effective it known. kept known (of_declaration_by effective it known),
  λ it known. kept known (of_start it known),
  λ it known. kept known (of_optional_test it known),
  λ it known. kept known (of_optional it known),
  λ list scalar seen known. kept known (of_labels list scalar seen known),
  λ it around known. kept known (of_statement it around known),
  λ it around known. kept known (of_block it around known),
  λ it known. kept known (subst (λ tags. Brings tags known (external it known)) (named_alone it) (of_external it known)),
)
