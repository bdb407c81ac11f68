use Rattle.std.proofs.Common.{◌++◌, map, is_some, ap, ◌∙◌}
use Rattle.lt_tree.specs.Typing.Rules.{no_type, unless}
use Rattle.lt_tree.specs.Typing.Specifying as typing
use Rattle.lt_declare.specs.DeclaredViews.{naming_of}
use Rattle.lt_declare.specs.Declaring.{all_faults}
use Rattle.lt_env.proofs.Judgements.{judged, widens_on}
use Rattle.std.proofs.Common.{◌&&◌, nat_le, length}
use Rattle.lt_tree.specs.View.{words_of}
use Rattle.lt_tree.specs.Typing.Types.{qualified}
use Rattle.lt_env.proofs.Goings.{longer_still}
use Rattle.lt_declare.proofs.SpecifierParts.{specified_is}
use Rattle.lt_declare.proofs.specifiers.specified.Goals as goal

pub returns : goal.returns
returns c =
    let s = c.args.s.now in
    let words = words_of s.storage s.inline s.noreturn s.quals in
    let first = c.in_ok-ty.ensures in
    let second = c.in_ok-ty-2.ensures in
    judged (widens_on first.widens second.widens)
    (λ types h. specified_is types words c.args.namings.items c.only_type-named.result c.in_ok-ty-2.ty c.first_class.result c.in_ok-faults.faults
    (c.only_type-named.ensures types ∙ ap (λ l. typing.only_type (map (naming_of types) l)) c.deref.ensures.value)
    (second.made types h ∙ ap (qualified words.qualifiers) (first.made types (longer_still _ _ _ second.widens.grows h)))
    (c.first_class.ensures ∙ ap typing.first_class c.deref-3.ensures.value)
    (c.in_ok-faults.ensures ∙ ap (λ b. unless b no_type ++ all_faults c.args.namings.items) (c.are_good-is_good.ensures ∙ ap (λ l. is_some c.only_type-named.result && nat_le (length l) 1) c.deref-2.ensures.value)))
