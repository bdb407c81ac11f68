use Rattle.std.proofs.Common.{Some, sym, ap, ◌∙◌}
use Rattle.lt_tree.specs.Typing.Steps as steps
use Rattle.lt_tree.specs.Typing.Specifying as typing
use Rattle.lt_env.specs.Going.{known_of}
use Rattle.lt_declare.specs.DeclaredViews.{setting_of}
use Rattle.lt_declare.specs.Declaring.{enum_by}
use Rattle.lt_declare.proofs.Steps.{gives_as}
use Rattle.lt_declare.proofs.enums.enum_tagged.Goals as goal

pub returns-in-None : goal.returns-in-None
returns-in-None c =
    let setting = setting_of c.args.setting in
    gives_as c.no_naming.ensures (λ types. ap (λ n. steps.Goes n (known_of types c.args.walker.now))
    (ap (enum_by setting) (sym c.in-None.is) ∙ sym (c.enum_found.ensures setting) ∙ ap (typing.enum_tagged setting) (c.find_tag.ensures types)))

pub returns-in-Some-true : goal.returns-in-Some-true
returns-in-Some-true c =
    let setting = setting_of c.args.setting in
    gives_as c.basic_named.ensures (λ types. ap (λ n. steps.Goes n (known_of types c.args.walker.now))
    (ap (λ b. enum_by setting (Some b)) (sym c.in-Some-true.field-0-test) ∙ ap (enum_by setting) (sym c.in-Some-true.is) ∙ sym (c.enum_found.ensures setting)
    ∙ ap (typing.enum_tagged setting) (c.find_tag.ensures types)))

pub returns-in_ok-faults-in-Some-false : goal.returns-in_ok-faults-in-Some-false
returns-in_ok-faults-in-Some-false c =
    let setting = setting_of c.args.setting in
    gives_as c.enum_named.ensures (λ types. ap (λ n. steps.Goes n (known_of types c.args.walker.now))
    (ap (λ f. record { type = Some typing.enum_type; faults = f }) c.in_ok-faults-in-Some-false.ensures ∙ ap (λ b. enum_by setting (Some b)) (sym c.in-Some-false.field-0-test)
    ∙ ap (enum_by setting) (sym c.in-Some-false.is) ∙ sym (c.enum_found.ensures setting) ∙ ap (typing.enum_tagged setting) (c.find_tag.ensures types)))
