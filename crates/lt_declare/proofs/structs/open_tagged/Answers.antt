use Rattle.std.proofs.Common.{[], Some, None, sym, ap, ◌∙◌}
use Rattle.lt_tree.specs.Typing.EntityView.{tagged_of}
use Rattle.lt_tree.specs.Typing.Specifying as typing
use Rattle.lt_env.specs.Going.{known_of}
use Rattle.lt_env.proofs.Judgements.{judged, widens_none}
use Rattle.lt_declare.proofs.Steps.{gives_as}
use Rattle.lt_declare.proofs.structs.open_tagged.Goals as goal

pub returns-in-None : goal.returns-in-None
returns-in-None c = gives_as c.open_new_tagged.ensures (λ types. ap (λ t. typing.open_tagged c.args.tag.now t (known_of types c.args.walker.now)) (c.in-None.ensures types))

pub returns-in-Some-Struct : goal.returns-in-Some-Struct
returns-in-Some-Struct c =
    let w = c.args.walker.now in
    let k = c.in-Some-Struct.number in
    gives_as (judged {f = λ types known. record { number = k; faults = [] }} widens_none (λ types h. ap (λ f. record { number = k; faults = f }) c.new.ensures))
    (λ types. ap (λ t. typing.open_tagged c.args.tag.now t (known_of types w)) (ap (λ t. Some (tagged_of t)) (sym c.in-Some-Struct.field-0-is) ∙ c.in-Some-Struct.ensures types))

pub returns-in_ok-faults-in-Some-Enum : goal.returns-in_ok-faults-in-Some-Enum
returns-in_ok-faults-in-Some-Enum c =
    let w = c.args.walker.now in
    gives_as c.open_new.ensures (λ types. ap (λ f. typing.open_new None f (known_of types w)) c.in_ok-faults-in-Some-Enum.ensures ∙ ap (λ t. typing.open_tagged c.args.tag.now t (known_of types w)) (ap (λ t. Some (tagged_of t)) (sym c.in-Some-Enum.field-0-is) ∙ c.in-Some-Enum.ensures types))
