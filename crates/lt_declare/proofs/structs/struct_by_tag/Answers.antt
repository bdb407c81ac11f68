use Rattle.std.proofs.Common.{Some, sym, ap, ◌∙◌}
use Rattle.lt_tree.specs.Typing.Types.{Num}
use Rattle.lt_tree.specs.Typing.EntityView.{tagged_of}
use Rattle.lt_tree.specs.Typing.Steps as steps
use Rattle.lt_tree.specs.Typing.Specifying as typing
use Rattle.lt_env.specs.Going.{known_of}
use Rattle.lt_declare.proofs.Steps.{gives_as}
use Rattle.lt_model.specs.declared.scalar.Scalar.TheVariants as S
use Rattle.lt_declare.proofs.structs.struct_by_tag.Goals as goal

pub returns-in-None : goal.returns-in-None
returns-in-None c = gives_as c.new_struct.ensures (λ types. ap (λ t. typing.struct_tagged c.args.tag.now t (known_of types c.args.walker.now)) (c.in-None.ensures types))

pub returns-in-Some-Struct : goal.returns-in-Some-Struct
returns-in-Some-Struct c =
    gives_as c.struct_named.ensures (λ types. ap (λ t. typing.struct_tagged c.args.tag.now t (known_of types c.args.walker.now)) (ap (λ t. Some (tagged_of t)) (sym c.in-Some-Struct.field-0-is) ∙ c.in-Some-Struct.ensures types))

pub returns-in_ok-faults-in-Some-Enum : goal.returns-in_ok-faults-in-Some-Enum
returns-in_ok-faults-in-Some-Enum c =
    let w = c.args.walker.now in
    gives_as c.enum_named.ensures (λ types. ap (λ f. steps.Goes (record { type = Some (Num S.Int); faults = f }) (known_of types w)) c.in_ok-faults-in-Some-Enum.ensures ∙ ap (λ t. typing.struct_tagged c.args.tag.now t (known_of types w)) (ap (λ t. Some (tagged_of t)) (sym c.in-Some-Enum.field-0-is) ∙ c.in-Some-Enum.ensures types))
