use Rattle.std.proofs.Common.{◌∙◌, ap, slice_index_or}
use Rattle.lt_tree.specs.Typing.Types.{Void}
use Rattle.lt_tree.specs.Typing.TypeRows.{type_in, types_of_rows}
use Rattle.lt_facts.specs.declared.types.Family.TheVariants as F
use Rattle.lt_facts.specs.Families.{family}
use Rattle.lt_facts.specs.Parameters.{is_volatile}
use Rattle.lt_facts.proofs.TypeFamilies.{at_map}
use Rattle.lt_facts.proofs.KnownObjects.{object_known}
use Rattle.lt_facts.proofs.functions.known_of.Goals as goal

pub returns : goal.returns
returns c =
    let program = c.args.program.now in
    let object = c.in_ok-object.object.now in
    let found = c.in_ok-object.ensures.lookup in
    object_known program c.deref.result.now c.args.number object c.family_at.result c.is_volatile.result c.deref.ensures.value found.3.0 found.1
    (c.family_at.ensures ∙ ap (λ families. slice_index_or families object.ty.place F.Other) c.requires ∙ at_map (family program.model) (types_of_rows program.table.items) object.ty.place Void)
    (c.is_volatile.ensures ∙ ap (λ rows. is_volatile (type_in (types_of_rows rows) object.ty)) c.deref-2.ensures.value)
