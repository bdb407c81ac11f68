use Rattle.std.proofs.Common.{subst}
use Rattle.lt_table.specs.TableBare.{BareOf}
use Rattle.lt_table.proofs.TableBare.{bare_pointer, bare_array, bare_function}
use Rattle.lt_table.proofs.table.TypeTable.bare_row.Goals as goal

pub returns-in_ok-target-in-Pointer-clause-made : goal.returns-in_ok-target-in-Pointer-clause-made
returns-in_ok-target-in-Pointer-clause-made c =
    bare_pointer c.args.self.now c.pointer.new.self c.args.ids.now c.args.t c.in-Some.row.now c.pointer.result c.pointer.ensures.grows c.requires c.in-Some.ensures.is
    c.in-Pointer.target c.in_ok-target-in-Pointer.target c.in-Pointer.is c.in_ok-target-in-Pointer.ensures c.pointer.ensures.made

pub returns-in_ok-element-in-Array-clause-made : goal.returns-in_ok-element-in-Array-clause-made
returns-in_ok-element-in-Array-clause-made c =
    bare_array c.args.self.now c.array.new.self c.args.ids.now c.args.t c.in-Some.row.now c.array.result c.array.ensures.grows c.requires c.in-Some.ensures.is
    c.in-Array.element c.in_ok-element-in-Array.element c.in-Array.length c.in-Array.is c.in_ok-element-in-Array.ensures c.array.ensures.made

pub returns-in_ok-parameters-in-Function-clause-made : goal.returns-in_ok-parameters-in-Function-clause-made
returns-in_ok-parameters-in-Function-clause-made c =
    bare_function c.args.self.now c.function.new.self c.args.ids.now c.args.t c.in-Some.row.now c.function.result c.function.ensures.grows c.requires c.in-Some.ensures.is
    c.in-Function.function c.in_ok-returned-in-Function.returned c.in_ok-parameters-in-Function.parameters.items c.in-Function.is c.in_ok-returned-in-Function.ensures
    (subst (λ ts. BareOf c.args.ids.now ts c.in_ok-parameters-in-Function.parameters.items) c.deref.ensures.value c.in_ok-parameters-in-Function.ensures) c.function.ensures.made
