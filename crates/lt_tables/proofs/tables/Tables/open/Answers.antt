use Rattle.std.proofs.Common.{◌≡◌, true, sym, subst}
use Rattle.lt_tree.specs.Typing.Extents.{placed_members}
use Rattle.lt_table.specs.StructTables.{pairs_in}
use Rattle.lt_tables.specs.Layouts.{pairs_of, same_pairs}
use Rattle.lt_tables.specs.Views.{types_at, program_at}
use Rattle.lt_tables.proofs.RowTypes.{row_there, row_missing}
use Rattle.lt_tables.proofs.OpenedRows.{num_opened, pointer_opened, array_opened, qualified_opened, struct_left, void_opened, floating_opened, function_opened, none_opened}
use Rattle.lt_tables.proofs.tables.Tables.open.Goals as goal

pub returns-in-None : goal.returns-in-None
returns-in-None c =
    let it = c.args.self.now.program.now in
    none_opened (program_at c.args.self.now) it.table.items it.rows_before c.args.stretch c.args.left.now.items c.args.cells.now.items
    (row_missing it.table.items c.deref.result.now c.args.stretch.ty.place c.deref.ensures.value c.in-None.ensures.lookup.0)

pub returns-in_ok-push-in-Num : goal.returns-in_ok-push-in-Num
returns-in_ok-push-in-Num c =
    let it = c.args.self.now.program.now in
    let found = c.in-Some.ensures.lookup in
    let at = row_there it.table.items c.deref.result.now c.args.stretch.ty.place c.in-Some.row.now c.deref.ensures.value found.3.0 found.1 in
    num_opened (program_at c.args.self.now) it.table.items it.rows_before c.args.stretch c.args.left.now.items c.args.cells.now.items c.in-Some.row.now c.in-Num.field-0 c.push.new.self.items c.cell.result at c.in-Num.is
    c.cell.ensures c.in_ok-push-in-Num.ensures.items

pub returns-in_ok-push-in-Pointer : goal.returns-in_ok-push-in-Pointer
returns-in_ok-push-in-Pointer c =
    let it = c.args.self.now.program.now in
    let found = c.in-Some.ensures.lookup in
    let at = row_there it.table.items c.deref.result.now c.args.stretch.ty.place c.in-Some.row.now c.deref.ensures.value found.3.0 found.1 in
    pointer_opened (program_at c.args.self.now) it.table.items it.rows_before c.args.stretch c.args.left.now.items c.args.cells.now.items c.in-Some.row.now c.in-Pointer.field-0 c.push-in-Pointer.new.self.items
    c.cell-in-Pointer.result at c.in-Pointer.is c.cell-in-Pointer.ensures c.in_ok-push-in-Pointer.ensures.items

pub returns-in_ok-push-in-Array : goal.returns-in_ok-push-in-Array
returns-in_ok-push-in-Array c =
    let it = c.args.self.now.program.now in
    let found = c.in-Some.ensures.lookup in
    let at = row_there it.table.items c.deref.result.now c.args.stretch.ty.place c.in-Some.row.now c.deref.ensures.value found.3.0 found.1 in
    array_opened (program_at c.args.self.now) it.table.items it.rows_before c.args.stretch c.args.left.now.items c.args.cells.now.items c.in-Some.row.now c.in-Array.ty c.in-Array.count c.push-in-Array.new.self.items at
    c.in-Array.is c.in_ok-push-in-Array.ensures.items

pub returns-in_ok-push-in-Qualified : goal.returns-in_ok-push-in-Qualified
returns-in_ok-push-in-Qualified c =
    let it = c.args.self.now.program.now in
    let found = c.in-Some.ensures.lookup in
    let at = row_there it.table.items c.deref.result.now c.args.stretch.ty.place c.in-Some.row.now c.deref.ensures.value found.3.0 found.1 in
    qualified_opened (program_at c.args.self.now) it.table.items it.rows_before c.args.stretch c.args.left.now.items c.args.cells.now.items c.in-Some.row.now c.in-Qualified.field-0 c.in-Qualified.ty
    c.push-in-Qualified.new.self.items at c.in-Qualified.is c.in_ok-push-in-Qualified.ensures.items

pub returns-in-Struct : goal.returns-in-Struct
returns-in-Struct c =
    let it = c.args.self.now.program.now in
    let found = c.in-Some.ensures.lookup in
    let at = row_there it.table.items c.deref.result.now c.args.stretch.ty.place c.in-Some.row.now c.deref.ensures.value found.3.0 found.1 in
    let program = program_at c.args.self.now in
    let same = subst (λ l. same_pairs (pairs_of (types_at c.args.self.now) l) (pairs_in (placed_members program.model program.structs c.in-Struct.number)) ≡ true) (sym c.members-members.ensures)
    (c.args.self.now.layouts_hold.members c.in-Struct.number) in
    struct_left program it.table.items it.rows_before c.args.stretch c.args.left.now.items c.args.cells.now.items c.in-Some.row.now c.in-Struct.number c.members-members.result.now c.put_members.new.left.items
    c.put_members.result at c.in-Struct.is same c.put_members.ensures

pub returns-in-Void : goal.returns-in-Void
returns-in-Void c =
    let it = c.args.self.now.program.now in
    let found = c.in-Some.ensures.lookup in
    let at = row_there it.table.items c.deref.result.now c.args.stretch.ty.place c.in-Some.row.now c.deref.ensures.value found.3.0 found.1 in
    void_opened (program_at c.args.self.now) it.table.items it.rows_before c.args.stretch c.args.left.now.items c.args.cells.now.items c.in-Some.row.now at c.in-Void.is

pub returns-in-Function : goal.returns-in-Function
returns-in-Function c =
    let it = c.args.self.now.program.now in
    let found = c.in-Some.ensures.lookup in
    let at = row_there it.table.items c.deref.result.now c.args.stretch.ty.place c.in-Some.row.now c.deref.ensures.value found.3.0 found.1 in
    function_opened (program_at c.args.self.now) it.table.items it.rows_before c.args.stretch c.args.left.now.items c.args.cells.now.items c.in-Some.row.now c.in-Function.field-0 at c.in-Function.is

pub returns-in-Floating : goal.returns-in-Floating
returns-in-Floating c =
    let it = c.args.self.now.program.now in
    let found = c.in-Some.ensures.lookup in
    let at = row_there it.table.items c.deref.result.now c.args.stretch.ty.place c.in-Some.row.now c.deref.ensures.value found.3.0 found.1 in
    floating_opened (program_at c.args.self.now) it.table.items it.rows_before c.args.stretch c.args.left.now.items c.args.cells.now.items c.in-Some.row.now at c.in-Floating.is
