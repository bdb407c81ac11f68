-- Code of statements that begins with a node to which no edge leads.
use Rattle.std.specs.Prelude.{◌≡◌, ℕ, Result, IfOk}
use Rattle.std.specs.declared.alloc.AllocError.{AllocError}
use Rattle.lt_tree.specs.declared.typed.statement.Item.{Item}
use Rattle.lt_tree.specs.declared.typed.statement.Item.TheVariants as item
use Rattle.lt_tree.specs.Typing.ValueView.{mark_of}
use Rattle.lt_tree.specs.Typing.StatementView.{statement_of, local_of}
use Rattle.lt_emit.specs.declared.builder.Builder.{Builder}
use Rattle.lt_emit.specs.Emission.{Here, here_of, IsSound, IsEntrance}
use Rattle.lt_emit.specs.Known.{IsMarked}
use Rattle.lt_lower.specs.Known.{IsKnownStatement, IsKnownLocal}
use Rattle.lt_lower.specs.Stands.{declared_by}

-- it does where what it names is known and what stands behind it does
abbrev pub OpensIf : (Known : Here → Type 0) → (before after : Builder) → (to : ℕ) → Result ℕ AllocError → Type 0
OpensIf Known before after to result = Known (here_of before) → IsSound before → IsEntrance before to → IfOk result (IsEntrance after)

-- what an item names is known
abbrev pub IsKnownItem : Item → Here → Type 0
IsKnownItem (item.Local local) here = IsKnownLocal here (local_of here.types local)
IsKnownItem (item.Statement s) here = IsKnownStatement here (statement_of here.types s)
IsKnownItem (item.Label m) here = IsMarked here (mark_of here.types m)

-- Whatever stands behind an item that declares an object, it begins so.
abbrev pub ItemOpens : Item → (before after : Builder) → (to : ℕ) → Result ℕ AllocError → Type 0
ItemOpens it before after to result =
    IsKnownItem it (here_of before) → IsSound before → (declared_by it ≡ 0 → IsEntrance before to) → IfOk result (IsEntrance after)
