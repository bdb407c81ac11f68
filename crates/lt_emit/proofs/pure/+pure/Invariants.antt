use Rattle.std.proofs.Common.{◌≡◌, drop}
use Rattle.lt_tree.specs.Typing.ValueView.{values_in}
use Rattle.lt_tables.specs.Views.{types_at}
use Rattle.lt_code.specs.Predicates.{raw_parts}
use Rattle.lt_emit.specs.Fate.{fate_of}
use Rattle.lt_emit.specs.Names.{names_at, before}
use Rattle.lt_emit.proofs.pure.+pure.Given as goal

abbrev pub invariant-comma_parts-parts : goal.invariant-comma_parts-parts
invariant-comma_parts-parts l =
    before l.all.items (raw_parts (names_at l.site) (fate_of l.fate) (values_in (types_at l.site.tables.now) (drop l.i l.parts)))
    ≡ raw_parts (names_at l.site) (fate_of l.fate) (values_in (types_at l.site.tables.now) l.parts)
