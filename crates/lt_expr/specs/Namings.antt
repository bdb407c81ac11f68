-- Declarators of the code, as they are read.
use Rattle.std.specs.Prelude.{ℕ, List, Option}
use Rattle.lt_tree.specs.declared.declarator.Declarator.{Declarator}
use Rattle.lt_tree.specs.declared.declarator.DeclaratorPart.{DeclaratorPart}
use Rattle.lt_tree.specs.Tree as c
use Rattle.lt_tree.specs.Ahead as ahead
use Rattle.lt_tree.specs.View.{part_before}
use Rattle.lt_tree.specs.Records.{parts_in}
use Rattle.lt_expr.specs.declared.naming.Naming.{Naming}
use Rattle.lt_expr.specs.declared.naming.Naming.TheVariants as v
use Rattle.lt_expr.specs.Reading.{NameAndParts}

abbrev pub naming_of : Naming → ahead.Naming
naming_of v.Named = ahead.named
naming_of v.Untyped = ahead.untyped
naming_of v.Nameless = ahead.nameless
naming_of v.Either = ahead.either

abbrev pub name_and_parts : Declarator → NameAndParts
name_and_parts d = (d.name, parts_in d.parts.items)

abbrev pub part_alone : DeclaratorPart → c.Parts
part_alone p = part_before p c.no_parts
