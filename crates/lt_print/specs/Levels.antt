-- The levels of the grammar, as the printer holds them.
use Rattle.std.specs.Prelude.{◌≤◌}
use Rattle.lt_print.specs.declared.level.Level.{Level}
use Rattle.lt_print.specs.declared.level.Level.TheVariants as level
use Rattle.lt_tree.specs.Grammar as g
use Rattle.lt_tree.specs.Canon.{rank}

abbrev pub level_meant : Level → g.Level
level_meant level.Comma = g.comma
level_meant level.Marked = g.marked
level_meant level.Assignment = g.assignment
level_meant level.Conditional = g.conditional
level_meant (level.Binary n) = g.binary n
level_meant level.Cast = g.cast
level_meant level.Unary = g.unary
level_meant level.Postfix = g.postfix
level_meant level.Primary = g.primary

-- no tighter than the tightest
abbrev pub IsLevel : Level → Type 0
IsLevel own = rank (level_meant own) ≤ 17
