-- Symbols of the code, as the grammar has them.
use Rattle.lt_tree.specs.Symbols as s
use Rattle.lt_expr.specs.declared.symbol.Symbol.{Symbol}
use Rattle.lt_expr.specs.declared.symbol.Symbol.TheVariants as v

abbrev pub shown : Symbol → s.Symbol
shown (v.Name text at) = s.name text.now at
shown (v.Constant text at) = s.constant text.now at
shown (v.Literal text at) = s.literal text.now at
shown (v.Sign terminal at) = s.sign terminal at
