use Rattle.std.proofs.Common.{◌≡◌, ◌++◌, map, drop}
use Rattle.lt_tree.specs.Symbols.{symbols}
use Rattle.lt_lex.specs.Views.{token_of}
use Rattle.lt_expr.specs.Symbols.{shown}
use Rattle.lt_expr.proofs.table.symbols_of.Given as goal

abbrev pub invariant-tokens : goal.invariant-tokens
invariant-tokens l = map shown l.symbols.items ++ symbols (map token_of (drop l.token-index l.tokens)) ≡ symbols (map token_of l.tokens)
