use Rattle.std.proofs.Common.{◌≡◌, List, map, reverse, ap, ◌∙◌}
use Rattle.lt_tree.specs.Symbols.{Symbol}
use Rattle.lt_expr.specs.Symbols.{shown}
use Rattle.lt_expr.specs.Front.{behind}
use Rattle.lt_expr.specs.Parsing.{rest_of}
use Rattle.lt_expr.proofs.Drops.{behind_one}
use Rattle.lt_expr.proofs.parser.Parser.advance.Goals as goal

pub returns-then-self-clause-rest : goal.returns-then-self-clause-rest
returns-then-self-clause-rest c =
    ap (λ (ts : List Symbol). (ts, reverse c.self.inside.ends.items)) (behind_one c.self.inside.passed (map shown c.self.inside.symbols.now))
    ∙ ap (λ p. behind (rest_of p)) c.self.view_is
