use Rattle.std.proofs.Common.{sym, ap, ◌∙◌}
use Rattle.lt_tree.specs.Scope as scope
use Rattle.lt_expr.specs.Parsing.{scope_of}
use Rattle.lt_expr.proofs.Names.{type_inside, type_outside, type_found, type_nowhere}
use Rattle.lt_expr.proofs.parser.Parser.is_type.Goals as goal

pub returns-in-Some : goal.returns-in-Some
returns-in-Some c =
    type_inside c.self.inside.inner c.self.inside.outer.now c.args.word.now c.in-Some.kind c.in-Some.ensures
    ∙ ap (λ p. scope.is_type (scope_of p) c.args.word.now) c.self.view_is

pub returns-in-Some-find : goal.returns-in-Some-find
returns-in-Some-find c =
    type_found c.self.inside.outer.now c.args.word.now _ c.in-Some-find.ensures
    ∙ sym (type_outside c.self.inside.inner c.self.inside.outer.now c.args.word.now c.in-None.ensures)
    ∙ ap (λ p. scope.is_type (scope_of p) c.args.word.now) c.self.view_is

pub returns-in-None-find : goal.returns-in-None-find
returns-in-None-find c =
    type_nowhere c.self.inside.outer.now c.args.word.now c.in-None-find.ensures
    ∙ sym (type_outside c.self.inside.inner c.self.inside.outer.now c.args.word.now c.in-None.ensures)
    ∙ ap (λ p. scope.is_type (scope_of p) c.args.word.now) c.self.view_is
