use Rattle.std.proofs.Common.{◌≡◌, [], map, ap, ◌∙◌}
use Rattle.lt_tree.specs.View.{expression_of}
use Rattle.lt_tree.specs.Symbols.{symbols}
use Rattle.lt_lex.specs.Views.{token_of}
use Rattle.lt_expr.specs.Symbols.{shown}
use Rattle.lt_expr.specs.Walk.{walk}
use Rattle.lt_expr.specs.Parsed.{symbols_in}
use Rattle.lt_expr.proofs.Parses.{begins, between, nothing}
use Rattle.lt_expr.proofs.parse.parse_expr.Goals as goal

pub returns-in-Ok : goal.returns-in-Ok
returns-in-Ok c =
    let e = expression_of c.in-Ok.tree in
    let are : map shown c.as_slice-2.result.now ≡ symbols_in c.args.tokens.now =
    ap (map shown) c.as_slice-2.ensures.value ∙ c.in_ok-symbols.ensures ∙ ap (λ ts. symbols (map token_of ts)) c.as_slice.ensures.value in
    between c.args.alloc c.args.names.now (symbols_in c.args.tokens.now) c.args.from e c.new-parser.result c.whole.new.self c.passed-next.result c.expression.new.self _ c.into_spots.result.items
    (c.new-parser.ensures ∙ ap (λ ts. begins c.args.alloc ts c.args.from c.args.names.now) are) c.in-Ok.ensures.0 c.in-Ok.ensures.1 c.passed-next.ensures.place c.passed-next.ensures.within c.into_ends.ensures
    (c.in_ok-expression-in-Ok.ensures ∙ ap (walk e) c.new-walker.ensures) c.into_spots.ensures

pub returns-in-Err-NotOfForm : goal.returns-in-Err-NotOfForm
returns-in-Err-NotOfForm c =
    let are : map shown c.as_slice-2.result.now ≡ symbols_in c.args.tokens.now =
    ap (map shown) c.as_slice-2.ensures.value ∙ c.in_ok-symbols.ensures ∙ ap (λ ts. symbols (map token_of ts)) c.as_slice.ensures.value in (
      c.place_of.ensures,
      nothing c.args.alloc c.args.names.now (symbols_in c.args.tokens.now) c.args.from c.new-parser.result
          (c.new-parser.ensures ∙ ap (λ ts. begins c.args.alloc ts c.args.from c.args.names.now) are)
          (rw c.in-Err-NotOfForm.field-0-is at c.in-Err-NotOfForm.ensures),
    )
