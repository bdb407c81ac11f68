use Rattle.std.proofs.Common.{◌≡◌, ℕ, map, sym, ap, subst, ◌∙◌}
use Rattle.std.specs.Prelude.{◌⊎◌, Contains}
use Rattle.lt_tree.specs.UnitView.{external_of}
use Rattle.lt_lex.specs.Lexed.{tokens_of}
use Rattle.lt_expr.specs.Symbols.{shown}
use Rattle.lt_expr.proofs.Parses.{begins}
use Rattle.lt_decl.specs.Parsed.{IsPlaceAmong}
use Rattle.lt_decl.specs.Walk.{walk_unit}
use Rattle.lt_decl.proofs.Parses.{derived, nothing}
use Rattle.lt_decl.proofs.Places.{place_of_token}
use Rattle.lt_decl.proofs.parse.unit_of_symbols.Goals as goal

pub returns-in-Ok : goal.returns-in-Ok
returns-in-Ok c = λ tokens are long.
    let unit = map external_of c.in-Ok.externals.items in
    derived c.args.alloc (tokens_of tokens) (map shown c.args.symbols.now) unit c.new-parser.result c.whole.new.parser c.unit.new.walker _ c.into_spots.result.items
    (c.new-parser.ensures ∙ ap (begins c.args.alloc (map shown c.args.symbols.now) 0) c.new-names.ensures) are c.in-Ok.ensures c.into_ends.ensures
    (c.in_ok-unit-in-Ok.ensures ∙ ap (λ xs. walk_unit (map external_of xs) c.new-walker.result) c.as_slice.ensures.value ∙ ap (walk_unit unit) c.new-walker.ensures) c.into_spots.ensures

pub returns-in-Err-NotOfForm : goal.returns-in-Err-NotOfForm
returns-in-Err-NotOfForm c = λ tokens are long. (
  subst (λ (n : ℕ). Contains (map (λ t. t.at) (tokens_of tokens)) c.place_among.result ⊎ (c.place_among.result ≡ n)) long
      (place_of_token (tokens_of tokens) c.args.length c.place_among.result (subst (λ ss. IsPlaceAmong ss c.args.length c.place_among.result) are c.place_among.ensures)),
  nothing c.args.alloc (tokens_of tokens) (map shown c.args.symbols.now) c.new-parser.result
      (c.new-parser.ensures ∙ ap (begins c.args.alloc (map shown c.args.symbols.now) 0) c.new-names.ensures) are
      (rw c.in-Err-NotOfForm.field-0-is at c.in-Err-NotOfForm.ensures),
)
