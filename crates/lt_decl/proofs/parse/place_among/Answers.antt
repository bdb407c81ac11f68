use Rattle.std.proofs.Common.{inl, sym, subst, ◌∙◌}
use Rattle.std.specs.Prelude.{map, Contains}
use Rattle.lt_tree.specs.Symbols.{place}
use Rattle.lt_expr.specs.Symbols.{shown}
use Rattle.lt_decl.proofs.Places.{symbol_place}
use Rattle.lt_decl.proofs.parse.place_among.Goals as goal

pub returns-in-Some : goal.returns-in-Some
returns-in-Some c =
    let h = c.in-Some.ensures.lookup in
    inl (subst (Contains (map place (map shown c.args.symbols.now))) (sym c.start_of.ensures) (symbol_place c.args.symbols.now c.args.passed c.in-Some.symbol.now h.3.0 h.1))
