use Rattle.std.proofs.Common.{arith, ap, ◌∙◌, ◌<◌, length, get_or, map}
use Rattle.std.proofs.lemmas.List.{length-map, get_or_read}
use Rattle.lt_lex.specs.Views.{token_of}
use Rattle.lt_lex.proofs.Answering.{many}
use Rattle.lt_lex.proofs.lexer.nest.Goals as goal

pub index-requires : goal.index-requires
index-requires c =
    let t = c.args.tokens.now in
    omega (arith, ap length t.nested, many (map token_of t.list.items), length-map t.list.items token_of, t.list.ok.0, t.depths.ok.0)

pub returns : goal.returns
returns c =
    let t = c.args.tokens.now in
    let inside : c.args.k < length t.depths.items = omega (arith, ap length t.nested, many (map token_of t.list.items), length-map t.list.items token_of, t.list.ok.0) in
    get_or_read t.depths.items c.args.k c.index.result.now inside c.index.ensures 0 ∙ ap (λ ns. get_or ns c.args.k 0) t.nested
