-- Tokens as symbols, one after the other.
use Rattle.std.proofs.Common.{◌≡◌, sym, ap, ◌∙◌, ℕ, suc, ◌+◌, ◌<◌, List, [], ◌∷◌, ◌++◌, length, map, drop, get_or, drop-cons, append_assoc, arith}
use Rattle.std.proofs.lemmas.List.{map-append}
use Rattle.lt_token.specs.Tokens as pure
use Rattle.lt_tree.specs.Symbols as s
use Rattle.lt_lex.specs.declared.token.Token.{Token}
use Rattle.lt_lex.specs.Views.{token_of}
use Rattle.lt_expr.specs.Symbols.{shown}
use Rattle.lt_expr.specs.declared.symbol.Symbol.{Symbol}

-- one more symbol, and the rest of the tokens
pub pushed : (list : List Symbol) (x : Symbol) (tokens : List Token) (i : ℕ) (token : Token) (all : List s.Symbol) → i < length tokens → token ≡ get_or tokens i token → shown x ≡ s.symbol_of (token_of token)
    → map shown list ++ s.symbols (map token_of (drop i tokens)) ≡ all → map shown (list ++ x ∷ []) ++ s.symbols (map token_of (drop (i + 1) tokens)) ≡ all
pushed list x tokens i token all within is same before =
    let rest = drop (i + 1) tokens in
    let more : suc i ≡ i + 1 = omega arith in
    let split : drop i tokens ≡ token ∷ rest = drop-cons tokens i token within ∙ ap (λ y. y ∷ drop (suc i) tokens) (sym is) ∙ ap (λ k. token ∷ drop k tokens) more in
    ap (λ xs. xs ++ s.symbols (map token_of rest)) (map-append shown list (x ∷ []))
    ∙ append_assoc (map shown list) (shown x ∷ []) (s.symbols (map token_of rest))
    ∙ ap (λ y. map shown list ++ y ∷ s.symbols (map token_of rest)) same
    ∙ ap (λ ts. map shown list ++ s.symbols (map token_of ts)) (sym split)
    ∙ before
