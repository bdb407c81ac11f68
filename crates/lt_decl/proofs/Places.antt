-- A symbol begins where its token does.
use Rattle.std.proofs.Common.{◌≡◌, ◌⊎◌, ℕ, ◌<◌, Bool, true, false, List, [], ◌∷◌, map, length, get_or, refl, sym, ap, subst, ◌∙◌, arith}
use Rattle.std.proofs.lemmas.List.{length-map, get_or-map}
use Rattle.std.proofs.lemmas.List.Elements.{Contains-get_or}
use Rattle.std.specs.Prelude.{if◌then◌else◌, Contains}
use Rattle.std.specs.Str.{bytes_eq}
use Rattle.lt_token.specs.declared.kind.Kind.{Kind}
use Rattle.lt_token.specs.declared.kind.Kind.TheVariants as kind
use Rattle.lt_token.specs.Tokens.{Token}
use Rattle.lt_tree.specs.declared.terminal.Terminal.{Terminal}
use Rattle.lt_tree.specs.declared.terminal.Terminal.TheVariants as t
use Rattle.lt_tree.specs.Symbols.{Symbol, place, named, reserved, spelling, spelt, symbol_by, symbol_of, symbols}
use Rattle.lt_expr.specs.Symbols.{shown}
use Rattle.lt_expr.specs.declared.symbol.Symbol.{Symbol as Held}
use Rattle.lt_decl.specs.Parsed.{IsPlaceAmong}

either_place : (b : Bool) (k l : Terminal) (token : Token) → place (named k token) ≡ token.at → place (named l token) ≡ token.at → place (named (if b then k else l) token) ≡ token.at
either_place true k l token one other = one
either_place false k l token one other = other

named_place : (w : List ℕ) (token : Token) → place (named (spelt reserved w) token) ≡ token.at
unfolding reserved
named_place w token =
    either_place (bytes_eq w (spelling t.Label)) t.Label _ token refl
    (either_place (bytes_eq w (spelling t.LabelBind)) t.LabelBind _ token refl
    (either_place (bytes_eq w (spelling t.Decide)) t.Decide _ token refl
    (either_place (bytes_eq w (spelling t.After)) t.After t.Other token refl refl)))

place_by : (k : Kind) (token : Token) → place (symbol_by k token) ≡ token.at
place_by kind.Identifier token = named_place token.text token
place_by kind.Keyword token = refl
place_by kind.Integer token = refl
place_by kind.Character token = refl
place_by kind.Text token = refl
place_by kind.Punctuator token = refl

same_places : (tokens : List Token) → map place (symbols tokens) ≡ map (λ token. token.at) tokens
same_places [] = refl
same_places (token ∷ tokens) = let first = place_by token.kind token in let rest = same_places tokens in λ i. first i ∷ rest i

-- where one of the symbols of tokens begins is where one of these does
pub place_of_token : (tokens : List Token) (length at : ℕ) → IsPlaceAmong (symbols tokens) length at → Contains (map (λ token. token.at) tokens) at ⊎ (at ≡ length)
place_of_token tokens length at is = subst (λ places. Contains places at ⊎ (at ≡ length)) (same_places tokens) is

-- a symbol's place is one
pub symbol_place : (list : List Held) (i : ℕ) (s : Held) → i < length list → s ≡ get_or list i s → Contains (map place (map shown list)) (place (shown s))
symbol_place list i s within is =
    let pure = map shown list in
    let among : i < length pure = omega (arith, length-map list shown) in
    let there : get_or pure i (shown s) ≡ shown s = get_or-map shown list i s (shown s) within ∙ ap shown (sym is) in
    let at : get_or (map place pure) i (place (shown s)) ≡ place (shown s) = get_or-map place pure i (shown s) (place (shown s)) among ∙ ap place there in
    let inside : i < length (map place pure) = omega (arith, length-map pure place, among) in
    subst (Contains (map place pure)) at (Contains-get_or (map place pure) i (place (shown s)) inside)
