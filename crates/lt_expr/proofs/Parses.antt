-- What was read from a place of a text's symbols on.
use Rattle.std.proofs.Common.{◌≡◌, sym, ap, subst, ◌∙◌, ℕ, ◌<◌, ◌≤◌, List, [], length, map, drop, get_or, Some, None, arith}
use Rattle.std.specs.List.{Contains}
use Rattle.std.proofs.lemmas.List.{length-map, get_or-map}
use Rattle.std.proofs.lemmas.List.Elements.{Contains-get_or}
use Rattle.lt_token.specs.Tokens as plain
use Rattle.lt_lex.specs.declared.token.Token.{Token}
use Rattle.lt_lex.specs.Views.{token_of}
use Rattle.lt_tree.specs.Tree as c
use Rattle.lt_tree.specs.Symbols.{Symbol}
use Rattle.lt_tree.specs.Scope.{Scope}
use Rattle.lt_tree.specs.Grammar.{IsWhole}
use Rattle.lt_expr.specs.Reading.{whole}
use Rattle.lt_expr.specs.Walk.{Walked, walk}
use Rattle.std.specs.Global.{Global}
use Rattle.lt_expr.specs.Parsing.{Parsing, scope_of, rest_of, GoesOn}
use Rattle.lt_expr.specs.Parsed.{IsBetween}
use Rattle.lt_expr.proofs.Sound.{read_is_derived}
use Rattle.lt_expr.proofs.CompleteWhole.{nothing_derived}

-- a parser before it has read anything
abbrev pub begins : Global → List Symbol → ℕ → Scope → Parsing
begins alloc ts from scope = record { alloc = alloc; symbols = ts; passed = from; ends = []; inner = []; outer = scope }

-- what was read stands there, with the spots of its walk
pub between : (alloc : Global) (scope : Scope) (ts : List Symbol) (from : ℕ) (e : c.Expression) (old new : Parsing) (next : ℕ) (walked : Walked) (ends spots : List ℕ)
    → old ≡ begins alloc ts from scope → whole (scope_of old) (rest_of old) ≡ Some (e, rest_of new) → GoesOn old new → next ≡ new.passed → next ≤ length new.symbols
    → ends ≡ new.ends → walked ≡ walk e (ends, []) → spots ≡ walked.1 → IsBetween scope ts from e next spots
between alloc scope ts from e old new next walked ends spots made read on goes within same walks is =
    let kept : new.symbols ≡ ts = on.symbols ∙ ap (λ (p : Parsing). p.symbols) made in
    let front : whole scope (drop from ts, []) ≡ Some (e, (drop next ts, ends)) =
    ap (λ (p : Parsing). whole (scope_of p) (rest_of p)) (sym made) ∙ read
    ∙ ap (λ n. Some (e, (drop n new.symbols, new.ends))) (sym goes)
    ∙ ap (λ xs. Some (e, (drop next xs, new.ends))) kept
    ∙ ap (λ es. Some (e, (drop next ts, es))) (sym same) in (
      subst (λ (xs : List Symbol). next ≤ length xs) kept within,
      subst (λ (ss : List ℕ). IsWhole scope (drop from ts) e (drop next ts) ss []) (sym (is ∙ ap (λ (w : Walked). w.1) walks))
          (read_is_derived scope (drop from ts) (drop next ts) e ends front),
    )

-- where nothing was read nothing stands
pub nothing : (alloc : Global) (scope : Scope) (ts : List Symbol) (from : ℕ) (old : Parsing) → old ≡ begins alloc ts from scope → whole (scope_of old) (rest_of old) ≡ None
    → (rest : List Symbol) (e : c.Expression) (spots : List ℕ) → IsWhole scope (drop from ts) e rest spots [] → ⊥
nothing alloc scope ts from old made none rest e spots w =
    nothing_derived scope (drop from ts) [] (ap (λ (p : Parsing). whole (scope_of p) (rest_of p)) (sym made) ∙ none) rest e spots [] w

-- a token's place is one
pub token_place : (list : List Token) (i : ℕ) (t : Token) → i < length list → t ≡ get_or list i t → Contains (map (λ t. t.at) (map token_of list)) t.at
token_place list i t within is =
    let pure = map token_of list in
    let among : i < length pure = omega (arith, length-map list token_of) in
    let shown : get_or pure i (token_of t) ≡ token_of t = get_or-map token_of list i t (token_of t) within ∙ ap token_of (sym is) in
    let place : get_or (map (λ t. t.at) pure) i t.at ≡ t.at = get_or-map (λ (t : plain.Token). t.at) pure i (token_of t) t.at among ∙ ap (λ (t : plain.Token). t.at) shown in
    let inside : i < length (map (λ (t : plain.Token). t.at) pure) = omega (arith, length-map pure (λ (t : plain.Token). t.at), among) in
    subst (Contains (map (λ t. t.at) pure)) place (Contains-get_or (map (λ t. t.at) pure) i t.at inside)
