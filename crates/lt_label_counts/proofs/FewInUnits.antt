-- Few nodes in declarations, statements and units, by the rules of the grammar; and few tokens in a text.
use Rattle.std.proofs.Common.{◌≡◌, ◌≤◌, ℕ, ◌+◌, Bool, List, [], ◌∷◌, ◌++◌, length, Option, Some, None, refl, ap, arith}
use Rattle.std.proofs.lemmas.List.{length-map, append-nil}
use Rattle.std.specs.List.{flat_map}
use Rattle.lt_token.specs.Tokens.{Token, ArePlaced}
use Rattle.lt_token.proofs.Placed.{are_placed}
use Rattle.lt_tree.specs.Tree as c
use Rattle.lt_tree.specs.Symbols.{Symbol, symbols, symbol_of}
use Rattle.lt_tree.specs.Scope.{Scope}
use Rattle.lt_tree.specs.Ahead.{Naming}
use Rattle.lt_tree.specs.Declarations as d
use Rattle.lt_tree.specs.Statements as s
use Rattle.lt_tree.specs.Units as u
use Rattle.lt_tree.specs.Nodes.{in_initialiser, in_initialisers, in_optional_initialiser, in_init_declarator, in_declaration, in_optional, in_start, in_label, in_statement, in_items, in_cases, nodes}
use Rattle.lt_label_counts.specs.Needs.{needs}
use Rattle.lt_label_counts.specs.Laws.{TextsHaveFewNodes}
use Rattle.lt_label_counts.proofs.Fits.{Fits, nothing, front, back, past, upto, fewer, both, both_one, light, one}
use Rattle.lt_label_counts.proofs.FewInExpressions.{of_expression, of_mark, of_specifiers, of_declarator}

-- ---- declarations

mutual
  of_initialiser : {scope : Scope} {ts : List Symbol} {i : c.Initialiser} {rest : List Symbol} {spots more : List ℕ}
      → d.IsInitialiser scope ts i rest spots more → Fits 0 (in_initialiser i) ts rest
  of_initialiser (d.value e) = light refl refl (of_expression e)
  of_initialiser (d.braces is) = light refl refl (past (of_initialisers is))

  of_initialisers : {scope : Scope} {ts : List Symbol} {is : c.Initialisers} {rest : List Symbol} {spots more : List ℕ}
      → d.AreInitialisers scope ts is rest spots more → Fits 0 (in_initialisers is) ts rest
  of_initialisers (d.last_initialiser i) = both (upto (of_initialiser i)) nothing
  of_initialisers (d.last_initialiser_and_comma i) = both (upto (upto (of_initialiser i))) nothing
  of_initialisers (d.more_initialisers i is) = both (upto (of_initialiser i)) (of_initialisers is)

of_optional_initialiser : {scope : Scope} {ts : List Symbol} {i : Option c.Initialiser} {rest : List Symbol} {spots more : List ℕ}
    → d.IsOptionalInitialiser scope ts i rest spots more → Fits 0 (in_optional_initialiser i) ts rest
of_optional_initialiser (d.left_out n) = nothing
of_optional_initialiser (d.given i) = past (of_initialiser i)

of_declarators : {scope : Scope} {naming : Naming} {type : Bool} {ts : List Symbol} {ds : List c.InitDeclarator} {rest : List Symbol} {spots more : List ℕ}
    → d.AreDeclarators scope naming type ts ds rest spots more → Fits 0 (flat_map in_init_declarator ds) ts rest
of_declarators (d.last_declarator d i) = both (both (of_declarator d) (upto (of_optional_initialiser i))) nothing
of_declarators (d.more_declarators d i ds) = both (both (of_declarator d) (upto (of_optional_initialiser i))) (of_declarators ds)

of_declaration : {scope : Scope} {ts : List Symbol} {whole : c.Declaration} {rest : List Symbol} {spots more : List ℕ}
    → d.IsDeclaration scope ts whole rest spots more → Fits 0 (in_declaration whole) ts rest
of_declaration (d.specifiers_alone ss) = both (upto (of_specifiers ss)) nothing
of_declaration (d.with_declarators ss ds) = both (of_specifiers ss) (of_declarators ds)

-- ---- statements

of_optional : {scope : Scope} {ts : List Symbol} {e : Option c.Expression} {rest : List Symbol} {spots more : List ℕ}
    → s.IsOptional scope ts e rest spots more → Fits 0 (in_optional e) ts rest
of_optional s.left_out = nothing
of_optional (s.given e) = of_expression e

of_start : {scope : Scope} {ts : List Symbol} {start : c.ForStart} {rest : List Symbol} {spots more : List ℕ}
    → s.IsForStart scope ts start rest spots more → Fits 0 (in_start start) ts rest
of_start s.nothing = past nothing
of_start (s.expression e) = upto (of_expression e)
of_start (s.declaration d) = of_declaration d

of_labels : {scope : Scope} {ts : List Symbol} {labels : List c.Label} {rest : List Symbol} {spots more : List ℕ}
    → s.AreLabels scope ts labels rest spots more → Fits 0 (flat_map in_label labels) ts rest
of_labels (s.no_labels a b) = nothing
of_labels (s.case_label e labels) = past (both (light refl refl (upto (of_expression e))) (of_labels labels))
of_labels (s.default_label labels) = past (past (both (light refl refl nothing) (of_labels labels)))

in_for : (start : c.ForStart) (test step : Option c.Expression) (x : c.Statement) {ts rest : List Symbol}
    → Fits 1 (in_start start ++ in_optional test ++ in_optional step ++ in_statement x) ts rest → Fits 0 (in_statement (c.For start test step x)) ts rest
in_for start None step x f = light refl refl (fewer f)
in_for start (Some test) step x f = one refl refl f

mutual
  of_statement : {scope : Scope} {ts : List Symbol} {x : c.Statement} {rest : List Symbol} {spots more : List ℕ}
      → s.IsStatement scope ts x rest spots more → Fits 0 (in_statement x) ts rest
  of_statement (s.compound items) = light refl refl (past (of_items items))
  of_statement s.null = light refl refl (past nothing)
  of_statement (s.expression e) = light refl refl (upto (of_expression e))
  of_statement (s.if_alone e x n) = one refl refl (front (past (both (upto (of_expression e)) (of_statement x))))
  of_statement (s.if_else e x y) = one refl refl (front (past (both (both (upto (of_expression e)) (upto (of_statement x))) (of_statement y))))
  of_statement (s.while_loop e x) = one refl refl (front (past (both (upto (of_expression e)) (of_statement x))))
  of_statement (s.do_loop x e) = one refl refl (front (both (upto (upto (of_statement x))) (upto (upto (of_expression e)))))
  of_statement (s.for_loop {start} {test} {step} {body} b i t j o x) =
      in_for start test step body (front (past (both (both (both (of_start b) (upto (of_optional t))) (upto (of_optional o))) (of_statement x))))
  of_statement (s.switch e cases) = light refl refl (past (past (both (upto (upto (of_expression e))) (of_cases cases))))
  of_statement s.break = light refl refl (past (past nothing))
  of_statement s.continue = light refl refl (past (past nothing))
  of_statement (s.returns e) = light refl refl (past (upto (of_optional e)))

  of_items : {scope : Scope} {ts : List Symbol} {items : c.Items} {rest : List Symbol} {spots more : List ℕ}
      → s.AreItems scope ts items rest spots more → Fits 0 (in_items items) ts rest
  of_items s.no_more_items = past nothing
  of_items (s.declaration d items) = light refl refl (both (of_declaration d) (of_items items))
  of_items (s.statement x items) = light refl refl (both (of_statement x) (of_items items))
  of_items (s.label m items) = light refl refl (both (upto (of_mark m)) (of_items items))

  of_cases : {scope : Scope} {ts : List Symbol} {cases : c.Cases} {rest : List Symbol} {spots more : List ℕ}
      → s.AreCases scope ts cases rest spots more → Fits 0 (in_cases cases) ts rest
  of_cases s.no_more_cases = past nothing
  of_cases (s.one_more_case labels x cases) = both (both (of_labels labels) (of_statement x)) (of_cases cases)

-- ---- units

of_unit : {scope : Scope} {ts : List Symbol} {unit : c.Unit} {spots more : List ℕ}
    → u.AreExternals scope ts unit spots more → Fits 0 (nodes unit) ts []
of_unit u.no_more_externals = nothing
of_unit (u.definition ss d items unit) = both (one refl refl (both (both_one (of_specifiers ss) (back (of_declarator d))) (of_items items))) (of_unit unit)
of_unit (u.declaration d unit) = both (light refl refl (of_declaration d)) (of_unit unit)
of_unit (u.semicolon unit) = past (of_unit unit)

-- ---- texts

as_many : (source : List ℕ) (from : ℕ) (ts : List Token) → ArePlaced source from ts → from + length ts ≤ length source
as_many source from [] p = omega (arith, p)
as_many source from (t ∷ ts) p = let h = as_many source (t.at + length t.text) ts p.3 in omega (arith, p.0, p.1, h)

pub few_nodes : TextsHaveFewNodes
few_nodes text tokens unit spots lexes derives =
    let f : 0 + needs 0 (nodes unit ++ []) + 0 ≤ length (symbols tokens) + 0 = (of_unit derives).fits [] in
    let few = as_many text 0 tokens (are_placed text tokens None lexes) in
    let many : length (symbols tokens) ≡ length tokens = length-map tokens symbol_of in
    let same : needs 0 (nodes unit ++ []) ≡ needs 0 (nodes unit) = ap (needs 0) (append-nil (nodes unit)) in
    omega (arith, f, few, many, same)
