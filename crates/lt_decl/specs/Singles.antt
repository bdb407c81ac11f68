-- What the parser reads in one step where the reading functions take two, or a part of one.
use Rattle.std.specs.Prelude.{ℕ, Bool, ◌||◌, if◌then◌else◌, List, Option, Some}
use Rattle.lt_tree.specs.declared.terminal.Terminal.TheVariants as t
use Rattle.lt_tree.specs.Tree as c
use Rattle.lt_tree.specs.Symbols.{Symbol, start_of}
use Rattle.lt_tree.specs.Scope.{Scope, after_expression, after_optional, after_declarator, after_declarators, after_initialiser, after_start, after_labels, after_statement, after_first_part, makes_types}
use Rattle.lt_tree.specs.Ahead.{sees}
use Rattle.lt_expr.specs.Front.{Reader, ◌>>=◌, behind, ended, expect}
use Rattle.lt_expr.specs.Reading.{conditional}
use Rattle.lt_decl.specs.Reading.{optional_initialiser, declarators, optional, for_start, labels, statement, items}

-- behind a declarator: ('=' init)?
abbrev pub one_declarator : ℕ → Scope → Bool → c.Declarator → Reader c.InitDeclarator
one_declarator n scope type d r =
    optional_initialiser n (after_declarator type d scope) r >>= λ i. Some (record { declarator = d; initialiser = i.0 }, i.1)

abbrev pub after_one : Bool → c.InitDeclarator → Scope → Scope
after_one type d scope = after_initialiser d.initialiser (after_declarator type d.declarator scope)

abbrev pub begins_label : List Symbol → Bool
begins_label ts = sees t.Case ts || sees t.Default ts

-- 'case' cond ':' | 'default' ':'
abbrev pub one_label : ℕ → Scope → Reader c.Label
one_label n scope r =
    if sees t.Case r.0
    then (conditional n scope (behind r) >>= λ x. expect t.Colon x.1 >>= λ us. Some (c.Case x.0, ended (start_of r.0) us))
    else (expect t.Colon (behind r) >>= λ us. Some (c.Default, ended (start_of r.0) us))

abbrev pub after_label : c.Label → Scope → Scope
after_label (c.Case e) scope = after_expression e scope
after_label c.Default scope = scope

-- what stands in the parentheses of a `for`
pub record Head : Type 0 where
  pub start : c.ForStart
  pub test : Option c.Expression
  pub step : Option c.Expression

-- (declaration | expr? ';') expr? ';' expr? ')'
abbrev pub head : ℕ → Scope → Reader Head
head n scope r =
    for_start n scope r >>= λ f.
    optional n (after_start f.0 scope) t.Semicolon f.1 >>= λ e.
    optional n (after_optional e.0 (after_start f.0 scope)) t.CloseParen e.1 >>= λ s.
    Some (record { start = f.0; test = e.0; step = s.0 }, s.1)

abbrev pub after_head : Head → Scope → Scope
after_head h scope = after_optional h.step (after_optional h.test (after_start h.start scope))

-- label* statement
abbrev pub one_case : ℕ → Scope → Reader (List c.Label × c.Statement)
one_case n scope r =
    labels n scope r >>= λ ls.
    statement n (after_labels ls.0 scope) ls.1 >>= λ x.
    Some ((ls.0, x.0), x.1)

abbrev pub after_case : List c.Label × c.Statement → Scope → Scope
after_case y scope = after_statement y.1 (after_labels y.0 scope)

-- in a function's body, where its own name is in scope: its parameters
abbrev pub in_function : c.Declarator → Scope → Scope
in_function (c.declarator name parts) scope = after_first_part parts scope

-- behind the first declarator of an external, where the specifiers' names are in scope
abbrev pub definition : ℕ → Scope → ℕ → c.Specifiers → c.Declarator → Reader c.External
definition n scope start ss d r =
    items n (in_function d (after_declarator (makes_types ss) d scope)) (behind r) >>= λ y.
    Some (c.Defines ss d y.0, ended start y.1)

abbrev pub declared_on : ℕ → Scope → ℕ → c.Specifiers → c.Declarator → Reader c.External
declared_on n scope start ss d r =
    declarators n scope (makes_types ss) d r >>= λ ds.
    Some (c.Declared (record { specifiers = ss; declarators = ds.0 }), ended start ds.1)

-- the scope behind an external, where its specifiers' names are in scope
abbrev pub behind_external : c.External → Scope → Scope
behind_external (c.Defines s d body) scope = after_declarator (makes_types s) d scope
behind_external (c.Declared d) scope = after_declarators (makes_types d.specifiers) d.declarators scope
