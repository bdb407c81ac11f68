-- Reading declarations, statements and units from left to right, a function for each of the parser's. The number bounds how deep the reading
-- goes: it falls at each call. What stands in front decides, where the grammar has several rules:
-- * `{` begins a list of initialisers or a block, since no expression begins with it; behind a comma of initialisers `}` ends the list.
-- * A word of specifiers or a typedef name in scope begins a declaration: no expression begins with one.
-- * A mark with `;` behind it is an item. With a comma behind it, it is the first mark of an expression, which is read on from there.
-- * `else` belongs to the `if` whose body ended last.
-- * `case` and `default` go on the labels of a statement in the body of a `switch`.
-- * `{` behind the first declarator of an external makes it a function; `;`, `,` and `=` make it a declaration.
use Rattle.std.specs.Prelude.{ℕ, zero, suc, Bool, false, if◌then◌else◌, List, [], ◌∷◌, Option, Some, None}
use Rattle.lt_tree.specs.declared.terminal.Terminal.{Terminal}
use Rattle.lt_tree.specs.declared.terminal.Terminal.TheVariants as t
use Rattle.lt_tree.specs.Tree as c
use Rattle.lt_tree.specs.Symbols.{Symbol, start_of}
use Rattle.lt_tree.specs.Scope.{Scope, after_expression, after_optional, after_specifiers, after_declarator, after_initialiser, after_start, after_labels, after_statement, after_external, in_body, makes_types}
use Rattle.lt_tree.specs.Ahead.{named, naming_behind, sees, begins_specifier}
use Rattle.lt_expr.specs.Front.{Reader, ◌>>=◌, behind, ended, expect, begins_mark}
use Rattle.lt_expr.specs.Reading.{enough, expression, parts, assignment, conditional, mark, marks, specifiers, declarator}
use Rattle.lt_decl.specs.Items.{Item, declared, stated, marked, item_before, after_item, start_by, initialisers_by, marks_by, at_end}

-- ---- initialisers and declarations, C11 6.7.9 and 6.7

unfoldable mutual
  -- init = assign | '{' init,+ ','? '}'
  pub initialiser : ℕ → Scope → Reader c.Initialiser
  initialiser zero scope r = None
  initialiser (suc n) scope r =
      if sees t.OpenBrace r.0
      then (initialisers n scope (behind r) >>= λ is. Some (c.Braces is.0, ended (start_of r.0) is.1))
      else (assignment n scope r >>= λ x. Some (c.Value x.0, ended (start_of r.0) x.1))

  -- init,+ ','? '}'
  pub initialisers : ℕ → Scope → Reader c.Initialisers
  initialisers zero scope r = None
  initialisers (suc n) scope r =
      initialiser n scope r >>= λ i.
      if sees t.Comma i.1.0
      then (initialisers_by (initialisers n scope) (behind i.1) >>= λ y. Some (c.an_initialiser i.0 y.0, y.1))
      else (expect t.CloseBrace i.1 >>= λ us. Some (c.an_initialiser i.0 c.no_initialisers, us))

unfoldable mutual
  -- ('=' init)?
  pub optional_initialiser : ℕ → Scope → Reader (Option c.Initialiser)
  optional_initialiser zero scope r = None
  optional_initialiser (suc n) scope r =
      if sees t.Equal r.0
      then (initialiser n scope (behind r) >>= λ i. Some (Some i.0, i.1))
      else Some (None, r)

  -- behind a declarator: ('=' init)? (',' declarator ('=' init)?)* ';'
  pub declarators : ℕ → Scope → Bool → c.Declarator → Reader (List c.InitDeclarator)
  declarators zero scope type d r = None
  declarators (suc n) scope type d r =
      optional_initialiser n (after_declarator type d scope) r >>= λ i.
      if sees t.Comma i.1.0
      then
      (declarator n (after_initialiser i.0 (after_declarator type d scope)) named (behind i.1) >>= λ e.
      declarators n (after_initialiser i.0 (after_declarator type d scope)) type e.0 e.1 >>= λ y.
      Some (record { declarator = d; initialiser = i.0 } ∷ y.0, y.1))
      else (expect t.Semicolon i.1 >>= λ us. Some (record { declarator = d; initialiser = i.0 } ∷ [], us))

  -- declaration = specs (declarator ('=' init)?),* ';'
  pub declaration : ℕ → Scope → Reader c.Declaration
  declaration zero scope r = None
  declaration (suc n) scope r =
      specifiers n scope r >>= λ s.
      if sees t.Semicolon s.1.0
      then Some (record { specifiers = s.0; declarators = [] }, behind s.1)
      else
      (declarator n (after_specifiers s.0 scope) (naming_behind s.0) s.1 >>= λ d.
      declarators n (after_specifiers s.0 scope) (makes_types s.0) d.0 d.1 >>= λ ds.
      Some (record { specifiers = s.0; declarators = ds.0 }, ds.1))

-- ---- what stands in statements, C11 6.8

unfoldable mutual
  -- '(' expr ')'
  pub controlling : ℕ → Scope → Reader c.Expression
  controlling zero scope r = None
  controlling (suc n) scope r =
      expect t.OpenParen r >>= λ us.
      expression n scope us >>= λ x.
      expect t.CloseParen x.1 >>= λ vs.
      Some (x.0, vs)

  -- expr? SIGN
  pub optional : ℕ → Scope → Terminal → Reader (Option c.Expression)
  optional zero scope k r = None
  optional (suc n) scope k r =
      if sees k r.0
      then Some (None, behind r)
      else (expression n scope r >>= λ x. expect k x.1 >>= λ us. Some (Some x.0, us))

  -- declaration | expr? ';'
  pub for_start : ℕ → Scope → Reader c.ForStart
  for_start zero scope r = None
  for_start (suc n) scope r =
      if begins_specifier scope false r.0
      then (declaration n scope r >>= λ d. Some (c.Declares d.0, d.1))
      else (optional n scope t.Semicolon r >>= λ x. Some (start_by x.0, x.1))

  -- label*, with label = 'case' cond ':' | 'default' ':'
  pub labels : ℕ → Scope → Reader (List c.Label)
  labels zero scope r = None
  labels (suc n) scope r =
      if sees t.Case r.0
      then
      (conditional n scope (behind r) >>= λ x.
      expect t.Colon x.1 >>= λ us.
      labels n (after_expression x.0 scope) (ended (start_of r.0) us) >>= λ y.
      Some (c.Case x.0 ∷ y.0, y.1))
      else (if sees t.Default r.0
      then
      (expect t.Colon (behind r) >>= λ us.
      labels n scope (ended (start_of r.0) us) >>= λ y.
      Some (c.Default ∷ y.0, y.1))
      else Some ([], r))

-- ---- an expression, of which the first mark and its comma were read

-- (mark ',')* assign (',' marked)*
unfoldable pub expression_on : ℕ → Scope → ℕ → c.Mark → Reader c.Expression
expression_on zero scope start first r = None
expression_on (suc n) scope start first r =
    marks_by (marks n scope) r >>= λ m.
    assignment n scope m.1 >>= λ x.
    if sees t.Comma x.1.0
    then
    (parts n scope (behind (ended start x.1)) >>= λ y.
    Some (c.Comma (c.an_expression (c.Marked (c.a_mark first m.0) x.0) y.0), ended start y.1))
    else Some (c.Marked (c.a_mark first m.0) x.0, ended start x.1)

-- ---- statements, C11 6.8

unfoldable mutual
  pub statement : ℕ → Scope → Reader c.Statement
  statement zero scope r = None
  statement (suc n) scope r =
      if sees t.OpenBrace r.0 then (items n scope (behind r) >>= λ y. Some (c.Compound y.0, ended (start_of r.0) y.1))
      else (if sees t.Semicolon r.0 then Some (c.Null, ended (start_of r.0) (behind r))
      else (if sees t.If r.0 then choice n scope (start_of r.0) (behind r)
      else (if sees t.While r.0 then while_loop n scope (start_of r.0) (behind r)
      else (if sees t.Do r.0 then do_loop n scope (start_of r.0) (behind r)
      else (if sees t.For r.0 then for_loop n scope (start_of r.0) (behind r)
      else (if sees t.Switch r.0 then switch n scope (start_of r.0) (behind r)
      else simple n scope r))))))

  -- 'break' ';' | 'continue' ';' | 'return' expr? ';' | expr ';'
  pub simple : ℕ → Scope → Reader c.Statement
  simple zero scope r = None
  simple (suc n) scope r =
      if sees t.Break r.0 then (expect t.Semicolon (behind r) >>= λ us. Some (c.Break, ended (start_of r.0) us))
      else (if sees t.Continue r.0 then (expect t.Semicolon (behind r) >>= λ us. Some (c.Continue, ended (start_of r.0) us))
      else (if sees t.Return r.0 then (optional n scope t.Semicolon (behind r) >>= λ x. Some (c.Return x.0, ended (start_of r.0) x.1))
      else (expression n scope r >>= λ x. expect t.Semicolon x.1 >>= λ us. Some (c.Evaluates x.0, ended (start_of r.0) us))))

  -- behind 'if': '(' expr ')' statement ('else' statement)?
  pub choice : ℕ → Scope → ℕ → Reader c.Statement
  choice zero scope start r = None
  choice (suc n) scope start r =
      controlling n scope r >>= λ e.
      statement n (after_expression e.0 scope) e.1 >>= λ x.
      if sees t.Else x.1.0
      then (statement n (after_expression e.0 scope) (behind x.1) >>= λ y. Some (c.IfElse e.0 x.0 y.0, ended start y.1))
      else Some (c.If e.0 x.0, ended start x.1)

  -- behind 'while': '(' expr ')' statement
  pub while_loop : ℕ → Scope → ℕ → Reader c.Statement
  while_loop zero scope start r = None
  while_loop (suc n) scope start r =
      controlling n scope r >>= λ e.
      statement n (after_expression e.0 scope) e.1 >>= λ x.
      Some (c.While e.0 x.0, ended start x.1)

  -- behind 'do': statement 'while' '(' expr ')' ';'
  pub do_loop : ℕ → Scope → ℕ → Reader c.Statement
  do_loop zero scope start r = None
  do_loop (suc n) scope start r =
      statement n scope r >>= λ x.
      expect t.While x.1 >>= λ us.
      controlling n scope us >>= λ e.
      expect t.Semicolon e.1 >>= λ vs.
      Some (c.Do x.0 e.0, ended start vs)

  -- behind 'for': '(' (declaration | expr? ';') expr? ';' expr? ')' statement
  pub for_loop : ℕ → Scope → ℕ → Reader c.Statement
  for_loop zero scope start r = None
  for_loop (suc n) scope start r =
      expect t.OpenParen r >>= λ us.
      for_start n scope us >>= λ f.
      optional n (after_start f.0 scope) t.Semicolon f.1 >>= λ e.
      optional n (after_optional e.0 (after_start f.0 scope)) t.CloseParen e.1 >>= λ s.
      statement n (after_optional s.0 (after_optional e.0 (after_start f.0 scope))) s.1 >>= λ x.
      Some (c.For f.0 e.0 s.0 x.0, ended start x.1)

  -- behind 'switch': '(' expr ')' '{' (label* statement)* '}'
  pub switch : ℕ → Scope → ℕ → Reader c.Statement
  switch zero scope start r = None
  switch (suc n) scope start r =
      controlling n scope r >>= λ e.
      expect t.OpenBrace e.1 >>= λ us.
      cases n (after_expression e.0 scope) us >>= λ y.
      Some (c.Switch e.0 y.0, ended start y.1)

  -- (label* statement)* '}'
  pub cases : ℕ → Scope → Reader c.Cases
  cases zero scope r = None
  cases (suc n) scope r =
      if sees t.CloseBrace r.0 then Some (c.no_cases, behind r)
      else
      (labels n scope r >>= λ ls.
      statement n (after_labels ls.0 scope) ls.1 >>= λ x.
      cases n (after_statement x.0 (after_labels ls.0 scope)) x.1 >>= λ y.
      Some (c.a_case ls.0 x.0 y.0, y.1))

  -- item* '}'
  pub items : ℕ → Scope → Reader c.Items
  items zero scope r = None
  items (suc n) scope r =
      if sees t.CloseBrace r.0 then Some (c.no_items, behind r)
      else (item n scope r >>= λ i. items n (after_item i.0 scope) i.1 >>= λ y. Some (item_before i.0 y.0, y.1))

  -- item = declaration | statement | mark ';'
  pub item : ℕ → Scope → Reader Item
  item zero scope r = None
  item (suc n) scope r =
      if begins_mark r.0 then (mark n scope r >>= λ m. marked_item n scope (start_of r.0) m.0 m.1)
      else (if begins_specifier scope false r.0 then (declaration n scope r >>= λ d. Some (declared d.0, ended (start_of r.0) d.1))
      else (statement n scope r >>= λ x. Some (stated x.0, ended (start_of r.0) x.1)))

  -- behind a mark: ';' or ',' and the rest of an expression and ';'
  pub marked_item : ℕ → Scope → ℕ → c.Mark → Reader Item
  marked_item zero scope start m r = None
  marked_item (suc n) scope start m r =
      if sees t.Semicolon r.0
      then Some (marked m, ended start (behind r))
      else
      (expect t.Comma r >>= λ us.
      expression_on n scope start m us >>= λ x.
      expect t.Semicolon x.1 >>= λ vs.
      Some (stated (c.Evaluates x.0), ended start (ended start vs)))

-- ---- units, C11 6.9

unfoldable mutual
  -- specs declarator compound | declaration
  pub external : ℕ → Scope → Reader c.External
  external zero scope r = None
  external (suc n) scope r =
      specifiers n scope r >>= λ s.
      if sees t.Semicolon s.1.0
      then Some (c.Declared (record { specifiers = s.0; declarators = [] }), ended (start_of r.0) (behind s.1))
      else
      (declarator n (after_specifiers s.0 scope) (naming_behind s.0) s.1 >>= λ d.
      behind_declarator n scope (start_of r.0) s.0 d.0 d.1)

  -- behind the first declarator of an external
  pub behind_declarator : ℕ → Scope → ℕ → c.Specifiers → c.Declarator → Reader c.External
  behind_declarator zero scope start ss d r = None
  behind_declarator (suc n) scope start ss d r =
      if sees t.OpenBrace r.0
      then (items n (in_body ss d scope) (behind r) >>= λ y. Some (c.Defines ss d y.0, ended start y.1))
      else
      (declarators n (after_specifiers ss scope) (makes_types ss) d r >>= λ ds.
      Some (c.Declared (record { specifiers = ss; declarators = ds.0 }), ended start ds.1))

-- external*, with external = specs declarator compound | declaration | ';', up to the end
unfoldable pub externals : ℕ → Scope → Reader c.Unit
externals zero scope r = None
externals (suc n) scope r =
    if at_end r.0 then Some ([], r)
    else (if sees t.Semicolon r.0 then externals n scope (behind r)
    else (external n scope r >>= λ x. externals n (after_external x.0 scope) x.1 >>= λ y. Some (x.0 ∷ y.0, y.1)))

-- The unit that these symbols are, and its ends.
unfoldable pub unit_of : List Symbol → Option (c.Unit × List ℕ)
unit_of ts = externals (enough ts) [] (ts, []) >>= λ x. Some (x.0, x.1.1)
