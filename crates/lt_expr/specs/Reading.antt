-- Reading from left to right, a function for each of the parser's. The number bounds how deep the reading goes: it falls at each call.
use Rattle.std.specs.Prelude.{ℕ, zero, suc, ◌+◌, ◌*◌, Bool, false, ◌||◌, ◌&&◌, not, if◌then◌else◌, List, length, drop, Option, Some, None}
use Rattle.lt_tree.specs.declared.terminal.Terminal.{Terminal}
use Rattle.lt_tree.specs.declared.terminal.Terminal.TheVariants as t
use Rattle.lt_tree.specs.Tree as c
use Rattle.lt_tree.specs.Comma.{comma_of}
use Rattle.lt_tree.specs.Symbols.{Symbol, start_of}
use Rattle.lt_tree.specs.Scope.{Scope, after_specifiers, after_parts, after_inside, after_member_declarator, after_member, after_enumerator, after_parameter}
use Rattle.lt_tree.specs.Operators.{operation, prefix_of}
use Rattle.lt_tree.specs.Grammar.{is_missing, joined}
use Rattle.lt_tree.specs.Ahead.{Naming, named, nameless, either, naming_behind, behind_star, takes_none, terminal_at, sees, begins_specifier, begins_declarator, begins_suffix, is_void_alone, goes_on}
use Rattle.lt_expr.specs.Front.{Rest, Reader, ◌>>=◌, if_some, behind, ended, reopened, expect, name_at, id_at, tag_at, leaf, begins_mark, begins_cast, begins_nested, assignment_behind, operator_at, own_name, optional_name, goes_on_with_parameter, qualifiers, begins_postfix}
use Rattle.lt_expr.specs.Specifier.{Specifier, of_type, Found, none_found, with_specifier, names_type, after_specifier, specifiers_of, one_specifier}

-- the predicate, the id and the tag of a mark
pub record Labelled : Type 0 where
  pub predicate : c.Expression
  pub id : List ℕ
  pub tag : List ℕ

abbrev pub with_bindings : Labelled → c.Bindings → c.Mark
with_bindings l bound = c.mark l.predicate l.id l.tag bound

-- the name and the parts of a declarator, which may be none
abbrev pub NameAndParts : Type 0
NameAndParts = Option (List ℕ) × c.Parts

abbrev pub as_declarator : ℕ → NameAndParts × Rest → Option (c.Declarator × Rest)
as_declarator start x = if is_missing x.0.0 x.0.1 then None else Some (c.declarator x.0.0 x.0.1, ended start x.1)

-- the end of a parameter list: (',' '...')? ')'
abbrev pub list_end : c.ParameterList → Rest → Option (c.Parameters × Rest)
list_end ps r =
    if sees t.Comma r.0
    then (expect t.Ellipsis (behind r) >>= λ a. expect t.CloseParen a >>= λ us. Some (c.Open ps, us))
    else (expect t.CloseParen r >>= λ us. Some (c.Listed ps, us))

-- what stands before ')', if anything does
abbrev pub arguments_by : Reader c.Expressions → Reader c.Expressions
arguments_by read r = if sees t.CloseParen r.0 then Some (c.no_expressions, r) else read r

-- '}', or more enumerators
abbrev pub enumerators_by : Reader c.Enumerators → Reader c.Enumerators
enumerators_by read r = if sees t.CloseBrace r.0 then Some (c.no_enumerators, behind r) else read r

-- a struct or enum by its tag alone
abbrev pub by_tag : (List ℕ → c.TypeSpecifier) → Option (List ℕ) → Reader Specifier
by_tag make tag r = if_some tag (λ w. Some (of_type (make w), r)) None

unfoldable mutual
  -- ---- expressions, C11 6.5

  -- expr = marked (',' marked)*
  pub expression : ℕ → Scope → Reader c.Expression
  expression zero scope r = None
  expression (suc n) scope r =
      marked n scope r >>= λ x.
      if sees t.Comma x.1.0
      then (parts n scope (behind (reopened x.0 x.1)) >>= λ y. Some (comma_of x.0 y.0, ended (start_of r.0) y.1))
      else Some x

  -- marked (',' marked)*, in a comma expression
  pub parts : ℕ → Scope → Reader c.Expressions
  parts zero scope r = None
  parts (suc n) scope r =
      marked n scope r >>= λ x.
      if sees t.Comma x.1.0
      then (parts n scope (behind x.1) >>= λ y. Some (c.an_expression x.0 y.0, y.1))
      else Some (c.an_expression x.0 c.no_expressions, x.1)

  -- marked = (mark ',')* assign
  pub marked : ℕ → Scope → Reader c.Expression
  marked zero scope r = None
  marked (suc n) scope r =
      if begins_mark r.0
      then (marks n scope r >>= λ m. assignment n scope m.1 >>= λ x. Some (c.Marked m.0 x.0, ended (start_of r.0) x.1))
      else assignment n scope r

  -- assign = cond | unary ASSIGNOP assign
  pub assignment : ℕ → Scope → Reader c.Expression
  assignment zero scope r = None
  assignment (suc n) scope r =
      operand n scope r >>= λ x.
      if_some (assignment_behind (begins_cast scope r.0) x.1.0)
      (λ op. assignment n scope (behind x.1) >>= λ y. Some (c.Assign op x.0 y.0, ended (start_of r.0) y.1))
      (choice n scope (start_of r.0) x.0 x.1)

  -- cond = or | or '?' expr ':' cond
  pub conditional : ℕ → Scope → Reader c.Expression
  conditional zero scope r = None
  conditional (suc n) scope r = operand n scope r >>= λ x. choice n scope (start_of r.0) x.0 x.1

  -- a conditional expression, of which the first operand was read
  pub choice : ℕ → Scope → ℕ → c.Expression → Reader c.Expression
  choice zero scope start first r = None
  choice (suc n) scope start first r =
      climb n scope start 0 first r >>= λ x.
      if sees t.Question x.1.0
      then
      (expression n scope (behind x.1) >>= λ y.
      expect t.Colon y.1 >>= λ us.
      conditional n scope us >>= λ z.
      Some (c.Conditional x.0 y.0 z.0, ended start z.1))
      else Some x

  -- operators that bind at least so tightly, and their operands, behind the left operand
  pub climb : ℕ → Scope → ℕ → ℕ → c.Expression → Reader c.Expression
  climb zero scope start least left r = None
  climb (suc n) scope start least left r =
      if_some (operator_at least r.0)
      (λ o.
      operand n scope (behind r) >>= λ x.
      climb n scope (start_of (drop 1 r.0)) (o.1 + 1) x.0 x.1 >>= λ y.
      climb n scope start least (operation o.0 left y.0) (ended start y.1))
      (Some (left, r))

  -- cast = unary | '(' typename ')' cast
  pub operand : ℕ → Scope → Reader c.Expression
  operand zero scope r = None
  operand (suc n) scope r =
      if begins_cast scope r.0
      then
      (type_name n scope (behind r) >>= λ t'.
      expect t.CloseParen t'.1 >>= λ us.
      operand n scope us >>= λ x.
      Some (c.Cast t'.0.0 t'.0.1 x.0, ended (start_of r.0) x.1))
      else unary n scope r

  -- unary = postfix | ('++' | '--') unary | PREFIX cast | 'sizeof' unary | 'sizeof' '(' typename ')'
  pub unary : ℕ → Scope → Reader c.Expression
  unary zero scope r = None
  unary (suc n) scope r =
      if sees t.Increment r.0 then (unary n scope (behind r) >>= λ x. Some (c.PreInc x.0, ended (start_of r.0) x.1))
      else (if sees t.Decrement r.0 then (unary n scope (behind r) >>= λ x. Some (c.PreDec x.0, ended (start_of r.0) x.1))
      else (if sees t.Sizeof r.0 then size n scope (start_of r.0) (behind r)
      else if_some (prefix_of (terminal_at r.0))
      (λ op. operand n scope (behind r) >>= λ x. Some (c.Unary op x.0, ended (start_of r.0) x.1))
      (primary n scope r >>= λ x. postfix n scope (start_of r.0) x.0 x.1)))

  -- behind `sizeof`, which begins at the start
  pub size : ℕ → Scope → ℕ → Reader c.Expression
  size zero scope start r = None
  size (suc n) scope start r =
      if begins_cast scope r.0
      then (type_name n scope (behind r) >>= λ t'. expect t.CloseParen t'.1 >>= λ us. Some (c.SizeofType t'.0.0 t'.0.1, ended start us))
      else (unary n scope r >>= λ x. Some (c.SizeofExpr x.0, ended start x.1))

  -- ('[' expr ']' | '(' assign,* ')' | '.' NAME | '->' NAME | '++' | '--')*
  pub postfix : ℕ → Scope → ℕ → c.Expression → Reader c.Expression
  postfix zero scope start left r = None
  postfix (suc n) scope start left r =
      if begins_postfix r.0
      then (one_postfix n scope left r >>= λ x. postfix n scope start x.0 (ended start x.1))
      else Some (left, r)

  pub one_postfix : ℕ → Scope → c.Expression → Reader c.Expression
  one_postfix zero scope left r = None
  one_postfix (suc n) scope left r =
      if sees t.OpenIndex r.0 then (expression n scope (behind r) >>= λ x. expect t.CloseIndex x.1 >>= λ us. Some (c.Index left x.0, us))
      else (if sees t.OpenParen r.0 then (arguments_by (arguments n scope) (behind r) >>= λ x. expect t.CloseParen x.1 >>= λ us. Some (c.Call left x.0, us))
      else (if sees t.Dot r.0 then (name_at (behind r) >>= λ w. Some (c.Member left w.0, w.1))
      else (if sees t.Arrow r.0 then (name_at (behind r) >>= λ w. Some (c.Arrow left w.0, w.1))
      else (if sees t.Increment r.0 then Some (c.PostInc left, behind r)
      else Some (c.PostDec left, behind r)))))

  -- assign,+
  pub arguments : ℕ → Scope → Reader c.Expressions
  arguments zero scope r = None
  arguments (suc n) scope r =
      assignment n scope r >>= λ x.
      if sees t.Comma x.1.0
      then (arguments n scope (behind x.1) >>= λ y. Some (c.an_expression x.0 y.0, y.1))
      else Some (c.an_expression x.0 c.no_expressions, x.1)

  -- primary = NAME | CONSTANT | STRING+ | '(' expr ')' | 'pc_decide' .. | 'pc_after' ..
  pub primary : ℕ → Scope → Reader c.Expression
  primary zero scope r = None
  primary (suc n) scope r =
      if sees t.OpenParen r.0 then (expression n scope (behind r) >>= λ x. expect t.CloseParen x.1 >>= λ us. Some (x.0, us))
      else (if sees t.Decide r.0 then decide n scope (start_of r.0) (behind r)
      else (if sees t.After r.0 then after n scope (start_of r.0) (behind r)
      else leaf scope r))

  -- '(' assign ',' CONSTANT ',' CONSTANT ',' STRING ')'
  pub decide : ℕ → Scope → ℕ → Reader c.Expression
  decide zero scope start r = None
  decide (suc n) scope start r =
      expect t.OpenParen r >>= λ us.
      assignment n scope us >>= λ x.
      id_at x.1 >>= λ yes_id.
      id_at yes_id.1 >>= λ no_id.
      tag_at no_id.1 >>= λ tag.
      expect t.CloseParen tag.1 >>= λ vs.
      Some (c.Decide x.0 yes_id.0 no_id.0 tag.0, ended start vs)

  -- '(' assign ',' CONSTANT ',' STRING ')'
  pub after : ℕ → Scope → ℕ → Reader c.Expression
  after zero scope start r = None
  after (suc n) scope start r =
      labelled n scope r >>= λ l.
      expect t.CloseParen l.1 >>= λ vs.
      Some (c.After l.0.predicate l.0.id l.0.tag, ended start vs)

  -- '(' assign ',' CONSTANT ',' STRING
  pub labelled : ℕ → Scope → Reader Labelled
  labelled zero scope r = None
  labelled (suc n) scope r =
      expect t.OpenParen r >>= λ us.
      assignment n scope us >>= λ x.
      id_at x.1 >>= λ id.
      tag_at id.1 >>= λ tag.
      Some (record { predicate = x.0; id = id.0; tag = tag.0 }, tag.1)

  -- ---- marks

  -- mark = 'pc_label' '(' assign ',' CONSTANT ',' STRING ')' | 'pc_label_bind' '(' assign ',' CONSTANT ',' STRING (',' NAME ',' assign)+ ')'
  pub mark : ℕ → Scope → Reader c.Mark
  mark zero scope r = None
  mark (suc n) scope r =
      if sees t.Label r.0
      then (labelled n scope (behind r) >>= λ l. expect t.CloseParen l.1 >>= λ us. Some (with_bindings l.0 c.no_bindings, ended (start_of r.0) us))
      else
      (expect t.LabelBind r >>= λ us.
      labelled n scope us >>= λ l.
      bindings n scope l.1 >>= λ b.
      expect t.CloseParen b.1 >>= λ vs.
      Some (with_bindings l.0 b.0, ended (start_of r.0) vs))

  -- (',' NAME ',' assign)+
  pub bindings : ℕ → Scope → Reader c.Bindings
  bindings zero scope r = None
  bindings (suc n) scope r =
      expect t.Comma r >>= λ us.
      name_at us >>= λ w.
      expect t.Comma w.1 >>= λ vs.
      assignment n scope vs >>= λ x.
      if sees t.Comma x.1.0
      then (bindings n scope x.1 >>= λ y. Some (c.a_binding w.0 x.0 y.0, y.1))
      else Some (c.a_binding w.0 x.0 c.no_bindings, x.1)

  -- (mark ',')+
  pub marks : ℕ → Scope → Reader c.Marks
  marks zero scope r = None
  marks (suc n) scope r =
      mark n scope r >>= λ m.
      expect t.Comma m.1 >>= λ us.
      if begins_mark us.0
      then (marks n scope us >>= λ y. Some (c.a_mark m.0 y.0, y.1))
      else Some (c.a_mark m.0 c.no_marks, us)

  -- ---- the names of types and their specifiers, C11 6.7.7 and 6.7

  -- typename = specs abstract?
  pub type_name : ℕ → Scope → Reader (c.Specifiers × c.Declarator)
  type_name zero scope r = None
  type_name (suc n) scope r =
      specifiers n scope r >>= λ s.
      declarator n (after_specifiers s.0 scope) nameless s.1 >>= λ d.
      Some ((s.0, d.0), d.1)

  -- specs: one or more
  pub specifiers : ℕ → Scope → Reader c.Specifiers
  specifiers zero scope r = None
  specifiers (suc n) scope r =
      if begins_specifier scope false r.0
      then (further n scope false r >>= λ found. Some (specifiers_of found.0, found.1))
      else None

  -- specifiers up to what is none; `typed` says that a type was named before
  pub further : ℕ → Scope → Bool → Reader Found
  further zero scope typed r = None
  further (suc n) scope typed r =
      if begins_specifier scope typed r.0
      then
      (specifier n scope r >>= λ s.
      further n (after_specifier s.0 scope) (typed || names_type s.0) s.1 >>= λ found.
      Some (with_specifier s.0 found.0, found.1))
      else Some (none_found, r)

  pub specifier : ℕ → Scope → Reader Specifier
  specifier zero scope r = None
  specifier (suc n) scope r =
      if sees t.Struct r.0 then (optional_name (behind r) >>= λ tag. structure n scope tag.0 tag.1)
      else (if sees t.Enum r.0 then (optional_name (behind r) >>= λ tag. enumeration n scope tag.0 tag.1)
      else one_specifier r)

  -- behind 'struct' NAME?: '{' member* '}', which may be missing where there is a tag
  pub structure : ℕ → Scope → Option (List ℕ) → Reader Specifier
  structure zero scope tag r = None
  structure (suc n) scope tag r =
      if sees t.OpenBrace r.0
      then (members n scope (behind r) >>= λ m. Some (of_type (c.Struct tag m.0), m.1))
      else by_tag c.StructTag tag r

  -- behind 'enum' NAME?: '{' (NAME ('=' cond)?),+ ','? '}', which may be missing where there is a tag
  pub enumeration : ℕ → Scope → Option (List ℕ) → Reader Specifier
  enumeration zero scope tag r = None
  enumeration (suc n) scope tag r =
      if sees t.OpenBrace r.0
      then (enumerators n scope (behind r) >>= λ m. Some (of_type (c.Enum tag m.0), m.1))
      else by_tag c.EnumTag tag r

  -- member* '}'
  pub members : ℕ → Scope → Reader c.Members
  members zero scope r = None
  members (suc n) scope r =
      if sees t.CloseBrace r.0 then Some (c.no_members, behind r)
      else (member n scope r >>= λ m. members n (after_member m.0 scope) m.1 >>= λ y. Some (c.a_member m.0 y.0, y.1))

  -- member = specs (declarator (':' cond)?),* ';'
  pub member : ℕ → Scope → Reader c.StructMember
  member zero scope r = None
  member (suc n) scope r =
      specifiers n scope r >>= λ s.
      if sees t.Semicolon s.1.0
      then Some (c.member s.0 c.no_declarators, ended (start_of r.0) (behind s.1))
      else (member_declarators n (after_specifiers s.0 scope) (naming_behind s.0) s.1 >>= λ ds. Some (c.member s.0 ds.0, ended (start_of r.0) ds.1))

  -- (declarator (':' cond)?),+ ';'
  pub member_declarators : ℕ → Scope → Naming → Reader c.MemberDeclarators
  member_declarators zero scope naming r = None
  member_declarators (suc n) scope naming r =
      declarator n scope naming r >>= λ d.
      after_sign n (after_inside d.0 scope) t.Colon d.1 >>= λ width.
      if sees t.Comma width.1.0
      then (member_declarators n (after_member_declarator d.0 width.0 scope) named (behind width.1) >>= λ y. Some (c.a_declarator d.0 width.0 y.0, y.1))
      else (expect t.Semicolon width.1 >>= λ us. Some (c.a_declarator d.0 width.0 c.no_declarators, us))

  -- (SIGN cond)?
  pub after_sign : ℕ → Scope → Terminal → Reader c.Maybe
  after_sign zero scope k r = None
  after_sign (suc n) scope k r =
      if sees k r.0
      then (conditional n scope (behind r) >>= λ x. Some (c.present x.0, x.1))
      else Some (c.absent, r)

  -- (NAME ('=' cond)?),+ ','? '}'
  pub enumerators : ℕ → Scope → Reader c.Enumerators
  enumerators zero scope r = None
  enumerators (suc n) scope r =
      name_at r >>= λ w.
      after_sign n scope t.Equal w.1 >>= λ value.
      if sees t.Comma value.1.0
      then (enumerators_by (enumerators n (after_enumerator w.0 value.0 scope)) (behind (ended (start_of r.0) value.1)) >>= λ y. Some (c.an_enumerator w.0 value.0 y.0, y.1))
      else (expect t.CloseBrace (ended (start_of r.0) value.1) >>= λ us. Some (c.an_enumerator w.0 value.0 c.no_enumerators, us))

  -- ---- declarators, C11 6.7.6

  -- a declarator; where it may lack a name, it may be missing as a whole
  pub declarator : ℕ → Scope → Naming → Reader c.Declarator
  declarator zero scope naming r = None
  declarator (suc n) scope naming r =
      if takes_none naming && not (begins_declarator r.0)
      then Some (c.declarator None c.no_parts, r)
      else (pointers n scope naming r >>= as_declarator (start_of r.0))

  -- ('*' qualifier*)* direct
  pub pointers : ℕ → Scope → Naming → Reader NameAndParts
  pointers zero scope naming r = None
  pointers (suc n) scope naming r =
      if sees t.Star r.0
      then
      (pointers n scope (behind_star naming) ((qualifiers (drop 1 r.0)).1, r.1) >>= λ x.
      Some ((x.0.0, joined x.0.1 (c.Pointer (qualifiers (drop 1 r.0)).0 c.no_parts)), x.1))
      else direct n scope naming r

  -- direct = (NAME? | '(' declarator ')') suffix*
  pub direct : ℕ → Scope → Naming → Reader NameAndParts
  direct zero scope naming r = None
  direct (suc n) scope naming r =
      if begins_nested naming scope r.0
      then
      (pointers n scope naming (behind r) >>= λ x.
      expect t.CloseParen x.1 >>= λ us.
      suffixes n (after_parts x.0.1 scope) us >>= λ y.
      Some ((x.0.0, joined x.0.1 y.0), y.1))
      else (own_name naming scope r >>= λ w. suffixes n scope w.1 >>= λ y. Some ((w.0, y.0), y.1))

  -- suffix*
  pub suffixes : ℕ → Scope → Reader c.Parts
  suffixes zero scope r = None
  suffixes (suc n) scope r =
      if begins_suffix r.0
      then (suffix n scope r >>= λ x. suffixes n (after_parts x.0 scope) x.1 >>= λ y. Some (joined x.0 y.0, y.1))
      else Some (c.no_parts, r)

  -- suffix = '[' cond? ']' | '(' params? ')'
  pub suffix : ℕ → Scope → Reader c.Parts
  suffix zero scope r = None
  suffix (suc n) scope r =
      if sees t.OpenParen r.0 then (parameters n scope (behind r) >>= λ x. Some (c.Function x.0 c.no_parts, x.1))
      else (if sees t.CloseIndex (drop 1 r.0) then Some (c.Array c.absent c.no_parts, behind (behind r))
      else (conditional n scope (behind r) >>= λ x. expect t.CloseIndex x.1 >>= λ us. Some (c.Array (c.present x.0) c.no_parts, us)))

  -- params? ')', with params = 'void' | param,+ (',' '...')?
  pub parameters : ℕ → Scope → Reader c.Parameters
  parameters zero scope r = None
  parameters (suc n) scope r =
      if sees t.CloseParen r.0 then Some (c.Unstated, behind r)
      else (if is_void_alone r.0 then Some (c.Void, behind (behind r))
      else (parameter_list n scope r >>= λ ps. list_end ps.0 ps.1))

  -- param,+, with param = specs (declarator | abstract)?; a parameter's enumerators are in scope for its declarator, and its name for those behind it
  pub parameter_list : ℕ → Scope → Reader c.ParameterList
  parameter_list zero scope r = None
  parameter_list (suc n) scope r =
      specifiers n scope r >>= λ s.
      declarator n (after_specifiers s.0 scope) either s.1 >>= λ d.
      if goes_on_with_parameter d.1.0
      then (parameter_list n (after_parameter s.0 d.0 scope) (behind d.1) >>= λ y. Some (c.a_parameter s.0 d.0 y.0, y.1))
      else Some (c.a_parameter s.0 d.0 c.no_parameters, d.1)

-- ---- where the number suffices

unfoldable pub enough : List Symbol → ℕ
enough ts = 20 * length ts + 20

-- The expression at the front, if it can't go on behind it.
unfoldable pub whole : Scope → Reader c.Expression
whole scope r = expression (enough r.0) scope r >>= λ x. if goes_on x.1.0 then None else Some x
