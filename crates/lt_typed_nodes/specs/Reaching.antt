-- The places to which the typing of a unit really comes, from the unit to its parts: what is known there.
use Rattle.std.specs.Prelude.{◌≡◌, ℕ, Bool, true, false, if◌then◌else◌, List, [], ◌∷◌, filter_map, Option, Some, None}
use Rattle.lt_model.specs.declared.scalar.DataModel.{DataModel}
use Rattle.lt_model.specs.declared.scalar.Scalar.{Scalar}
use Rattle.lt_model.specs.declared.operator.Op.{Op}
use Rattle.lt_tree.specs.declared.expression.LogicalOp.{LogicalOp}
use Rattle.lt_tree.specs.declared.expression.UnaryOp.{UnaryOp}
use Rattle.lt_tree.specs.declared.specifier.Storage.{Storage}
use Rattle.lt_tree.specs.Tree as c
use Rattle.lt_tree.specs.Typing.Types.{CType}
use Rattle.lt_tree.specs.Typing.TypedTree.{Marks, Mark, Local, Statement}
use Rattle.lt_tree.specs.Typing.Entities.{Known, Life, is_static, type_of_object, starting}
use Rattle.lt_tree.specs.Typing.Steps.{Goes, in_block}
use Rattle.lt_tree.specs.Typing.Expressions.{Typed, Use, as_value, as_truth, as_place, as_callee}
use Rattle.lt_tree.specs.Typing.MarkRules.{inside_mark, inside_after}
use Rattle.lt_tree.specs.Typing.Specifying.{Specified, alone, elsewhere}
use Rattle.lt_tree.specs.Typing.Declarators.{Declares, type_name_faults}
use Rattle.lt_tree.specs.Typing.NodeEnds.{operand_of}
use Rattle.lt_tree.specs.Typing.ExpressionTyping.{expression, marks, mark, specifiers, declarator}
use Rattle.lt_tree.specs.Typing.Filling.{Filling, text_in, filling_of}
use Rattle.lt_tree.specs.Typing.InitialiserTyping.{filling_for, initialiser}
use Rattle.lt_tree.specs.Typing.Declaring.{an_object_of, kind_of, declaration_faults, declare_object, definition_faults}
use Rattle.lt_tree.specs.Typing.DeclarationTyping.{DeclaredLocals, init_declarator, has_no_declarator, declaration, effective_in_for}
use Rattle.lt_tree.specs.Typing.StatementTyping.{Around, TypedStart, Labelled, in_a_loop, in_a_switch, optional_expression, optional_test, for_start, switch_type, Seen, labels, statement}
use Rattle.lt_tree.specs.Typing.UnitTyping.{around_body, external, defined_in}
use Rattle.lt_typed_nodes.specs.Coming.{entered, in_new_block}
use Rattle.lt_typed_nodes.specs.ComingItems.{in_body}

-- a part of a unit, with what its typing takes
pub data Piece : Type 0 where
  externals : (unit : List c.External) → Piece
  an_external : (it : c.External) → Piece
  items : (around : Around) (them : c.Items) → Piece
  a_statement : (around : Around) (it : c.Statement) → Piece
  cases : (type : Option Scalar) (seen : Seen) (around : Around) (them : c.Cases) → Piece
  a_declaration : (effective : Option Storage → Option Storage) (it : c.Declaration) → Piece
  declarators : (it : Specified) (ds : List c.InitDeclarator) → Piece
  -- of a whole object of this type
  a_start : (is_static : Bool) (t : CType) (i : c.Initialiser) → Piece
  an_initialiser : (is_static : Bool) (filling : Filling) (i : c.Initialiser) → Piece
  initialisers : (is_static : Bool) (filling : Filling) (list : c.Initialisers) → Piece
  an_expression : (role : Use) (e : c.Expression) → Piece
  expressions : (es : c.Expressions) → Piece

-- The second is a part of the first, of those that stand outside of marks and type names: typing comes from the first, where this is known, to the second, where
-- that is. A string literal that is an initialiser has none.
pub data IsPart : Piece → Known → Piece → Known → Type 0 where
  -- expressions
  an_array : {role : Use} {base index : c.Expression} {known : Known} → IsPart (an_expression role (c.Index base index)) known (an_expression as_value base) (entered known)
  an_index : {role : Use} {base index : c.Expression} {known k : Known} {x : Typed}
      → expression base as_value (entered known) ≡ Goes x k → IsPart (an_expression role (c.Index base index)) known (an_expression as_value index) k
  a_callee : {role : Use} {callee : c.Expression} {arguments : c.Expressions} {known : Known} → IsPart (an_expression role (c.Call callee arguments)) known (an_expression as_callee callee) (entered known)
  arguments : {role : Use} {callee : c.Expression} {them : c.Expressions} {known k : Known} {f : Typed}
      → expression callee as_callee (entered known) ≡ Goes f k → IsPart (an_expression role (c.Call callee them)) known (expressions them) k
  a_whole : {role : Use} {base : c.Expression} {name : List ℕ} {known : Known} → IsPart (an_expression role (c.Member base name)) known (an_expression as_place base) (entered known)
  a_pointer : {role : Use} {pointer : c.Expression} {name : List ℕ} {known : Known} → IsPart (an_expression role (c.Arrow pointer name)) known (an_expression as_value pointer) (entered known)
  incremented_after : {role : Use} {target : c.Expression} {known : Known} → IsPart (an_expression role (c.PostInc target)) known (an_expression as_place target) (entered known)
  decremented_after : {role : Use} {target : c.Expression} {known : Known} → IsPart (an_expression role (c.PostDec target)) known (an_expression as_place target) (entered known)
  incremented : {role : Use} {target : c.Expression} {known : Known} → IsPart (an_expression role (c.PreInc target)) known (an_expression as_place target) (entered known)
  decremented : {role : Use} {target : c.Expression} {known : Known} → IsPart (an_expression role (c.PreDec target)) known (an_expression as_place target) (entered known)
  an_operand : {role : Use} {op : UnaryOp} {operand : c.Expression} {known : Known} → IsPart (an_expression role (c.Unary op operand)) known (an_expression (operand_of op) operand) (entered known)
  a_cast : {role : Use} {s : c.Specifiers} {d : c.Declarator} {operand : c.Expression} {known k j : Known} {it : Specified} {t : Declares}
      → specifiers s elsewhere (entered known) ≡ Goes it k → declarator d it false (λ name known b. type_name_faults b) k ≡ Goes t j
      → IsPart (an_expression role (c.Cast s d operand)) known (an_expression as_value operand) j
  a_left : {role : Use} {op : Op} {left right : c.Expression} {known : Known} → IsPart (an_expression role (c.Binary op left right)) known (an_expression as_value left) (entered known)
  a_right : {role : Use} {op : Op} {left right : c.Expression} {known k : Known} {x : Typed}
      → expression left as_value (entered known) ≡ Goes x k → IsPart (an_expression role (c.Binary op left right)) known (an_expression as_value right) k
  a_first : {role : Use} {op : LogicalOp} {left right : c.Expression} {known : Known} → IsPart (an_expression role (c.Logical op left right)) known (an_expression as_truth left) (entered known)
  a_second : {role : Use} {op : LogicalOp} {left right : c.Expression} {known k : Known} {x : Typed}
      → expression left as_truth (entered known) ≡ Goes x k → IsPart (an_expression role (c.Logical op left right)) known (an_expression as_truth right) k
  a_test : {role : Use} {test left right : c.Expression} {known : Known} → IsPart (an_expression role (c.Conditional test left right)) known (an_expression as_truth test) (entered known)
  if_true : {role : Use} {test left right : c.Expression} {known k : Known} {p : Typed}
      → expression test as_truth (entered known) ≡ Goes p k → IsPart (an_expression role (c.Conditional test left right)) known (an_expression as_value left) k
  if_false : {role : Use} {test left right : c.Expression} {known k j : Known} {p x : Typed}
      → expression test as_truth (entered known) ≡ Goes p k → expression left as_value k ≡ Goes x j
      → IsPart (an_expression role (c.Conditional test left right)) known (an_expression as_value right) j
  a_target : {role : Use} {op : Option Op} {target value : c.Expression} {known : Known} → IsPart (an_expression role (c.Assign op target value)) known (an_expression as_place target) (entered known)
  an_assigned : {role : Use} {op : Option Op} {target value : c.Expression} {known k : Known} {x : Typed}
      → expression target as_place (entered known) ≡ Goes x k → IsPart (an_expression role (c.Assign op target value)) known (an_expression as_value value) k
  in_comma : {role : Use} {list : c.Expressions} {known : Known} → IsPart (an_expression role (c.Comma list)) known (expressions list) (entered known)
  behind_marks : {role : Use} {ms : c.Marks} {value : c.Expression} {known k : Known} {typed : Marks}
      → marks ms (entered known) ≡ Goes typed k → IsPart (an_expression role (c.Marked ms value)) known (an_expression (inside_mark role) value) k
  a_decision : {role : Use} {operand : c.Expression} {when_true when_false tag : List ℕ} {known : Known}
      → IsPart (an_expression role (c.Decide operand when_true when_false tag)) known (an_expression (inside_mark role) operand) (entered known)
  in_after : {role : Use} {operand : c.Expression} {id tag : List ℕ} {known : Known} → IsPart (an_expression role (c.After operand id tag)) known (an_expression (inside_after role) operand) (entered known)
  one_expression : {first : c.Expression} {rest : c.Expressions} {known : Known} → IsPart (expressions (c.an_expression first rest)) known (an_expression as_value first) known
  more_expressions : {first : c.Expression} {rest : c.Expressions} {known k : Known} {x : Typed}
      → expression first as_value known ≡ Goes x k → IsPart (expressions (c.an_expression first rest)) known (expressions rest) k
  -- initialisers
  start_value : {is_there : Bool} {t : CType} {e : c.Expression} {known : Known} → text_in e ≡ None → IsPart (a_start is_there t (c.Value e)) known (an_expression as_value e) (entered known)
  start_braces : {is_there : Bool} {t : CType} {list : c.Initialisers} {known : Known}
      → IsPart (a_start is_there t (c.Braces list)) known (initialisers is_there (filling_of (entered known) 0 t list) list) (entered known)
  a_value : {is_there : Bool} {filling : Filling} {e : c.Expression} {known : Known} → text_in e ≡ None → IsPart (an_initialiser is_there filling (c.Value e)) known (an_expression as_value e) (entered known)
  braces : {is_there : Bool} {filling : Filling} {list : c.Initialisers} {known : Known}
      → IsPart (an_initialiser is_there filling (c.Braces list)) known (initialisers is_there (filling_for (entered known) list filling.left) list) (entered known)
  one_initialiser : {is_there : Bool} {filling : Filling} {first : c.Initialiser} {rest : c.Initialisers} {known : Known}
      → IsPart (initialisers is_there filling (c.an_initialiser first rest)) known (an_initialiser is_there filling first) known
  more_initialisers : {is_there : Bool} {filling filled : Filling} {first : c.Initialiser} {rest : c.Initialisers} {known k : Known}
      → initialiser first is_there filling known ≡ Goes filled k → IsPart (initialisers is_there filling (c.an_initialiser first rest)) known (initialisers is_there filled rest) k
  -- declarations
  its_declarators : {effective : Option Storage → Option Storage} {d : c.Declaration} {it : Specified} {known k : Known}
      → specifiers d.specifiers (if has_no_declarator d.declarators then alone else elsewhere) known ≡ Goes it k
      → IsPart (a_declaration effective d) known (declarators (record it { storage = effective it.storage }) d.declarators) k
  its_start : {it : Specified} {d : c.Declarator} {i : c.Initialiser} {ds : List c.InitDeclarator} {declared : Declares} {name : List ℕ} {life : Life} {is_register : Bool} {n : ℕ} {known k j : Known}
      → declarator d it false (declaration_faults it.storage true) known ≡ Goes declared k → declared.name ≡ Some name → kind_of k it.storage declared.type ≡ an_object_of life is_register
      → declare_object life is_register declared.node name declared.type k ≡ Goes n j
      → IsPart (declarators it (record { declarator = d; initialiser = Some i } ∷ ds)) known (a_start (is_static life) (type_of_object j n) i) j
  more_declarators : {it : Specified} {d : c.InitDeclarator} {ds : List c.InitDeclarator} {locals : List Local} {known k : Known}
      → init_declarator it d known ≡ Goes locals k → IsPart (declarators it (d ∷ ds)) known (declarators it ds) k
  -- statements; each that chooses or repeats is a block, as each of its statements is
  in_compound : {around : Around} {list : c.Items} {known : Known} → IsPart (a_statement around (c.Compound list)) known (items around list) (in_new_block (entered known))
  evaluated : {around : Around} {e : c.Expression} {known : Known} → IsPart (a_statement around (c.Evaluates e)) known (an_expression as_value e) (entered known)
  if_test : {around : Around} {test : c.Expression} {body : c.Statement} {known : Known} → IsPart (a_statement around (c.If test body)) known (an_expression as_truth test) (in_new_block (entered known))
  if_body : {around : Around} {test : c.Expression} {body : c.Statement} {known k : Known} {x : Typed}
      → expression test as_truth (in_new_block (entered known)) ≡ Goes x k → IsPart (a_statement around (c.If test body)) known (a_statement around body) (in_new_block k)
  if_else_test : {around : Around} {test : c.Expression} {body other : c.Statement} {known : Known}
      → IsPart (a_statement around (c.IfElse test body other)) known (an_expression as_truth test) (in_new_block (entered known))
  if_else_body : {around : Around} {test : c.Expression} {body other : c.Statement} {known k : Known} {x : Typed}
      → expression test as_truth (in_new_block (entered known)) ≡ Goes x k → IsPart (a_statement around (c.IfElse test body other)) known (a_statement around body) (in_new_block k)
  else_body : {around : Around} {test : c.Expression} {body other : c.Statement} {known k j : Known} {x : Typed} {s : Statement}
      → expression test as_truth (in_new_block (entered known)) ≡ Goes x k → in_block (statement body around) k ≡ Goes s j
      → IsPart (a_statement around (c.IfElse test body other)) known (a_statement around other) (in_new_block j)
  while_test : {around : Around} {test : c.Expression} {body : c.Statement} {known : Known} → IsPart (a_statement around (c.While test body)) known (an_expression as_truth test) (in_new_block (entered known))
  while_body : {around : Around} {test : c.Expression} {body : c.Statement} {known k : Known} {x : Typed}
      → expression test as_truth (in_new_block (entered known)) ≡ Goes x k → IsPart (a_statement around (c.While test body)) known (a_statement (in_a_loop around) body) (in_new_block k)
  do_body : {around : Around} {body : c.Statement} {test : c.Expression} {known : Known}
      → IsPart (a_statement around (c.Do body test)) known (a_statement (in_a_loop around) body) (in_new_block (in_new_block (entered known)))
  do_test : {around : Around} {body : c.Statement} {test : c.Expression} {known k : Known} {s : Statement}
      → in_block (statement body (in_a_loop around)) (in_new_block (entered known)) ≡ Goes s k → IsPart (a_statement around (c.Do body test)) known (an_expression as_truth test) k
  for_first : {around : Around} {e : c.Expression} {test step : Option c.Expression} {body : c.Statement} {known : Known}
      → IsPart (a_statement around (c.For (c.First e) test step body)) known (an_expression as_value e) (in_new_block (entered known))
  for_declares : {around : Around} {d : c.Declaration} {test step : Option c.Expression} {body : c.Statement} {known : Known}
      → IsPart (a_statement around (c.For (c.Declares d) test step body)) known (a_declaration effective_in_for d) (in_new_block (entered known))
  for_test : {around : Around} {begin : c.ForStart} {test : c.Expression} {step : Option c.Expression} {body : c.Statement} {known k : Known} {b : TypedStart}
      → for_start begin (in_new_block (entered known)) ≡ Goes b k → IsPart (a_statement around (c.For begin (Some test) step body)) known (an_expression as_truth test) k
  for_step : {around : Around} {begin : c.ForStart} {test : Option c.Expression} {step : c.Expression} {body : c.Statement} {known k j : Known} {b : TypedStart} {x : Option Typed}
      → for_start begin (in_new_block (entered known)) ≡ Goes b k → optional_test test k ≡ Goes x j
      → IsPart (a_statement around (c.For begin test (Some step) body)) known (an_expression as_value step) j
  for_body : {around : Around} {begin : c.ForStart} {test step : Option c.Expression} {body : c.Statement} {known k j i : Known} {b : TypedStart} {x y : Option Typed}
      → for_start begin (in_new_block (entered known)) ≡ Goes b k → optional_test test k ≡ Goes x j → optional_expression step j ≡ Goes y i
      → IsPart (a_statement around (c.For begin test step body)) known (a_statement (in_a_loop around) body) (in_new_block i)
  switch_operand : {around : Around} {operand : c.Expression} {list : c.Cases} {known : Known}
      → IsPart (a_statement around (c.Switch operand list)) known (an_expression as_truth operand) (in_new_block (entered known))
  switch_cases : {around : Around} {operand : c.Expression} {list : c.Cases} {known k : Known} {x : Typed} → expression operand as_truth (in_new_block (entered known)) ≡ Goes x k
      → IsPart (a_statement around (c.Switch operand list)) known (cases (switch_type k.model x) (record { values = []; has_default = false }) (in_a_switch around) list) k
  returned : {around : Around} {e : c.Expression} {known : Known} → IsPart (a_statement around (c.Return (Some e))) known (an_expression as_value e) (entered known)
  -- items and cases
  an_item_declares : {around : Around} {first : c.Declaration} {rest : c.Items} {known : Known} → IsPart (items around (c.a_declaration first rest)) known (a_declaration (λ class. class) first) (entered known)
  behind_declaration : {around : Around} {first : c.Declaration} {rest : c.Items} {known k : Known} {it : DeclaredLocals}
      → declaration first (entered known) ≡ Goes it k → IsPart (items around (c.a_declaration first rest)) known (items around rest) k
  an_item : {around : Around} {first : c.Statement} {rest : c.Items} {known : Known} → IsPart (items around (c.a_statement first rest)) known (a_statement around first) (entered known)
  behind_statement : {around : Around} {first : c.Statement} {rest : c.Items} {known k : Known} {s : Statement}
      → statement first around (entered known) ≡ Goes s k → IsPart (items around (c.a_statement first rest)) known (items around rest) k
  behind_label : {around : Around} {first : c.Mark} {rest : c.Items} {known k : Known} {m : Mark}
      → mark first (entered known) ≡ Goes m k → IsPart (items around (c.a_label first rest)) known (items around rest) k
  one_case : {type : Option Scalar} {seen : Seen} {around : Around} {list : List c.Label} {first : c.Statement} {rest : c.Cases} {known k : Known} {it : Labelled}
      → labels list type seen known ≡ Goes it k → IsPart (cases type seen around (c.a_case list first rest)) known (a_statement around first) (in_new_block k)
  more_cases : {type : Option Scalar} {seen : Seen} {around : Around} {list : List c.Label} {first : c.Statement} {rest : c.Cases} {known k j : Known} {it : Labelled} {s : Statement}
      → labels list type seen known ≡ Goes it k → in_block (statement first around) k ≡ Goes s j
      → IsPart (cases type seen around (c.a_case list first rest)) known (cases type it.seen around rest) j
  -- externals
  a_body : {s : c.Specifiers} {d : c.Declarator} {body : c.Items} {it : Specified} {declared : Declares} {known k j : Known}
      → specifiers s elsewhere (entered known) ≡ Goes it k → declarator d it true (definition_faults it.storage) k ≡ Goes declared j
      → IsPart (an_external (c.Defines s d body)) known (items (around_body declared.type) body) (in_body declared j)
  declared : {d : c.Declaration} {known : Known} → IsPart (an_external (c.Declared d)) known (a_declaration (λ class. class) d) (entered known)
  one_external : {x : c.External} {xs : List c.External} {known : Known} → IsPart (externals (x ∷ xs)) known (an_external x) known
  more_externals : {x : c.External} {xs : List c.External} {known k : Known} {u : Unit {0}} → external x known ≡ Goes u k → IsPart (externals (x ∷ xs)) known (externals xs) k

-- The typing of a unit comes to a piece of it, and this is known there.
pub data IsReached (greatest : ℕ) (model : DataModel) (unit : c.Unit) : Piece → Known → Type 0 where
  the_unit : IsReached greatest model unit (externals unit) (starting greatest model (filter_map defined_in unit))
  a_part : {whole part : Piece} {known k : Known} → IsReached greatest model unit whole known → IsPart whole known part k → IsReached greatest model unit part k

-- ---- labels in front of expressions

-- Typing comes from the first of these marks, where this is known, to one of them, where that is, and goes on over it.
pub data ComesToMark : c.Marks → Known → c.Mark → Known → Type 0 where
  first_mark : {m : c.Mark} {rest : c.Marks} {typed : Mark} {known behind : Known} → mark m known ≡ Goes typed behind → ComesToMark (c.a_mark m rest) known m known
  later_mark : {first m : c.Mark} {rest : c.Marks} {typed : Mark} {known next there : Known}
      → mark first known ≡ Goes typed next → ComesToMark rest next m there → ComesToMark (c.a_mark first rest) known m there

-- A label stands in front of an expression of the unit, and the typing of the unit comes to it where this is known.
pub record IsLabelAt (greatest : ℕ) (model : DataModel) (unit : c.Unit) (label : c.Mark) (there : Known) : Type 0 where
  pub role : Use
  pub marks_there : c.Marks
  pub it : c.Expression
  pub known : Known
  pub reached : IsReached greatest model unit (an_expression role (c.Marked marks_there it)) known
  pub comes : ComesToMark marks_there (entered known) label there
