-- Expressions whose marks hide nothing from operators, as their text shows.
use Rattle.std.specs.Prelude.{◌≡◌, Bool, true, false, List}
use Rattle.lt_tree.specs.declared.expression.UnaryOp.{UnaryOp}
use Rattle.lt_tree.specs.declared.expression.UnaryOp.TheVariants as unary
use Rattle.lt_tree.specs.Tree as c
use Rattle.lt_tree.specs.Typing.Entities.{Frame}
use Rattle.lt_objectives.specs.Copies.{is_core, is_marked_cast}
use Rattle.lt_erased_typing.specs.Erasable.{AreKnown}

-- `&` has no operand behind marks
abbrev pub MayTake : UnaryOp → c.Expression → Type 0
MayTake unary.AddressOf operand = is_core operand ≡ true
MayTake op operand = Unit {0}

abbrev mutual
  -- An expression where these names and tags are in scope: it has no assignment, `++`, `--` or call, and no string literal and no parameter in a type name,
  -- unless these are allowed, declares no struct or enum, has no marks around the operands of `.`, `&` and `sizeof`, and none around a cast that is an
  -- operand of `?:`. So it is in predicates of marks. No tag is declared among parameters, so the same are in scope there.
  pub IsPlainWith : (texts : Bool) → List Frame → c.Expression → Type 0
  IsPlainWith texts frames (c.Name name) = Unit {0}
  IsPlainWith texts frames (c.Constant text) = Unit {0}
  IsPlainWith texts frames (c.Text bytes) = texts ≡ true
  IsPlainWith texts frames (c.Index whole index) = IsPlainWith texts frames whole × IsPlainWith texts frames index
  IsPlainWith texts frames (c.Member whole name) = is_core whole ≡ true × IsPlainWith texts frames whole
  IsPlainWith texts frames (c.Arrow pointer name) = IsPlainWith texts frames pointer
  IsPlainWith texts frames (c.Unary op operand) = MayTake op operand × IsPlainWith texts frames operand
  IsPlainWith texts frames (c.SizeofExpr operand) = is_core operand ≡ true × IsPlainWith texts frames operand
  IsPlainWith texts frames (c.SizeofType s d) = AreKnown frames s × IsPlainDeclarator texts frames d
  IsPlainWith texts frames (c.Cast s d operand) = AreKnown frames s × IsPlainDeclarator texts frames d × IsPlainWith texts frames operand
  IsPlainWith texts frames (c.Binary op left right) = IsPlainWith texts frames left × IsPlainWith texts frames right
  IsPlainWith texts frames (c.Logical op left right) = IsPlainWith texts frames left × IsPlainWith texts frames right
  IsPlainWith texts frames (c.Conditional test left right) =
      IsPlainWith texts frames test × is_marked_cast left ≡ false × IsPlainWith texts frames left × is_marked_cast right ≡ false × IsPlainWith texts frames right
  -- of two parts or more
  IsPlainWith texts frames (c.Comma (c.an_expression first (c.an_expression second rest))) =
      ArePlain texts frames (c.an_expression first (c.an_expression second rest))
  IsPlainWith texts frames (c.Marked marks value) = ArePlainMarks texts frames marks × IsPlainWith texts frames value
  IsPlainWith texts frames (c.Decide operand when_true when_false tag) = IsPlainWith texts frames operand
  IsPlainWith texts frames (c.After operand id tag) = IsPlainWith texts frames operand
  IsPlainWith texts frames _ = ⊥

  pub ArePlain : (texts : Bool) → List Frame → c.Expressions → Type 0
  ArePlain texts frames c.no_expressions = Unit {0}
  ArePlain texts frames (c.an_expression first rest) = IsPlainWith texts frames first × ArePlain texts frames rest

  pub ArePlainMarks : (texts : Bool) → List Frame → c.Marks → Type 0
  ArePlainMarks texts frames c.no_marks = Unit {0}
  ArePlainMarks texts frames (c.a_mark first rest) = IsPlainMark texts frames first × ArePlainMarks texts frames rest

  pub IsPlainMark : (texts : Bool) → List Frame → c.Mark → Type 0
  IsPlainMark texts frames (c.mark predicate id tag bound) = IsPlainWith texts frames predicate × ArePlainBindings texts frames bound

  pub ArePlainBindings : (texts : Bool) → List Frame → c.Bindings → Type 0
  ArePlainBindings texts frames c.no_bindings = Unit {0}
  ArePlainBindings texts frames (c.a_binding name value rest) = IsPlainWith texts frames value × ArePlainBindings texts frames rest

  pub IsPlainDeclarator : (texts : Bool) → List Frame → c.Declarator → Type 0
  IsPlainDeclarator texts frames (c.declarator name parts) = ArePlainParts texts frames parts

  pub ArePlainParts : (texts : Bool) → List Frame → c.Parts → Type 0
  ArePlainParts texts frames c.no_parts = Unit {0}
  ArePlainParts texts frames (c.Pointer qualifiers rest) = ArePlainParts texts frames rest
  ArePlainParts texts frames (c.Array c.absent rest) = ArePlainParts texts frames rest
  ArePlainParts texts frames (c.Array (c.present length) rest) = IsPlainWith texts frames length × ArePlainParts texts frames rest
  ArePlainParts texts frames (c.Function them rest) = (texts ≡ true) × ArePlainParameters texts frames them × ArePlainParts texts frames rest

  pub ArePlainParameters : (texts : Bool) → List Frame → c.Parameters → Type 0
  ArePlainParameters texts frames c.Unstated = Unit {0}
  ArePlainParameters texts frames c.Void = Unit {0}
  ArePlainParameters texts frames (c.Listed list) = IsPlainList texts frames list
  ArePlainParameters texts frames (c.Open list) = IsPlainList texts frames list

  pub IsPlainList : (texts : Bool) → List Frame → c.ParameterList → Type 0
  IsPlainList texts frames c.no_parameters = Unit {0}
  IsPlainList texts frames (c.a_parameter s d rest) = AreKnown frames s × IsPlainDeclarator texts frames d × IsPlainList texts frames rest
