-- What is asked of the text of an expression that predicates copy, wherever its marks stand.
use Rattle.std.specs.Prelude.{◌≡◌, Bool, true, List}
use Rattle.lt_tree.specs.Tree as c
use Rattle.lt_tree.specs.Typing.Entities.{Frame}
use Rattle.lt_erased_typing.specs.Erasable.{AreKnown}

abbrev mutual
  -- An expression where these names and tags are in scope: it has no string literal and no parameter in a type name, unless these are allowed, its type
  -- names declare no struct or enum, its comma expressions have two parts or more, and behind labels stands one label or more. So it is in predicates of
  -- marks, and in the integers that they bind. Nothing is asked of what is never copied.
  pub IsSimpleWith : (texts : Bool) → List Frame → c.Expression → Type 0
  IsSimpleWith texts frames (c.Text bytes) = texts ≡ true
  IsSimpleWith texts frames (c.Index whole index) = IsSimpleWith texts frames whole × IsSimpleWith texts frames index
  IsSimpleWith texts frames (c.Member whole name) = IsSimpleWith texts frames whole
  IsSimpleWith texts frames (c.Arrow pointer name) = IsSimpleWith texts frames pointer
  IsSimpleWith texts frames (c.Unary op operand) = IsSimpleWith texts frames operand
  IsSimpleWith texts frames (c.SizeofExpr operand) = IsSimpleWith texts frames operand
  IsSimpleWith texts frames (c.SizeofType s d) = AreKnown frames s × IsSimpleDeclarator texts frames d
  IsSimpleWith texts frames (c.Cast s d operand) = AreKnown frames s × IsSimpleDeclarator texts frames d × IsSimpleWith texts frames operand
  IsSimpleWith texts frames (c.Binary op left right) = IsSimpleWith texts frames left × IsSimpleWith texts frames right
  IsSimpleWith texts frames (c.Logical op left right) = IsSimpleWith texts frames left × IsSimpleWith texts frames right
  IsSimpleWith texts frames (c.Conditional test left right) = IsSimpleWith texts frames test × IsSimpleWith texts frames left × IsSimpleWith texts frames right
  IsSimpleWith texts frames (c.Comma c.no_expressions) = ⊥
  IsSimpleWith texts frames (c.Comma (c.an_expression first c.no_expressions)) = ⊥
  IsSimpleWith texts frames (c.Comma (c.an_expression first (c.an_expression second rest))) =
      AreSimple texts frames (c.an_expression first (c.an_expression second rest))
  IsSimpleWith texts frames (c.Marked c.no_marks value) = ⊥
  IsSimpleWith texts frames (c.Marked (c.a_mark first rest) value) = AreSimpleMarks texts frames (c.a_mark first rest) × IsSimpleWith texts frames value
  IsSimpleWith texts frames (c.Decide operand when_true when_false tag) = IsSimpleWith texts frames operand
  IsSimpleWith texts frames (c.After operand id tag) = IsSimpleWith texts frames operand
  IsSimpleWith texts frames _ = Unit {0}

  pub AreSimple : (texts : Bool) → List Frame → c.Expressions → Type 0
  AreSimple texts frames c.no_expressions = Unit {0}
  AreSimple texts frames (c.an_expression first rest) = IsSimpleWith texts frames first × AreSimple texts frames rest

  pub AreSimpleMarks : (texts : Bool) → List Frame → c.Marks → Type 0
  AreSimpleMarks texts frames c.no_marks = Unit {0}
  AreSimpleMarks texts frames (c.a_mark first rest) = IsSimpleMark texts frames first × AreSimpleMarks texts frames rest

  pub IsSimpleMark : (texts : Bool) → List Frame → c.Mark → Type 0
  IsSimpleMark texts frames (c.mark predicate id tag bound) = IsSimpleWith texts frames predicate × AreSimpleBindings texts frames bound

  pub AreSimpleBindings : (texts : Bool) → List Frame → c.Bindings → Type 0
  AreSimpleBindings texts frames c.no_bindings = Unit {0}
  AreSimpleBindings texts frames (c.a_binding name value rest) = IsSimpleWith texts frames value × AreSimpleBindings texts frames rest

  pub IsSimpleDeclarator : (texts : Bool) → List Frame → c.Declarator → Type 0
  IsSimpleDeclarator texts frames (c.declarator name parts) = AreSimpleParts texts frames parts

  pub AreSimpleParts : (texts : Bool) → List Frame → c.Parts → Type 0
  AreSimpleParts texts frames c.no_parts = Unit {0}
  AreSimpleParts texts frames (c.Pointer qualifiers rest) = AreSimpleParts texts frames rest
  AreSimpleParts texts frames (c.Array c.absent rest) = AreSimpleParts texts frames rest
  AreSimpleParts texts frames (c.Array (c.present length) rest) = IsSimpleWith texts frames length × AreSimpleParts texts frames rest
  AreSimpleParts texts frames (c.Function them rest) = (texts ≡ true) × AreSimpleParameters texts frames them × AreSimpleParts texts frames rest

  pub AreSimpleParameters : (texts : Bool) → List Frame → c.Parameters → Type 0
  AreSimpleParameters texts frames c.Unstated = Unit {0}
  AreSimpleParameters texts frames c.Void = Unit {0}
  AreSimpleParameters texts frames (c.Listed list) = IsSimpleList texts frames list
  AreSimpleParameters texts frames (c.Open list) = IsSimpleList texts frames list

  pub IsSimpleList : (texts : Bool) → List Frame → c.ParameterList → Type 0
  IsSimpleList texts frames c.no_parameters = Unit {0}
  IsSimpleList texts frames (c.a_parameter s d rest) = AreKnown frames s × IsSimpleDeclarator texts frames d × IsSimpleList texts frames rest
