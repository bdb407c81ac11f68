-- Simple expressions without marks are plain.
use Rattle.std.proofs.Common.{◌≡◌, List, true, false, refl, Bool}
use Rattle.std.proofs.lemmas.Bool.{false≢true, and_parts}
use Rattle.std.specs.Prelude.{◌&&◌}
use Rattle.lt_tree.specs.declared.expression.UnaryOp.{UnaryOp}
use Rattle.lt_tree.specs.declared.expression.UnaryOp.TheVariants as unary
use Rattle.lt_tree.specs.Tree as c
use Rattle.lt_tree.specs.Purity.{is_pure, are_pure, is_pure_specifiers, is_pure_declarator, are_pure_parts, are_pure_parameters, is_pure_parameter_list}
use Rattle.lt_tree.specs.Typing.Entities.{Frame}
use Rattle.lt_objectives.specs.Copies.{is_core, is_marked_cast}
use Rattle.lt_erased_typing.specs.Plain.{IsPlainWith, ArePlain, IsPlainDeclarator, ArePlainParts, ArePlainParameters, IsPlainList, MayTake}
use Rattle.lt_erased_typing.specs.Simple.{IsSimpleWith, AreSimple, IsSimpleDeclarator, AreSimpleParts, AreSimpleParameters, IsSimpleList}

pub core_no_marked_cast : (it : c.Expression) → is_core it ≡ true → is_marked_cast it ≡ false
core_no_marked_cast (c.Marked marks value) h = absurd (false≢true h)
core_no_marked_cast (c.After operand id tag) h = absurd (false≢true h)
core_no_marked_cast _ h = refl

may_take_core : (op : UnaryOp) (operand : c.Expression) → is_core operand ≡ true → MayTake op operand
may_take_core unary.AddressOf operand h = h
may_take_core _ operand h = tt

pure_core : (it : c.Expression) → is_pure it ≡ true → is_core it ≡ true
pure_core (c.Marked marks value) p = absurd (false≢true p)
pure_core (c.Decide operand when_true when_false tag) p = absurd (false≢true p)
pure_core (c.After operand id tag) p = absurd (false≢true p)
pure_core _ p = refl

mutual
  pub plain_of_pure : (texts : Bool) (frames : List Frame) (it : c.Expression) → is_pure it ≡ true → IsSimpleWith texts frames it → IsPlainWith texts frames it
  plain_of_pure texts frames (c.Name name) p h = tt
  plain_of_pure texts frames (c.Constant text) p h = tt
  plain_of_pure texts frames (c.Text bytes) p h = h
  plain_of_pure texts frames (c.Index whole index) p h = (plain_of_pure texts frames whole (and_parts (is_pure whole) (is_pure index) p).0 h.0, plain_of_pure texts frames index (and_parts (is_pure whole) (is_pure index) p).1 h.1)
  plain_of_pure texts frames (c.Call callee arguments) p h = absurd (false≢true p)
  plain_of_pure texts frames (c.Member whole name) p h = (pure_core whole p, plain_of_pure texts frames whole p h)
  plain_of_pure texts frames (c.Arrow pointer name) p h = plain_of_pure texts frames pointer p h
  plain_of_pure texts frames (c.PostInc target) p h = absurd (false≢true p)
  plain_of_pure texts frames (c.PostDec target) p h = absurd (false≢true p)
  plain_of_pure texts frames (c.PreInc target) p h = absurd (false≢true p)
  plain_of_pure texts frames (c.PreDec target) p h = absurd (false≢true p)
  plain_of_pure texts frames (c.Unary op operand) p h = (may_take_core op operand (pure_core operand p), plain_of_pure texts frames operand p h)
  plain_of_pure texts frames (c.SizeofExpr operand) p h = (pure_core operand p, plain_of_pure texts frames operand p h)
  plain_of_pure texts frames (c.SizeofType s d) p h = (h.0, plain_declarator texts frames d (and_parts (is_pure_specifiers s) (is_pure_declarator d) p).1 h.1)
  plain_of_pure texts frames (c.Cast s d operand) p h =
      let types = (and_parts (is_pure_specifiers s && is_pure_declarator d) (is_pure operand) p).0 in (
        h.0,
        plain_declarator texts frames d (and_parts (is_pure_specifiers s) (is_pure_declarator d) types).1 h.1,
        plain_of_pure texts frames operand (and_parts (is_pure_specifiers s && is_pure_declarator d) (is_pure operand) p).1 h.2,
      )
  plain_of_pure texts frames (c.Binary op left right) p h = (plain_of_pure texts frames left (and_parts (is_pure left) (is_pure right) p).0 h.0, plain_of_pure texts frames right (and_parts (is_pure left) (is_pure right) p).1 h.1)
  plain_of_pure texts frames (c.Logical op left right) p h = (plain_of_pure texts frames left (and_parts (is_pure left) (is_pure right) p).0 h.0, plain_of_pure texts frames right (and_parts (is_pure left) (is_pure right) p).1 h.1)
  plain_of_pure texts frames (c.Conditional test left right) p h =
      let front = (and_parts (is_pure test && is_pure left) (is_pure right) p).0 in
      let second = (and_parts (is_pure test) (is_pure left) front).1 in
      let third = (and_parts (is_pure test && is_pure left) (is_pure right) p).1 in (
        plain_of_pure texts frames test (and_parts (is_pure test) (is_pure left) front).0 h.0,
        core_no_marked_cast left (pure_core left second),
        plain_of_pure texts frames left second h.1,
        core_no_marked_cast right (pure_core right third),
        plain_of_pure texts frames right third h.2,
      )
  plain_of_pure texts frames (c.Assign op target value) p h = absurd (false≢true p)
  plain_of_pure texts frames (c.Comma c.no_expressions) p h = absurd h
  plain_of_pure texts frames (c.Comma (c.an_expression first c.no_expressions)) p h = absurd h
  plain_of_pure texts frames (c.Comma (c.an_expression first (c.an_expression second rest))) p h = plain_each texts frames (c.an_expression first (c.an_expression second rest)) p h
  plain_of_pure texts frames (c.Marked marks value) p h = absurd (false≢true p)
  plain_of_pure texts frames (c.Decide operand when_true when_false tag) p h = absurd (false≢true p)
  plain_of_pure texts frames (c.After operand id tag) p h = absurd (false≢true p)

  plain_each : (texts : Bool) (frames : List Frame) (them : c.Expressions) → are_pure them ≡ true → AreSimple texts frames them → ArePlain texts frames them
  plain_each texts frames c.no_expressions p h = tt
  plain_each texts frames (c.an_expression first rest) p h = (plain_of_pure texts frames first (and_parts (is_pure first) (are_pure rest) p).0 h.0, plain_each texts frames rest (and_parts (is_pure first) (are_pure rest) p).1 h.1)

  plain_parts : (texts : Bool) (frames : List Frame) (them : c.Parts) → are_pure_parts them ≡ true → AreSimpleParts texts frames them
      → ArePlainParts texts frames them
  plain_parts texts frames c.no_parts p h = tt
  plain_parts texts frames (c.Pointer qualifiers rest) p h = plain_parts texts frames rest p h
  plain_parts texts frames (c.Array c.absent rest) p h = plain_parts texts frames rest p h
  plain_parts texts frames (c.Array (c.present length) rest) p h = (
    plain_of_pure texts frames length (and_parts (is_pure length) (are_pure_parts rest) p).0 h.0,
    plain_parts texts frames rest (and_parts (is_pure length) (are_pure_parts rest) p).1 h.1,
  )
  plain_parts texts frames (c.Function them rest) p h =
      (h.0, plain_parameters texts frames them (and_parts (are_pure_parameters them) (are_pure_parts rest) p).0 h.1, plain_parts texts frames rest (and_parts (are_pure_parameters them) (are_pure_parts rest) p).1 h.2)

  plain_parameters : (texts : Bool) (frames : List Frame) (them : c.Parameters) → are_pure_parameters them ≡ true → AreSimpleParameters texts frames them
      → ArePlainParameters texts frames them
  plain_parameters texts frames c.Unstated p h = tt
  plain_parameters texts frames c.Void p h = tt
  plain_parameters texts frames (c.Listed list) p h = plain_list texts frames list p h
  plain_parameters texts frames (c.Open list) p h = plain_list texts frames list p h

  plain_list : (texts : Bool) (frames : List Frame) (them : c.ParameterList) → is_pure_parameter_list them ≡ true → IsSimpleList texts frames them
      → IsPlainList texts frames them
  plain_list texts frames c.no_parameters p h = tt
  plain_list texts frames (c.a_parameter s d rest) p h = (
    h.0,
    plain_declarator texts frames d
        (and_parts (is_pure_specifiers s) (is_pure_declarator d) (and_parts (is_pure_specifiers s && is_pure_declarator d) (is_pure_parameter_list rest) p).0).1 h.1,
    plain_list texts frames rest (and_parts (is_pure_specifiers s && is_pure_declarator d) (is_pure_parameter_list rest) p).1 h.2,
  )

  plain_declarator : (texts : Bool) (frames : List Frame) (d : c.Declarator) → is_pure_declarator d ≡ true → IsSimpleDeclarator texts frames d
      → IsPlainDeclarator texts frames d
  plain_declarator texts frames (c.declarator name parts) p h = plain_parts texts frames parts p h
