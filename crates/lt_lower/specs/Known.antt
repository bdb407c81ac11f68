-- That what the statements of a function name is known: labels, called functions, and the objects that they begin.
use Rattle.std.specs.Prelude.{List, [], ◌∷◌, Option, Some, None}
use Rattle.lt_tree.specs.Typing.TypedTree as e
use Rattle.lt_tree.specs.Typing.TypedTree.{Value, Statement, Items, Cases, Local, StartPart}
use Rattle.lt_meaning.specs.Statements.{parts_in}
use Rattle.lt_emit.specs.Emission.{Here}
use Rattle.lt_emit.specs.Known.{IsKnown, IsMarked, IsOwn}

-- ---- objects

abbrev pub IsKnownPart : Here → StartPart → Type 0
IsKnownPart here (e.stored offset v) = IsKnown here v
IsKnownPart here (e.fixed offset t c) = Unit {0}
IsKnownPart here (e.letters offset t bytes) = Unit {0}

abbrev pub AreKnownParts : Here → List StartPart → Type 0
AreKnownParts here [] = Unit {0}
AreKnownParts here (part ∷ parts) = IsKnownPart here part × AreKnownParts here parts

abbrev pub IsKnownLocal : Here → Local → Type 0
IsKnownLocal here it = IsOwn here it.object × AreKnownParts here (parts_in it.start)

abbrev pub AreKnownLocals : Here → List Local → Type 0
AreKnownLocals here [] = Unit {0}
AreKnownLocals here (it ∷ its) = IsKnownLocal here it × AreKnownLocals here its

-- ---- statements

abbrev pub IsKnownIfThere : Here → Option Value → Type 0
IsKnownIfThere here None = Unit {0}
IsKnownIfThere here (Some v) = IsKnown here v

abbrev mutual
  pub IsKnownStatement : Here → Statement → Type 0
  IsKnownStatement here (e.Compound its) = AreKnownItems here its
  IsKnownStatement here (e.Evaluates v) = IsKnown here v
  IsKnownStatement here e.Null = Unit {0}
  IsKnownStatement here (e.If v body) = IsKnown here v × IsKnownStatement here body
  IsKnownStatement here (e.IfElse v body other) =
      IsKnown here v × IsKnownStatement here body × IsKnownStatement here other
  IsKnownStatement here (e.While v body) = IsKnown here v × IsKnownStatement here body
  IsKnownStatement here (e.Do body v) = IsKnownStatement here body × IsKnown here v
  IsKnownStatement here (e.For e.Nothing test step body) =
      IsKnownIfThere here test × IsKnownIfThere here step × IsKnownStatement here body
  IsKnownStatement here (e.For (e.First v) test step body) =
      IsKnown here v × IsKnownIfThere here test × IsKnownIfThere here step × IsKnownStatement here body
  IsKnownStatement here (e.For (e.Locals its) test step body) =
      AreKnownLocals here its × IsKnownIfThere here test × IsKnownIfThere here step × IsKnownStatement here body
  IsKnownStatement here (e.Switch v its) = IsKnown here v × AreKnownCases here its
  IsKnownStatement here e.Break = Unit {0}
  IsKnownStatement here e.Continue = Unit {0}
  IsKnownStatement here (e.Return v) = IsKnownIfThere here v

  pub AreKnownItems : Here → Items → Type 0
  AreKnownItems here e.no_items = Unit {0}
  AreKnownItems here (e.a_local it rest) = IsKnownLocal here it × AreKnownItems here rest
  AreKnownItems here (e.a_statement first rest) = IsKnownStatement here first × AreKnownItems here rest
  AreKnownItems here (e.a_label label rest) = IsMarked here label × AreKnownItems here rest

  pub AreKnownCases : Here → Cases → Type 0
  AreKnownCases here e.no_cases = Unit {0}
  AreKnownCases here (e.a_case labels first rest) = IsKnownStatement here first × AreKnownCases here rest
