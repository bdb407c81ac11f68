-- Small programs, of which some refer to what isn't there.
use Rattle.std.specs.Prelude.{ℕ, pos, false, List, [], ◌∷◌, codes, Some, None}
use Rattle.lt_model.specs.declared.scalar.DataModel.TheVariants.{Lp64}
use Rattle.lt_model.specs.declared.scalar.Scalar.TheVariants as S
use Rattle.lt_tree.specs.Typing.Types.{CType, Num, Struct, Function as FunctionType, no_types, a_type}
use Rattle.lt_tree.specs.Typing.TypedTree as e
use Rattle.lt_tree.specs.Typing.TypedTree.{Value, Items}
use Rattle.lt_tree.specs.Typing.Entities.{linked, automatic, no_names}
use Rattle.lt_tree.specs.Typing.Programs.{Program}
use Rattle.lt_tree.specs.Typing.Ranges.{IsInRange}

abbrev pub int : CType
int = Num S.Int

abbrev pub number : ℕ → Value
number n = e.Constant int (pos n)

-- `int x; int f(int);`, and `int g(void)` with these parameters and this body, which has an object `y`, a label 7, and a label 8 that binds `n`
abbrev pub with_body : List ℕ → Items → Program
with_body parameters body = record {
  unit = [];
  model = Lp64;
  structs = [];
  objects =
      record { node = 0; name = codes "x"; type = int; life = linked; start = None } ∷ record { node = 1; name = codes "y"; type = int; life = automatic; start = None } ∷ [];
  declared =
      record { name = codes "f"; type = FunctionType int (a_type int no_types) false } ∷ record { name = codes "g"; type = FunctionType int no_types false } ∷ [];
  functions = record { node = 0; name = codes "g"; type = FunctionType int no_types false; parameters = parameters; body = body } ∷ [];
  file = no_names;
  types = [];
  labels = record { id = 7; tag = codes "a"; bound = [] } ∷ record { id = 8; tag = codes "b"; bound = codes "n" ∷ [] } ∷ [];
  facts = [];
}

-- it returns this
abbrev pub returning : Value → Program
returning v = with_body [] (e.a_statement (e.Return (Some v)) e.no_items)

-- it begins this object
abbrev pub beginning : ℕ → Program
beginning n = with_body [] (e.a_local (record { object = n; start = None }) e.no_items)

-- a mark of this id that binds `n`
abbrev pub binding : ℕ → Program
binding id = with_body [] (e.a_label (e.mark (number 1) id (e.a_binding (codes "n") (number 0) e.no_bindings)) e.no_items)

-- the object of this number
abbrev pub object : ℕ → Value
object n = e.Load int (e.Object int n)

abbrev pub one_argument : Value
one_argument = e.Call int (codes "f") (e.a_value (object 0) e.no_values)

abbrev pub no_argument : Value
no_argument = e.Call int (codes "f") e.no_values

abbrev pub not_declared : Value
not_declared = e.Call int (codes "h") e.no_values

-- a mark of this id that binds nothing
abbrev pub marked : ℕ → Value
marked id = e.After int (object 0) id

-- `f` takes one argument, `y` is the only local object, there is no parameter, no third object, no struct and no other function or label, and a
-- mark binds what its label does.
abbrev pub SamplesAreJudged : Type 0
SamplesAreJudged =
    (IsInRange (returning one_argument) × IsInRange (returning (marked 7)) × IsInRange (beginning 1) × IsInRange (binding 8))
    × (¬ IsInRange (returning (object 2)) × ¬ IsInRange (returning no_argument) × ¬ IsInRange (returning not_declared) × ¬ IsInRange (returning (marked 9))
    × ¬ IsInRange (returning (marked 8)) × ¬ IsInRange (returning (e.Constant (Struct 0) (pos 0))) × ¬ IsInRange (beginning 0) × ¬ IsInRange (with_body (1 ∷ []) e.no_items))
