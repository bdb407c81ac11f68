-- The pure expressions of predicates and bound expressions. A typed expression that isn't pure has none, and so its
-- mark isn't true.
use Rattle.std.specs.Prelude.{◌≡◌, ℕ, pos, List, [], ◌∷◌, Bool, true, false, None, if◌then◌else◌}
use Rattle.lt_model.specs.declared.cell.Content.TheVariants as content
use Rattle.lt_model.specs.declared.operator.Op.{Op}
use Rattle.lt_model.specs.declared.operator.Op.TheVariants as O
use Rattle.lt_tree.specs.declared.expression.LogicalOp.{LogicalOp}
use Rattle.lt_tree.specs.declared.expression.LogicalOp.TheVariants as logical
use Rattle.lt_tree.specs.Typing.Types.{CType}
use Rattle.lt_tree.specs.Typing.TypedTree as e
use Rattle.lt_tree.specs.Typing.TypedTree.{Value, Values, Place, Bindings, Side, on_left, on_right, Conversion}
use Rattle.lt_tree.specs.Typing.TypedTree.{no_values, a_value}
pub use Rattle.lt_tree.specs.Typing.TypedTree.{names_bound}
use Rattle.lt_tree.specs.Typing.Programs.{Program}
use Rattle.lt_ir.specs.declared.variable.Variable.{Variable}
use Rattle.lt_ir.specs.declared.pure.How.TheVariants as how
use Rattle.lt_ir.specs.Pure as p
use Rattle.lt_ir.specs.Pure.{Pure, Pures, look}
use Rattle.lt_ir.specs.Running.{At, ◌>>=◌, quietly}
use Rattle.lt_ir.specs.Evaluation.{number_in, truth_in, of_truth}
use Rattle.lt_meaning.specs.Expressions.{Around, Calls, Fate, wanted, unconverted, dropped_branch, untaken, inside}
use Rattle.lt_meaning.specs.Expressions.{of_branch, of_last, fate_of_part, cell_type, scalar_in, all_ones, is_pure}
use Rattle.lt_meaning.specs.Expressions.{pure_only, eval}

-- what names stand for in a function
pub record Names : Type 0 where
  pub program : Program
  pub variable : ℕ → Variable

-- a conversion to a type
abbrev pub converts : Conversion → CType → Pure → Pure
converts e.to_integer t q = p.Convert (how.ToInteger (scalar_in t)) q
converts e.to_truth t q = p.Convert how.ToTruth q
converts e.to_null t q = p.Comma (p.a_pure q (p.a_pure (p.Fixed (content.Address None)) p.no_pures))
converts e.to_pointer t q = p.Convert how.ToPointer q
converts e.to_void t q = p.Convert how.ToVoid q

abbrev pub converts_here : Fate → Conversion → CType → Pure → Pure
converts_here unconverted conversion t q = q
converts_here dropped_branch conversion t q = q
converts_here fate conversion t q = converts conversion t q

-- The operands stand in the order of the text; a move names the pointer first.
abbrev pub moving : Op → ℕ → Side → Pure → Pure → Pure
moving op size on_left a b = p.Move op size a b
moving op size on_right a b = p.Move op size b a

-- 1 where it is true, and 0 elsewhere
abbrev pub truth_value : Pure → Pure
truth_value q = p.Choose q (p.Fixed (of_truth true)) (p.Fixed (of_truth false))

abbrev pub connects : LogicalOp → Pure → Pure → Pure
connects logical.And a b = p.Choose a (truth_value b) (p.Fixed (of_truth false))
connects logical.Or a b = p.Choose a (p.Fixed (of_truth true)) (truth_value b)

abbrev mutual
  -- the graph's expression, whether it is pure or not
  pub raw_of : Names → Fate → Value → Pure
  raw_of n fate (e.Constant t z) = p.Fixed (content.Number z)
  raw_of n fate (e.Load t a) = p.Load (cell_type n.program t) (raw_place n a)
  raw_of n fate (e.Whole t a) = raw_place n a
  raw_of n fate (e.Decay t a) = raw_place n a
  raw_of n fate (e.AddressOf t a) = raw_place n a
  raw_of n fate (e.Convert e.to_void t v) = converts e.to_void t (raw_of n untaken v)
  raw_of n fate (e.Convert conversion t v) = converts_here fate conversion t (raw_of n (inside fate) v)
  raw_of n fate (e.Minus t v) = p.Apply O.Sub (scalar_in t) (p.Fixed (content.Number (pos 0))) (raw_of n wanted v)
  raw_of n fate (e.Complement t v) =
      p.Apply O.Xor (scalar_in t) (raw_of n wanted v) (p.Fixed (all_ones n.program t))
  raw_of n fate (e.Not t v) = p.Choose (raw_of n wanted v) (p.Fixed (of_truth false)) (p.Fixed (of_truth true))
  raw_of n fate (e.Arithmetic t op k a b) = p.Apply op k (raw_of n wanted a) (raw_of n wanted b)
  raw_of n fate (e.Move t op size side a b) = moving op size side (raw_of n wanted a) (raw_of n wanted b)
  raw_of n fate (e.Distance t size a b) = p.Distance size (raw_of n wanted a) (raw_of n wanted b)
  raw_of n fate (e.Compare t op a b) = p.Compare op (raw_of n wanted a) (raw_of n wanted b)
  raw_of n fate (e.Logical t op a b) = connects op (raw_of n wanted a) (raw_of n wanted b)
  raw_of n fate (e.Conditional t test a b) =
      p.Choose (raw_of n wanted test) (raw_of n (of_branch fate) a) (raw_of n (of_branch fate) b)
  raw_of n fate (e.Comma t vs) = p.Comma (raw_parts n (of_last fate) vs)
  raw_of n fate v = p.Never

  -- the address of an lvalue
  pub raw_place : Names → Place → Pure
  raw_place n (e.Object t k) = p.Place (n.variable k)
  raw_place n (e.Pointed t v) = p.Convert how.ToPointer (raw_of n wanted v)
  raw_place n (e.Element t size side a b) = moving O.Add size side (raw_of n wanted a) (raw_of n wanted b)
  raw_place n (e.Part t offset a) = p.Member offset (raw_place n a)
  raw_place n (e.Held t v) = p.Convert how.ToPointer (raw_of n wanted v)

  -- the parts of a comma expression
  pub raw_parts : Names → Fate → Values → Pures
  raw_parts n fate no_values = p.no_pures
  raw_parts n fate (a_value v vs) = p.a_pure (raw_of n (fate_of_part fate vs) v) (raw_parts n fate vs)

-- the graph's expression, where it is pure
abbrev pub pure_in : Names → Value → Pure
pure_in n v = if is_pure v then raw_of n wanted v else p.Never

-- of the expressions that a mark binds to names
abbrev pub pures_bound : Names → Bindings → List Pure
pures_bound n e.no_bindings = []
pures_bound n (e.a_binding name v rest) = pure_in n v ∷ pures_bound n rest

-- ---- what they agree with

abbrev pub around : Names → Calls → (tracks : Bool) → Around
around n calls tracks = record { program = n.program; variable = n.variable; calls = calls; tracks = tracks }

-- a pure expression of the graph is true, or has a number, where the tree's is
abbrev pub IsTruthOf : Names → Value → Pure → Type 0
IsTruthOf n v q =
    (calls : Calls) (at : At)
    → quietly (look n.program.model q >>= truth_in) at
    ≡ pure_only (is_pure v) (quietly (eval (around n calls false) wanted v >>= (λ x. truth_in x.value)) at)

abbrev pub IsNumberOf : Names → Value → Pure → Type 0
IsNumberOf n v q =
    (calls : Calls) (at : At)
    → quietly (look n.program.model q >>= number_in) at
    ≡ pure_only (is_pure v) (quietly (eval (around n calls false) wanted v >>= (λ x. number_in x.value)) at)
