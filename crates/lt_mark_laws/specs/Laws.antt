-- That marks change nothing.
use Rattle.std.specs.Prelude.{◌≡◌, ℕ, ℤ, Bool, true, false, not, ◌&&◌, if◌then◌else◌, List, [], ◌∷◌, Option, Some, None}
use Rattle.std.specs.Ordering.{int_eq}
use Rattle.lt_model.specs.declared.operator.Op.TheVariants as O
use Rattle.lt_model.specs.declared.scalar.DataModel.{DataModel}
use Rattle.lt_model.specs.declared.scalar.Scalar.{Scalar}
use Rattle.lt_model.specs.Operators.{is_value}
use Rattle.lt_tree.specs.Typing.Types.{CType}
use Rattle.lt_model.specs.declared.input.Input.{Input}
use Rattle.lt_model.specs.State.{Made}
use Rattle.lt_tree.specs.Typing.TypedTree as e
use Rattle.lt_tree.specs.Typing.TypedTree.{Value}
use Rattle.lt_tree.specs.Typing.Entities.{Function}
use Rattle.lt_tree.specs.Typing.Programs.{Program}
use Rattle.lt_ir.specs.Running.{At, Over, ◌>>=◌, quietly, marks}
use Rattle.lt_ir.specs.Evaluation.{number_in, truth_in}
use Rattle.lt_meaning.specs.Expressions.{Around, wanted, tracking, is_pure, pure_only, eval, marked}
use Rattle.lt_meaning.specs.Runs.{run, inside_of, invoke}
use Rattle.lt_mark_laws.specs.Added.{AddsFunction, AddsProgram}

-- the marks of a run without those whose ids are new
abbrev pub without_new : (ℕ → Bool) → List Made → List Made
without_new new [] = []
without_new new (made ∷ mades) = if new made.id then without_new new mades else made ∷ without_new new mades

-- Both runs are over in the same way, with the same memory, ticks and values left, and made the same marks, new ones aside.
pub record AreAlike (new : ℕ → Bool) (a b : Over) : Type 0 where
  pub end : a.end ≡ b.end
  pub memory : a.at.memory ≡ b.at.memory
  pub ticks : a.at.ticks ≡ b.at.ticks
  pub stubs : a.at.stubs ≡ b.at.stubs
  pub marks : without_new new a.at.marks ≡ without_new new b.at.marks

-- A program with marks added runs as it does without them.
abbrev pub MarksChangeNothing : Type 0
MarksChangeNothing =
    (new : ℕ → Bool) (p q : Program) (f g : Function) (input : Input) (ticks : ℕ)
    → AddsProgram new p q → AddsFunction new f g → AreAlike new (run p f input ticks) (run q g input ticks)

-- A program and a function are themselves with no marks added. So what has marks added in one place has them added as a whole.
abbrev pub ProgramsAreThemselves : Type 0
ProgramsAreThemselves = (new : ℕ → Bool) → ((p : Program) → AddsProgram new p p) × ((f : Function) → AddsFunction new f f)

-- ---- what a label notes

-- whether a predicate is pure and has a value here that is true
abbrev pub is_quietly_true : Around → Value → At → Bool
is_quietly_true here predicate at =
    elim (pure_only (is_pure predicate) (quietly (eval (tracking false here) wanted predicate >>= (λ x. truth_in x.value)) at)) [ None ↦ false | Some b ↦ b ]

-- A label without bound names notes just that.
abbrev pub LabelsNoteTheirPredicates : Type 0
LabelsNoteTheirPredicates =
    (here : Around) (predicate : Value) (id : ℕ) (at : At)
    → marked here (e.mark predicate id e.no_bindings) at ≡ marks id (is_quietly_true here predicate at) [] at

-- Where an expression is evaluated in a program with marks added, predicates are true in the states in which they are in the program without them:
-- marks that were made don't count.
abbrev pub TruthsAreTheSame : Type 0
TruthsAreTheSame =
    (new : ℕ → Bool) (p q : Program) (f g : Function) (n : ℕ) (predicate : Value) (at : At) (made : List Made)
    → AddsProgram new p q → AddsFunction new f g → without_new new at.marks ≡ without_new new made
    → is_quietly_true (inside_of p (invoke p n) f) predicate at ≡ is_quietly_true (inside_of q (invoke q n) g) predicate (record at { marks = made })

-- the number that an expression has here, if it has one
abbrev pub number_at : Around → Value → At → Option ℤ
number_at here v at = quietly (eval (tracking false here) wanted v >>= (λ x. number_in x.value)) at

-- whether there are two numbers, both values of a type, that differ
abbrev pub differ : DataModel → Scalar → Option ℤ → Option ℤ → Bool
differ model s (Some m) (Some n) = (is_value model s m && is_value model s n) && not (int_eq m n)
differ model s m n = false

-- A predicate that two pure integer expressions differ, as those of mutants, is true exactly where both have values of
-- the type in which they are compared and these differ. What isn't one of that type stops a comparison.
abbrev pub DifferencesAreExact : Type 0
DifferencesAreExact =
    (here : Around) (t : CType) (s : Scalar) (v w : Value) (at : At) → is_pure v ≡ true → is_pure w ≡ true
    → is_quietly_true here (e.Arithmetic t O.Ne s v w) at ≡ differ here.program.model s (number_at here v at) (number_at here w at)
