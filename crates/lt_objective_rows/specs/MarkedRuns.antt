-- Examples: how marked texts run, and which of their labels are true.
use Rattle.std.specs.Prelude.{◌≡◌, ℕ, ℤ, Bool, true, false, pos, negsuc, List, [], ◌∷◌, codes, Option, Some, None, option_map}
use Rattle.lt_model.specs.declared.scalar.DataModel.TheVariants.{Lp64}
use Rattle.lt_model.specs.declared.input.Input.{Input}
use Rattle.lt_model.specs.declared.input.CellSet.{CellSet}
use Rattle.lt_model.specs.declared.input.CellSet.TheVariants as cellset
use Rattle.lt_model.specs.declared.run.End.{End}
use Rattle.lt_model.specs.declared.run.End.TheVariants.{Returned, Undefined, NoInput}
use Rattle.lt_model.specs.declared.operator.Ub.TheVariants.{NoValue}
use Rattle.lt_tree.specs.Tree as c
use Rattle.lt_tree.specs.Typing.Entities.{Function}
use Rattle.lt_tree.specs.Typing.Programs.{Program, typed, broken}
use Rattle.lt_tree.specs.Typing.UnitTyping.{typing}
use Rattle.lt_tree_laws.specs.Examples.{int}
use Rattle.lt_ir.specs.Running.{Over}
use Rattle.lt_meaning.specs.Runs.{run, function_among}
use Rattle.lt_meaning_runs.specs.Samples.{shown}
use Rattle.lt_objectives.specs.declared.criteria.Criterion.TheVariants as C
use Rattle.lt_objectives.specs.Criteria.{bit_of}
use Rattle.lt_objective_rows.specs.MarkedTexts.{marked_from, counts, follows_p, adds, gives_x, asks_g, tests_nothing}

-- how a run ends, and its marks: each id, and whether it is true
abbrev pub Shown : Type 0
Shown = End × List (ℕ × Bool)

abbrev pub shown_over : Over → Shown
shown_over it = (it.end, shown it.at.marks)

abbrev pub sets : List ℕ → ℤ → CellSet
sets w z = cellset.Number (record { root = w; offset = 0 }) z

abbrev pub with_cells : List CellSet → Input
with_cells cells = record { blocks = []; cells = cells; stubs = [] }

abbrev pub run_in : Program → Input → Option Function → Option Shown
run_in program input f = option_map (λ it. shown_over (run program it input 100)) f

-- how the function `f` of a unit runs that has the marks of a set of criteria, numbered from an id
abbrev pub run_from : ℕ → c.Unit → ℕ → Input → Option Shown
run_from id unit set input =
    elim (typing Lp64 (marked_from id Lp64 unit set)) [ typed program ↦ run_in program input (function_among (codes "f") program.functions) | broken rule node ↦ None ]

abbrev pub run_marked : c.Unit → ℕ → Input → Option Shown
run_marked = run_from 1

-- a loop's test is marked each time that it is evaluated
abbrev pub TestsAreMarkedEachTime : Type 0
TestsAreMarkedEachTime =
    (run_marked counts (bit_of C.Decision) (with_cells (sets (codes "n") (pos 0) ∷ [])) ≡ Some (Returned, (1, false) ∷ (2, true) ∷ []))
    × (run_marked counts (bit_of C.Decision) (with_cells (sets (codes "n") (pos 2) ∷ []))
    ≡ Some (Returned, (1, true) ∷ (2, false) ∷ (1, true) ∷ (2, false) ∷ (1, false) ∷ (2, true) ∷ []))

-- with p null the relation isn't evaluated, so its labels aren't reached
abbrev pub MarksStandWhereTheyAreEvaluated : Type 0
MarksStandWhereTheyAreEvaluated =
    run_marked follows_p (bit_of C.RelationalOperator) (with_cells (cellset.Point (record { root = codes "p"; offset = 0 }) None ∷ [])) ≡ Some (Returned, [])

-- a mutant that isn't defined counts as no other
abbrev pub UndefinedMutantsAreNotTrue : Type 0
UndefinedMutantsAreNotTrue =
    (on (negsuc 2147483647) (pos 1) ≡ Some (Returned, (1, false) ∷ (2, true) ∷ (3, true) ∷ (4, true) ∷ []))
    × (on (pos 1) (pos 0) ≡ Some (Returned, (1, false) ∷ (2, true) ∷ (3, false) ∷ (4, false) ∷ []))
    × (on (pos 1) (pos 1) ≡ Some (Returned, (1, true) ∷ (2, true) ∷ (3, true) ∷ (4, true) ∷ []))
  where
    on : ℤ → ℤ → Option Shown
    on x y = run_marked adds (bit_of C.ArithmeticOperator) (with_cells (sets (codes "a") x ∷ sets (codes "b") y ∷ []))

abbrev pub AbsoluteValues : Type 0
AbsoluteValues =
    (on (negsuc 2147483647) ≡ Some (Returned, (1, false) ∷ (2, false) ∷ []))
    × (on (negsuc 0) ≡ Some (Returned, (1, true) ∷ (2, false) ∷ []))
    × (on (pos 1) ≡ Some (Returned, (1, false) ∷ (2, true) ∷ []))
  where
    on : ℤ → Option Shown
    on x = run_marked (gives_x int) (bit_of C.AbsoluteValue) (with_cells (sets (codes "x") x ∷ []))

-- a decision with a call is evaluated once
abbrev pub CallsAreMadeOnce : Type 0
CallsAreMadeOnce =
    (run_marked asks_g (bit_of C.Decision) (record { blocks = []; cells = sets (codes "x") (pos 0) ∷ []; stubs = record { name = codes "g"; values = pos 4 ∷ [] } ∷ [] })
    ≡ Some (Returned, (1, true) ∷ (2, false) ∷ []))
    × (run_marked asks_g (bit_of C.Decision) (with_cells (sets (codes "x") (pos 0) ∷ [])) ≡ Some (NoInput (codes "g"), []))

-- Where a test can't be made, as that of a value which a function didn't give, an old `pc_after` before it notes what it did.
abbrev pub TestsComeBehindOldMarks : Type 0
TestsComeBehindOldMarks =
    (run_from 2 tests_nothing 0 (with_cells []) ≡ Some (Undefined NoValue, (1, true) ∷ []))
    × (run_from 2 tests_nothing (bit_of C.Decision) (with_cells []) ≡ Some (Undefined NoValue, (1, true) ∷ []))

abbrev pub MarkedTextsRun : Type 0
MarkedTextsRun =
    TestsAreMarkedEachTime × MarksStandWhereTheyAreEvaluated × UndefinedMutantsAreNotTrue × AbsoluteValues × CallsAreMadeOnce × TestsComeBehindOldMarks
