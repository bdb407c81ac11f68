-- Examples: how runs are over and which marks they make, worked out.
use Rattle.std.specs.Prelude.{◌≡◌, ℕ, ℤ, Bool, true, false, pos, List, [], ◌∷◌, codes, Option, Some, None, option_map}
use Rattle.lt_model.specs.declared.operator.Op.TheVariants as op
use Rattle.lt_model.specs.declared.operator.Ub.TheVariants as U
use Rattle.lt_model.specs.declared.scalar.DataModel.TheVariants.{Lp64}
use Rattle.lt_model.specs.declared.input.CellSet.TheVariants as cellset
use Rattle.lt_model.specs.declared.run.End.{End}
use Rattle.lt_model.specs.declared.run.End.TheVariants.{Returned, Undefined, NoInput, Steps}
use Rattle.lt_tree.specs.Tree as c
use Rattle.lt_tree.specs.declared.expression.UnaryOp.TheVariants as unary
use Rattle.lt_tree_laws.specs.Examples.{just, int, x, one, two, zero_constant, pointer, declares}
use Rattle.lt_tree.specs.Typing.Programs.{Program, typed, broken}
use Rattle.lt_tree.specs.Typing.UnitTyping.{typing}
use Rattle.lt_tree_laws.specs.Typing.ExampleTexts.{name, number, object, function, declaration_of, takes_int}
use Rattle.lt_model.specs.State.{Made}
use Rattle.lt_ir.specs.Running.{Over}
use Rattle.lt_tree.specs.Typing.Entities.{Function}
use Rattle.lt_model.specs.declared.input.Input.{Input}
use Rattle.lt_meaning.specs.Runs.{run, function_among}

-- the marks of a run: each id, and whether it is true
abbrev pub shown : List Made → List (ℕ × Bool)
shown [] = []
shown (made ∷ mades) = (made.id, made.truth) ∷ shown mades

abbrev pub started_with : ℤ → Input
started_with z = record { blocks = []; cells = cellset.Number (record { root = codes "x"; offset = 0 }) z ∷ []; stubs = [] }

abbrev pub run_of : Program → ℤ → ℕ → Option Function → Option Over
run_of program z ticks f = option_map (λ f. run program f (started_with z) ticks) f

-- how the function `f` of a unit runs where its parameter x is a number, with no values left for other functions
abbrev pub run_with : c.Unit → ℤ → ℕ → Option Over
run_with unit z ticks = elim (typing Lp64 unit) [ typed program ↦ run_of program z ticks (function_among (codes "f") program.functions) | broken rule node ↦ None ]

abbrev pub end_with : c.Unit → ℤ → ℕ → Option End
end_with unit z ticks = option_map (λ over. over.end) (run_with unit z ticks)

abbrev pub marks_with : c.Unit → ℤ → ℕ → Option (List (ℕ × Bool))
marks_with unit z ticks = option_map (λ over. shown over.at.marks) (run_with unit z ticks)

-- `return x;` behind other items
abbrev pub returns_x : c.Items
returns_x = c.a_statement (c.Return (Some x)) c.no_items

-- an object of a block
abbrev pub declares_here : List ℕ → c.Parts → c.Items → c.Items
declares_here w parts rest = c.a_declaration (declaration_of int w parts None) rest

-- `int f(int x) { return x / 0; }`
abbrev pub DivisionByZero : Type 0
DivisionByZero = end_with (function (c.a_statement (c.Return (Some (c.Binary op.Div x zero_constant))) c.no_items) ∷ []) (pos 7) 100 ≡ Some (Undefined U.ZeroDivisor)

-- `int f(int x) { x += x--; return x; }`
abbrev pub ReadAndWritten : Type 0
ReadAndWritten =
    end_with (function (c.a_statement (c.Evaluates (c.Assign (Some op.Add) x (c.PostDec x))) (c.a_statement (c.Return (Some x)) c.no_items)) ∷ []) (pos 7) 100 ≡ Some (Undefined U.Unsequenced)

-- `int g(int x); int f(int x) { return g(x); }`
abbrev pub NothingLeft : Type 0
NothingLeft =
    end_with (object int (codes "g") takes_int ∷ function (c.a_statement (c.Return (Some (c.Call (name (codes "g")) (just x)))) c.no_items) ∷ []) (pos 7) 100 ≡ Some (NoInput (codes "g"))

-- `int f(int x) { while (x) x = x - 1; return x; }` needs 2x + 3 ticks
abbrev pub TicksOfALoop : Type 0
TicksOfALoop = (end_with looping (pos 2) 7 ≡ Some Returned) × (end_with looping (pos 2) 6 ≡ Some Steps)
  where
    looping : c.Unit
    looping =
        function (c.a_statement (c.While x (c.Evaluates (c.Assign None x (c.Binary op.Sub x one)))) (c.a_statement (c.Return (Some x)) c.no_items)) ∷ []

-- `int f(int x) { (&x)[x = 0] /= 0; return x; }`: what is written clashes before anything is divided
abbrev pub WrittenBeforeDivided : Type 0
WrittenBeforeDivided =
    end_with (function (c.a_statement (c.Evaluates (c.Assign (Some op.Div) (c.Index (c.Unary unary.AddressOf x) (c.Assign None x zero_constant)) zero_constant)) returns_x) ∷ []) (pos 3) 100 ≡ Some (Undefined U.Unsequenced)

-- `int f(int x) { x = x++; return x; }`
abbrev pub WrittenTwice : Type 0
WrittenTwice = end_with (function (c.a_statement (c.Evaluates (c.Assign None x (c.PostInc x))) returns_x) ∷ []) (pos 3) 100 ≡ Some (Undefined U.Unsequenced)

-- `int h(int x) { return x; } int f(int x) { x = h(x++); return x; }`
abbrev pub WrittenBeforeACall : Type 0
WrittenBeforeACall =
    end_with (c.Defines int (declares (codes "h") takes_int) returns_x ∷ function (c.a_statement (c.Evaluates (c.Assign None x (c.Call (name (codes "h")) (just (c.PostInc x))))) returns_x) ∷ []) (pos 3) 100 ≡ Some Returned

-- `int f(int x) { int *p; { int y; y = x; p = &y; } return *p; }`
abbrev pub EndedObject : Type 0
EndedObject =
    end_with (function (declares_here (codes "p") (pointer c.no_parts) (c.a_statement (c.Compound inner) (c.a_statement (c.Return (Some (c.Unary unary.Dereference (name (codes "p"))))) c.no_items))) ∷ []) (pos 3) 100 ≡ Some (Undefined U.Ended)
  where
    inner : c.Items
    inner =
        declares_here (codes "y") c.no_parts (c.a_statement (c.Evaluates (c.Assign None (name (codes "y")) x)) (c.a_statement (c.Evaluates (c.Assign None (name (codes "p")) (c.Unary unary.AddressOf (name (codes "y"))))) c.no_items))

-- `int f(int x) { int a[2]; int *p; p = a + 2; return p == a + 2; }`, and with `a + 3`
abbrev pub OnePastTheEnd : Type 0
OnePastTheEnd = (end_with (moving two) (pos 3) 100 ≡ Some Returned) × (end_with (moving (number (codes "3"))) (pos 3) 100 ≡ Some (Undefined U.Move))
  where
    moving : c.Expression → c.Unit
    moving count =
        let there = c.Binary op.Add (name (codes "a")) count in
        function (declares_here (codes "a") (c.Array (c.present two) c.no_parts) (declares_here (codes "p") (pointer c.no_parts) (c.a_statement (c.Evaluates (c.Assign None (name (codes "p")) there)) (c.a_statement (c.Return (Some (c.Binary op.Eq (name (codes "p")) there))) c.no_items)))) ∷ []

-- `int f(int x) { pc_label(1 / x > 0, 1, "A"); pc_label(x == 0, 2, "B"); return x; }` on 0: the first predicate isn't defined there.
abbrev pub QuietPredicate : Type 0
QuietPredicate = marks_with unit (pos 0) 100 ≡ Some ((1, false) ∷ (2, true) ∷ [])
  where
    unit : c.Unit
    unit =
        function (c.a_label (c.mark (c.Binary op.Gt (c.Binary op.Div one x) zero_constant) (codes "1") (codes "A") c.no_bindings) (c.a_label (c.mark (c.Binary op.Eq x zero_constant) (codes "2") (codes "B") c.no_bindings) returns_x)) ∷ []
