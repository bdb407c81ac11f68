-- Statements with marks added, each where it may stand.
use Rattle.std.specs.Prelude.{◌≡◌, ℕ, Bool, false, List, [], ◌∷◌, Option, Some, None}
use Rattle.std.specs.List.{flat_map}
use Rattle.lt_model.specs.declared.scalar.Scalar.{Scalar}
use Rattle.lt_tree.specs.Tree as c
use Rattle.lt_tree.specs.Nodes.{in_mark, in_label}
use Rattle.lt_tree.specs.Typing.TypedTree.{Mark, Statement}
use Rattle.lt_tree.specs.Typing.Entities.{Known, no_names}
use Rattle.lt_tree.specs.Typing.Steps.{Goes, in_block}
use Rattle.lt_tree.specs.Typing.Expressions.{Typed, as_value, as_truth}
use Rattle.lt_tree.specs.Typing.ExpressionTyping.{expression, mark}
use Rattle.lt_tree.specs.Typing.DeclarationTyping.{DeclaredLocals, declaration, effective_in_for}
use Rattle.lt_tree.specs.Typing.StatementTyping.{Around, in_a_loop, in_a_switch, optional_expression, optional_test, TypedStart, for_start, switch_type, Seen, Labelled, labels, statement}
use Rattle.lt_mark_typing.specs.Beside.{in_use, in_test}
use Rattle.lt_mark_typing.specs.Placed.{AreOld, AreNewLabels, entered, AddsTo}
use Rattle.lt_mark_typing.specs.PlacedInitialisers.{AddsToDeclaration}

-- what is known where a block begins
abbrev pub in_new_block : Known → Known
in_new_block known = record known { frames = no_names ∷ known.frames }

-- a test or an expression that may be left out
pub data AddsToTest (new : ℕ → Bool) : List ℕ → List ℕ → Known → Option c.Expression → Option c.Expression → Type 0 where
  no_test : {used : List ℕ} {known : Known} → AddsToTest new used used known None None
  a_test : {used after : List ℕ} {known : Known} {it other : c.Expression} → AddsTo new in_test used after known it other → AddsToTest new used after known (Some it) (Some other)

pub data AddsToOptional (new : ℕ → Bool) : List ℕ → List ℕ → Known → Option c.Expression → Option c.Expression → Type 0 where
  no_value : {used : List ℕ} {known : Known} → AddsToOptional new used used known None None
  a_value : {used after : List ℕ} {known : Known} {it other : c.Expression} → AddsTo new (in_use as_value) used after known it other → AddsToOptional new used after known (Some it) (Some other)

-- the start of a `for`
pub data AddsToStart (new : ℕ → Bool) : List ℕ → List ℕ → Known → c.ForStart → c.ForStart → Type 0 where
  Nothing : {used : List ℕ} {known : Known} → AddsToStart new used used known c.Nothing c.Nothing
  First : {used after : List ℕ} {known : Known} {it other : c.Expression} → AddsTo new (in_use as_value) used after known it other → AddsToStart new used after known (c.First it) (c.First other)
  Declares : {used after : List ℕ} {known : Known} {d e : c.Declaration} → AddsToDeclaration new effective_in_for used after known d e → AddsToStart new used after known (c.Declares d) (c.Declares e)

mutual
  -- The second statement is the first with marks added, where this is known; the ids that are used before and after.
  pub data AddsToStatement (new : ℕ → Bool) : List ℕ → List ℕ → Around → Known → c.Statement → c.Statement → Type 0 where
    Compound : {used after : List ℕ} {around : Around} {known : Known} {is js : c.Items}
        → AddsToItems new used after around (in_new_block (entered known)) is js → AddsToStatement new used after around known (c.Compound is) (c.Compound js)
    Evaluates : {used after : List ℕ} {around : Around} {known : Known} {it other : c.Expression}
        → AddsTo new (in_use as_value) used after (entered known) it other → AddsToStatement new used after around known (c.Evaluates it) (c.Evaluates other)
    Null : {used : List ℕ} {around : Around} {known : Known} → AddsToStatement new used used around known c.Null c.Null
    If : {used between after : List ℕ} {around : Around} {known : Known} {test other : c.Expression} {x y : c.Statement}
        → AddsTo new in_test used between (in_new_block (entered known)) test other
        → ((p : Typed) (next : Known) → expression test as_truth (in_new_block (entered known)) ≡ Goes p next → AddsToStatement new between after around (in_new_block next) x y)
        → AddsToStatement new used after around known (c.If test x) (c.If other y)
    IfElse : {used first second after : List ℕ} {around : Around} {known : Known} {test other : c.Expression} {x y v w : c.Statement}
        → AddsTo new in_test used first (in_new_block (entered known)) test other
        → ((p : Typed) (next : Known) → expression test as_truth (in_new_block (entered known)) ≡ Goes p next → AddsToStatement new first second around (in_new_block next) x y)
        → ((p : Typed) (next : Known) (s : Statement) (last : Known) → expression test as_truth (in_new_block (entered known)) ≡ Goes p next → in_block (statement x around) next ≡ Goes s last
        → AddsToStatement new second after around (in_new_block last) v w)
        → AddsToStatement new used after around known (c.IfElse test x v) (c.IfElse other y w)
    While : {used between after : List ℕ} {around : Around} {known : Known} {test other : c.Expression} {x y : c.Statement}
        → AddsTo new in_test used between (in_new_block (entered known)) test other
        → ((p : Typed) (next : Known) → expression test as_truth (in_new_block (entered known)) ≡ Goes p next → AddsToStatement new between after (in_a_loop around) (in_new_block next) x y)
        → AddsToStatement new used after around known (c.While test x) (c.While other y)
    Do : {used between after : List ℕ} {around : Around} {known : Known} {test other : c.Expression} {x y : c.Statement}
        → AddsToStatement new used between (in_a_loop around) (in_new_block (in_new_block (entered known))) x y
        → ((s : Statement) (next : Known) → in_block (statement x (in_a_loop around)) (in_new_block (entered known)) ≡ Goes s next → AddsTo new in_test between after next test other)
        → AddsToStatement new used after around known (c.Do x test) (c.Do y other)
    For : {used first second third after : List ℕ} {around : Around} {known : Known} {start begin : c.ForStart} {test other step further : Option c.Expression} {x y : c.Statement}
        → AddsToStart new used first (in_new_block (entered known)) start begin
        → ((i : TypedStart) (next : Known) → for_start start (in_new_block (entered known)) ≡ Goes i next → AddsToTest new first second next test other)
        → ((i : TypedStart) (p : Option Typed) (next last : Known) → for_start start (in_new_block (entered known)) ≡ Goes i next → optional_test test next ≡ Goes p last
        → AddsToOptional new second third last step further)
        → ((i : TypedStart) (p q : Option Typed) (next last end : Known) → for_start start (in_new_block (entered known)) ≡ Goes i next → optional_test test next ≡ Goes p last
        → optional_expression step last ≡ Goes q end → AddsToStatement new third after (in_a_loop around) (in_new_block end) x y)
        → AddsToStatement new used after around known (c.For start test step x) (c.For begin other further y)
    -- of the operand of a `switch` the value counts
    Switch : {used between after : List ℕ} {around : Around} {known : Known} {it other : c.Expression} {cs ds : c.Cases}
        → AddsTo new (in_use as_truth) used between (in_new_block (entered known)) it other
        → ((x : Typed) (next : Known) → expression it as_truth (in_new_block (entered known)) ≡ Goes x next
        → AddsToCases new between after (switch_type next.model x) (record { values = []; has_default = false }) (in_a_switch around) next cs ds)
        → AddsToStatement new used after around known (c.Switch it cs) (c.Switch other ds)
    Break : {used : List ℕ} {around : Around} {known : Known} → AddsToStatement new used used around known c.Break c.Break
    Continue : {used : List ℕ} {around : Around} {known : Known} → AddsToStatement new used used around known c.Continue c.Continue
    Return : {used after : List ℕ} {around : Around} {known : Known} {it other : Option c.Expression}
        → AddsToOptional new used after (entered known) it other → AddsToStatement new used after around known (c.Return it) (c.Return other)

  pub data AddsToItems (new : ℕ → Bool) : List ℕ → List ℕ → Around → Known → c.Items → c.Items → Type 0 where
    no_items : {used : List ℕ} {around : Around} {known : Known} → AddsToItems new used used around known c.no_items c.no_items
    a_declaration : {used between after : List ℕ} {around : Around} {known : Known} {d e : c.Declaration} {is js : c.Items}
        → AddsToDeclaration new (λ class. class) used between (entered known) d e
        → ((it : DeclaredLocals) (next : Known) → declaration d (entered known) ≡ Goes it next → AddsToItems new between after around next is js)
        → AddsToItems new used after around known (c.a_declaration d is) (c.a_declaration e js)
    a_statement : {used between after : List ℕ} {around : Around} {known : Known} {x y : c.Statement} {is js : c.Items}
        → AddsToStatement new used between around (entered known) x y
        → ((s : Statement) (next : Known) → statement x around (entered known) ≡ Goes s next → AddsToItems new between after around next is js)
        → AddsToItems new used after around known (c.a_statement x is) (c.a_statement y js)
    a_label : {used after : List ℕ} {around : Around} {known : Known} {m : c.Mark} {is js : c.Items}
        → AreOld new (in_mark m)
        → ((typed : Mark) (next : Known) → mark m (entered known) ≡ Goes typed next → AddsToItems new used after around next is js)
        → AddsToItems new used after around known (c.a_label m is) (c.a_label m js)
    -- a label as an item
    an_added_label : {used between after : List ℕ} {around : Around} {known : Known} {m : c.Mark} {is js : c.Items}
        → known.is_unmarked ≡ false → AreNewLabels new used between known (c.a_mark m c.no_marks)
        → AddsToItems new between after around known is js → AddsToItems new used after around known is (c.a_label m js)

  -- the statements of a `switch`, with the type of its operand and what the labels before have
  pub data AddsToCases (new : ℕ → Bool) : List ℕ → List ℕ → Option Scalar → Seen → Around → Known → c.Cases → c.Cases → Type 0 where
    no_cases : {used : List ℕ} {type : Option Scalar} {seen : Seen} {around : Around} {known : Known} → AddsToCases new used used type seen around known c.no_cases c.no_cases
    a_case : {used between after : List ℕ} {type : Option Scalar} {seen : Seen} {around : Around} {known : Known} {list : List c.Label} {x y : c.Statement} {cs ds : c.Cases}
        → AreOld new (flat_map in_label list)
        → ((it : Labelled) (next : Known) → labels list type seen known ≡ Goes it next → AddsToStatement new used between around (in_new_block next) x y)
        → ((it : Labelled) (s : Statement) (next last : Known) → labels list type seen known ≡ Goes it next → in_block (statement x around) next ≡ Goes s last
        → AddsToCases new between after type it.seen around last cs ds)
        → AddsToCases new used after type seen around known (c.a_case list x cs) (c.a_case list y ds)
