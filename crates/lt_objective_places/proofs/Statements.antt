-- Where the parts of initialisers, declarations, statements and externals stand.
use Rattle.std.proofs.Common.{◌≡◌, refl, ℕ, ◌+◌, List, [], ◌∷◌, ◌++◌, length, Option, Some, None, length-append, arith}
use Rattle.std.specs.List.{flat_map}
use Rattle.lt_tree.specs.Tree as c
use Rattle.lt_tree.specs.Nodes.{in_expression, in_mark, in_specifiers, in_declarator, in_initialiser, in_initialisers, in_optional_initialiser, in_init_declarator, in_declaration, in_optional, in_start, in_label, in_statement, in_items, in_cases, in_external}
use Rattle.lt_decisions.proofs.Closed.{both, each}
use Rattle.lt_decisions.proofs.Parts as closed
use Rattle.lt_objective_places.specs.Stands.{RunStands, AreUntested, in_test, as_value, Stands}
use Rattle.lt_objective_places.proofs.Runs.{front, back, of_test, uncontrolled, controlled, behind_test, before_test}
use Rattle.lt_objective_places.proofs.Roles.{at_number, value, two, three}
use Rattle.lt_objective_places.proofs.Expressions.{tested}

-- ---- initialisers and declarations

pub initial_value : {unit : c.Unit} {k : ℕ} (e : c.Expression) → AreUntested unit k (in_initialiser (c.Value e)) → Stands unit as_value (k + 1) e
initial_value e s = value e (uncontrolled refl s)

pub braces : {unit : c.Unit} {k : ℕ} (them : c.Initialisers) → AreUntested unit k (in_initialiser (c.Braces them)) → AreUntested unit (k + 1) (in_initialisers them)
braces them s = uncontrolled refl s

pub next_initialiser : {unit : c.Unit} {k : ℕ} (i : c.Initialiser) (them : c.Initialisers) → AreUntested unit k (in_initialisers (c.an_initialiser i them))
    → AreUntested unit k (in_initialiser i) × AreUntested unit (k + length (in_initialiser i)) (in_initialisers them)
next_initialiser i them s = two (in_initialiser i) (in_initialisers them) (closed.initialiser i) s

pub declared : {unit : c.Unit} {k : ℕ} (d : c.Declaration) → AreUntested unit k (in_declaration d) → AreUntested unit (k + length (in_specifiers d.specifiers)) (flat_map in_init_declarator d.declarators)
declared d s = back (flat_map in_init_declarator d.declarators) (closed.specifiers d.specifiers) s

pub next_declarator : {unit : c.Unit} {k : ℕ} (d : c.InitDeclarator) (ds : List c.InitDeclarator) → AreUntested unit k (flat_map in_init_declarator (d ∷ ds))
    → AreUntested unit (k + length (in_declarator d.declarator)) (in_optional_initialiser d.initialiser) × AreUntested unit (k + length (in_init_declarator d)) (flat_map in_init_declarator ds)
next_declarator d ds s =
    let it = two (in_init_declarator d) (flat_map in_init_declarator ds) (closed.init_declarator d) s in
    (back (in_optional_initialiser d.initialiser) (closed.declarator d.declarator) it.0, it.1)

-- ---- statements

pub compound : {unit : c.Unit} {k : ℕ} (items : c.Items) → AreUntested unit k (in_statement (c.Compound items)) → AreUntested unit (k + 1) (in_items items)
compound items s = uncontrolled refl s

pub evaluates : {unit : c.Unit} {k : ℕ} (e : c.Expression) → AreUntested unit k (in_statement (c.Evaluates e)) → Stands unit as_value (k + 1) e
evaluates e s = value e (uncontrolled refl s)

pub if_alone : {unit : c.Unit} {k : ℕ} (test : c.Expression) (x : c.Statement) → AreUntested unit k (in_statement (c.If test x))
    → Stands unit in_test (k + 1) test × AreUntested unit (k + 1 + length (in_expression test)) (in_statement x)
if_alone {unit} {k} test x s =
    let them : RunStands unit (k + 1) (in_expression test ++ in_statement x) (of_test (k + 1) test) = controlled refl s in
    (tested test (front (in_expression test) (in_statement x) them), behind_test {e = test} (omega arith) (back (in_statement x) (closed.expression test) them))

pub if_else : {unit : c.Unit} {k : ℕ} (test : c.Expression) (x y : c.Statement) → AreUntested unit k (in_statement (c.IfElse test x y))
    → Stands unit in_test (k + 1) test × AreUntested unit (k + 1 + length (in_expression test)) (in_statement x)
    × AreUntested unit (k + 1 + length (in_expression test) + length (in_statement x)) (in_statement y)
if_else {unit} {k} test x y s =
    let them : RunStands unit (k + 1) (in_expression test ++ in_statement x ++ in_statement y) (of_test (k + 1) test) = controlled refl s in
    let first = front (in_expression test ++ in_statement x) (in_statement y) them in
    let same : k + 1 + length (in_expression test ++ in_statement x) ≡ k + 1 + length (in_expression test) + length (in_statement x) = omega (arith, length-append (in_expression test) (in_statement x)) in
    let last = behind_test {e = test} (omega (arith, length-append (in_expression test) (in_statement x))) (back (in_statement y) (both (closed.expression test) (closed.statement x)) them) in (
      tested test (front (in_expression test) (in_statement x) first),
      behind_test {e = test} (omega arith) (back (in_statement x) (closed.expression test) first),
      at_number same last,
    )

pub while_loop : {unit : c.Unit} {k : ℕ} (test : c.Expression) (x : c.Statement) → AreUntested unit k (in_statement (c.While test x))
    → Stands unit in_test (k + 1) test × AreUntested unit (k + 1 + length (in_expression test)) (in_statement x)
while_loop {unit} {k} test x s =
    let them : RunStands unit (k + 1) (in_expression test ++ in_statement x) (of_test (k + 1) test) = controlled refl s in
    (tested test (front (in_expression test) (in_statement x) them), behind_test {e = test} (omega arith) (back (in_statement x) (closed.expression test) them))

pub do_loop : {unit : c.Unit} {k : ℕ} (x : c.Statement) (test : c.Expression) → AreUntested unit k (in_statement (c.Do x test))
    → AreUntested unit (k + 1) (in_statement x) × Stands unit in_test (k + 1 + length (in_statement x)) test
do_loop {unit} {k} x test s =
    let them : RunStands unit (k + 1) (in_statement x ++ in_expression test) (of_test (k + 1 + length (in_statement x)) test) = controlled refl s in
    (before_test {e = test} (omega arith) (front (in_statement x) (in_expression test) them), tested test (back (in_expression test) (closed.statement x) them))

-- a controlling expression that may be left out
abbrev pub OptionalTest : c.Unit → ℕ → Option c.Expression → Type 0
OptionalTest unit k None = Unit {0}
OptionalTest unit k (Some e) = Stands unit in_test k e

-- the parts of a `for`
pub for_loop : {unit : c.Unit} {k : ℕ} (start : c.ForStart) (test step : Option c.Expression) (x : c.Statement) → AreUntested unit k (in_statement (c.For start test step x))
    → AreUntested unit (k + 1) (in_start start) × OptionalTest unit (k + 1 + length (in_start start)) test
    × AreUntested unit (k + 1 + length (in_start start) + length (in_optional test)) (in_optional step)
    × AreUntested unit (k + 1 + length (in_start start) + length (in_optional test) + length (in_optional step)) (in_statement x)
for_loop {unit} {k} start None step x s =
    let head = in_start start ++ [] in
    let size = length-append (in_start start) [] in
    let it = three head (in_optional step) (in_statement x) (both (closed.start start) (closed.optional None)) (closed.optional step) (uncontrolled refl s) in
    (front (in_start start) [] it.0, tt, at_number (omega (arith, size)) it.1, at_number (omega (arith, size)) it.2)
for_loop {unit} {k} start (Some test) step x s =
    let m = k + 1 + length (in_start start) in
    let head = in_start start ++ in_expression test in
    let size = length-append (in_start start) (in_expression test) in
    let more = length-append head (in_optional step) in
    let them : RunStands unit (k + 1) (head ++ in_optional step ++ in_statement x) (of_test m test) = controlled refl s in
    let front_part = front (head ++ in_optional step) (in_statement x) them in
    let head_part = front head (in_optional step) front_part in
    let step_part = back (in_optional step) (both (closed.start start) (closed.expression test)) front_part in
    let body_part = back (in_statement x) (both (both (closed.start start) (closed.expression test)) (closed.optional step)) them in (
      before_test {e = test} (omega arith) (front (in_start start) (in_expression test) head_part),
      tested test (back (in_expression test) (closed.start start) head_part),
      at_number (omega (arith, size)) (behind_test {e = test} (omega (arith, size)) step_part),
      at_number (omega (arith, size, more)) (behind_test {e = test} (omega (arith, size, more)) body_part),
    )

pub switch : {unit : c.Unit} {k : ℕ} (e : c.Expression) (cases : c.Cases) → AreUntested unit k (in_statement (c.Switch e cases))
    → Stands unit as_value (k + 1) e × AreUntested unit (k + 1 + length (in_expression e)) (in_cases cases)
switch e cases s = let it = two (in_expression e) (in_cases cases) (closed.expression e) (uncontrolled refl s) in (value e it.0, it.1)

pub return : {unit : c.Unit} {k : ℕ} (e : Option c.Expression) → AreUntested unit k (in_statement (c.Return e)) → AreUntested unit (k + 1) (in_optional e)
return e s = uncontrolled refl s

-- ---- items and cases

pub declared_item : {unit : c.Unit} {k : ℕ} (d : c.Declaration) (items : c.Items) → AreUntested unit k (in_items (c.a_declaration d items))
    → AreUntested unit (k + 1) (in_declaration d) × AreUntested unit (k + 1 + length (in_declaration d)) (in_items items)
declared_item d items s = two (in_declaration d) (in_items items) (closed.declaration d) (uncontrolled refl s)

pub stated_item : {unit : c.Unit} {k : ℕ} (x : c.Statement) (items : c.Items) → AreUntested unit k (in_items (c.a_statement x items))
    → AreUntested unit (k + 1) (in_statement x) × AreUntested unit (k + 1 + length (in_statement x)) (in_items items)
stated_item x items s = two (in_statement x) (in_items items) (closed.statement x) (uncontrolled refl s)

pub marked_item : {unit : c.Unit} {k : ℕ} (m : c.Mark) (items : c.Items) → AreUntested unit k (in_items (c.a_label m items)) → AreUntested unit (k + 1 + length (in_mark m)) (in_items items)
marked_item m items s = back (in_items items) (closed.mark m) (uncontrolled refl s)

pub next_case : {unit : c.Unit} {k : ℕ} (labels : List c.Label) (x : c.Statement) (cases : c.Cases) → AreUntested unit k (in_cases (c.a_case labels x cases))
    → AreUntested unit (k + length (flat_map in_label labels)) (in_statement x) × AreUntested unit (k + length (flat_map in_label labels) + length (in_statement x)) (in_cases cases)
next_case labels x cases s =
    let it = three (flat_map in_label labels) (in_statement x) (in_cases cases) (each in_label closed.label labels) (closed.statement x) s in
    (it.1, it.2)

-- ---- externals

pub defines : {unit : c.Unit} {k : ℕ} (type : c.Specifiers) (d : c.Declarator) (body : c.Items) → AreUntested unit k (in_external (c.Defines type d body))
    → AreUntested unit (k + 1 + length (in_specifiers type) + length (in_declarator d)) (in_items body)
defines type d body s = (three (in_specifiers type) (in_declarator d) (in_items body) (closed.specifiers type) (closed.declarator d) (uncontrolled refl s)).2

pub declared_external : {unit : c.Unit} {k : ℕ} (d : c.Declaration) → AreUntested unit k (in_external (c.Declared d)) → AreUntested unit (k + 1) (in_declaration d)
declared_external d s = uncontrolled refl s

pub next_external : {unit : c.Unit} {k : ℕ} (x : c.External) (xs : List c.External) → AreUntested unit k (flat_map in_external (x ∷ xs))
    → AreUntested unit k (in_external x) × AreUntested unit (k + length (in_external x)) (flat_map in_external xs)
next_external x xs s = two (in_external x) (flat_map in_external xs) (closed.external x) s
