-- Where typing comes to in a unit whose typing goes on to its end: from a unit to its externals, declarations, initialisers and statements.
use Rattle.std.specs.Prelude.{◌≡◌, ℕ, Bool, true, false, if◌then◌else◌, List, [], ◌∷◌, filter_map, Option, Some, None, unwrap_or, is_some}
use Rattle.lt_model.specs.declared.scalar.DataModel.{DataModel}
use Rattle.lt_model.specs.declared.scalar.Scalar.{Scalar}
use Rattle.lt_tree.specs.declared.specifier.Storage.{Storage}
use Rattle.lt_tree.specs.Tree as c
use Rattle.lt_tree.specs.Typing.Types.{CType}
use Rattle.lt_tree.specs.Typing.Entities.{Known, Life, a_function, is_static, bind_name, type_of_object, Fact, starting}
use Rattle.lt_tree.specs.Typing.Programs.{Program}
use Rattle.lt_tree.specs.Typing.Steps.{in_block}
use Rattle.lt_tree.specs.Typing.Expressions.{as_value, as_truth}
use Rattle.lt_tree.specs.Typing.Specifying.{Specified, alone, elsewhere}
use Rattle.lt_tree.specs.Typing.Declarators.{Declares}
use Rattle.lt_tree.specs.Typing.ExpressionTyping.{expression, mark, specifiers, declarator}
use Rattle.lt_tree.specs.Typing.Filling.{Filling, text_in, filling_of}
use Rattle.lt_tree.specs.Typing.InitialiserTyping.{Judges, filling_for, initialiser, initialisers, object_initialiser}
use Rattle.lt_tree.specs.Typing.Declaring.{an_object_of, kind_of, declaration_faults, with_declared, declare_object, length_faults, definition_faults}
use Rattle.lt_tree.specs.Typing.DeclarationTyping.{declare_named, init_declarator, init_declarators, has_no_declarator, declaration_by, declaration, effective_in_for}
use Rattle.lt_tree.specs.Typing.StatementTyping.{Around, in_a_loop, in_a_switch, optional_expression, optional_test, for_start, switch_type, Seen, labels, statement, items, cases}
use Rattle.lt_tree.specs.Typing.UnitTyping.{around_body, frame_of, external, externals, defined_in, IsProgramTo}
use Rattle.lt_typed_nodes.specs.Coming.{ComesTo, Behind, entered, in_new_block, ComesToIt, ComesToOne}

-- ---- initialisers; where a string literal initialises an array of characters it is gone over by itself

abbrev pub ComesInInitialiser : List Fact → Known → (is_static : Bool) → Filling → c.Initialiser → Type 0
ComesInInitialiser facts known is_static filling (c.Value e) = text_in e ≡ None → ComesToOne facts known as_value e
ComesInInitialiser facts known is_static filling (c.Braces list) =
    ComesTo facts (entered known) (initialisers list is_static (filling_for (entered known) list filling.left) (entered known))

abbrev pub ComesToInitialisers : List Fact → Known → (is_static : Bool) → Filling → c.Initialisers → Type 0
ComesToInitialisers facts known is_static filling c.no_initialisers = Unit {0}
ComesToInitialisers facts known is_static filling (c.an_initialiser first rest) =
    ComesTo facts known (initialiser first is_static filling known)
    × Behind (initialiser first is_static filling known) (λ filled k. ComesTo facts k (initialisers rest is_static filled k))

-- of an object of this type
abbrev pub ComesInObject : List Fact → Known → (is_static : Bool) → CType → c.Initialiser → Type 0
ComesInObject facts known is_static t (c.Value e) = text_in e ≡ None → ComesToOne facts known as_value e
ComesInObject facts known is_static t (c.Braces list) = ComesTo facts (entered known) (initialisers list is_static (filling_of (entered known) 0 t list) (entered known))

-- ---- declarations

abbrev pub ComesInDeclaration : List Fact → Known → (Option Storage → Option Storage) → c.Declaration → Type 0
ComesInDeclaration facts known effective d =
    Behind (specifiers d.specifiers (if has_no_declarator d.declarators then alone else elsewhere) known)
    (λ it k. ComesTo facts k (init_declarators (record it { storage = effective it.storage }) d.declarators k))

abbrev pub ComesToDeclarators : List Fact → Known → Specified → List c.InitDeclarator → Type 0
ComesToDeclarators facts known it [] = Unit {0}
ComesToDeclarators facts known it (d ∷ ds) =
    ComesTo facts known (init_declarator it d known) × Behind (init_declarator it d known) (λ locals k. ComesTo facts k (init_declarators it ds k))

-- from a declarator to the initialiser of the object that it declares
abbrev pub ComesToStart : List Fact → Known → Specified → Declares → c.Initialiser → Type 0
ComesToStart facts known it declared i =
    (name : List ℕ) (life : Life) (is_register : Bool) → declared.name ≡ Some name → kind_of known it.storage declared.type ≡ an_object_of life is_register
    → Behind (declare_object life is_register declared.node name declared.type known) (λ n k. ComesTo facts k (object_initialiser (is_static life) (type_of_object k n) length_faults i k))

abbrev pub ComesToDeclared : List Fact → Known → Specified → c.InitDeclarator → Type 0
ComesToDeclared facts known it d =
    Behind (declarator d.declarator it false (declaration_faults it.storage (is_some d.initialiser)) known) (λ declared k. ComesTo facts k (declare_named it declared d.initialiser k))

-- ---- statements

-- to a statement that is a block of its own
abbrev pub ComesToStatement : List Fact → Known → Around → c.Statement → Type 0
ComesToStatement facts known around it = ComesTo facts (in_new_block known) (statement it around (in_new_block known))

abbrev pub ComesToTest : List Fact → Known → Option c.Expression → Type 0
ComesToTest facts known None = Unit {0}
ComesToTest facts known (Some it) = ComesToIt facts known as_truth it

abbrev pub ComesToOptional : List Fact → Known → Option c.Expression → Type 0
ComesToOptional facts known None = Unit {0}
ComesToOptional facts known (Some it) = ComesToIt facts known as_value it

abbrev pub ComesInStart : List Fact → Known → c.ForStart → Type 0
ComesInStart facts known c.Nothing = Unit {0}
ComesInStart facts known (c.First it) = ComesToIt facts known as_value it
ComesInStart facts known (c.Declares d) = ComesTo facts known (declaration_by effective_in_for d known)

-- a test and what it chooses
abbrev pub ComesToBody : List Fact → Known → Around → c.Expression → c.Statement → Type 0
ComesToBody facts start around test body = ComesToIt facts start as_truth test × Behind (expression test as_truth start) (λ x k. ComesToStatement facts k around body)

abbrev pub ComesInFor : List Fact → Known → Around → c.ForStart → (test step : Option c.Expression) → c.Statement → Type 0
ComesInFor facts start around begin test step body =
    ComesTo facts start (for_start begin start)
    × Behind (for_start begin start) (λ b k. ComesTo facts k (optional_test test k)
    × Behind (optional_test test k) (λ x j. ComesTo facts j (optional_expression step j)
    × Behind (optional_expression step j) (λ y i. ComesToStatement facts i around body)))

-- Typing comes to the parts of a statement.
abbrev pub ComesInStatement : List Fact → Known → Around → c.Statement → Type 0
ComesInStatement facts known around (c.Compound list) = ComesTo facts (in_new_block (entered known)) (items list around (in_new_block (entered known)))
ComesInStatement facts known around (c.Evaluates it) = ComesToOne facts known as_value it
ComesInStatement facts known around (c.If test body) = ComesToBody facts (in_new_block (entered known)) around test body
ComesInStatement facts known around (c.IfElse test body other) =
    ComesToBody facts (in_new_block (entered known)) around test body
    × Behind (expression test as_truth (in_new_block (entered known))) (λ x k. Behind (in_block (statement body around) k) (λ s j. ComesToStatement facts j around other))
ComesInStatement facts known around (c.While test body) = ComesToBody facts (in_new_block (entered known)) (in_a_loop around) test body
ComesInStatement facts known around (c.Do body test) =
    ComesToStatement facts (in_new_block (entered known)) (in_a_loop around) body
    × Behind (in_block (statement body (in_a_loop around)) (in_new_block (entered known))) (λ s k. ComesToIt facts k as_truth test)
ComesInStatement facts known around (c.For begin test step body) = ComesInFor facts (in_new_block (entered known)) (in_a_loop around) begin test step body
ComesInStatement facts known around (c.Switch operand list) =
    ComesToIt facts (in_new_block (entered known)) as_truth operand
    × Behind (expression operand as_truth (in_new_block (entered known)))
    (λ x k. ComesTo facts k (cases list (switch_type k.model x) (record { values = []; has_default = false }) (in_a_switch around) k))
ComesInStatement facts known around (c.Return it) = ComesTo facts (entered known) (optional_expression it (entered known))
ComesInStatement facts known around it = Unit {0}

abbrev pub ComesToItems : List Fact → Known → Around → c.Items → Type 0
ComesToItems facts known around c.no_items = Unit {0}
ComesToItems facts known around (c.a_declaration first rest) =
    ComesTo facts (entered known) (declaration first (entered known)) × Behind (declaration first (entered known)) (λ it k. ComesTo facts k (items rest around k))
ComesToItems facts known around (c.a_statement first rest) =
    ComesTo facts (entered known) (statement first around (entered known)) × Behind (statement first around (entered known)) (λ s k. ComesTo facts k (items rest around k))
ComesToItems facts known around (c.a_label first rest) = Behind (mark first (entered known)) (λ m k. ComesTo facts k (items rest around k))

abbrev pub ComesToCases : List Fact → Known → Option Scalar → Seen → Around → c.Cases → Type 0
ComesToCases facts known s seen around c.no_cases = Unit {0}
ComesToCases facts known s seen around (c.a_case list first rest) =
    Behind (labels list s seen known) (λ it k. ComesToStatement facts k around first
    × Behind (in_block (statement first around) k) (λ body j. ComesTo facts j (cases rest s it.seen around j)))

-- ---- units

-- what is known where the body of a function begins that is declared so
abbrev pub in_body : Declares → Known → Known
in_body it known =
    let there = bind_name (unwrap_or it.name []) a_function (with_declared (unwrap_or it.name []) it.type known) in record there { frames = frame_of it.parameters ∷ there.frames }

abbrev pub ComesInExternal : List Fact → Known → c.External → Type 0
ComesInExternal facts known (c.Defines s d body) =
    Behind (specifiers s elsewhere (entered known)) (λ it k. Behind (declarator d it true (definition_faults it.storage) k)
    (λ declared j. ComesTo facts (in_body declared j) (items body (around_body declared.type) (in_body declared j))))
ComesInExternal facts known (c.Declared d) = ComesTo facts (entered known) (declaration d (entered known))

abbrev pub ComesToExternals : List Fact → Known → List c.External → Type 0
ComesToExternals facts known [] = Unit {0}
ComesToExternals facts known (x ∷ xs) = ComesTo facts known (external x known) × Behind (external x known) (λ u k. ComesTo facts k (externals xs k))

-- Typing comes to the externals of a unit that has a program, with the facts of the program.
abbrev pub UnitsAreComeTo : Type 0
UnitsAreComeTo =
    (greatest : ℕ) (model : DataModel) (unit : c.Unit) (program : Program) → IsProgramTo greatest model unit program
    → ComesTo program.facts (starting greatest model (filter_map defined_in unit)) (externals unit (starting greatest model (filter_map defined_in unit)))

abbrev pub ExternalsAreComeTo : Type 0
ExternalsAreComeTo =
    ((facts : List Fact) (known : Known) (them : List c.External) → ComesTo facts known (externals them known) → ComesToExternals facts known them)
    × ((facts : List Fact) (known : Known) (it : c.External) → ComesTo facts known (external it known) → ComesInExternal facts known it)

abbrev pub StatementsAreComeTo : Type 0
StatementsAreComeTo =
    ((facts : List Fact) (known : Known) (around : Around) (it : c.Statement) → ComesTo facts known (statement it around known) → ComesInStatement facts known around it)
    × ((facts : List Fact) (known : Known) (around : Around) (them : c.Items) → ComesTo facts known (items them around known) → ComesToItems facts known around them)
    × ((facts : List Fact) (known : Known) (s : Option Scalar) (seen : Seen) (around : Around) (them : c.Cases) → ComesTo facts known (cases them s seen around known) → ComesToCases facts known s seen around them)
    × ((facts : List Fact) (known : Known) (it : c.ForStart) → ComesTo facts known (for_start it known) → ComesInStart facts known it)
    × ((facts : List Fact) (known : Known) (it : Option c.Expression) → ComesTo facts known (optional_test it known) → ComesToTest facts known it)
    × ((facts : List Fact) (known : Known) (it : Option c.Expression) → ComesTo facts known (optional_expression it known) → ComesToOptional facts known it)

abbrev pub DeclarationsAreComeTo : Type 0
DeclarationsAreComeTo =
    ((facts : List Fact) (known : Known) (effective : Option Storage → Option Storage) (d : c.Declaration) → ComesTo facts known (declaration_by effective d known) → ComesInDeclaration facts known effective d)
    × ((facts : List Fact) (known : Known) (it : Specified) (ds : List c.InitDeclarator) → ComesTo facts known (init_declarators it ds known) → ComesToDeclarators facts known it ds)
    × ((facts : List Fact) (known : Known) (it : Specified) (d : c.InitDeclarator) → ComesTo facts known (init_declarator it d known) → ComesToDeclared facts known it d)
    × ((facts : List Fact) (known : Known) (it : Specified) (declared : Declares) (i : c.Initialiser) → ComesTo facts known (declare_named it declared (Some i) known) → ComesToStart facts known it declared i)

abbrev pub InitialisersAreComeTo : Type 0
InitialisersAreComeTo =
    ((facts : List Fact) (known : Known) (is_static : Bool) (t : CType) (judge : Judges) (i : c.Initialiser) → ComesTo facts known (object_initialiser is_static t judge i known) → ComesInObject facts known is_static t i)
    × ((facts : List Fact) (known : Known) (is_static : Bool) (filling : Filling) (i : c.Initialiser) → ComesTo facts known (initialiser i is_static filling known) → ComesInInitialiser facts known is_static filling i)
    × ((facts : List Fact) (known : Known) (is_static : Bool) (filling : Filling) (them : c.Initialisers) → ComesTo facts known (initialisers them is_static filling known) → ComesToInitialisers facts known is_static filling them)
