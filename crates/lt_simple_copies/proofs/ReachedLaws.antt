-- What lies behind each part that typing goes over: so many nodes, and the tags that are in scope.
use Rattle.std.proofs.Common.{◌≡◌, ℕ, Bool, List, [], Option}
use Rattle.std.specs.List.{flat_map}
use Rattle.lt_model.specs.declared.scalar.Scalar.{Scalar}
use Rattle.lt_tree.specs.Tree as c
use Rattle.lt_tree.specs.Nodes.{in_expression, in_marks, in_mark, in_specifiers, in_declarator, in_initialiser, in_init_declarator, in_declaration, in_optional, in_start, in_label, in_statement, in_external}
use Rattle.lt_tree.specs.Typing.Types.{CType}
use Rattle.lt_tree.specs.Typing.TypedTree.{Marks, Mark, Local, Statement}
use Rattle.lt_tree.specs.Typing.Rules.{Rule}
use Rattle.lt_tree.specs.Typing.Entities.{Known, Life}
use Rattle.lt_tree.specs.Typing.Steps.{Goes, in_block}
use Rattle.lt_tree.specs.Typing.Expressions.{Typed, Use}
use Rattle.lt_tree.specs.Typing.Specifying.{Specified, Setting}
use Rattle.lt_tree.specs.Typing.Declarators.{Built, Declares}
use Rattle.lt_tree.specs.Typing.ExpressionTyping.{expression, marks, mark, specifiers, declarator}
use Rattle.lt_tree.specs.Typing.Filling.{Filling}
use Rattle.lt_tree.specs.Typing.InitialiserTyping.{initialiser}
use Rattle.lt_tree.specs.Typing.Declaring.{declare_object}
use Rattle.lt_tree.specs.Typing.DeclarationTyping.{DeclaredLocals, init_declarator, declaration}
use Rattle.lt_tree.specs.Typing.StatementTyping.{Around, TypedStart, Labelled, optional_expression, optional_test, for_start, Seen, labels, statement}
use Rattle.lt_tree.specs.Typing.UnitTyping.{external}
use Rattle.lt_tree_laws.specs.Typing.NodeNumbers.{PartsAreNumbered}
use Rattle.lt_objectives.specs.Tags.{tags_in, tags_in_start, tags_behind}
use Rattle.lt_simple_copies.specs.Laws.{ExpressionsKeepTags, ItemsKeepTags}
use Rattle.lt_simple_copies.proofs.ReachedSteps.{as_law, in_new_frame, scoped}
use Rattle.lt_simple_copies.proofs.ReachedDeclarators.{of_expression, of_mark, of_marks, of_specifiers, of_declarator}
use Rattle.lt_simple_copies.proofs.ReachedDeclared.{of_initialiser, of_declare_object, of_init_declarator, of_declaration_by, of_optional, of_optional_test, of_start, of_labels}
use Rattle.lt_simple_copies.proofs.ReachedPlaces.{Steps, steps}

pub record Laws : Type 0 where
  pub expressions : ExpressionsKeepTags
  pub items : ItemsKeepTags
  pub numbers : PartsAreNumbered

pub behind_expression : Laws → (it : c.Expression) (role : Use) (known : Known) {x : Typed} {k : Known} → expression it role known ≡ Goes x k → Steps [] (in_expression it) known k
behind_expression laws it role known is = steps known (expression it role known) (laws.expressions.0 it role known) (of_expression laws.numbers it role known) is

pub behind_marks : Laws → (them : c.Marks) (known : Known) {typed : Marks} {k : Known} → marks them known ≡ Goes typed k → Steps [] (in_marks them) known k
behind_marks laws them known is = steps known (marks them known) (laws.expressions.2 them known) (of_marks laws.numbers them known) is

pub behind_mark : Laws → (it : c.Mark) (known : Known) {m : Mark} {k : Known} → mark it known ≡ Goes m k → Steps [] (in_mark it) known k
behind_mark laws it known is = steps known (mark it known) (laws.expressions.3 it known) (of_mark laws.numbers it known) is

pub behind_specifiers : Laws → (it : c.Specifiers) (setting : Setting) (known : Known) {s : Specified} {k : Known} → specifiers it setting known ≡ Goes s k → Steps (tags_in it) (in_specifiers it) known k
behind_specifiers laws it setting known is = steps known (specifiers it setting known) (laws.expressions.4 it setting known) (of_specifiers laws.numbers it setting known) is

pub behind_declarator : Laws → (it : c.Declarator) (s : Specified) (is_definition : Bool) (judge : Option (List ℕ) → Known → Built → List Rule) (known : Known) {declared : Declares} {k : Known}
    → declarator it s is_definition judge known ≡ Goes declared k → Steps [] (in_declarator it) known k
behind_declarator laws it s is_definition judge known is =
    steps known (declarator it s is_definition judge known) (laws.expressions.5 it s is_definition judge known) (of_declarator laws.numbers it s is_definition judge known) is

pub behind_initialiser : Laws → (it : c.Initialiser) (is_static : Bool) (filling : Filling) (known : Known) {filled : Filling} {k : Known}
    → initialiser it is_static filling known ≡ Goes filled k → Steps [] (in_initialiser it) known k
behind_initialiser laws it is_static filling known is =
    steps known (initialiser it is_static filling known) (laws.items.0 it is_static filling known) (of_initialiser laws.numbers it is_static filling known) is

pub behind_object : Laws → (life : Life) (is_register : Bool) (node : ℕ) (name : List ℕ) (t : CType) (known : Known) {n : ℕ} {k : Known}
    → declare_object life is_register node name t known ≡ Goes n k → Steps [] [] known k
behind_object laws life is_register node name t known is =
    steps known (declare_object life is_register node name t known) (laws.items.1 life is_register node name t known) (of_declare_object life is_register node name t known) is

pub behind_init_declarator : Laws → (s : Specified) (it : c.InitDeclarator) (known : Known) {locals : List Local} {k : Known} → init_declarator s it known ≡ Goes locals k → Steps [] (in_init_declarator it) known k
behind_init_declarator laws s it known is = steps known (init_declarator s it known) (laws.items.2 s it known) (of_init_declarator laws.numbers s it known) is

pub behind_declaration : Laws → (it : c.Declaration) (known : Known) {locals : DeclaredLocals} {k : Known} → declaration it known ≡ Goes locals k → Steps (tags_in it.specifiers) (in_declaration it) known k
behind_declaration laws it known is = steps known (declaration it known) (laws.items.3 (λ class. class) it known) (of_declaration_by laws.numbers (λ class. class) it known) is

pub behind_start : Laws → (it : c.ForStart) (known : Known) {b : TypedStart} {k : Known} → for_start it known ≡ Goes b k → Steps (tags_in_start it) (in_start it) known k
behind_start laws it known is = steps known (for_start it known) (laws.items.4 it known) (of_start laws.numbers it known) is

pub behind_test : Laws → (it : Option c.Expression) (known : Known) {x : Option Typed} {k : Known} → optional_test it known ≡ Goes x k → Steps [] (in_optional it) known k
behind_test laws it known is = steps known (optional_test it known) (laws.items.5 it known) (of_optional_test laws.numbers it known) is

pub behind_step : Laws → (it : Option c.Expression) (known : Known) {x : Option Typed} {k : Known} → optional_expression it known ≡ Goes x k → Steps [] (in_optional it) known k
behind_step laws it known is = steps known (optional_expression it known) (laws.items.6 it known) (of_optional laws.numbers it known) is

pub behind_labels : Laws → (them : List c.Label) (type : Option Scalar) (seen : Seen) (known : Known) {it : Labelled} {k : Known}
    → labels them type seen known ≡ Goes it k → Steps [] (flat_map in_label them) known k
behind_labels laws them type seen known is = steps known (labels them type seen known) (laws.items.7 them type seen known) (of_labels laws.numbers them type seen known) is

pub behind_statement : Laws → (it : c.Statement) (around : Around) (known : Known) {s : Statement} {k : Known} → statement it around known ≡ Goes s k → Steps [] (in_statement it) known k
behind_statement laws it around known is =
    steps known (statement it around known) (laws.items.8 it around known) (as_law known (in_statement it) (statement it around known) (laws.numbers.4 it around known)) is

pub behind_block : Laws → (it : c.Statement) (around : Around) (known : Known) {s : Statement} {k : Known} → in_block (statement it around) known ≡ Goes s k → Steps [] (in_statement it) known k
behind_block laws it around known is =
    steps known (in_block (statement it around) known) (laws.items.9 it around known)
    (scoped known (as_law (in_new_frame known) (in_statement it) (statement it around (in_new_frame known)) (laws.numbers.4 it around (in_new_frame known)))) is

pub behind_external : Laws → (it : c.External) (known : Known) {u : Unit {0}} {k : Known} → external it known ≡ Goes u k → Steps (tags_behind [] it) (in_external it) known k
behind_external laws it known is = steps known (external it known) (laws.items.10 it known) (as_law known (in_external it) (external it known) (laws.numbers.5 it known)) is
