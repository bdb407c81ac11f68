-- That what predicates may copy declares no tag, wherever typing comes to it.
use Rattle.std.specs.Prelude.{◌≡◌, ◌≤◌, ℕ, Bool, true, List, [], ◌∷◌, length, Option}
use Rattle.lt_model.specs.declared.scalar.DataModel.{DataModel}
use Rattle.lt_model.specs.declared.scalar.Scalar.{Scalar}
use Rattle.lt_tree.specs.declared.specifier.Storage.{Storage}
use Rattle.lt_tree.specs.Tree as c
use Rattle.lt_tree.specs.Typing.Types.{CType}
use Rattle.lt_tree.specs.Typing.Rules.{Rule}
use Rattle.lt_tree.specs.Typing.Entities.{Known, Life}
use Rattle.lt_tree.specs.Typing.Steps.{Goes, in_block}
use Rattle.lt_tree.specs.Typing.Expressions.{Use}
use Rattle.lt_tree.specs.Typing.Specifying.{Specified, Setting}
use Rattle.lt_tree.specs.Typing.Declarators.{Built, Declares}
use Rattle.lt_tree.specs.Typing.ExpressionTyping.{expression, expressions, marks, mark, specifiers, declarator}
use Rattle.lt_tree.specs.Typing.Filling.{Filling}
use Rattle.lt_tree.specs.Typing.InitialiserTyping.{initialiser}
use Rattle.lt_tree.specs.Typing.Declaring.{declare_object}
use Rattle.lt_tree.specs.Typing.DeclarationTyping.{init_declarator, declaration_by}
use Rattle.lt_tree.specs.Typing.StatementTyping.{Around, optional_expression, optional_test, for_start, Seen, labels, statement}
use Rattle.lt_tree.specs.Typing.UnitTyping.{frame_of, external}
use Rattle.lt_objectives.specs.Tags.{tags_in, tags_in_start, tags_of_parameters, tags_behind}
use Rattle.lt_objectives.specs.Copies.{all_nodes_fit}
use Rattle.lt_typed_nodes.specs.Reaching as place
use Rattle.lt_typed_nodes.specs.Reaching.{IsReached}
use Rattle.lt_erased_typing.specs.Simple.{IsSimpleWith}
use Rattle.lt_simple_copies.specs.Scopes.{AreInScope, KeepsBehind}

-- ---- each part keeps the tags that are in scope

abbrev pub ExpressionsKeepTags : Type 0
ExpressionsKeepTags =
    ((it : c.Expression) (role : Use) (known : Known) → KeepsBehind [] known (expression it role known))
    × ((them : c.Expressions) (known : Known) → KeepsBehind [] known (expressions them known))
    × ((them : c.Marks) (known : Known) → KeepsBehind [] known (marks them known))
    × ((it : c.Mark) (known : Known) → KeepsBehind [] known (mark it known))
    -- behind specifiers their tags are in scope
    × ((it : c.Specifiers) (setting : Setting) (known : Known) → KeepsBehind (tags_in it) known (specifiers it setting known))
    × ((it : c.Declarator) (s : Specified) (is_definition : Bool) (judge : Option (List ℕ) → Known → Built → List Rule) (known : Known)
    → KeepsBehind [] known (declarator it s is_definition judge known))
    -- the tags of parameters are in scope where a function's body is
    × ((it : c.Declarator) (s : Specified) (judge : Option (List ℕ) → Known → Built → List Rule) (known next : Known) (declared : Declares)
    → declarator it s true judge known ≡ Goes declared next → 1 ≤ length known.frames → AreInScope (frame_of declared.parameters ∷ next.frames) (tags_of_parameters it))

abbrev pub ItemsKeepTags : Type 0
ItemsKeepTags =
    ((it : c.Initialiser) (is_static : Bool) (filling : Filling) (known : Known) → KeepsBehind [] known (initialiser it is_static filling known))
    × ((life : Life) (is_register : Bool) (node : ℕ) (name : List ℕ) (t : CType) (known : Known) → KeepsBehind [] known (declare_object life is_register node name t known))
    × ((s : Specified) (it : c.InitDeclarator) (known : Known) → KeepsBehind [] known (init_declarator s it known))
    × ((effective : Option Storage → Option Storage) (it : c.Declaration) (known : Known) → KeepsBehind (tags_in it.specifiers) known (declaration_by effective it known))
    × ((it : c.ForStart) (known : Known) → KeepsBehind (tags_in_start it) known (for_start it known))
    × ((it : Option c.Expression) (known : Known) → KeepsBehind [] known (optional_test it known))
    × ((it : Option c.Expression) (known : Known) → KeepsBehind [] known (optional_expression it known))
    × ((list : List c.Label) (type : Option Scalar) (seen : Seen) (known : Known) → KeepsBehind [] known (labels list type seen known))
    × ((it : c.Statement) (around : Around) (known : Known) → KeepsBehind [] known (statement it around known))
    × ((it : c.Statement) (around : Around) (known : Known) → KeepsBehind [] known (in_block (statement it around) known))
    × ((it : c.External) (known : Known) → KeepsBehind (tags_behind [] it) known (external it known))

-- ---- what is copied

-- An expression to which the typing of a unit comes is simple there, if each of its nodes is one that predicates may copy.
abbrev pub CopiesAreSimple : Type 0
CopiesAreSimple =
    (greatest : ℕ) (model : DataModel) (unit : c.Unit) (role : Use) (e : c.Expression) (known : Known)
    → IsReached greatest model unit (place.an_expression role e) known → all_nodes_fit unit known.next e ≡ true → IsSimpleWith true known.frames e
