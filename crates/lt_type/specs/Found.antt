-- What parts of declarators and parameters are, once they were gone over: types are made of them from the last to the first.
use Rattle.std.specs.Prelude.{ℕ, Bool, false, List, [], ◌∷◌, Option}
use Rattle.lt_tree.specs.declared.declarator.DeclaratorPart.{DeclaratorPart}
use Rattle.lt_tree.specs.declared.declarator.DeclaratorPart.TheBlock as at
use Rattle.lt_tree.specs.declared.declarator.Parameter.{Parameter}
use Rattle.lt_tree.specs.Tree as c
use Rattle.lt_tree.specs.View.{qualifiers_of, maybe_of, parameters_of}
use Rattle.lt_tree.specs.Records.{specifiers_of, declarator_of}
use Rattle.lt_tree.specs.Typing.Types.{CType, adjusted}
use Rattle.lt_tree.specs.Typing.Entities.{Known}
use Rattle.lt_tree.specs.Typing.Steps.{Walk, ◌>>=◌, gives, in_block}
use Rattle.lt_tree.specs.Typing.Specifying.{elsewhere, is_register}
use Rattle.lt_tree.specs.Typing.Declarators as d
use Rattle.lt_tree.specs.Typing.ExpressionTyping as typing
use Rattle.lt_type.specs.declared.walk.shapes.Shape.{Shape}
use Rattle.lt_type.specs.declared.walk.shapes.Shape.TheVariants as shape
use Rattle.lt_type.specs.declared.walk.parameters.FoundParameter.{FoundParameter}
use Rattle.lt_declare.specs.DeclaredViews.{parameters_in, declares_of}

-- ---- parts of declarators

-- a part of a declarator
pub data Part : Type 0 where
  a_pointer : c.Qualifiers → Part
  an_array : Option ℕ → Part
  a_function : d.Parameters → Part

abbrev pub part_of : List CType → Shape → Part
part_of types (shape.Pointer quals) = a_pointer (qualifiers_of quals)
part_of types (shape.Array n) = an_array n
part_of types (shape.Function parameters) = a_function (parameters_in types parameters)

abbrev pub part : DeclaratorPart → (is_definition is_outermost : Bool) → Walk Part
part (at.Pointer quals) is_definition is_outermost = gives (a_pointer (qualifiers_of quals))
part (at.Array' length) is_definition is_outermost = typing.maybe (maybe_of length) >>= (λ n. gives (an_array (d.length_or_none is_outermost n)))
part (at.Function ps) is_definition is_outermost = in_block (typing.parameters (parameters_of ps) is_definition) >>= (λ them. gives (a_function them))

-- from the name outwards; whether these are all parts
abbrev pub parts : List DeclaratorPart → (is_definition is_outermost : Bool) → Walk (List Part)
parts [] is_definition is_outermost = gives []
parts (first ∷ rest) is_definition is_outermost = part first is_definition is_outermost >>= (λ p. parts rest false false >>= (λ ps. gives (p ∷ ps)))

-- the type with one more part around it
abbrev pub with_part : Known → Part → d.Built → d.Built
with_part known (a_pointer quals) inner = d.pointer_to quals inner
with_part known (an_array n) inner = d.array_of known n inner
with_part known (a_function them) inner = d.function_of them inner

abbrev pub with_parts : Known → List Part → d.Built → d.Built
with_parts known [] inner = inner
with_parts known (p ∷ ps) inner = with_part known p (with_parts known ps inner)

-- ---- parameters

-- what a parameter declares, and its objects
pub record Found : Type 0 where
  pub declared : d.Declares
  pub objects : List ℕ

abbrev pub found_of : List CType → FoundParameter → Found
found_of types p = record { declared = declares_of types p.declared; objects = p.objects.items }

abbrev pub parameter : c.Specifiers → c.Declarator → (is_definition : Bool) → Walk Found
parameter s it_declares is_definition =
    typing.specifiers s elsewhere >>= (λ it. typing.declarator it_declares it false (d.parameter_faults is_definition) >>= (λ declared.
    d.binds_parameter is_definition (is_register it) declared.node declared.name (adjusted declared.type) >>= (λ objects. gives (record { declared = declared; objects = objects }))))

abbrev pub parameters : List Parameter → (is_definition : Bool) → Walk (List Found)
parameters [] is_definition = gives []
parameters (p ∷ rest) is_definition = parameter (specifiers_of p.specifiers) (declarator_of p.declarator) is_definition >>= (λ first. parameters rest is_definition >>= (λ others. gives (first ∷ others)))

abbrev pub with_found : Found → d.Parameters → d.Parameters
with_found p rest = d.parameter_before p.declared p.objects rest

abbrev pub with_all_found : List Found → d.Parameters → d.Parameters
with_all_found [] rest = rest
with_all_found (p ∷ ps) rest = with_found p (with_all_found ps rest)
