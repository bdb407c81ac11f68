-- What a declarator declares, as the program holds it.
use Rattle.lt_tree.specs.Typing.EntityView.{life_of}
use Rattle.lt_tree.specs.Typing.Declaring.{Kind, a_type_name, a_function_name, an_object_of}
use Rattle.lt_declare.specs.declared.kinds.DeclaredKind.{DeclaredKind}
use Rattle.lt_declare.specs.declared.kinds.DeclaredKind.TheVariants as held

abbrev pub kind_in : DeclaredKind → Kind
kind_in held.TypeName = a_type_name
kind_in held.Function = a_function_name
kind_in (held.Object life is_register) = an_object_of (life_of life) is_register
