-- Specifiers of the code, as they are read.
use Rattle.lt_tree.specs.declared.specifier.Specifiers.{Specifiers}
use Rattle.lt_tree.specs.declared.specifier.TypeName.{TypeName}
use Rattle.lt_tree.specs.Tree as c
use Rattle.lt_tree.specs.View.{words_of, type_of}
use Rattle.lt_tree.specs.Records.{types_in, specifiers_of, declarator_of}
use Rattle.lt_expr.specs.declared.found.Specifier.{Specifier}
use Rattle.lt_expr.specs.declared.found.Specifier.TheVariants as v
use Rattle.lt_expr.specs.Specifier as s

abbrev pub specifier_of : Specifier → s.Specifier
specifier_of (v.Storage class) = s.storage_class class
specifier_of v.Inline = s.inline_word
specifier_of v.Noreturn = s.noreturn_word
specifier_of v.Const = s.const_word
specifier_of v.Volatile = s.volatile_word
specifier_of (v.Type type) = s.of_type (type_of type)

-- specifiers whose types stand as they were found
abbrev pub found_of : Specifiers → s.Found
found_of found = record { words = words_of found.storage found.inline found.noreturn found.quals; types = types_in found.types.items }

abbrev pub type_name_of : TypeName → c.Specifiers × c.Declarator
type_name_of n = (specifiers_of n.specifiers, declarator_of n.declarator)
