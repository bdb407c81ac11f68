-- Small trees that the examples share.
use Rattle.std.specs.Prelude.{ℕ, true, false, List, codes, Some, None}
use Rattle.lt_tree.specs.declared.specifier.BasicType.TheVariants as basic
use Rattle.lt_tree.specs.Tree as c
use Rattle.lt_tree.specs.Grammar.{no_words}

abbrev pub a : c.Expression
a = c.Name (codes "a")

abbrev pub b : c.Expression
b = c.Name (codes "b")

abbrev pub x : c.Expression
x = c.Name (codes "x")

abbrev pub one : c.Expression
one = c.Constant (codes "1")

abbrev pub two : c.Expression
two = c.Constant (codes "2")

abbrev pub zero_constant : c.Expression
zero_constant = c.Constant (codes "0")

abbrev pub just : c.Expression → c.Expressions
just e = c.an_expression e c.no_expressions

abbrev pub pair : c.Expression → c.Expression → c.Expressions
pair d e = c.an_expression d (just e)

-- ---- types

abbrev pub of_type : c.TypeSpecifier → c.Specifiers
of_type type = c.specifiers no_words (c.a_type type c.no_types)

abbrev pub int : c.Specifiers
int = of_type (c.Basic basic.Int)

abbrev pub char : c.Specifiers
char = of_type (c.Basic basic.Char)

abbrev pub void : c.Specifiers
void = of_type (c.Basic basic.Void)

abbrev pub no_qualifiers : c.Qualifiers
no_qualifiers = record { constant = false; volatile = false }

abbrev pub constant_only : c.Qualifiers
constant_only = record { constant = true; volatile = false }

abbrev pub pointer : c.Parts → c.Parts
pointer rest = c.Pointer no_qualifiers rest

abbrev pub array_of_three : c.Parts → c.Parts
array_of_three rest = c.Array (c.present (c.Constant (codes "3"))) rest

-- a declarator without a name, and one that is missing
abbrev pub abstract : c.Parts → c.Declarator
abstract parts = c.declarator None parts

abbrev pub missing : c.Declarator
missing = abstract c.no_parts

abbrev pub declares : List ℕ → c.Parts → c.Declarator
declares name parts = c.declarator (Some name) parts

-- one parameter of this type, and its declarator
abbrev pub one_parameter : c.Specifiers → c.Declarator → c.ParameterList
one_parameter s d = c.a_parameter s d c.no_parameters
