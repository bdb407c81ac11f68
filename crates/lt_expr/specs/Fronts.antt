-- What a loop has read so far, before what it still reads.
use Rattle.std.specs.Prelude.{ℕ, Bool, ◌||◌, List, [], ◌∷◌, ◌++◌, Option, Some, None, option_map}
use Rattle.lt_tree.specs.Tree as c
use Rattle.lt_tree.specs.Comma.{followed_by}
use Rattle.lt_expr.specs.Front.{Rest}
use Rattle.lt_tree.specs.Grammar.{joined}
use Rattle.lt_expr.specs.Specifier.{Found}

-- the parts of a comma expression, or the expression alone
abbrev pub front_of : c.Expression → c.Expressions
front_of (c.Comma parts) = parts
front_of e = c.an_expression e c.no_expressions

-- what is read, with something put before it
abbrev pub after : {A : Type 0} → (A → A) → Option (A × Rest) → Option (A × Rest)
after put read = option_map (λ x. (put x.0, x.1)) read

abbrev pub marks_before : c.Marks → c.Marks → c.Marks
marks_before c.no_marks rest = rest
marks_before (c.a_mark first front) rest = c.a_mark first (marks_before front rest)

abbrev pub bindings_before : c.Bindings → c.Bindings → c.Bindings
bindings_before c.no_bindings rest = rest
bindings_before (c.a_binding name value front) rest = c.a_binding name value (bindings_before front rest)

abbrev pub types_before : c.TypeSpecifiers → c.TypeSpecifiers → c.TypeSpecifiers
types_before c.no_types rest = rest
types_before (c.a_type first front) rest = c.a_type first (types_before front rest)

abbrev pub members_before : c.Members → c.Members → c.Members
members_before c.no_members rest = rest
members_before (c.a_member first front) rest = c.a_member first (members_before front rest)

abbrev pub member_declarators_before : c.MemberDeclarators → c.MemberDeclarators → c.MemberDeclarators
member_declarators_before c.no_declarators rest = rest
member_declarators_before (c.a_declarator d width front) rest = c.a_declarator d width (member_declarators_before front rest)

abbrev pub enumerators_before : c.Enumerators → c.Enumerators → c.Enumerators
enumerators_before c.no_enumerators rest = rest
enumerators_before (c.an_enumerator name value front) rest = c.an_enumerator name value (enumerators_before front rest)

abbrev pub parameters_before : c.ParameterList → c.ParameterList → c.ParameterList
parameters_before c.no_parameters rest = rest
parameters_before (c.a_parameter s d front) rest = c.a_parameter s d (parameters_before front rest)

abbrev pub qualifiers_before : c.Qualifiers → c.Qualifiers → c.Qualifiers
qualifiers_before front rest = record { constant = front.constant || rest.constant; volatile = front.volatile || rest.volatile }

abbrev pub words_before : c.Words → c.Words → c.Words
words_before front rest = record {
  storage = front.storage ++ rest.storage;
  inline = front.inline || rest.inline;
  noreturn = front.noreturn || rest.noreturn;
  qualifiers = qualifiers_before front.qualifiers rest.qualifiers;
}

abbrev pub found_before : Found → Found → Found
found_before front rest = record { words = words_before front.words rest.words; types = types_before front.types rest.types }
