-- Lists that a loop reads: one more at the end of what was read is one more before what is read still.
use Rattle.std.proofs.Common.{◌≡◌, ℕ, List, [], ◌∷◌, ◌++◌, Option, Some, None, refl, sym, ap, ◌∙◌}
use Rattle.lt_tree.specs.declared.expression.Expr.{Expr}
use Rattle.lt_tree.specs.declared.mark.Mark.{Mark}
use Rattle.lt_tree.specs.declared.mark.Binding.{Binding}
use Rattle.lt_tree.specs.declared.specifier.Member.{Member}
use Rattle.lt_tree.specs.declared.specifier.MemberDeclarator.{MemberDeclarator}
use Rattle.lt_tree.specs.declared.specifier.Enumerator.{Enumerator}
use Rattle.lt_tree.specs.declared.declarator.DeclaratorPart.{DeclaratorPart, Pointer, Array, Function}
use Rattle.lt_tree.specs.declared.declarator.DeclaratorPart.TheBlock as block
use Rattle.lt_tree.specs.declared.declarator.Parameter.{Parameter}
use Rattle.lt_tree.specs.Tree as c
use Rattle.lt_tree.specs.Comma.{followed_by}
use Rattle.lt_tree.specs.View.{expression_of, mark_of, member_of, part_before}
use Rattle.lt_tree.specs.Records.{expressions_in, marks_in, bindings_in, members_in, member_declarators_in, enumerators_in, parameter_list_in, parts_in, specifiers_of, declarator_of, maybe_in}
use Rattle.lt_expr.specs.Front.{Rest, ◌>>=◌}
use Rattle.lt_expr.specs.Fronts.{after, marks_before, bindings_before, members_before, member_declarators_before, enumerators_before, parameters_before}
use Rattle.lt_tree.specs.Grammar.{joined}
use Rattle.lt_expr.specs.Reading.{NameAndParts}
use Rattle.lt_expr.specs.Namings.{part_alone}

-- what is put before what is read, put together
after_turn : {A : Type 0} (put before one : A → A) → ((x : A) → put x ≡ before (one x)) → (read : Option (A × Rest)) → after put read ≡ after before (read >>= λ y. Some (one y.0, y.1))
after_turn put before one same None = refl
after_turn put before one same (Some y) = ap (λ x. Some (x, y.1)) (same y.0)

after_same : {A : Type 0} (put : A → A) → ((x : A) → put x ≡ x) → (read : Option (A × Rest)) → after put read ≡ read
after_same put same None = refl
after_same put same (Some y) = ap (λ x. Some (x, y.1)) (same y.0)

-- ---- expressions

expressions_push : (front : List Expr) (e : Expr) (rest : c.Expressions) → followed_by (expressions_in (front ++ e ∷ [])) rest ≡ followed_by (expressions_in front) (c.an_expression (expression_of e) rest)
expressions_push [] e rest = refl
expressions_push (x ∷ front) e rest = ap (c.an_expression (expression_of x)) (expressions_push front e rest)

expressions_last : (front : List Expr) (e : Expr) → followed_by (expressions_in front) (c.an_expression (expression_of e) c.no_expressions) ≡ expressions_in (front ++ e ∷ [])
expressions_last [] e = refl
expressions_last (x ∷ front) e = ap (c.an_expression (expression_of x)) (expressions_last front e)

expressions_all : (front : List Expr) → followed_by (expressions_in front) c.no_expressions ≡ expressions_in front
expressions_all [] = refl
expressions_all (x ∷ front) = ap (c.an_expression (expression_of x)) (expressions_all front)

pub more_expressions : (front : List Expr) (e : Expr) (read : Option (c.Expressions × Rest)) → after (followed_by (expressions_in (front ++ e ∷ []))) read ≡ after (followed_by (expressions_in front)) (read >>= λ y. Some (c.an_expression (expression_of e) y.0, y.1))
more_expressions front e read = after_turn (followed_by (expressions_in (front ++ e ∷ []))) (followed_by (expressions_in front)) (c.an_expression (expression_of e)) (expressions_push front e) read

pub last_expressions : (front : List Expr) (e : Expr) (r : Rest) → after (followed_by (expressions_in front)) (Some (c.an_expression (expression_of e) c.no_expressions, r)) ≡ Some (expressions_in (front ++ e ∷ []), r)
last_expressions front e r = ap (λ x. Some (x, r)) (expressions_last front e)

pub all_expressions : (front : List Expr) (r : Rest) → after (followed_by (expressions_in front)) (Some (c.no_expressions, r)) ≡ Some (expressions_in front, r)
all_expressions front r = ap (λ x. Some (x, r)) (expressions_all front)

pub no_expressions : (read : Option (c.Expressions × Rest)) → after (followed_by c.no_expressions) read ≡ read
no_expressions read = after_same (followed_by c.no_expressions) (λ x. refl) read

-- ---- marks

marks_push : (front : List Mark) (m : Mark) (rest : c.Marks) → marks_before (marks_in (front ++ m ∷ [])) rest ≡ marks_before (marks_in front) (c.a_mark (mark_of m) rest)
marks_push [] m rest = refl
marks_push (x ∷ front) m rest = ap (c.a_mark (mark_of x)) (marks_push front m rest)

marks_last : (front : List Mark) (m : Mark) → marks_before (marks_in front) (c.a_mark (mark_of m) c.no_marks) ≡ marks_in (front ++ m ∷ [])
marks_last [] m = refl
marks_last (x ∷ front) m = ap (c.a_mark (mark_of x)) (marks_last front m)

marks_all : (front : List Mark) → marks_before (marks_in front) c.no_marks ≡ marks_in front
marks_all [] = refl
marks_all (x ∷ front) = ap (c.a_mark (mark_of x)) (marks_all front)

pub more_marks : (front : List Mark) (m : Mark) (read : Option (c.Marks × Rest)) → after (marks_before (marks_in (front ++ m ∷ []))) read ≡ after (marks_before (marks_in front)) (read >>= λ y. Some (c.a_mark (mark_of m) y.0, y.1))
more_marks front m read = after_turn (marks_before (marks_in (front ++ m ∷ []))) (marks_before (marks_in front)) (c.a_mark (mark_of m)) (marks_push front m) read

pub last_marks : (front : List Mark) (m : Mark) (r : Rest) → after (marks_before (marks_in front)) (Some (c.a_mark (mark_of m) c.no_marks, r)) ≡ Some (marks_in (front ++ m ∷ []), r)
last_marks front m r = ap (λ x. Some (x, r)) (marks_last front m)

pub all_marks : (front : List Mark) (r : Rest) → after (marks_before (marks_in front)) (Some (c.no_marks, r)) ≡ Some (marks_in front, r)
all_marks front r = ap (λ x. Some (x, r)) (marks_all front)

pub no_marks : (read : Option (c.Marks × Rest)) → after (marks_before c.no_marks) read ≡ read
no_marks read = after_same (marks_before c.no_marks) (λ x. refl) read

-- ---- bindings

bindings_push : (front : List Binding) (b : Binding) (rest : c.Bindings) → bindings_before (bindings_in (front ++ b ∷ [])) rest ≡ bindings_before (bindings_in front) (c.a_binding b.name (expression_of b.value) rest)
bindings_push [] b rest = refl
bindings_push (x ∷ front) b rest = ap (c.a_binding x.name (expression_of x.value)) (bindings_push front b rest)

bindings_last : (front : List Binding) (b : Binding) → bindings_before (bindings_in front) (c.a_binding b.name (expression_of b.value) c.no_bindings) ≡ bindings_in (front ++ b ∷ [])
bindings_last [] b = refl
bindings_last (x ∷ front) b = ap (c.a_binding x.name (expression_of x.value)) (bindings_last front b)

bindings_all : (front : List Binding) → bindings_before (bindings_in front) c.no_bindings ≡ bindings_in front
bindings_all [] = refl
bindings_all (x ∷ front) = ap (c.a_binding x.name (expression_of x.value)) (bindings_all front)

pub more_bindings : (front : List Binding) (b : Binding) (read : Option (c.Bindings × Rest)) → after (bindings_before (bindings_in (front ++ b ∷ []))) read ≡ after (bindings_before (bindings_in front)) (read >>= λ y. Some (c.a_binding b.name (expression_of b.value) y.0, y.1))
more_bindings front b read = after_turn (bindings_before (bindings_in (front ++ b ∷ []))) (bindings_before (bindings_in front)) (c.a_binding b.name (expression_of b.value)) (bindings_push front b) read

pub last_bindings : (front : List Binding) (b : Binding) (r : Rest) → after (bindings_before (bindings_in front)) (Some (c.a_binding b.name (expression_of b.value) c.no_bindings, r)) ≡ Some (bindings_in (front ++ b ∷ []), r)
last_bindings front b r = ap (λ x. Some (x, r)) (bindings_last front b)

pub all_bindings : (front : List Binding) (r : Rest) → after (bindings_before (bindings_in front)) (Some (c.no_bindings, r)) ≡ Some (bindings_in front, r)
all_bindings front r = ap (λ x. Some (x, r)) (bindings_all front)

pub no_bindings : (read : Option (c.Bindings × Rest)) → after (bindings_before c.no_bindings) read ≡ read
no_bindings read = after_same (bindings_before c.no_bindings) (λ x. refl) read

-- ---- members

members_push : (front : List Member) (m : Member) (rest : c.Members) → members_before (members_in (front ++ m ∷ [])) rest ≡ members_before (members_in front) (c.a_member (member_of m) rest)
members_push [] m rest = refl
members_push (x ∷ front) m rest = ap (c.a_member (member_of x)) (members_push front m rest)

members_last : (front : List Member) (m : Member) → members_before (members_in front) (c.a_member (member_of m) c.no_members) ≡ members_in (front ++ m ∷ [])
members_last [] m = refl
members_last (x ∷ front) m = ap (c.a_member (member_of x)) (members_last front m)

members_all : (front : List Member) → members_before (members_in front) c.no_members ≡ members_in front
members_all [] = refl
members_all (x ∷ front) = ap (c.a_member (member_of x)) (members_all front)

pub more_members : (front : List Member) (m : Member) (read : Option (c.Members × Rest)) → after (members_before (members_in (front ++ m ∷ []))) read ≡ after (members_before (members_in front)) (read >>= λ y. Some (c.a_member (member_of m) y.0, y.1))
more_members front m read = after_turn (members_before (members_in (front ++ m ∷ []))) (members_before (members_in front)) (c.a_member (member_of m)) (members_push front m) read

pub last_members : (front : List Member) (m : Member) (r : Rest) → after (members_before (members_in front)) (Some (c.a_member (member_of m) c.no_members, r)) ≡ Some (members_in (front ++ m ∷ []), r)
last_members front m r = ap (λ x. Some (x, r)) (members_last front m)

pub all_members : (front : List Member) (r : Rest) → after (members_before (members_in front)) (Some (c.no_members, r)) ≡ Some (members_in front, r)
all_members front r = ap (λ x. Some (x, r)) (members_all front)

pub no_members : (read : Option (c.Members × Rest)) → after (members_before c.no_members) read ≡ read
no_members read = after_same (members_before c.no_members) (λ x. refl) read

-- ---- declarators

member_declarators_push : (front : List MemberDeclarator) (d : MemberDeclarator) (rest : c.MemberDeclarators) → member_declarators_before (member_declarators_in (front ++ d ∷ [])) rest ≡ member_declarators_before (member_declarators_in front) (c.a_declarator (declarator_of d.declarator) (maybe_in d.width) rest)
member_declarators_push [] d rest = refl
member_declarators_push (x ∷ front) d rest = ap (c.a_declarator (declarator_of x.declarator) (maybe_in x.width)) (member_declarators_push front d rest)

member_declarators_last : (front : List MemberDeclarator) (d : MemberDeclarator) → member_declarators_before (member_declarators_in front) (c.a_declarator (declarator_of d.declarator) (maybe_in d.width) c.no_declarators) ≡ member_declarators_in (front ++ d ∷ [])
member_declarators_last [] d = refl
member_declarators_last (x ∷ front) d = ap (c.a_declarator (declarator_of x.declarator) (maybe_in x.width)) (member_declarators_last front d)

member_declarators_all : (front : List MemberDeclarator) → member_declarators_before (member_declarators_in front) c.no_declarators ≡ member_declarators_in front
member_declarators_all [] = refl
member_declarators_all (x ∷ front) = ap (c.a_declarator (declarator_of x.declarator) (maybe_in x.width)) (member_declarators_all front)

pub more_member_declarators : (front : List MemberDeclarator) (d : MemberDeclarator) (read : Option (c.MemberDeclarators × Rest)) → after (member_declarators_before (member_declarators_in (front ++ d ∷ []))) read ≡ after (member_declarators_before (member_declarators_in front)) (read >>= λ y. Some (c.a_declarator (declarator_of d.declarator) (maybe_in d.width) y.0, y.1))
more_member_declarators front d read = after_turn (member_declarators_before (member_declarators_in (front ++ d ∷ []))) (member_declarators_before (member_declarators_in front)) (c.a_declarator (declarator_of d.declarator) (maybe_in d.width)) (member_declarators_push front d) read

pub last_member_declarators : (front : List MemberDeclarator) (d : MemberDeclarator) (r : Rest) → after (member_declarators_before (member_declarators_in front)) (Some (c.a_declarator (declarator_of d.declarator) (maybe_in d.width) c.no_declarators, r)) ≡ Some (member_declarators_in (front ++ d ∷ []), r)
last_member_declarators front d r = ap (λ x. Some (x, r)) (member_declarators_last front d)

pub all_member_declarators : (front : List MemberDeclarator) (r : Rest) → after (member_declarators_before (member_declarators_in front)) (Some (c.no_declarators, r)) ≡ Some (member_declarators_in front, r)
all_member_declarators front r = ap (λ x. Some (x, r)) (member_declarators_all front)

pub no_member_declarators : (read : Option (c.MemberDeclarators × Rest)) → after (member_declarators_before c.no_declarators) read ≡ read
no_member_declarators read = after_same (member_declarators_before c.no_declarators) (λ x. refl) read

-- ---- enumerators

enumerators_push : (front : List Enumerator) (e : Enumerator) (rest : c.Enumerators) → enumerators_before (enumerators_in (front ++ e ∷ [])) rest ≡ enumerators_before (enumerators_in front) (c.an_enumerator e.name (maybe_in e.value) rest)
enumerators_push [] e rest = refl
enumerators_push (x ∷ front) e rest = ap (c.an_enumerator x.name (maybe_in x.value)) (enumerators_push front e rest)

enumerators_last : (front : List Enumerator) (e : Enumerator) → enumerators_before (enumerators_in front) (c.an_enumerator e.name (maybe_in e.value) c.no_enumerators) ≡ enumerators_in (front ++ e ∷ [])
enumerators_last [] e = refl
enumerators_last (x ∷ front) e = ap (c.an_enumerator x.name (maybe_in x.value)) (enumerators_last front e)

enumerators_all : (front : List Enumerator) → enumerators_before (enumerators_in front) c.no_enumerators ≡ enumerators_in front
enumerators_all [] = refl
enumerators_all (x ∷ front) = ap (c.an_enumerator x.name (maybe_in x.value)) (enumerators_all front)

pub more_enumerators : (front : List Enumerator) (e : Enumerator) (read : Option (c.Enumerators × Rest)) → after (enumerators_before (enumerators_in (front ++ e ∷ []))) read ≡ after (enumerators_before (enumerators_in front)) (read >>= λ y. Some (c.an_enumerator e.name (maybe_in e.value) y.0, y.1))
more_enumerators front e read = after_turn (enumerators_before (enumerators_in (front ++ e ∷ []))) (enumerators_before (enumerators_in front)) (c.an_enumerator e.name (maybe_in e.value)) (enumerators_push front e) read

pub last_enumerators : (front : List Enumerator) (e : Enumerator) (r : Rest) → after (enumerators_before (enumerators_in front)) (Some (c.an_enumerator e.name (maybe_in e.value) c.no_enumerators, r)) ≡ Some (enumerators_in (front ++ e ∷ []), r)
last_enumerators front e r = ap (λ x. Some (x, r)) (enumerators_last front e)

pub all_enumerators : (front : List Enumerator) (r : Rest) → after (enumerators_before (enumerators_in front)) (Some (c.no_enumerators, r)) ≡ Some (enumerators_in front, r)
all_enumerators front r = ap (λ x. Some (x, r)) (enumerators_all front)

pub no_enumerators : (read : Option (c.Enumerators × Rest)) → after (enumerators_before c.no_enumerators) read ≡ read
no_enumerators read = after_same (enumerators_before c.no_enumerators) (λ x. refl) read

-- ---- parameters

parameters_push : (front : List Parameter) (p : Parameter) (rest : c.ParameterList) → parameters_before (parameter_list_in (front ++ p ∷ [])) rest ≡ parameters_before (parameter_list_in front) (c.a_parameter (specifiers_of p.specifiers) (declarator_of p.declarator) rest)
parameters_push [] p rest = refl
parameters_push (x ∷ front) p rest = ap (c.a_parameter (specifiers_of x.specifiers) (declarator_of x.declarator)) (parameters_push front p rest)

parameters_last : (front : List Parameter) (p : Parameter) → parameters_before (parameter_list_in front) (c.a_parameter (specifiers_of p.specifiers) (declarator_of p.declarator) c.no_parameters) ≡ parameter_list_in (front ++ p ∷ [])
parameters_last [] p = refl
parameters_last (x ∷ front) p = ap (c.a_parameter (specifiers_of x.specifiers) (declarator_of x.declarator)) (parameters_last front p)

parameters_all : (front : List Parameter) → parameters_before (parameter_list_in front) c.no_parameters ≡ parameter_list_in front
parameters_all [] = refl
parameters_all (x ∷ front) = ap (c.a_parameter (specifiers_of x.specifiers) (declarator_of x.declarator)) (parameters_all front)

pub more_parameters : (front : List Parameter) (p : Parameter) (read : Option (c.ParameterList × Rest)) → after (parameters_before (parameter_list_in (front ++ p ∷ []))) read ≡ after (parameters_before (parameter_list_in front)) (read >>= λ y. Some (c.a_parameter (specifiers_of p.specifiers) (declarator_of p.declarator) y.0, y.1))
more_parameters front p read = after_turn (parameters_before (parameter_list_in (front ++ p ∷ []))) (parameters_before (parameter_list_in front)) (c.a_parameter (specifiers_of p.specifiers) (declarator_of p.declarator)) (parameters_push front p) read

pub last_parameters : (front : List Parameter) (p : Parameter) (r : Rest) → after (parameters_before (parameter_list_in front)) (Some (c.a_parameter (specifiers_of p.specifiers) (declarator_of p.declarator) c.no_parameters, r)) ≡ Some (parameter_list_in (front ++ p ∷ []), r)
last_parameters front p r = ap (λ x. Some (x, r)) (parameters_last front p)

pub all_parameters : (front : List Parameter) (r : Rest) → after (parameters_before (parameter_list_in front)) (Some (c.no_parameters, r)) ≡ Some (parameter_list_in front, r)
all_parameters front r = ap (λ x. Some (x, r)) (parameters_all front)

pub no_parameters : (read : Option (c.ParameterList × Rest)) → after (parameters_before c.no_parameters) read ≡ read
no_parameters read = after_same (parameters_before c.no_parameters) (λ x. refl) read

-- ---- parts of declarators

joined_none : (x : c.Parts) → joined x c.no_parts ≡ x
joined_none c.no_parts = refl
joined_none (c.Pointer q rest) = ap (c.Pointer q) (joined_none rest)
joined_none (c.Array length rest) = ap (c.Array length) (joined_none rest)
joined_none (c.Function parameters rest) = ap (c.Function parameters) (joined_none rest)

-- a part stands before the others
part_joins : (p : DeclaratorPart) (inner outer : c.Parts) → joined (part_before p inner) outer ≡ part_before p (joined inner outer)
part_joins (block.Pointer q) inner outer = refl
part_joins (block.Array' length) inner outer = refl
part_joins (block.Function parameters) inner outer = refl

pub parts_push : (front : List DeclaratorPart) (p : DeclaratorPart) → parts_in (front ++ p ∷ []) ≡ joined (parts_in front) (part_alone p)
parts_push [] p = refl
parts_push (x ∷ front) p = ap (part_before x) (parts_push front p) ∙ sym (part_joins x (parts_in front) (part_alone p))

-- a list behind another
pub parts_append : (front back : List DeclaratorPart) → parts_in (front ++ back) ≡ joined (parts_in front) (parts_in back)
parts_append [] back = refl
parts_append (x ∷ front) back = ap (part_before x) (parts_append front back) ∙ sym (part_joins x (parts_in front) (parts_in back))

parts_then : (front : List DeclaratorPart) (p : DeclaratorPart) (rest : c.Parts) → joined (parts_in (front ++ p ∷ [])) rest ≡ joined (parts_in front) (joined (part_alone p) rest)
parts_then [] p rest = refl
parts_then (x ∷ front) p rest = part_joins x (parts_in (front ++ p ∷ [])) rest ∙ ap (part_before x) (parts_then front p rest) ∙ sym (part_joins x (parts_in front) (joined (part_alone p) rest))

pub more_parts : (front : List DeclaratorPart) (p : DeclaratorPart) (read : Option (c.Parts × Rest)) → after (joined (parts_in (front ++ p ∷ []))) read ≡ after (joined (parts_in front)) (read >>= λ y. Some (joined (part_alone p) y.0, y.1))
more_parts front p read = after_turn (joined (parts_in (front ++ p ∷ []))) (joined (parts_in front)) (joined (part_alone p)) (parts_then front p) read

pub no_parts : (read : Option (c.Parts × Rest)) → after (joined c.no_parts) read ≡ read
no_parts read = after_same (joined c.no_parts) (λ x. refl) read

pub all_parts : (front : List DeclaratorPart) (r : Rest) → after (joined (parts_in front)) (Some (c.no_parts, r)) ≡ Some (parts_in front, r)
all_parts front r = ap (λ x. Some (x, r)) (joined_none (parts_in front))

some_is : {A : Type 0} (x y : A) → Some x ≡ Some y → x ≡ y
some_is x y e = cc

abbrev pub with_name : Option (List ℕ) → c.Parts → c.Parts × Rest → Option (NameAndParts × Rest)
with_name name front y = Some ((name, joined front y.0), y.1)

pub with_suffixes : (name : Option (List ℕ)) (front : c.Parts) (read : Option (c.Parts × Rest)) (parts : c.Parts) (r : Rest) → after (joined front) read ≡ Some (parts, r)
    → (read >>= with_name name front) ≡ Some ((name, parts), r)
with_suffixes name front None parts r e = absurd cc
with_suffixes name front (Some y) parts r e = ap (λ x. Some ((name, x.0), x.1)) (some_is (joined front y.0, y.1) (parts, r) e)

pub none_read : {A : Type 0} (put : A → A) (read : Option (A × Rest)) → after put read ≡ None → read ≡ None
none_read put None e = refl
none_read put (Some y) e = absurd cc
