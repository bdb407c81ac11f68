-- Every form of expression, statement and declaration, each with its derivation.
use Rattle.std.proofs.Common.{◌≡◌, ℕ, true, false, List, [], ◌∷◌, refl, subst}
use Rattle.lt_model.specs.declared.operator.Op.TheVariants as op
use Rattle.lt_token.specs.Words as words
use Rattle.lt_tree.specs.declared.expression.LogicalOp.TheVariants as logical
use Rattle.lt_tree.specs.declared.specifier.TypeWord.TheVariants as w
use Rattle.lt_tree.specs.declared.terminal.Terminal.TheVariants as t
use Rattle.lt_tree.specs.Strings.{closed, plain, escaped}
use Rattle.lt_tree.specs.Tree as c
use Rattle.lt_tree.specs.Symbols.{Symbol, keywords, punctuators, reserved}
use Rattle.lt_tree.specs.Symbols as s
use Rattle.lt_tree.specs.Scope.{Scope, is_type}
use Rattle.lt_tree.specs.Operators.{arithmetic, connective}
use Rattle.lt_tree.specs.Ahead.{same_terminal, begins_specifier}
use Rattle.lt_tree.specs.TypeWords.{gathered, spellings, all_words, same_word}
use Rattle.lt_tree.specs.Grammar as g
use Rattle.lt_tree.specs.Declarations as d
use Rattle.lt_tree.specs.Statements as st
use Rattle.lt_tree.specs.Units as u
use Rattle.lt_tree.specs.Ahead as a
use Rattle.lt_tree_laws.specs.Examples.{one, of_type, int, char, abstract, declares, missing, one_parameter, pointer}
use Rattle.lt_tree_laws.specs.ReadForms as r
use Rattle.lt_tree_laws.proofs.ReadSteps.{unary, operand, conditional, assignment, part, whole, just_name, int_alone}

-- ---- expressions

-- a name with something behind it, as a part of a list
suffixed : {scope : Scope} {ts rest : List Symbol} {e : c.Expression} {spots more : List ℕ}
    → g.IsExpression scope g.postfix ts e rest spots more → g.IsExpression scope g.marked ts e rest spots more
suffixed p = g.of_assignment (g.of_conditional (g.of_binary (g.of_cast (g.of_unary (g.of_postfix p)))))

-- something before an operand, as a part of a list
prefixed : {scope : Scope} {ts rest : List Symbol} {e : c.Expression} {spots more : List ℕ}
    → g.IsExpression scope g.unary ts e rest spots more → g.IsExpression scope g.marked ts e rest spots more
prefixed p = g.of_assignment (g.of_conditional (g.of_binary (g.of_cast (g.of_unary p))))

-- a name with nothing behind it
named : {scope : Scope} {v : List ℕ} {at : ℕ} {rest : List Symbol} {more : List ℕ} → is_type scope v ≡ false
    → g.IsExpression scope g.postfix (s.name v at ∷ rest) (c.Name v) rest (at ∷ more) more
named h = g.of_primary (g.name h)

tag : g.IsLiteral (34 ∷ 84 ∷ 34 ∷ []) (84 ∷ [])
tag = g.quoted (plain refl closed)

pub postfixes : r.PostfixesAreRead
unfolding keywords punctuators reserved same_terminal
postfixes = (
  refl,
  record {
    derived =
        g.sequence (suffixed (g.index (named refl) (whole g.constant))) refl
        (g.more_parts (suffixed (g.call (named refl) (g.more_arguments (assignment (g.name refl)) (g.last_argument (assignment (g.name refl))))))
        (g.more_parts (suffixed (g.call (named refl) g.no_arguments))
        (g.more_parts (suffixed (g.member (named refl)))
        (g.more_parts (suffixed (g.arrow (named refl)))
        (g.more_parts (suffixed (g.increment_behind (named refl)))
        (g.last_part (suffixed (g.decrement_behind (named refl)))))))));
    ends = refl;
  },
)

pub prefixes : r.PrefixesAreRead
unfolding keywords punctuators reserved same_terminal words.word_of words.spells_const words.spells_volatile words.spells_signed
prefixes = (
  refl,
  record {
    derived =
        g.sequence (prefixed (g.increment_before (unary (g.name refl)))) refl
        (g.more_parts (prefixed (g.decrement_before (unary (g.name refl))))
        (g.more_parts (prefixed (g.prefixed refl (g.of_unary (g.prefixed refl (g.of_unary (unary (g.name refl)))))))
        (g.more_parts (prefixed (g.sizeof_expression (unary (g.name refl))))
        (g.more_parts (prefixed (g.sizeof_type (g.type_name (int_alone refl) star)))
        (g.more_parts (g.of_assignment (g.of_conditional (g.of_binary (g.of_cast (g.cast_to (g.type_name (int_alone refl) (g.missing refl refl)) (g.of_unary (unary (g.name refl))))))))
        (g.last_part (prefixed (g.prefixed refl (g.of_unary (g.prefixed refl (g.of_unary (unary (g.name refl)))))))))))));
    ends = refl;
  },
)
  where
    star : {scope : Scope} {i j : ℕ} {rest : List Symbol} {more : List ℕ}
        → g.IsDeclarator scope a.nameless (s.sign t.Star i ∷ s.sign t.CloseParen j ∷ rest) (abstract (pointer c.no_parts)) (s.sign t.CloseParen j ∷ rest) (i ∷ more) more
    star = g.written (g.pointer (g.no_qualifiers refl refl) (g.no_pointer refl (g.by_nothing refl refl (g.no_suffix refl)))) refl

pub choices_and_texts : r.ChoicesAndTextsAreRead
unfolding keywords punctuators reserved same_terminal
choices_and_texts = (
  refl,
  record {
    derived =
        g.sequence (g.of_assignment (g.of_conditional (g.choice (operand (g.name refl)) (whole (g.name refl)) (conditional (g.name refl))))) refl
        (g.more_parts (g.of_assignment (g.assigns (unary (g.name refl)) refl (g.assigns (unary (g.name refl)) refl (assignment (g.name refl)))))
        (g.more_parts (part (g.text (g.more_literals {front = 97 ∷ []} {bytes = 66 ∷ []} (g.quoted (plain refl closed)) (g.one_literal (g.quoted (escaped refl closed))))))
        (g.last_part (g.of_assignment (g.of_conditional (g.of_binary (g.of_tighter
        (g.operates {op = connective logical.And} (operand (g.name refl)) refl (operand (g.name refl))))))))));
    ends = refl;
  },
)

pub marks : r.MarksAreRead
unfolding keywords punctuators reserved same_terminal
marks = (
  refl,
  record {
    derived = g.of_marked (g.behind_marks
        (g.more_marks (g.label (assignment (g.name refl)) tag)
        (g.last_mark (g.binding_label (assignment (g.name refl)) tag (g.more_bindings (assignment (g.name refl)) (g.last_binding (assignment (g.name refl)))))))
        (g.of_conditional (g.of_binary (tighter
        (g.operates {op = arithmetic op.Add} (operand (g.decide (assignment (g.name refl)) tag)) refl (operand (g.after (assignment (g.name refl)) tag)))))));
    ends = refl;
  },
)
  where
    tighter : {scope : Scope} {ts rest : List Symbol} {e : c.Expression} {spots more : List ℕ}
        → g.IsExpression scope (g.binary 8) ts e rest spots more → g.IsExpression scope (g.binary 0) ts e rest spots more
    tighter p = g.of_tighter (g.of_tighter (g.of_tighter (g.of_tighter (g.of_tighter (g.of_tighter (g.of_tighter (g.of_tighter p)))))))

-- ---- statements and declarations

pub statements : r.StatementsAreRead
unfolding keywords punctuators reserved same_terminal words.word_of words.spells_const words.spells_volatile words.spells_signed
statements = (
  refl,
  st.compound
      (st.statement (st.for_loop (st.declaration (d.with_declarators (int_alone refl) (d.last_declarator (just_name refl refl) (d.given (d.value (assignment g.constant))))))
      refl (st.given below) refl (st.given (g.of_marked (suffixed (g.increment_behind (named refl))))) st.continue)
      (st.statement (st.for_loop st.nothing refl st.left_out refl st.left_out st.null)
      (st.statement (st.do_loop st.null (whole (g.name refl)))
      (st.statement (st.while_loop (whole (g.name refl)) (st.compound st.no_more_items))
      (st.statement (st.switch (whole (g.name refl))
      (st.one_more_case (st.case_label (conditional g.constant) (st.default_label (st.no_labels refl refl))) st.break st.no_more_cases))
      (st.label (g.label (assignment (g.name refl)) tag)
      (st.statement (st.returns st.left_out) st.no_more_items))))))),
)
  where
    scope : Scope
    scope = record { name = 105 ∷ []; is_type = false } ∷ []

    below : {i j k l : ℕ} {rest : List Symbol} {more : List ℕ}
        → g.IsExpression scope g.comma (s.name (105 ∷ []) i ∷ s.sign t.Less j ∷ s.constant (51 ∷ []) k ∷ s.sign t.Semicolon l ∷ rest)
        (c.Binary op.Lt (c.Name (105 ∷ [])) (c.Constant (51 ∷ []))) (s.sign t.Semicolon l ∷ rest) (i ∷ i ∷ k ∷ more) more
    below = g.of_marked (g.of_assignment (g.of_conditional (g.of_binary (g.of_tighter (g.of_tighter (g.of_tighter (g.of_tighter (g.of_tighter (g.of_tighter
        (g.operates {op = arithmetic op.Lt} (operand (g.name refl)) refl (operand g.constant)))))))))))

char_alone : {scope : Scope} {at : ℕ} {rest : List Symbol} {more : List ℕ} → begins_specifier scope true rest ≡ false
    → g.AreSpecifiers scope (s.sign t.Char at ∷ rest) char rest more more
unfolding spellings all_words same_word
char_alone h = g.some_specifiers {types = c.a_type (c.Word w.Char) c.no_types} refl (g.type_word refl (g.no_further h))

-- a struct or an enum alone names a type
tagged_alone : {scope : Scope} {ts rest : List Symbol} {type : c.TypeSpecifier} {spots more : List ℕ}
    → begins_specifier scope false ts ≡ true → gathered (c.a_type type c.no_types) ≡ c.a_type type c.no_types → begins_specifier scope true rest ≡ false
    → g.IsTagged scope ts type rest spots more → g.AreSpecifiers scope ts (of_type type) rest spots more
tagged_alone {scope} {ts} {rest} {type} {spots} {more} b e n d =
    subst (λ (types : c.TypeSpecifiers). g.AreSpecifiers scope ts (c.specifiers g.no_words types) rest spots more) e
    (g.some_specifiers {types = c.a_type type c.no_types} b (g.struct_or_enum d (g.no_further n)))

pub declarations : r.DeclarationsAreRead
unfolding keywords punctuators reserved same_terminal words.word_of words.spells_const words.spells_volatile words.spells_signed spellings all_words same_word
declarations = (
  refl,
  u.declaration (d.specifiers_alone (tagged_alone refl refl refl (g.struct_with_tag members)))
      (u.declaration (d.specifiers_alone (tagged_alone refl refl refl (g.enum_with_tag
      (g.more_enumerators (g.given (conditional g.constant)) (g.last_enumerator_and_comma (g.left_out refl))))))
      (u.declaration (d.with_declarators (g.some_specifiers {types = c.a_type (c.Word w.Int) c.no_types} refl (g.storage refl (g.type_word refl (g.no_further refl))))
      (d.last_declarator (g.written (g.no_pointer refl (g.by_name refl (g.function (g.open_list parameters) (g.no_suffix refl)))) refl) (d.left_out refl)))
      (u.declaration (d.with_declarators (int_alone refl)
      (d.last_declarator (g.written (g.no_pointer refl (g.by_name refl (g.array (conditional g.constant) (g.no_suffix refl)))) refl)
      (d.given (d.braces (d.more_initialisers (d.value (assignment g.constant))
      (d.last_initialiser_and_comma (d.braces (d.last_initialiser (d.value (assignment g.constant))))))))))
      (u.semicolon u.no_more_externals)))),
)
  where
    members : {i j k l m n o p q : ℕ} {rest : List Symbol} {more : List ℕ}
        → g.AreMembers [] (s.sign t.Int i ∷ s.name (97 ∷ []) j ∷ s.sign t.Colon k ∷ s.constant (49 ∷ []) l ∷ s.sign t.Comma m ∷ s.sign t.Star n ∷ s.name (98 ∷ []) o ∷ s.sign t.Semicolon p
        ∷ s.sign t.CloseBrace q ∷ rest)
        (c.a_member (c.member int (c.a_declarator (declares (97 ∷ []) c.no_parts) (c.present one) (c.a_declarator (declares (98 ∷ []) (pointer c.no_parts)) c.absent c.no_declarators))) c.no_members)
        rest (i ∷ j ∷ l ∷ n ∷ more) more
    members = g.one_more_member (int_alone refl)
        (g.more_member_declarators (just_name refl refl) (g.given (conditional g.constant))
        (g.last_member_declarator (g.written (g.pointer (g.no_qualifiers refl refl) (g.no_pointer refl (g.by_name refl (g.no_suffix refl)))) refl) (g.left_out refl)))
        g.no_more_members

    array : c.Parts
    array = c.Array c.absent c.no_parts

    parameters : {scope : Scope} {i j k l m n o p q v w : ℕ} {rest : List Symbol} {more : List ℕ}
        → g.IsParameterList scope (s.sign t.Char i ∷ s.sign t.Comma j ∷ s.sign t.Int k ∷ s.sign t.OpenParen l ∷ s.sign t.Star m ∷ s.sign t.CloseParen n ∷ s.sign t.OpenIndex o ∷ s.sign t.CloseIndex p
        ∷ s.sign t.Comma q ∷ s.sign t.Ellipsis v ∷ s.sign t.CloseParen w ∷ rest)
        (c.a_parameter char missing (one_parameter int (abstract (pointer array)))) (s.sign t.Comma q ∷ s.sign t.Ellipsis v ∷ s.sign t.CloseParen w ∷ rest) (l ∷ more) more
    parameters = g.more_parameters (char_alone refl) (g.missing refl refl) (g.last_parameter (int_alone refl)
        (g.written (g.no_pointer refl (g.nested {suffixed = array} (pointer c.no_parts) refl (g.pointer (g.no_qualifiers refl refl) (g.no_pointer refl (g.by_nothing refl refl (g.no_suffix refl)))) refl
        (g.unsized_array (g.no_suffix refl)))) refl))
