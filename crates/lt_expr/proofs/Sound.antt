-- What is read is derived, at every number.
use Rattle.std.proofs.Common.{◌≡◌, ℕ, zero, suc, List, [], Some}
use Rattle.lt_tree.specs.declared.terminal.Terminal.TheVariants as t
use Rattle.lt_tree.specs.Tree as c
use Rattle.lt_tree.specs.Symbols.{Symbol}
use Rattle.lt_tree.specs.Scope.{Scope}
use Rattle.lt_tree.specs.Grammar as g
use Rattle.lt_tree.specs.Grammar.{IsWhole}
use Rattle.lt_tree.specs.Ahead.{Naming, goes_on}
use Rattle.lt_expr.specs.Front.{Rest}
use Rattle.lt_expr.specs.Walk.{walk, walk_mark, walk_specifiers, walk_declarator}
use Rattle.lt_expr.specs.Reading as read
use Rattle.lt_expr.specs.Reading.{enough, whole}
use Rattle.lt_expr.proofs.SoundSteps.{Yields, nothing, given, both, chosen}
use Rattle.lt_expr.proofs.SoundSpots.{Spotted, spotted, by_rule}
use Rattle.lt_expr.proofs.SoundStatements.{ReadsSound, PartsSound, ChoiceSound, ClimbSound, OperandSound, BehindSound, PostfixSound, OnePostfixSound, ArgumentsSound, LabelledSound, MarkSound, BindingsSound, MarksSound, TypeNameSound, SpecifiersSound, FurtherSound, SpecifierSound, TaggedSound, MembersSound, MemberSound, MemberDeclaratorsSound, AfterSignSound, EnumeratorsSound, DeclaratorSound, PointersSound, DirectSound, SuffixesSound, SuffixSound, ParametersSound, ParameterListSound}
use Rattle.lt_expr.proofs.SoundMarks.{labelled_sound, mark_sound, bindings_sound, marks_sound}
use Rattle.lt_expr.proofs.SoundExpressions.{expression_sound, parts_sound, marked_sound, assignment_sound, conditional_sound, choice_sound, climb_sound, operand_sound}
use Rattle.lt_expr.proofs.SoundOperands.{unary_sound, size_sound, postfix_sound, one_postfix_sound, arguments_sound, primary_sound, decide_sound, after_sound}
use Rattle.lt_expr.proofs.SoundTypes.{type_name_sound, specifiers_sound, further_sound, specifier_sound}
use Rattle.lt_expr.proofs.SoundRecords.{structure_sound, enumeration_sound, members_sound, member_sound, member_declarators_sound, after_sign_sound, enumerators_sound}
use Rattle.lt_expr.proofs.SoundDeclarators.{declarator_sound, pointers_sound, direct_sound, suffixes_sound, suffix_sound, parameters_sound, parameter_list_sound}

-- the statements, all at one number
pub record IsSound (n : ℕ) : Type 0 where
  pub expression : ReadsSound g.comma (read.expression n)
  pub parts : PartsSound n
  pub marked : ReadsSound g.marked (read.marked n)
  pub assignment : ReadsSound g.assignment (read.assignment n)
  pub conditional : ReadsSound g.conditional (read.conditional n)
  pub choice : ChoiceSound n
  pub climb : ClimbSound n
  pub operand : OperandSound n
  pub unary : ReadsSound g.unary (read.unary n)
  pub size : BehindSound g.unary t.Sizeof (read.size n)
  pub postfix : PostfixSound n
  pub one_postfix : OnePostfixSound n
  pub arguments : ArgumentsSound n
  pub primary : ReadsSound g.primary (read.primary n)
  pub decide : BehindSound g.primary t.Decide (read.decide n)
  pub after : BehindSound g.primary t.After (read.after n)
  pub labelled : LabelledSound n
  pub mark : MarkSound n
  pub bindings : BindingsSound n
  pub marks : MarksSound n
  pub type_name : TypeNameSound n
  pub specifiers : SpecifiersSound n
  pub further : FurtherSound n
  pub specifier : SpecifierSound n
  pub structure : TaggedSound t.Struct (read.structure n)
  pub enumeration : TaggedSound t.Enum (read.enumeration n)
  pub members : MembersSound n
  pub member : MemberSound n
  pub member_declarators : MemberDeclaratorsSound n
  pub after_sign : AfterSignSound n
  pub enumerators : EnumeratorsSound n
  pub declarator : DeclaratorSound n
  pub pointers : PointersSound n
  pub direct : DirectSound n
  pub suffixes : SuffixesSound n
  pub suffix : SuffixSound n
  pub parameters : ParametersSound n
  pub parameter_list : ParameterListSound n

sound_at_none : IsSound zero
unfolding read.expression
sound_at_none = record {
  expression = λ scope r. nothing;
  parts = λ scope r. nothing;
  marked = λ scope r. nothing;
  assignment = λ scope r. nothing;
  conditional = λ scope r. nothing;
  choice = λ scope from first r d. nothing;
  climb = λ scope k least from left r le d quiet. nothing;
  operand = λ scope r. nothing;
  unary = λ scope r. nothing;
  size = λ scope at r. nothing;
  postfix = λ scope from left r d. nothing;
  one_postfix = λ scope from left r begins d. nothing;
  arguments = λ scope r. nothing;
  primary = λ scope r. nothing;
  decide = λ scope at r. nothing;
  after = λ scope at r. nothing;
  labelled = λ scope r. nothing;
  mark = λ scope r. nothing;
  bindings = λ scope r. nothing;
  marks = λ scope r. nothing;
  type_name = λ scope r. nothing;
  specifiers = λ scope r. nothing;
  further = λ scope typed r. nothing;
  specifier = λ scope typed r begins. nothing;
  structure = λ scope tag ts r front. nothing;
  enumeration = λ scope tag ts r front. nothing;
  members = λ scope r. nothing;
  member = λ scope r. nothing;
  member_declarators = λ scope naming r. nothing;
  after_sign = λ scope k r real. nothing;
  enumerators = λ scope r. nothing;
  declarator = λ scope naming r. nothing;
  pointers = λ scope naming r. nothing;
  direct = λ scope naming r. nothing;
  suffixes = λ scope r. nothing;
  suffix = λ scope r begins. nothing;
  parameters = λ scope r. nothing;
  parameter_list = λ scope r. nothing;
}

sound_behind : (n : ℕ) → IsSound n → IsSound (suc n)
sound_behind n s = record {
  expression = expression_sound n s.marked s.parts;
  parts = parts_sound n s.marked s.parts;
  marked = marked_sound n s.marks s.assignment;
  assignment = assignment_sound n s.operand s.choice s.assignment;
  conditional = conditional_sound n s.operand s.choice;
  choice = choice_sound n s.climb s.expression s.conditional;
  climb = climb_sound n s.operand s.climb;
  operand = operand_sound n s.type_name s.operand s.unary;
  unary = unary_sound n s.unary s.size s.operand s.primary s.postfix;
  size = size_sound n s.type_name s.unary;
  postfix = postfix_sound n s.one_postfix s.postfix;
  one_postfix = one_postfix_sound n s.expression s.arguments;
  arguments = arguments_sound n s.assignment s.arguments;
  primary = primary_sound n s.expression s.decide s.after;
  decide = decide_sound n s.assignment;
  after = after_sound n s.labelled;
  labelled = labelled_sound n s.assignment;
  mark = mark_sound n s.labelled s.bindings;
  bindings = bindings_sound n s.assignment s.bindings;
  marks = marks_sound n s.mark s.marks;
  type_name = type_name_sound n s.specifiers s.declarator;
  specifiers = specifiers_sound n s.further;
  further = further_sound n s.specifier s.further;
  specifier = specifier_sound n s.structure s.enumeration;
  structure = structure_sound n s.members;
  enumeration = enumeration_sound n s.enumerators;
  members = members_sound n s.member s.members;
  member = member_sound n s.specifiers s.member_declarators;
  member_declarators = member_declarators_sound n s.declarator s.after_sign s.member_declarators;
  after_sign = after_sign_sound n s.conditional;
  enumerators = enumerators_sound n s.after_sign s.enumerators;
  declarator = declarator_sound n s.pointers;
  pointers = pointers_sound n s.direct s.pointers;
  direct = direct_sound n s.pointers s.suffixes;
  suffixes = suffixes_sound n s.suffix s.suffixes;
  suffix = suffix_sound n s.parameters s.conditional;
  parameters = parameters_sound n s.parameter_list;
  parameter_list = parameter_list_sound n s.specifiers s.declarator s.parameter_list;
}

pub sound : (n : ℕ) → IsSound n
sound zero = sound_at_none
sound (suc n) = sound_behind n (sound n)

-- ---- what the calls of a parser read: at any number, before any spots, and where the ends begin

-- the expression of a level that is read is the one at the front, with the spots of its walk
pub expression_is_derived : (n : ℕ) (scope : Scope) (r : Rest) (x : c.Expression × Rest) → read.expression n scope r ≡ Some x → (more : List ℕ)
    → ((walk x.0 (x.1.1, more)).0 ≡ r.1) × g.IsExpression scope g.comma r.0 x.0 x.1.0 (walk x.0 (x.1.1, more)).1 more
expression_is_derived n scope r x e more = spotted (((sound n).expression scope r).holds x e) more

pub assignment_is_derived : (n : ℕ) (scope : Scope) (r : Rest) (x : c.Expression × Rest) → read.assignment n scope r ≡ Some x → (more : List ℕ)
    → ((walk x.0 (x.1.1, more)).0 ≡ r.1) × g.IsExpression scope g.assignment r.0 x.0 x.1.0 (walk x.0 (x.1.1, more)).1 more
assignment_is_derived n scope r x e more = spotted (((sound n).assignment scope r).holds x e) more

pub conditional_is_derived : (n : ℕ) (scope : Scope) (r : Rest) (x : c.Expression × Rest) → read.conditional n scope r ≡ Some x → (more : List ℕ)
    → ((walk x.0 (x.1.1, more)).0 ≡ r.1) × g.IsExpression scope g.conditional r.0 x.0 x.1.0 (walk x.0 (x.1.1, more)).1 more
conditional_is_derived n scope r x e more = spotted (((sound n).conditional scope r).holds x e) more

pub mark_is_derived : (n : ℕ) (scope : Scope) (r : Rest) (x : c.Mark × Rest) → read.mark n scope r ≡ Some x → (more : List ℕ)
    → ((walk_mark x.0 (x.1.1, more)).0 ≡ r.1) × g.IsMark scope r.0 x.0 x.1.0 (walk_mark x.0 (x.1.1, more)).1 more
mark_is_derived n scope r x e more = spotted (((sound n).mark scope r).holds x e) more

pub specifiers_are_derived : (n : ℕ) (scope : Scope) (r : Rest) (x : c.Specifiers × Rest) → read.specifiers n scope r ≡ Some x → (more : List ℕ)
    → ((walk_specifiers x.0 (x.1.1, more)).0 ≡ r.1) × g.AreSpecifiers scope r.0 x.0 x.1.0 (walk_specifiers x.0 (x.1.1, more)).1 more
specifiers_are_derived n scope r x e more = spotted (((sound n).specifiers scope r).holds x e) more

pub declarator_is_derived : (n : ℕ) (scope : Scope) (naming : Naming) (r : Rest) (x : c.Declarator × Rest) → read.declarator n scope naming r ≡ Some x → (more : List ℕ)
    → ((walk_declarator x.0 (x.1.1, more)).0 ≡ r.1) × g.IsDeclarator scope naming r.0 x.0 x.1.0 (walk_declarator x.0 (x.1.1, more)).1 more
declarator_is_derived n scope naming r x e more = spotted (((sound n).declarator scope naming r).holds x e) more

pub type_name_is_derived : (n : ℕ) (scope : Scope) (r : Rest) (x : (c.Specifiers × c.Declarator) × Rest) → read.type_name n scope r ≡ Some x → (more : List ℕ)
    → ((walk_specifiers x.0.0 (walk_declarator x.0.1 (x.1.1, more))).0 ≡ r.1)
    × g.IsTypeName scope r.0 x.0.0 x.0.1 x.1.0 (walk_specifiers x.0.0 (walk_declarator x.0.1 (x.1.1, more))).1 more
type_name_is_derived n scope r x e more = spotted (((sound n).type_name scope r).holds x e) more

-- the expression that is read as a whole can't go on behind it
pub whole_is_derived : (scope : Scope) (r : Rest) (x : c.Expression × Rest) → whole scope r ≡ Some x → (more : List ℕ)
    → ((walk x.0 (x.1.1, more)).0 ≡ r.1) × IsWhole scope r.0 x.0 x.1.0 (walk x.0 (x.1.1, more)).1 more
unfolding whole
whole_is_derived scope r x e more = spotted (goes.holds x e) more
  where
    goes : Yields (whole scope r) (λ x. Spotted (walk x.0) x.1.1 r.1 (IsWhole scope r.0 x.0 x.1.0))
    goes =
        both (read.expression (enough r.0) scope r) ((sound (enough r.0)).expression scope r) (λ x d.
        chosen (goes_on x.1.0)
        (λ e. nothing)
        (λ e. given (by_rule (λ spots more h. record { derived = h; ends = e }) d)))

-- a whole text of symbols, with no ends before it
pub read_is_derived : (scope : Scope) (ts rest : List Symbol) (e : c.Expression) (ends : List ℕ) → whole scope (ts, []) ≡ Some (e, (rest, ends))
    → IsWhole scope ts e rest (walk e (ends, [])).1 []
read_is_derived scope ts rest e ends is = (whole_is_derived scope (ts, []) (e, (rest, ends)) is []).1
