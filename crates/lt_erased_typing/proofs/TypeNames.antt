-- Type names whose types are known, and whose lengths are the same without marks.
use Rattle.std.proofs.Common.{◌≡◌, ℕ, List, [], ◌∷◌, Option, Some, None, Bool, true, false, refl, sym, ap, ◌∙◌, subst, inl, inr}
use Rattle.std.proofs.lemmas.Bool.{false≢true}
use Rattle.std.specs.Prelude.{◌⊎◌, ◌++◌, ◌&&◌, ◌||◌, if◌then◌else◌, is_some, unwrap_or}
use Rattle.lt_tree.specs.Tree as c
use Rattle.lt_tree.specs.Erasure.{erased_types, erased_type, erased_specifiers}
use Rattle.lt_tree.specs.Typing.Types.{CType, a_type, Pointer, Array, Function, qualified, unqualified, adjusted, is_integer, is_array, is_function, is_floating, is_pointer_to_function}
use Rattle.lt_tree.specs.Typing.Extents.{Structs, has_too_many_cells}
use Rattle.lt_tree.specs.Typing.Constants.{Constancy, number, varying, address}
use Rattle.lt_tree.specs.Typing.Rules.{Rule, broken_if, unless, declared_twice, incomplete_type, floating_type, function_as_value, bad_length}
use Rattle.lt_tree.specs.Typing.Entities.{Known, Tagged, a_struct, an_enum, tagged_in}
use Rattle.lt_tree.specs.Typing.Steps.{Goes}
use Rattle.lt_tree.specs.Typing.Expressions.{Typed, own_type, Judged}
use Rattle.lt_tree.specs.Typing.Specifying.{Naming, Setting, alone, in_sizeof, elsewhere, is_alone, beside_words, struct_tagged, enum_tagged, Specified, specified}
use Rattle.lt_tree.specs.Typing.Declarators.{Parameters, Built, built, Declares, declares, all_faults, type_name_faults, lacks_length, parameter_faults, is_declared_here, is_written, setting_in_sizeof, length_from, length_in, length_or_none, array_of, array_faults, function_of, parameter_before, is_length, is_incomplete}
use Rattle.lt_tree.specs.Typing.NodeEnds.{also, end_of_declarator}
use Rattle.lt_tree.specs.Typing.ExpressionTyping.{type_specifiers, type_specifier, specifiers}
use Rattle.lt_erased_typing.specs.Erasable.{AreKnown, AreKnownTypes, IsKnownType}
use Rattle.lt_erased_typing.proofs.Scopes.{Own, AreScopesAlike, typedef_same}
use Rattle.lt_erased_typing.proofs.Going.{IsBeside, beside, Follows, goes, last}
use Rattle.lt_erased_typing.proofs.Constants.{seen}
use Rattle.lt_erased_typing.proofs.Operands.{BareValue, Bare, BareJudged, value_type_same}
use Rattle.lt_erased_typing.proofs.Ends.{left_empty, right_empty, empty_both, settled, structs_same, unless_true}

-- ---- specifiers

pub written_somewhere : (name : Option (List ℕ)) (ps : c.Parts) → is_alone (setting_in_sizeof (c.declarator name ps)) ≡ false
written_somewhere name ps = by (is_written name ps)
  where
    by : (b : Bool) → is_alone (if b then elsewhere else in_sizeof) ≡ false
    by true = refl
    by false = refl

pub words_aside : (words : c.Words) (setting : Setting) → is_alone setting ≡ false → is_alone (beside_words words setting) ≡ false
words_aside words alone h = absurd (false≢true (sym h))
words_aside words in_sizeof h = refl
words_aside words elsewhere h = refl

-- the same comes of both
abbrev pub AreSame : {A : Type 0} → A → A → Type 0
AreSame a b = b ≡ a

module _ {texts : Bool} {known : Known} {own : Own} where
  struct_same : {k j : Known} (tag : List ℕ) (found : Option Tagged) → is_some found ≡ true → IsBeside texts known own k j → Follows texts known own (AreSame {A = Naming}) (struct_tagged tag found k) (struct_tagged tag found j)
  struct_same tag None h b = absurd (false≢true h)
  struct_same tag (Some (a_struct n)) h b = goes refl b
  struct_same tag (Some (an_enum is_complete)) h b = goes refl b

  tag_same : (tag : List ℕ) {k j : Known} (found other : Option Tagged) → other ≡ found → is_some found ≡ true → IsBeside texts known own k j
      → Follows texts known own (AreSame {A = Naming}) (struct_tagged tag found k) (struct_tagged tag other j)
  tag_same tag {k} {j} found other e h b = subst (λ it. Follows texts known own (AreSame {A = Naming}) (struct_tagged tag found k) (struct_tagged tag it j)) (sym e) (struct_same tag found h b)

module _ {texts : Bool} {known : Known} {own : Own} (alike : AreScopesAlike texts known own) where
  type_same : {k j : Known} (it : c.TypeSpecifier) (setting : Setting) → is_alone setting ≡ false → IsKnownType k.frames it → IsBeside texts known own k j
      → Follows texts known own (AreSame {A = Naming}) (type_specifier it setting k) (type_specifier (erased_type it) setting j)
  type_same (c.Basic type) setting a h b = goes refl b
  type_same (c.Word word) setting a h b = goes refl b
  type_same (c.StructTag tag) alone a h b = absurd (false≢true (sym a))
  type_same (c.StructTag tag) in_sizeof a h (beside more other) = tag_same tag (tagged_in tag known.frames) (tagged_in tag own.frames) (alike.tags tag) h (beside more other)
  type_same (c.StructTag tag) elsewhere a h (beside more other) = tag_same tag (tagged_in tag known.frames) (tagged_in tag own.frames) (alike.tags tag) h (beside more other)
  type_same (c.Struct tag list) setting a h b = absurd h
  type_same (c.EnumTag tag) setting a h (beside more other) = goes (ap (enum_tagged setting) (alike.tags tag)) (beside more other)
  type_same (c.Enum tag list) setting a h b = absurd h
  type_same (c.Named name) setting a h (beside more other) = goes (typedef_same (alike.names name)) (beside more other)

  known_still : {k j : Known} (types : c.TypeSpecifiers) {l i : Known} → AreKnownTypes k.frames types → IsBeside texts known own k j → IsBeside texts known own l i → AreKnownTypes l.frames types
  known_still types h (beside more other) (beside another last) = h

  types_same : {k j : Known} (them : c.TypeSpecifiers) (setting : Setting) → is_alone setting ≡ false → AreKnownTypes k.frames them → IsBeside texts known own k j
      → Follows texts known own (AreSame {A = List Naming}) (type_specifiers them setting k) (type_specifiers (erased_types them) setting j)
  types_same c.no_types setting a h b = goes refl b
  types_same (c.a_type first rest) setting a h b =
      last (type_same first setting a h.0 b) (λ x y k j e s. last (types_same rest setting a (known_still rest h.1 b s) s) (λ xs ys k j f s. goes (ap (λ it. it ∷ ys) e ∙ ap (λ it. x ∷ it) f) s))

  pub specifiers_same : {k j : Known} (it : c.Specifiers) (setting : Setting) → is_alone setting ≡ false → AreKnown k.frames it → IsBeside texts known own k j
      → Follows texts known own (AreSame {A = Specified}) (specifiers it setting k) (specifiers (erased_specifiers it) setting j)
  specifiers_same (c.specifiers words types) setting a h b = last (types_same types (beside_words words setting) (words_aside words setting a) h b) (λ xs ys k j e s. goes (ap (specified words) e) s)

-- ---- lengths

abbrev length_of : CType → Constancy → Option ℕ
length_of t c = elim c [ number z ↦ (if is_integer t then Some (length_from z) else None) | _ ↦ None ]

length_seen : (t : CType) (c : Constancy) → length_of t (seen c) ≡ length_of t c
length_seen t (address object offset) = refl
length_seen t _ = refl

-- a length that is a constant is the same without its marks
pub length_same : {x y : Typed} → BareValue x y → is_length (length_in x) ≡ true → length_in y ≡ length_in x
length_same {x} {y} p h = by p.constancy.sees.hidden
  where
    by : (seen x.constancy ≡ seen x.erased) ⊎ (seen x.constancy ≡ varying) → length_in y ≡ length_in x
    by (inl e) =
        ap (λ t. length_of t y.constancy) (value_type_same p)
        ∙ sym (length_seen (own_type x) y.constancy) ∙ ap (length_of (own_type x)) (p.constancy.sees.bare ∙ sym e) ∙ length_seen (own_type x) x.constancy
    by (inr e) = absurd (false≢true (ap (λ c. is_length (length_of (own_type x) c)) (sym e) ∙ ap is_length (length_seen (own_type x) x.constancy) ∙ h))

abbrev pub AreSameLengths : Option Typed → Option Typed → Type 0
AreSameLengths n m = (is_outermost : Bool) → is_length (length_or_none is_outermost n) ≡ true → length_or_none is_outermost m ≡ length_or_none is_outermost n

-- ---- declarators

constant_length : (structs : Structs) (n : Option ℕ) (t : CType) → array_faults structs n t ≡ [] → is_length n ≡ true
constant_length structs n t h =
    let incomplete = broken_if incomplete_type (is_incomplete structs t) in
    let function = broken_if function_as_value (is_function t) in
    let large = broken_if bad_length (has_too_many_cells structs (Array t (unwrap_or n 0))) in
    let front = unless (is_length n) bad_length in
    unless_true (is_length n) bad_length (left_empty front incomplete (left_empty (front ++ incomplete) function (left_empty (front ++ incomplete ++ function) large h)))

-- where the first breaks no rule, the second is of the same type and breaks none
abbrev pub AreBuiltAlike : Built → Built → Type 0
AreBuiltAlike x y = x.faults ≡ [] → (y.faults ≡ []) × (y.type ≡ x.type)

-- Both declare this name. Of a declarator that is a node no rule is left.
pub data DeclareAlike (name : Option (List ℕ)) : Declares → Declares → Type 0 where
  declare_alike : {n m : ℕ} (x y : Built) (xs ys : List Rule) → (is_some name ≡ true → y.type ≡ x.type) → (xs ≡ [] → (ys ≡ []) × (y.type ≡ x.type))
      → DeclareAlike name (declares n name x xs) (declares m name y ys)

-- what is judged of what declarators declare breaks no rule in the second where it breaks none in the first
abbrev pub AreJudgedAlike : Bool → Known → Own → (Option (List ℕ) → Known → Built → List Rule) → Type 0
AreJudgedAlike texts known own judge =
    (name : Option (List ℕ)) (k j : Known) → IsBeside texts known own k j → (x y : Built) → y.type ≡ x.type → judge name k x ≡ [] → judge name j y ≡ []

pub pointers_alike : (qualifiers : c.Qualifiers) (x y : Built) → AreBuiltAlike x y → AreBuiltAlike (built (qualified qualifiers (Pointer x.type)) x.faults) (built (qualified qualifiers (Pointer y.type)) y.faults)
pointers_alike qualifiers x y h = λ r. ((h r).0, ap (λ t. qualified qualifiers (Pointer t)) (h r).1)

-- the parameters of a function are of the same types
abbrev pub AreParametersAlike : Parameters → Parameters → Type 0
AreParametersAlike x y = x.faults ≡ [] → (y.faults ≡ []) × (y.types ≡ x.types) × (y.dots ≡ x.dots)

pub functions_alike : (them others : Parameters) (x y : Built) → AreParametersAlike them others → AreBuiltAlike x y → AreBuiltAlike (function_of them x) (function_of others y)
functions_alike them others x y g h = λ r.
    let gives = broken_if function_as_value (is_function x.type || is_array x.type) in
    let front = left_empty (gives ++ them.faults) x.faults r in
    let both = h (right_empty (gives ++ them.faults) x.faults r) in
    let all = g (right_empty gives them.faults front) in (
      empty_both (broken_if function_as_value (is_function y.type || is_array y.type) ++ others.faults) y.faults
          (empty_both (broken_if function_as_value (is_function y.type || is_array y.type)) others.faults
          (ap (λ t. broken_if function_as_value (is_function t || is_array t)) both.1 ∙ left_empty gives them.faults front) all.0) both.0,
      ap (λ t. Function t others.types others.dots) both.1 ∙ ap (λ ts. Function x.type ts others.dots) all.1 ∙ ap (Function x.type them.types) all.2,
    )

-- one more parameter in front of others
pub parameters_more : (name : Option (List ℕ)) (n m : ℕ) (x y : Built) (xs ys : List Rule) (objects apart : List ℕ) (them others : Parameters) → (xs ≡ [] → (ys ≡ []) × (y.type ≡ x.type)) → AreParametersAlike them others
    → AreParametersAlike (parameter_before (declares n name x xs) objects them) (parameter_before (declares m name y ys) apart others)
parameters_more name n m x y xs ys objects apart them others h g = λ r.
    let first = h (left_empty xs them.faults r) in
    let rest = g (right_empty xs them.faults r) in (
      empty_both ys others.faults first.0 rest.0,
      ap (λ t. a_type (unqualified (adjusted t)) others.types) first.1 ∙ ap (a_type (unqualified (adjusted x.type))) rest.1,
      rest.2,
    )

pub names_by : (it : Specified) (x y : Built) (f g : List Rule) → (y.type ≡ x.type → f ≡ [] → g ≡ []) → AreBuiltAlike x y → all_faults it x f ≡ [] → (all_faults it y g ≡ []) × (y.type ≡ x.type)
names_by it x y f g j h r =
    let front = left_empty (it.faults ++ x.faults) f r in
    let both = h (right_empty it.faults x.faults front) in (
      empty_both (it.faults ++ y.faults) g (empty_both it.faults y.faults (left_empty it.faults x.faults front) both.0) (j both.1 (right_empty (it.faults ++ x.faults) f r)),
      both.1,
    )

module _ {texts : Bool} {known : Known} {own : Own} where
  pub arrays_alike : {k j : Known} {n m : Option ℕ} (x y : Built) → IsBeside texts known own k j → (is_length n ≡ true → m ≡ n) → AreBuiltAlike x y → AreBuiltAlike (array_of k n x) (array_of j m y)
  arrays_alike {n = n} {m = m} x y (beside more other) f h = λ r.
      let front = left_empty (array_faults known.structs n x.type) x.faults r in
      let e = f (constant_length known.structs n x.type front) in
      let both = h (right_empty (array_faults known.structs n x.type) x.faults r) in (
        empty_both (array_faults known.structs m y.type) y.faults (ap (λ it. array_faults known.structs it y.type) e ∙ ap (array_faults known.structs n) both.1 ∙ front) both.0,
        ap (λ it. Array y.type (unwrap_or it 0)) e ∙ ap (λ t. Array t (unwrap_or n 0)) both.1,
      )

  pub written_alike : {k j : Known} {judge : Option (List ℕ) → Known → Built → List Rule} → AreJudgedAlike texts known own judge → (it : Specified) (name : Option (List ℕ)) (n m : ℕ) (x y : Built)
      → AreBuiltAlike x y → IsBeside texts known own k j
      → Follows texts known own (DeclareAlike name) (end_of_declarator (Some n) name x (all_faults it x (judge name k x)) k) (end_of_declarator (Some m) name y (all_faults it y (judge name j y)) j)
  written_alike {k} {j} {judge} judged it name n m x y h b =
      settled (λ u k. Goes (declares n name x []) k) (λ u k. Goes (declares m name y []) k) n m (all_faults it x (judge name k x)) (all_faults it y (judge name j y))
      (λ r. let both = names_by it x y (judge name k x) (judge name j y) (judged name k j b x y) h r in (both.0, goes (declare_alike x y [] [] (λ s. both.1) (λ g. (refl, both.1))) b))

  -- a declarator without a name and parts is no node
  pub unwritten_alike : {k j : Known} {judge : Option (List ℕ) → Known → Built → List Rule} → AreJudgedAlike texts known own judge → (it : Specified) (x : Built) → IsBeside texts known own k j
      → Follows texts known own (DeclareAlike None) (end_of_declarator None None x (all_faults it x (judge None k x)) k) (end_of_declarator None None x (all_faults it x (judge None j x)) j)
  unwritten_alike {k} {j} {judge} judged it x b =
      goes (declare_alike x x (all_faults it x (judge None k x)) (all_faults it x (judge None j x)) (λ s. absurd (false≢true s))
      (names_by it x x (judge None k x) (judge None j x) (judged None k j b x x) (λ r. (r, refl)))) b

  pub type_names_judged : AreJudgedAlike texts known own (λ name known it. type_name_faults it)
  type_names_judged name k j b x y e h = ap (λ t. broken_if bad_length (lacks_length t)) e ∙ h

  declared_same : {k j : Known} → AreScopesAlike texts known own → (name : Option (List ℕ)) → IsBeside texts known own k j → is_declared_here j name ≡ is_declared_here k name
  declared_same alike None b = refl
  declared_same alike (Some w) (beside more other) = alike.here w

  pub parameters_judged : AreScopesAlike texts known own → AreJudgedAlike texts known own (parameter_faults false)
  parameters_judged alike name k j b x y e h =
      ap (λ twice. broken_if declared_twice twice ++ broken_if incomplete_type (is_incomplete j.structs (adjusted y.type)) ++ broken_if floating_type (false && is_floating (adjusted y.type))
      ++ broken_if function_as_value (false && is_pointer_to_function (adjusted y.type))) (declared_same alike name b)
      ∙ ap (λ structs. broken_if declared_twice (is_declared_here k name) ++ broken_if incomplete_type (is_incomplete structs (adjusted y.type)) ++ broken_if floating_type (false && is_floating (adjusted y.type))
      ++ broken_if function_as_value (false && is_pointer_to_function (adjusted y.type))) (structs_same b)
      ∙ ap (λ t. broken_if declared_twice (is_declared_here k name) ++ broken_if incomplete_type (is_incomplete k.structs (adjusted t)) ++ broken_if floating_type (false && is_floating (adjusted t))
      ++ broken_if function_as_value (false && is_pointer_to_function (adjusted t))) e
      ∙ h

-- a rule of the type name, and those of the operator
pub also_bare : {name : Option (List ℕ)} (f g : CType → Judged) (x y : Declares) → DeclareAlike name x y → ((t : CType) → BareJudged (f t) (g t))
    → BareJudged (also x.faults (f x.type)) (also y.faults (g y.type))
also_bare f g _ _ (declare_alike x y xs ys t h) d = λ r.
    let both = h (left_empty xs (f x.type).faults r) in
    let ends = d x.type (right_empty xs (f x.type).faults r) in
    subst (λ t. (ys ++ (g t).faults ≡ []) × Bare (f x.type).typed (g t).typed) (sym both.1) (empty_both ys (g x.type).faults both.0 ends.0, ends.1)
