-- `sizeof` and casts with type names, without their marks.
use Rattle.std.proofs.Common.{◌≡◌, ℕ, List, [], Option, Some, None, Bool, true, false, refl, sym, subst}
use Rattle.lt_tree.specs.Tree as c
use Rattle.lt_tree.specs.Erasure.{erased, erased_parts, erased_declarator, erased_specifiers}
use Rattle.lt_tree.specs.Typing.Entities.{Known}
use Rattle.lt_tree.specs.Typing.Rules.{Rule}
use Rattle.lt_tree.specs.Typing.Steps.{goes_on}
use Rattle.lt_tree.specs.Typing.Expressions.{Use, as_value, finish}
use Rattle.lt_tree.specs.Typing.Operations.{judge_size, judge_cast}
use Rattle.lt_tree.specs.Typing.NodeEnds.{also}
use Rattle.lt_tree.specs.Typing.Specifying.{Specified, elsewhere, is_alone}
use Rattle.lt_tree.specs.Typing.Declarators.{Built, built, type_name_faults, setting_in_sizeof}
use Rattle.lt_tree.specs.Typing.ExpressionTyping.{expression, parts, specifiers, declarator}
use Rattle.lt_erased_typing.specs.Erasable.{AreKnown, CanBeErasedWith, CanLengthsBeErased, CanPartsBeErased, Behind, entered}
use Rattle.lt_erased_typing.proofs.Scopes.{Own, AreScopesAlike}
use Rattle.lt_erased_typing.proofs.Going.{IsBeside, Follows, bind, last, entered_beside}
use Rattle.lt_erased_typing.proofs.Operands.{BareValue, BareAs}
use Rattle.lt_erased_typing.proofs.Ends.{finished}
use Rattle.lt_erased_typing.proofs.Operators.{size_same, cast_bare}
use Rattle.lt_erased_typing.proofs.TypeNames.{specifiers_same, written_somewhere, AreBuiltAlike, AreJudgedAlike, DeclareAlike, written_alike, unwritten_alike, also_bare}

-- the name that a declarator has
abbrev pub name_in : c.Declarator → Option (List ℕ)
name_in (c.declarator name ps) = name

-- the rules of a type name
abbrev pub any_type_name : Option (List ℕ) → Known → Built → List Rule
any_type_name name known it = type_name_faults it

setting_by : (name : Option (List ℕ)) (ps : c.Parts) → setting_in_sizeof (c.declarator name (erased_parts ps)) ≡ setting_in_sizeof (c.declarator name ps)
setting_by None c.no_parts = refl
setting_by None (c.Pointer q rest) = refl
setting_by None (c.Array length rest) = refl
setting_by None (c.Function them rest) = refl
setting_by (Some w) ps = refl

setting_same : (d : c.Declarator) → setting_in_sizeof (erased_declarator d) ≡ setting_in_sizeof d
setting_same (c.declarator name ps) = setting_by name ps

pub stands_somewhere : (d : c.Declarator) → is_alone (setting_in_sizeof d) ≡ false
stands_somewhere (c.declarator name ps) = written_somewhere name ps

-- what is asked of a declarator is asked of its parts
pub can_parts : (texts : Bool) (k : Known) (name : Option (List ℕ)) (ps : c.Parts) → CanLengthsBeErased texts k (c.declarator name ps) → CanPartsBeErased texts (entered k) ps
can_parts texts k name c.no_parts h = tt
can_parts texts k name (c.Pointer q rest) h = h
can_parts texts k name (c.Array length rest) h = h
can_parts texts k name (c.Function them rest) h = h

pub of_parts_can : (texts : Bool) (k : Known) (name : Option (List ℕ)) (ps : c.Parts) → CanPartsBeErased texts (entered k) ps → CanLengthsBeErased texts k (c.declarator name ps)
of_parts_can texts k name c.no_parts h = tt
of_parts_can texts k name (c.Pointer q rest) h = h
of_parts_can texts k name (c.Array length rest) h = h
of_parts_can texts k name (c.Function them rest) h = h

module _ {texts : Bool} {known : Known} {own : Own} where
  -- a declarator, by its parts
  pub declared_alike : {k j : Known} {judge : Option (List ℕ) → Known → Built → List Rule} → AreJudgedAlike texts known own judge → (name : Option (List ℕ)) (ps : c.Parts) (it : Specified)
      → IsBeside texts known own k j
      → Follows texts known own AreBuiltAlike (parts ps it.type false true (entered k)) (parts (erased_parts ps) it.type false true (entered j))
      → Follows texts known own (DeclareAlike name) (declarator (c.declarator name ps) it false judge k) (declarator (c.declarator name (erased_parts ps)) it false judge j)
  declared_alike judged None c.no_parts it b h = unwritten_alike judged it (built it.type []) b
  declared_alike {k} {j} judged None (c.Pointer q rest) it b h = last h (λ x y l i p s. written_alike judged it None k.next j.next x y p s)
  declared_alike {k} {j} judged None (c.Array length rest) it b h = last h (λ x y l i p s. written_alike judged it None k.next j.next x y p s)
  declared_alike {k} {j} judged None (c.Function them rest) it b h = last h (λ x y l i p s. written_alike judged it None k.next j.next x y p s)
  declared_alike {k} {j} judged (Some w) ps it b h = last h (λ x y l i p s. written_alike judged it (Some w) k.next j.next x y p s)

  pub sized : {k j : Known} {C : Known → Type 0} → AreScopesAlike texts known own → (sp : c.Specifiers) (d : c.Declarator) (role : Use) → IsBeside texts known own k j → AreKnown k.frames sp
      → Behind (specifiers sp (setting_in_sizeof d) (entered k)) (λ it l. C l)
      → ((it : Specified) (l i : Known) → IsBeside texts known own l i → C l
      → Follows texts known own (DeclareAlike (name_in d)) (declarator d it false any_type_name l) (declarator (erased_declarator d) it false any_type_name i))
      → Follows texts known own (BareAs role) (expression (c.SizeofType sp d) role k) (expression (c.SizeofType (erased_specifiers sp) (erased_declarator d)) role j)
  sized {k} {j} alike sp d role b a h f =
      subst (λ setting. Follows texts known own (BareAs role) (expression (c.SizeofType sp d) role k)
      (goes_on (specifiers (erased_specifiers sp) setting (entered j)) (λ it i. goes_on (declarator (erased_declarator d) it false any_type_name i) (λ t i. finish j.next role (also t.faults (judge_size t.type i)) i)))) (sym (setting_same d))
      (bind (specifiers_same alike sp (setting_in_sizeof d) (stands_somewhere d) a (entered_beside b)) h (λ it other l i e s g.
      subst (λ x. Follows texts known own (BareAs role) (goes_on (declarator d it false any_type_name l) (λ t l. finish k.next role (also t.faults (judge_size t.type l)) l))
      (goes_on (declarator (erased_declarator d) x false any_type_name i) (λ t i. finish j.next role (also t.faults (judge_size t.type i)) i))) (sym e)
      (last (f it l i s g) (λ t u l i p s. finished k.next j.next role (also t.faults (judge_size t.type l)) (also u.faults (judge_size u.type i))
      (also_bare (λ type. judge_size type l) (λ type. judge_size type i) t u p (λ type. size_same type s)) s))))

  pub cast_alike : {k j : Known} {C : Known → Type 0} → AreScopesAlike texts known own → (sp : c.Specifiers) (d : c.Declarator) (operand : c.Expression) (role : Use) → IsBeside texts known own k j
      → AreKnown k.frames sp
      → Behind (specifiers sp elsewhere (entered k)) (λ it l. C l × Behind (declarator d it false any_type_name l) (λ t i. CanBeErasedWith texts as_value i operand))
      → ((it : Specified) (l i : Known) → IsBeside texts known own l i → C l
      → Follows texts known own (DeclareAlike (name_in d)) (declarator d it false any_type_name l) (declarator (erased_declarator d) it false any_type_name i))
      → ((l i : Known) → IsBeside texts known own l i → CanBeErasedWith texts as_value l operand → Follows texts known own BareValue (expression operand as_value l) (expression (erased operand) as_value i))
      → Follows texts known own (BareAs role) (expression (c.Cast sp d operand) role k) (expression (c.Cast (erased_specifiers sp) (erased_declarator d) (erased operand)) role j)
  cast_alike {k} {j} alike sp d operand role b a h f g =
      bind (specifiers_same alike sp elsewhere refl a (entered_beside b)) h (λ it other l i e s c.
      subst (λ x. Follows texts known own (BareAs role) (goes_on (declarator d it false any_type_name l) (λ t l. goes_on (expression operand as_value l) (λ x l. finish k.next role (also t.faults (judge_cast t.type x l)) l)))
      (goes_on (declarator (erased_declarator d) x false any_type_name i) (λ t i. goes_on (expression (erased operand) as_value i) (λ x i. finish j.next role (also t.faults (judge_cast t.type x i)) i)))) (sym e)
      (bind (f it l i s c.0) c.1 (λ t u l i p s c.
      last (g l i s c) (λ x y l i q s. finished k.next j.next role (also t.faults (judge_cast t.type x l)) (also u.faults (judge_cast u.type y i))
      (also_bare (λ type. judge_cast type x l) (λ type. judge_cast type y i) t u p (λ type. cast_bare type s q)) s))))
