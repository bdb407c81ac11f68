-- Typing of declarations keeps the types of what is known, and local objects start with parts of types that are named.
use Rattle.std.proofs.Common.{◌≡◌, refl, sym, subst, ℕ, zero, suc, ◌+◌, Bool, true, false, List, [], ◌∷◌, ◌++◌, Option, Some, None, arith}
use Rattle.std.specs.Prelude.{◌&&◌, if◌then◌else◌, is_some, slice_get, unwrap_or}
use Rattle.std.specs.Str.{bytes_eq}
use Rattle.lt_model.specs.Layout.{then_some}
use Rattle.lt_tree.specs.declared.specifier.Storage.{Storage}
use Rattle.lt_tree.specs.Tree as c
use Rattle.lt_tree.specs.Typing.Types.{CType, Void}
use Rattle.lt_tree.specs.Typing.TypedTree.{Start, Local}
use Rattle.lt_tree.specs.Typing.Entities.{Known, Object, Life, a_typedef, a_function, is_linked, is_static, linked_from, linked_object, bind_name, declared_among, type_of_object}
use Rattle.lt_tree.specs.Typing.Steps.{Walk, Goes}
use Rattle.lt_tree.specs.Typing.Specifying.{Specified, alone, elsewhere}
use Rattle.lt_tree.specs.Typing.Declarators.{Declares}
use Rattle.lt_tree.specs.Typing.Declaring.{Kind, a_type_name, a_function_name, an_object_of, kind_of, declaration_faults, with_declared, new_object, object_for, declare_object, with_start, length_faults}
use Rattle.lt_tree.specs.Typing.DeclarationTyping.{no_object, created, started_object, declare, init_declarators, has_no_declarator, DeclaredLocals, declaration_by}
use Rattle.lt_type_laws.specs.Accesses.{is_named_in, AccessesStart, AccessesLocals}
use Rattle.lt_listed_types.proofs.Named.{inmost, named_inside}
use Rattle.lt_listed_types.proofs.Keeping.{Lists, lists_of, HasInside, Keeps, Once, Good, went, same, behind, bind}
use Rattle.lt_listed_types.proofs.Growth.{last_inside, object_added, started}
use Rattle.lt_listed_types.proofs.KeptExpressions.{of_specifiers, of_declarator}
use Rattle.lt_listed_types.proofs.KeptInitialisers.{of_object_initialiser, of_initialiser_of_none}

-- ---- objects by their numbers

-- there is an object of this number
pub record IsObject (lists : Lists) (n : ℕ) : Type 0 where
  pub type : CType
  pub inside : HasInside lists.objects n type

inside_type : (objects : List Object) (n : ℕ) (t : CType) → HasInside objects n t → inmost (unwrap_or (then_some (slice_get objects n) (λ object. Some object.type)) Void) ≡ t
inside_type [] n t h = absurd h
inside_type (object ∷ objects) zero t h = h
inside_type (object ∷ objects) (suc n) t h = inside_type objects n t h

own_inside : (known : Known) (n : ℕ) → IsObject (lists_of known) n → HasInside known.objects n (inmost (type_of_object known n))
own_inside known n h = subst (HasInside known.objects n) (sym (inside_type known.objects n h.type h.inside)) h.inside

linked_there : (at : ℕ) (name : List ℕ) (objects : List Object) (n : ℕ) → linked_from at name objects ≡ Some n → (k : ℕ) × (t : CType) × (n ≡ at + k) × HasInside objects k t
linked_there at name [] n e = absurd cc
linked_there at name (object ∷ objects) n e = by (is_linked object.life && bytes_eq object.name name) e (linked_there (at + 1) name objects n)
  where
    by : (b : Bool) → (if b then Some at else linked_from (at + 1) name objects) ≡ Some n → (linked_from (at + 1) name objects ≡ Some n → (k : ℕ) × (t : CType) × (n ≡ at + 1 + k) × HasInside objects k t)
        → (k : ℕ) × (t : CType) × (n ≡ at + k) × HasInside (object ∷ objects) k t
    by true is f = let first : at ≡ n = cc in (0, inmost object.type, omega arith, refl)
    by false is f = let it = f is in (suc it.0, it.1, omega (arith, it.2), it.3)

linked_is : (known : Known) (name : List ℕ) (n : ℕ) → linked_object name known ≡ Some n → IsObject (lists_of known) n
linked_is known name n e =
    let it = linked_there 0 name known.objects n e in
    let number : it.0 ≡ n = omega (arith, it.2) in
    record { type = it.1; inside = subst (λ m. HasInside known.objects m it.1) number it.3 }

-- ---- locals

-- what is created starts so
created_accesses : (test : CType → Bool) (is_there : Bool) (n : ℕ) (start : Option Start) → AccessesStart test start → AccessesLocals test (created is_there n start)
created_accesses test true n start h = tt
created_accesses test false n start h = (h, tt)

-- locals behind others
locals_joined : (test : CType → Bool) (xs ys : List Local) → AccessesLocals test xs → AccessesLocals test ys → AccessesLocals test (xs ++ ys)
locals_joined test [] ys h i = i
locals_joined test (x ∷ xs) ys h i = (h.0, locals_joined test xs ys h.1 i)

-- ---- what is declared, if it has a name

abbrev declare_if_named : Specified → Declares → Option c.Initialiser → Known → Option (List ℕ) → Walk (List Local)
declare_if_named it declared i known None = no_object i
declare_if_named it declared i known (Some name) = declare (kind_of known it.storage declared.type) declared.node name declared.type i

module _ {types : List CType} where
  of_new_object : (life : Life) (node : ℕ) (name : List ℕ) (t : CType) (known : Known) → Good types IsObject (lists_of known) (new_object life node name t known)
  of_new_object life node name t known =
      let object : Object = record { node = node; name = name; type = t; life = life; start = None } in
      went (object_added object known) (record { type = inmost t; inside = last_inside known.objects object })

  of_object_for : (life : Life) (node : ℕ) (name : List ℕ) (t : CType) (found : Option ℕ) (known : Known) → linked_object name known ≡ found → Good types IsObject (lists_of known) (object_for life node name t found known)
  of_object_for life node name t None known e = of_new_object life node name t known
  of_object_for life node name t (Some n) known e =
      elim (is_linked life) as (λ linked. Good types IsObject (lists_of known) ((if linked then (λ it. Goes n it) else new_object life node name t) known))
      [ true ↦ went same (linked_is known name n e) | false ↦ of_new_object life node name t known ]

  of_declare_object : (life : Life) (is_register : Bool) (node : ℕ) (name : List ℕ) (t : CType) (known : Known) → Good types IsObject (lists_of known) (declare_object life is_register node name t known)
  of_declare_object life is_register node name t known = bind (of_object_for life node name t (linked_object name known) known refl) (λ n k kept h. went same (record { type = h.type; inside = h.inside }))

  of_no_object : (i : Option c.Initialiser) (known : Known) → Good types (Once types (AccessesLocals (is_named_in types))) (lists_of known) (no_object i known)
  of_no_object None known = went same (λ named. tt)
  of_no_object (Some i) known = bind (of_initialiser_of_none i known) (λ u k kept h. went same (λ named. tt))

  of_started_object : (life : Life) (n : ℕ) (i : Option c.Initialiser) (known : Known) → IsObject (lists_of known) n → Good types (Once types (AccessesLocals (is_named_in types))) (lists_of known) (started_object life n i known)
  of_started_object life n None known there = went same (λ named. created_accesses (is_named_in types) (is_static life) n None tt)
  of_started_object life n (Some i) known there =
      let t : CType = type_of_object known n in
      let at : HasInside known.objects n (inmost t) = own_inside known n there in
      bind (of_object_initialiser i (is_static life) t length_faults known (λ named. named_inside types t (named.objects n (inmost t) at)))
      (λ it k kept h.
      let start : Option Start = if is_static life then Some it.start else None in
      let longer : Keeps types (lists_of k) (lists_of (with_start n start it.type k)) = started n start it.type k (subst (HasInside k.objects n) (sym h.inside) (kept.inside n (inmost t) at)) in
      went longer (λ named. created_accesses (is_named_in types) (is_static life) n (Some it.start) (h.parts (longer.names named))))

  -- ---- what is declared

  pub declared : (name : List ℕ) (t : CType) (known : Known) → Keeps types (lists_of known) (lists_of (with_declared name t known))
  declared name t known =
      elim (declared_among name known.declared) as
      (λ found. Keeps types (lists_of known) (lists_of (elim found as (λ _. Known) [ None ↦ record known { declared = known.declared ++ record { name = name; type = t } ∷ [] } | Some u ↦ known ])))
      [ None ↦ same | Some u ↦ same ]

  of_declare : (kind : Kind) (node : ℕ) (name : List ℕ) (t : CType) (i : Option c.Initialiser) (known : Known) → Good types (Once types (AccessesLocals (is_named_in types))) (lists_of known) (declare kind node name t i known)
  of_declare a_type_name node name t i known = of_no_object i (bind_name name (a_typedef t) known)
  of_declare a_function_name node name t i known = behind (declared name t known) (of_no_object i (bind_name name a_function (with_declared name t known)))
  of_declare (an_object_of life is_register) node name t i known = bind (of_declare_object life is_register node name t known) (λ n k kept h. of_started_object life n i k h)

  of_declare_if_named : (it : Specified) (declared : Declares) (name : Option (List ℕ)) (i : Option c.Initialiser) (known : Known)
      → Good types (Once types (AccessesLocals (is_named_in types))) (lists_of known) (declare_if_named it declared i known name known)
  of_declare_if_named it declared None i known = of_no_object i known
  of_declare_if_named it declared (Some name) i known = of_declare (kind_of known it.storage declared.type) declared.node name declared.type i known

  of_init_declarators : (it : Specified) (them : List c.InitDeclarator) (known : Known) → Good types (Once types (AccessesLocals (is_named_in types))) (lists_of known) (init_declarators it them known)
  of_init_declarators it [] known = went same (λ named. tt)
  of_init_declarators it (d ∷ ds) known =
      bind (bind (of_declarator d.declarator it false (declaration_faults it.storage (is_some d.initialiser)) known) (λ declared k kept h. of_declare_if_named it declared declared.name d.initialiser k))
      (λ first k kept h. bind (of_init_declarators it ds k) (λ rest k kept i. went same (λ named. locals_joined (is_named_in types) first rest (h (kept.names named)) (i named))))

  pub of_declaration_by : (effective : Option Storage → Option Storage) (d : c.Declaration) (known : Known)
      → Good types (Once types (λ (it : DeclaredLocals). AccessesLocals (is_named_in types) it.locals)) (lists_of known) (declaration_by effective d known)
  of_declaration_by effective d known =
      bind (of_specifiers d.specifiers (if has_no_declarator d.declarators then alone else elsewhere) known)
      (λ it k kept h. bind (of_init_declarators (record it { storage = effective it.storage }) d.declarators k) (λ locals k kept i. went same i))
