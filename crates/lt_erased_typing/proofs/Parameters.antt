-- Parameters of type names in the text with its marks and without them: they are objects, whose names have a scope of their own.
use Rattle.std.proofs.Common.{◌≡◌, ℕ, Bool, true, false, List, [], ◌∷◌, Option, Some, None, refl, sym, ap, subst}
use Rattle.std.specs.Prelude.{◌++◌, length, is_some}
use Rattle.lt_tree.specs.Tree as c
use Rattle.lt_tree.specs.Erasure.{erased_declarator, erased_specifiers}
use Rattle.lt_tree.specs.Typing.Types.{CType, adjusted}
use Rattle.lt_tree.specs.Typing.Rules.{Rule}
use Rattle.lt_tree.specs.Typing.Entities.{Known, Object, unmade, Label, Fact, Frame, an_object, binding}
use Rattle.lt_tree.specs.Typing.Steps.{Outcome, Goes, Breaks, goes_on, left}
use Rattle.lt_tree.specs.Typing.Specifying.{Specified, is_register, elsewhere}
use Rattle.lt_tree.specs.Typing.Declarators.{Parameters, Declares, declares, parameter_faults, binds_parameter, parameter_before}
use Rattle.lt_tree.specs.Typing.ExpressionTyping.{specifiers, declarator}
use Rattle.lt_erased_typing.specs.Literals.{HasMoreTexts, none_more, one_unmade}
use Rattle.lt_erased_typing.specs.Erasable.{AreKnown, with_found, in_scope, Behind}
use Rattle.lt_erased_typing.proofs.Texts.{more_after}
use Rattle.lt_erased_typing.proofs.Scopes.{Own, itself, AreAlike, AreScopesAlike, scopes_later, scopes_begin, scopes_with}
use Rattle.lt_erased_typing.proofs.Going.{own_with, IsBeside, beside, Follows, goes, breaks}
use Rattle.lt_erased_typing.proofs.TypeNames.{specifiers_same, DeclareAlike, declare_alike, AreParametersAlike, parameters_more}
use Rattle.lt_erased_typing.proofs.SizesAndCasts.{name_in}

-- The same is known at a place of both, as at a first place, but for the names that are in scope.
pub data IsWithin (texts : Bool) (known : Known) (own : Own) : Known → Known → Type 0 where
  within_scopes : {n m : ℕ} {fs gs : List Frame} {xs ys : List Object} {found : List Label} {facts others : List Fact} → HasMoreTexts texts known.objects xs
      → HasMoreTexts texts own.objects ys
      → IsWithin texts known own (record (with_found known n xs found facts) { frames = fs }) (record (own_with known own m ys others) { frames = gs })

-- So it is where going over the first goes on, to something that is related.
pub data Leads {A B : Type 0} (texts : Bool) (known : Known) (own : Own) (relation : A → B → Type 0) : Outcome A → Outcome B → Type 0 where
  leads : {a : A} {b : B} {k j : Known} → relation a b → IsWithin texts known own k j → Leads texts known own relation (Goes a k) (Goes b j)
  ends : {rule : Rule} {node : ℕ} {outcome : Outcome B} → Leads texts known own relation (Breaks rule node) outcome

-- what is known of its own in a place of the second text
abbrev Later : Known → List Frame → List Object → Known
Later k fs xs = record k { frames = fs; objects = xs }

-- a parameter is bound, and others behind it
abbrev pub bind_first : Bool → (Known → Outcome Parameters) → Declares → Known → Outcome Parameters
bind_first is_register f x k =
    goes_on (binds_parameter false is_register x.node x.name (adjusted x.type) k) (λ objects l. goes_on (f l) (λ others l. Goes (parameter_before x objects others) l))

-- going over a parameter, and others behind it
abbrev pub going : c.Specifiers → c.Declarator → (Known → Outcome Parameters) → Known → Outcome Parameters
going sp d f k = goes_on (specifiers sp elsewhere k) (λ it l. goes_on (declarator d it false (parameter_faults false) l) (bind_first (is_register it) f))

module _ {texts : Bool} {known : Known} {own : Own} where
  pub lead_here : {A B : Type 0} {R : A → B → Type 0} {a : A} {b : B} {k j : Known} → R a b → IsBeside texts known own k j → Leads texts known own R (Goes a k) (Goes b j)
  lead_here r (beside more other) = leads r (within_scopes more other)

  lead_then : {A B C D : Type 0} {R : A → B → Type 0} {Q : C → D → Type 0} {P : A → Known → Type 0} {o : Outcome A} {p : Outcome B} {f : A → Known → Outcome C} {g : B → Known → Outcome D}
      → Follows texts known own R o p → Behind o P
      → ((a : A) (b : B) (k j : Known) → R a b → IsBeside texts known own k j → P a k → Leads texts known own Q (f a k) (g b j))
      → Leads texts known own Q (goes_on o f) (goes_on p g)
  lead_then (goes {a} {b} {k} {j} r s) h l = l a b k j r s h
  lead_then breaks h l = ends

  pub lead_last : {A B C D : Type 0} {R : A → B → Type 0} {Q : C → D → Type 0} {o : Outcome A} {p : Outcome B} (f : A → C) (g : B → D) → ((a : A) (b : B) → R a b → Q (f a) (g b))
      → Leads texts known own R o p → Leads texts known own Q (goes_on o (λ a k. Goes (f a) k)) (goes_on p (λ b k. Goes (g b) k))
  lead_last f g h (leads {a} {b} r s) = leads (h a b r) s
  lead_last f g h ends = ends

  -- from a place with other names in scope
  lead_on : {A B : Type 0} {R : A → B → Type 0} {o : Outcome A} {p : Outcome B} {k j : Known} {xs ys : List Object} (fs gs : List Frame)
      → IsBeside texts known own k j → HasMoreTexts texts k.objects xs → HasMoreTexts texts j.objects ys
      → Leads texts (Later k fs xs) (itself (Later j gs ys)) R o p → Leads texts known own R o p
  lead_on fs gs (beside more other) m n (leads r (within_scopes a b)) = leads r (within_scopes (more_after more (more_after m a)) (more_after other (more_after n b)))
  lead_on fs gs (beside more other) m n ends = ends

  -- a scope of its own
  pub scope_alike : {k j : Known} → AreScopesAlike texts known own → IsBeside texts known own k j → AreScopesAlike texts (in_scope k) (itself (in_scope j))
  scope_alike alike (beside more other) = scopes_begin (scopes_later more other alike)

  pub scope_beside : {k j : Known} → IsBeside texts known own k j → IsBeside texts (in_scope k) (itself (in_scope j)) (in_scope k) (in_scope j)
  scope_beside (beside more other) = beside none_more none_more

  pub scope_left : {A B : Type 0} {R : A → B → Type 0} {o : Outcome A} {p : Outcome B} {k j : Known} → IsBeside texts known own k j
      → Leads texts (in_scope k) (itself (in_scope j)) R o p
      → Follows texts known own R (goes_on (left k.frames o) (λ r l. Goes r.0 l)) (goes_on (left j.frames p) (λ r l. Goes r.0 l))
  scope_left (beside more other) (leads r (within_scopes a b)) = goes r (beside (more_after more a) (more_after other b))
  scope_left (beside more other) ends = breaks

  -- with another name in scope, of an object that is found there
  later_beside : {k j : Known} (fs gs : List Frame) (xs ys : List Object) → IsBeside texts known own k j
      → IsBeside texts (Later k fs xs) (itself (Later j gs ys)) (Later k fs xs) (Later j gs ys)
  later_beside fs gs xs ys (beside more other) = beside none_more none_more

  alike_beside : {k j : Known} → AreScopesAlike texts known own → IsBeside texts known own k j → AreAlike texts k.frames j.frames k.objects j.objects
  alike_beside alike (beside more other) = scopes_later more other alike

  -- The name of a parameter is in scope behind it.
  bound_then : {C D : Type 0} {Q : C → D → Type 0} {k j : Known} {f : List ℕ → Known → Outcome C} {g : List ℕ → Known → Outcome D} {P : Known → Type 0} (name : Option (List ℕ)) (is_register : Bool)
      (n m : ℕ) (t u : CType) → texts ≡ true → (is_some name ≡ true → u ≡ t) → AreScopesAlike texts known own → IsBeside texts known own k j
      → Behind (binds_parameter false is_register n name t k) (λ objects l. P l)
      → ((later : Known) (apart : Own) (l i : Known) (those others : List ℕ) → AreScopesAlike texts later apart → IsBeside texts later apart l i → P l → Leads texts later apart Q (f those l) (g others i))
      → Leads texts known own Q (goes_on (binds_parameter false is_register n name t k) f) (goes_on (binds_parameter false is_register m name u j) g)
  bound_then {k = k} {j = j} None is_register n m t u is same alike b h l = l known own k j [] [] alike b h
  bound_then {k = k} {j = j} (Some w) is_register n m t u is same alike b h l =
      let x : Object = record { node = n; name = w; type = t; life = unmade; start = None } in
      let y : Object = record { node = m; name = w; type = u; life = unmade; start = None } in
      let fs = binding w (an_object (length k.objects) is_register) k.frames in
      let gs = binding w (an_object (length j.objects) is_register) j.frames in
      let xs = k.objects ++ x ∷ [] in
      let ys = j.objects ++ y ∷ [] in
      let more : HasMoreTexts texts k.objects xs = one_unmade x is refl none_more in
      let others : HasMoreTexts texts j.objects ys = one_unmade y is refl none_more in
      lead_on fs gs b more others
      (l (Later k fs xs) (itself (Later j gs ys)) (Later k fs xs) (Later j gs ys) (length k.objects ∷ []) (length j.objects ∷ [])
      (scopes_with w is_register x y (same refl) (alike_beside alike b) more others) (later_beside fs gs xs ys b) h)

-- ---- lists

module _ {texts : Bool} {known : Known} {own : Own} where
  -- one more parameter, which is bound in front of others
  bound_before : {k j : Known} {name : Option (List ℕ)} {x y : Declares} {f g : Known → Outcome Parameters} {P : Known → Type 0} → texts ≡ true → AreScopesAlike texts known own → (is_register : Bool)
      → DeclareAlike name x y → IsBeside texts known own k j → Behind (binds_parameter false is_register x.node x.name (adjusted x.type) k) (λ objects l. P l)
      → ((later : Known) (apart : Own) (l i : Known) → AreScopesAlike texts later apart → IsBeside texts later apart l i → P l → Leads texts later apart AreParametersAlike (f l) (g i))
      → Leads texts known own AreParametersAlike
      (goes_on (binds_parameter false is_register x.node x.name (adjusted x.type) k) (λ objects l. goes_on (f l) (λ others l. Goes (parameter_before x objects others) l)))
      (goes_on (binds_parameter false is_register y.node y.name (adjusted y.type) j) (λ objects i. goes_on (g i) (λ others i. Goes (parameter_before y objects others) i)))
  bound_before {name = name} is alike is_register (declare_alike {n} {m} x y xs ys t d) b h l =
      bound_then name is_register n m (adjusted x.type) (adjusted y.type) is (λ s. ap adjusted (t s)) alike b h
      (λ later apart i o those others alike b g. lead_last (λ them. parameter_before (declares n name x xs) those them) (λ them. parameter_before (declares m name y ys) others them)
      (λ them more p. parameters_more name n m x y xs ys those others them more d p) (l later apart i o alike b g))

  -- a list of parameters, where this is known of its first declarator and of the others
  pub listed : {k j : Known} {C P : Known → Type 0} → texts ≡ true → AreScopesAlike texts known own → (sp : c.Specifiers) (d : c.Declarator) (f g : Known → Outcome Parameters) → IsBeside texts known own k j
      → AreKnown k.frames sp
      → Behind (specifiers sp elsewhere k) (λ it l. C l × Behind (declarator d it false (parameter_faults false) l) (λ x i. Behind (binds_parameter false (is_register it) x.node x.name (adjusted x.type) i) (λ objects m. P m)))
      → ((it : Specified) (l i : Known) → IsBeside texts known own l i → C l
      → Follows texts known own (DeclareAlike (name_in d)) (declarator d it false (parameter_faults false) l) (declarator (erased_declarator d) it false (parameter_faults false) i))
      → ((later : Known) (apart : Own) (l i : Known) → AreScopesAlike texts later apart → IsBeside texts later apart l i → P l → Leads texts later apart AreParametersAlike (f l) (g i))
      → Leads texts known own AreParametersAlike (going sp d f k) (going (erased_specifiers sp) (erased_declarator d) g j)
  listed is alike sp d f g b a h declared rest =
      lead_then (specifiers_same alike sp elsewhere refl a b) h (λ it other l i e s c.
      subst (λ x. Leads texts known own AreParametersAlike (goes_on (declarator d it false (parameter_faults false) l) (bind_first (is_register it) f))
      (goes_on (declarator (erased_declarator d) x false (parameter_faults false) i) (bind_first (is_register x) g))) (sym e)
      (lead_then (declared it l i s c.0) c.1 (λ x y l i p s c. bound_before is alike (is_register it) p s c rest)))
