-- Walks over the parameters of plain type names, which are objects whose names have a scope of their own.
use Rattle.std.proofs.Common.{◌≡◌, ℕ, Bool, true, false, List, [], ◌∷◌, length, Option, Some, None, refl}
use Rattle.std.specs.Prelude.{◌++◌}
use Rattle.lt_tree.specs.Tree as c
use Rattle.lt_tree.specs.Typing.Types.{CType}
use Rattle.lt_tree.specs.Typing.Rules.{Rule}
use Rattle.lt_tree.specs.Typing.Entities.{Known, Object, unmade, Label, Fact, Frame, an_object, binding}
use Rattle.lt_tree.specs.Typing.Steps.{Outcome, Goes, Breaks, goes_on, left}
use Rattle.lt_tree.specs.Typing.Specifying.{Specified}
use Rattle.lt_tree.specs.Typing.Declarators.{Built, binds_parameter}
use Rattle.lt_tree.specs.Typing.NodeEnds.{end_of_declarator}
use Rattle.lt_tree.specs.Typing.ExpressionTyping.{declarator, parts}
use Rattle.lt_erased_typing.specs.Literals.{HasMoreTexts, one_unmade, none_more}
use Rattle.lt_erased_typing.specs.Erasable.{with_found, entered, in_scope, Behind}
use Rattle.lt_erased_typing.proofs.Texts.{IsNamed, more_after}
use Rattle.lt_erased_typing.proofs.Scopes.{itself, scopes_itself, scopes_with, named_in, tags_kept}
use Rattle.lt_erased_typing.proofs.SameTags.{HaveSameTags}
use Rattle.lt_erased_typing.proofs.PlainWalks.{IsNear, near, Finds, went, broke, bind, settled, here_near, named_near}

-- the same is known but for what else is found, and for the names that are in scope
pub data IsInside (texts : Bool) (known : Known) : Known → Type 0 where
  inside : {n : ℕ} {fs : List Frame} {objects : List Object} {found : List Label} {facts : List Fact} → HasMoreTexts texts known.objects objects
      → IsInside texts known (record (with_found known n objects found facts) { frames = fs })

-- so it is where a walk goes on
pub data Reaches {A : Type 0} (texts : Bool) (known : Known) : Outcome A → Type 0 where
  reached : {a : A} {k : Known} → IsInside texts known k → Reaches texts known (Goes a k)
  stopped : {rule : Rule} {node : ℕ} → Reaches texts known (Breaks rule node)

-- what is known where a parameter is found
abbrev pub with_parameter : List ℕ → Bool → ℕ → CType → Known → Known
with_parameter name is_register n t k = record k {
  frames = binding name (an_object (length k.objects) is_register) k.frames;
  objects = k.objects ++ record { node = n; name = name; type = t; life = unmade; start = None } ∷ [];
}

module _ {texts : Bool} {known : Known} where
  pub reach_here : {A : Type 0} {a : A} {k : Known} → IsNear texts known k → Reaches texts known (Goes a k)
  reach_here (near more) = reached (inside more)

  pub reach_then : {A B : Type 0} {o : Outcome A} {f : A → Known → Outcome B} → Finds texts known o → ((a : A) (k : Known) → IsNear texts known k → Reaches texts known (f a k))
      → Reaches texts known (goes_on o f)
  reach_then (went {a} {k} s) g = g a k s
  reach_then broke g = stopped

  pub reach_last : {A B : Type 0} {o : Outcome A} (f : A → B) → Reaches texts known o → Reaches texts known (goes_on o (λ a k. Goes (f a) k))
  reach_last f (reached s) = reached s
  reach_last f stopped = stopped

  reach_on : {A : Type 0} {o : Outcome A} {k : Known} (fs : List Frame) {xs : List Object} → IsNear texts known k → HasMoreTexts texts k.objects xs
      → Reaches texts (record k { frames = fs; objects = xs }) o → Reaches texts known o
  reach_on fs (near more) others (reached (inside m)) = reached (inside (more_after more (more_after others m)))
  reach_on fs (near more) others stopped = stopped

  -- ---- a scope of its own

  pub scope_tags : {k : Known} → IsNear texts known k → HaveSameTags known.frames (in_scope k).frames
  scope_tags (near more) = record { tags = λ tag. refl }

  pub scope_found : {A : Type 0} {o : Outcome A} {k : Known} → IsNear texts known k → Reaches texts (in_scope k) o → Finds texts known (goes_on (left k.frames o) (λ r l. Goes r.0 l))
  scope_found (near more) (reached (inside m)) = went (near (more_after more m))
  scope_found (near more) stopped = broke

  parameter_tags : {k : Known} (name : List ℕ) (is_register : Bool) (n : ℕ) (t : CType) → IsNear texts known k → HaveSameTags known.frames (with_parameter name is_register n t k).frames
  parameter_tags name is_register n t (near {n = m} {objects} more) = record { tags = λ tag. tags_kept name (an_object (length objects) is_register) known.frames tag }

  -- the name of a parameter is in scope behind it
  pub reach_bound : {A : Type 0} {k : Known} {f : List ℕ → Known → Outcome A} (name : Option (List ℕ)) (is_register : Bool) (n : ℕ) (t : CType) → texts ≡ true → IsNear texts known k
      → ((those : List ℕ) (later l : Known) → HaveSameTags known.frames later.frames → IsNear texts later l → Reaches texts later (f those l))
      → Reaches texts known (goes_on (binds_parameter false is_register n name t k) f)
  reach_bound {k = k} None is_register n t is s h = h [] known k (record { tags = λ tag. refl }) s
  reach_bound {k = k} (Some name) is_register n t is s h =
      let later = with_parameter name is_register n t k in
      reach_on later.frames s (one_unmade _ is refl none_more) (h (length k.objects ∷ []) later later (parameter_tags name is_register n t s) (here_near later))

  -- it stands for an object that is known
  named_parameter : {k : Known} (name : List ℕ) (is_register : Bool) (n : ℕ) (t : CType) → texts ≡ true → IsNamed texts known → IsNear texts known k
      → IsNamed texts (with_parameter name is_register n t k)
  named_parameter {k} name is_register n t is named s =
      let x : Object = record { node = n; name = name; type = t; life = unmade; start = None } in
      let more : HasMoreTexts texts k.objects (k.objects ++ x ∷ []) = one_unmade x is refl none_more in
      let later = with_parameter name is_register n t k in
      named_in later (itself later) (scopes_with name is_register x x refl (scopes_itself k (named_near named s)) more more)

  pub behind_bound : {k : Known} {P : Known → Type 0} (name : Option (List ℕ)) (is_register : Bool) (n : ℕ) (t : CType) → texts ≡ true → IsNamed texts known → IsNear texts known k
      → ((later l : Known) → IsNamed texts later → HaveSameTags known.frames later.frames → IsNear texts later l → P l)
      → Behind (binds_parameter false is_register n name t k) (λ objects l. P l)
  behind_bound {k} None is_register n t is named s h = h known k named (record { tags = λ tag. refl }) s
  behind_bound {k} (Some name) is_register n t is named s h =
      let later = with_parameter name is_register n t k in
      h later later (named_parameter name is_register n t is named s) (parameter_tags name is_register n t s) (here_near later)

  -- a walk that went on behind it
  pub bound_went_on : {A : Type 0} {k : Known} {f : List ℕ → Known → Outcome A} {a : A} {i : Known} (name : Option (List ℕ)) (is_register : Bool) (n : ℕ) (t : CType) → IsNear texts known k
      → goes_on (binds_parameter false is_register n name t k) f ≡ Goes a i
      → (those : List ℕ) × (later : Known) × (l : Known) × HaveSameTags known.frames later.frames × IsNear texts later l × (f those l ≡ Goes a i)
  bound_went_on {k = k} None is_register n t s e = ([], known, k, record { tags = λ tag. refl }, s, e)
  bound_went_on {k = k} (Some name) is_register n t s e =
      let later = with_parameter name is_register n t k in (length k.objects ∷ [], later, later, parameter_tags name is_register n t s, here_near later, e)

  -- ---- declarators

  ended : {k : Known} (name : Option (List ℕ)) (n : ℕ) (x : Built) (rules : List Rule) → IsNear texts known k → Finds texts known (end_of_declarator (Some n) name x rules k)
  ended name n x rules s = settled n rules _ (went s)

  -- by its parts
  pub declared_found : {k : Known} (judge : Option (List ℕ) → Known → Built → List Rule) (name : Option (List ℕ)) (ps : c.Parts) (it : Specified) → IsNear texts known k
      → Finds texts known (parts ps it.type false true (entered k)) → Finds texts known (declarator (c.declarator name ps) it false judge k)
  declared_found judge None c.no_parts it s h = went s
  declared_found {k} judge None (c.Pointer q rest) it s h = bind h (λ x l s. ended None k.next x _ s)
  declared_found {k} judge None (c.Array length rest) it s h = bind h (λ x l s. ended None k.next x _ s)
  declared_found {k} judge None (c.Function them rest) it s h = bind h (λ x l s. ended None k.next x _ s)
  declared_found {k} judge (Some w) ps it s h = bind h (λ x l s. ended (Some w) k.next x _ s)
