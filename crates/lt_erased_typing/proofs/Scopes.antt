-- Names and tags in scope of the text with its marks and without them: parameters of type names may be objects with other numbers.
use Rattle.std.proofs.Common.{◌≡◌, ℕ, suc, ◌<◌, Bool, true, false, List, [], ◌∷◌, length, Option, Some, None, refl, sym, ap, ◌∙◌, subst}
use Rattle.std.specs.Prelude.{ℤ, ◌++◌, if◌then◌else◌, is_some}
use Rattle.std.specs.Str.{bytes_eq}
use Rattle.lt_tree.specs.Typing.Types.{CType}
use Rattle.lt_tree.specs.Typing.Entities.{Known, Object, Label, Frame, no_names, Entity, an_object, a_function, a_typedef, an_enumerator, or_else, bound_among, bound_in, tagged_in, innermost, binding}
use Rattle.lt_tree.specs.Typing.Specifying.{typedef_named}
use Rattle.lt_erased_typing.specs.Literals.{HasMoreTexts}
use Rattle.lt_erased_typing.proofs.Texts.{IsNamed, kept_within, type_among, type_kept, type_of_last, last_within}

-- what the second text has of its own at the first place
pub record Own : Type 0 where
  pub frames : List Frame
  pub objects : List Object
  pub labels : List Label

-- where it has the same
abbrev pub itself : Known → Own
itself known = record { frames = known.frames; objects = known.objects; labels = known.labels }

-- A name stands for the same in both, or for objects of one type, each of which is known if string literals and parameters are allowed.
pub data StandAlike (texts : Bool) (xs ys : List Object) : Option Entity → Option Entity → Type 0 where
  nothing : StandAlike texts xs ys None None
  objects : {n m : ℕ} (is_register : Bool) → (texts ≡ true → n < length xs) → (texts ≡ true → m < length ys) → type_among ys m ≡ type_among xs n
      → StandAlike texts xs ys (Some (an_object n is_register)) (Some (an_object m is_register))
  functions : StandAlike texts xs ys (Some a_function) (Some a_function)
  typedefs : (type : CType) → StandAlike texts xs ys (Some (a_typedef type)) (Some (a_typedef type))
  enumerators : (value : ℤ) → StandAlike texts xs ys (Some (an_enumerator value)) (Some (an_enumerator value))

-- The same names and tags are in scope.
pub record AreAlike (texts : Bool) (fs gs : List Frame) (xs ys : List Object) : Type 0 where
  pub names : (name : List ℕ) → StandAlike texts xs ys (bound_in name fs) (bound_in name gs)
  pub here : (name : List ℕ) → is_some (bound_among name (innermost gs).names) ≡ is_some (bound_among name (innermost fs).names)
  pub tags : (tag : List ℕ) → tagged_in tag gs ≡ tagged_in tag fs
  pub depth : length gs ≡ length fs

abbrev pub AreScopesAlike : Bool → Known → Own → Type 0
AreScopesAlike texts known own = AreAlike texts known.frames own.frames known.objects own.objects

-- ---- what a name stands for

stands_itself : {texts : Bool} (xs : List Object) (found : Option Entity) → (texts ≡ true → (n : ℕ) (is_register : Bool) → found ≡ Some (an_object n is_register) → n < length xs)
    → StandAlike texts xs xs found found
stands_itself xs None h = nothing
stands_itself xs (Some (an_object n is_register)) h = objects is_register (λ is. h is n is_register refl) (λ is. h is n is_register refl) refl
stands_itself xs (Some a_function) h = functions
stands_itself xs (Some (a_typedef type)) h = typedefs type
stands_itself xs (Some (an_enumerator value)) h = enumerators value

pub scopes_itself : {texts : Bool} (known : Known) → IsNamed texts known → AreScopesAlike texts known (itself known)
scopes_itself known named = record {
  names = λ name. stands_itself known.objects (bound_in name known.frames) (λ is n is_register e. named is name n is_register e);
  here = λ name. refl;
  tags = λ tag. refl;
  depth = refl;
}

-- objects that are found later change nothing
pub stand_later : {texts : Bool} {xs ys ls ms : List Object} {found other : Option Entity} → HasMoreTexts texts xs ls → HasMoreTexts texts ys ms → StandAlike texts xs ys found other
    → StandAlike texts ls ms found other
stand_later more others nothing = nothing
stand_later more others (objects {n} {m} is_register h g e) =
    objects is_register (λ is. kept_within n more (h is)) (λ is. kept_within m others (g is)) (type_kept m g others ∙ e ∙ sym (type_kept n h more))
stand_later more others functions = functions
stand_later more others (typedefs type) = typedefs type
stand_later more others (enumerators value) = enumerators value

number_same : {n m : ℕ} {a b : Bool} → Some (an_object n a) ≡ Some (an_object m b) → n ≡ m
number_same e = cc

known_object : {texts : Bool} {xs ys : List Object} {found other : Option Entity} → StandAlike texts xs ys found other
    → texts ≡ true → (n : ℕ) (is_register : Bool) → found ≡ Some (an_object n is_register) → n < length xs
known_object nothing is n is_register e = absurd cc
known_object {xs = xs} (objects r h g t) is n is_register e = subst (λ k. k < length xs) (number_same e) (h is)
known_object functions is n is_register e = absurd cc
known_object (typedefs type) is n is_register e = absurd cc
known_object (enumerators value) is n is_register e = absurd cc

pub named_in : {texts : Bool} (known : Known) (own : Own) → AreScopesAlike texts known own → IsNamed texts known
named_in known own alike = λ is name n is_register e. known_object (alike.names name) is n is_register e

pub typedef_same : {texts : Bool} {xs ys : List Object} {found other : Option Entity} → StandAlike texts xs ys found other → typedef_named other ≡ typedef_named found
typedef_same nothing = refl
typedef_same (objects r h g t) = refl
typedef_same functions = refl
typedef_same (typedefs type) = refl
typedef_same (enumerators value) = refl

-- ---- one more name

module _ {texts : Bool} {xs ys : List Object} {e f : Entity} (name : List ℕ) (new : StandAlike texts xs ys (Some e) (Some f)) where
  or_new : (b : Bool) (found other more most : Option Entity) → StandAlike texts xs ys (or_else found more) (or_else other most)
      → StandAlike texts xs ys (or_else (if b then Some e else found) more) (or_else (if b then Some f else other) most)
  or_new true found other more most h = new
  or_new false found other more most h = h

  bound_alike : (fs gs : List Frame) → length gs ≡ length fs → (w : List ℕ) → StandAlike texts xs ys (bound_in w fs) (bound_in w gs)
      → StandAlike texts xs ys (bound_in w (binding name e fs)) (bound_in w (binding name f gs))
  bound_alike [] [] d w h = h
  bound_alike [] (b ∷ gs) d w h = absurd cc
  bound_alike (a ∷ fs) [] d w h = absurd cc
  bound_alike (a ∷ fs) (b ∷ gs) d w h = or_new (bytes_eq name w) (bound_among w a.names) (bound_among w b.names) (bound_in w fs) (bound_in w gs) h

is_either : (b : Bool) (e f : Entity) (found other : Option Entity) → is_some other ≡ is_some found → is_some (if b then Some f else other) ≡ is_some (if b then Some e else found)
is_either true e f found other h = refl
is_either false e f found other h = h

here_alike : (name : List ℕ) (e f : Entity) (fs gs : List Frame) → length gs ≡ length fs → (w : List ℕ)
    → is_some (bound_among w (innermost gs).names) ≡ is_some (bound_among w (innermost fs).names)
    → is_some (bound_among w (innermost (binding name f gs)).names) ≡ is_some (bound_among w (innermost (binding name e fs)).names)
here_alike name e f [] [] d w h = h
here_alike name e f [] (b ∷ gs) d w h = absurd cc
here_alike name e f (a ∷ fs) [] d w h = absurd cc
here_alike name e f (a ∷ fs) (b ∷ gs) d w h = is_either (bytes_eq name w) e f (bound_among w a.names) (bound_among w b.names) h

-- it is no tag
pub tags_kept : (name : List ℕ) (e : Entity) (fs : List Frame) (tag : List ℕ) → tagged_in tag (binding name e fs) ≡ tagged_in tag fs
tags_kept name e [] tag = refl
tags_kept name e (frame ∷ fs) tag = refl

depth_kept : (name : List ℕ) (e : Entity) (fs : List Frame) → length (binding name e fs) ≡ length fs
depth_kept name e [] = refl
depth_kept name e (frame ∷ fs) = refl

-- the name of an object that is found last in both texts, of one type
pub scopes_with : {texts : Bool} {fs gs : List Frame} {xs ys : List Object} (name : List ℕ) (is_register : Bool) (x y : Object) → y.type ≡ x.type → AreAlike texts fs gs xs ys
    → HasMoreTexts texts xs (xs ++ x ∷ []) → HasMoreTexts texts ys (ys ++ y ∷ [])
    → AreAlike texts (binding name (an_object (length xs) is_register) fs) (binding name (an_object (length ys) is_register) gs) (xs ++ x ∷ []) (ys ++ y ∷ [])
scopes_with {texts} {fs} {gs} {xs} {ys} name is_register x y t alike more others =
    let e = an_object (length xs) is_register in
    let f = an_object (length ys) is_register in record {
      names = λ w. bound_alike name (objects is_register (λ is. last_within xs x) (λ is. last_within ys y) (type_of_last ys y ∙ t ∙ sym (type_of_last xs x)))
          fs gs alike.depth w (stand_later more others (alike.names w));
      here = λ w. here_alike name e f fs gs alike.depth w (alike.here w);
      tags = λ tag. tags_kept name f gs tag ∙ alike.tags tag ∙ sym (tags_kept name e fs tag);
      depth = depth_kept name f gs ∙ alike.depth ∙ sym (depth_kept name e fs);
    }

-- objects that are found later change nothing
pub scopes_later : {texts : Bool} {fs gs : List Frame} {xs ys ls ms : List Object} → HasMoreTexts texts xs ls → HasMoreTexts texts ys ms → AreAlike texts fs gs xs ys → AreAlike texts fs gs ls ms
scopes_later more others alike = record { names = λ name. stand_later more others (alike.names name); here = alike.here; tags = alike.tags; depth = alike.depth }

-- a scope of its own has the same names and tags, and none there
pub scopes_begin : {texts : Bool} {fs gs : List Frame} {xs ys : List Object} → AreAlike texts fs gs xs ys → AreAlike texts (no_names ∷ fs) (no_names ∷ gs) xs ys
scopes_begin alike = record { names = alike.names; here = λ name. refl; tags = alike.tags; depth = ap suc alike.depth }
