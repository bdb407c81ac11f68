-- Going over the text with its marks and without them, side by side.
use Rattle.std.proofs.Common.{◌≡◌, ℕ, Bool, true, List, [], ◌∷◌, refl, sym, ap, subst}
use Rattle.std.specs.Prelude.{◌++◌}
use Rattle.lt_tree.specs.Typing.Rules.{Rule}
use Rattle.lt_tree.specs.Typing.Entities.{Known, Object, Label, Fact, meaning_of}
use Rattle.lt_tree.specs.Typing.Steps.{Outcome, Goes, Breaks, goes_on, marked_again}
use Rattle.lt_tree.specs.Typing.NodeEnds.{text_object}
use Rattle.lt_erased_typing.specs.Literals.{HasMoreTexts, one_more}
use Rattle.lt_erased_typing.specs.Erasable.{with_found, Behind, entered, unmarked, FindsLabels}
use Rattle.lt_erased_typing.proofs.Texts.{IsNamed, more_after, kept_within}
use Rattle.lt_erased_typing.proofs.Scopes.{Own, StandAlike, AreScopesAlike, stand_later}

-- what is known in the second text, of what it has of its own
abbrev pub own_with : Known → Own → ℕ → List Object → List Fact → Known
own_with known own n objects facts = record known { next = n; frames = own.frames; objects = objects; labels = own.labels; facts = facts }

-- The same is known at a place of both, as at a first place, but for the numbers of nodes, objects of string literals and parameters, labels and facts; the
-- second finds no labels.
pub data IsBeside (texts : Bool) (known : Known) (own : Own) : Known → Known → Type 0 where
  beside : {n m : ℕ} {xs ys : List Object} {found : List Label} {facts others : List Fact} → HasMoreTexts texts known.objects xs
      → HasMoreTexts texts own.objects ys
      → IsBeside texts known own (with_found known n xs found facts) (own_with known own m ys others)

-- where going over the first goes on, so does going over the second, to something that is related
pub data Follows {A B : Type 0} (texts : Bool) (known : Known) (own : Own) (relation : A → B → Type 0) : Outcome A → Outcome B → Type 0 where
  goes : {a : A} {b : B} {k j : Known} → relation a b → IsBeside texts known own k j → Follows texts known own relation (Goes a k) (Goes b j)
  breaks : {rule : Rule} {node : ℕ} {outcome : Outcome B} → Follows texts known own relation (Breaks rule node) outcome

-- the first goes on, if it does, to something that is related to this, and is beside this
pub data Comes {A B : Type 0} (texts : Bool) (known : Known) (own : Own) (relation : A → B → Type 0) (b : B) (j : Known) : Outcome A → Type 0 where
  came : {a : A} {k : Known} → relation a b → IsBeside texts known own k j → Comes texts known own relation b j (Goes a k)
  broke : {rule : Rule} {node : ℕ} → Comes texts known own relation b j (Breaks rule node)

module _ {texts : Bool} {known : Known} {own : Own} where
  pub entered_beside : {k j : Known} → IsBeside texts known own k j → IsBeside texts known own (entered k) (entered j)
  entered_beside (beside more other) = beside more other

  pub found_beside : {k j l : Known} → IsBeside texts known own k j → FindsLabels texts k l → IsBeside texts known own l j
  found_beside {l = l} (beside {n} {m} {xs} {ys} {found} {facts} {others} more other) h = subst (λ it. IsBeside texts known own it (own_with known own m ys others)) (sym h.1) (beside (more_after more h.0) other)

  pub bind : {A B C D : Type 0} {R : A → B → Type 0} {Q : C → D → Type 0} {P : A → Known → Type 0} {o : Outcome A} {p : Outcome B} {f : A → Known → Outcome C} {g : B → Known → Outcome D}
      → Follows texts known own R o p → Behind o P
      → ((a : A) (b : B) (k j : Known) → R a b → IsBeside texts known own k j → P a k → Follows texts known own Q (f a k) (g b j))
      → Follows texts known own Q (goes_on o f) (goes_on p g)
  bind (goes {a} {b} {k} {j} r s) h l = l a b k j r s h
  bind breaks h l = breaks

  -- the last of the parts
  pub last : {A B C D : Type 0} {R : A → B → Type 0} {Q : C → D → Type 0} {o : Outcome A} {p : Outcome B} {f : A → Known → Outcome C} {g : B → Known → Outcome D}
      → Follows texts known own R o p
      → ((a : A) (b : B) (k j : Known) → R a b → IsBeside texts known own k j → Follows texts known own Q (f a k) (g b j))
      → Follows texts known own Q (goes_on o f) (goes_on p g)
  last (goes {a} {b} {k} {j} r s) l = l a b k j r s
  last breaks l = breaks

  -- what only the first text goes over
  pub only : {A C D : Type 0} {Q : C → D → Type 0} {P : A → Known → Type 0} (o : Outcome A) {q : Outcome D} {f : A → Known → Outcome C} → Behind o P
      → ((a : A) (k : Known) → P a k → Follows texts known own Q (f a k) q) → Follows texts known own Q (goes_on o f) q
  only (Goes a k) h l = l a k h
  only (Breaks rule node) h l = breaks

  pub around : {A B C : Type 0} {R : A → B → Type 0} {Q : C → B → Type 0} {P : A → Known → Type 0} {o : Outcome A} {p : Outcome B} {f : A → Known → Outcome C}
      → Follows texts known own R o p → Behind o P
      → ((a : A) (b : B) (k j : Known) → R a b → IsBeside texts known own k j → P a k → Comes texts known own Q b j (f a k))
      → Follows texts known own Q (goes_on o f) p
  around {B = B} {C = C} {Q = Q} {f = f} (goes {a} {b} {k} {j} r s) h l = by (f a k) (l a b k j r s h)
    where
      by : (o : Outcome C) → Comes texts known own Q b j o → Follows texts known own Q o (Goes b j)
      by (Goes c i) (came q t) = goes q t
      by (Breaks rule node) d = breaks
  around breaks h l = breaks

  unmarked_beside : {k j : Known} → IsBeside texts (unmarked known) own k j
      → IsBeside texts known own (record k { is_unmarked = known.is_unmarked }) (record j { is_unmarked = known.is_unmarked })
  unmarked_beside (beside more other) = beside more other

  pub constant_beside : {k j : Known} → IsBeside texts known own k j → IsBeside texts (unmarked known) own (unmarked k) (unmarked j)
  constant_beside (beside more other) = beside more other

  pub constant_walk : {A B : Type 0} {R : A → B → Type 0} {o : Outcome A} {p : Outcome B} {k j : Known} → IsBeside texts known own k j
      → Follows texts (unmarked known) own R o p
      → Follows texts known own R (marked_again k.is_unmarked o) (marked_again j.is_unmarked p)
  constant_walk (beside more other) (goes r s) = goes r (unmarked_beside s)
  constant_walk (beside more other) breaks = breaks

  -- a string literal is one more object on both sides
  pub text_beside : {k j : Known} (bytes : List ℕ) → texts ≡ true → IsBeside texts known own k j
      → IsBeside texts known own (record (entered k) { objects = k.objects ++ text_object k.next (entered k) bytes ∷ [] }) (record (entered j) { objects = j.objects ++ text_object j.next (entered j) bytes ∷ [] })
  text_beside bytes is (beside {n} {m} {xs} {ys} {found} {facts} {others} more other) =
      beside (one_more n (entered (with_found known n xs found facts)) bytes is more) (one_more m (entered (own_with known own m ys others)) bytes is other)

  -- more numbers on one side
  pub entered_first : {k j : Known} → IsBeside texts known own k j → IsBeside texts known own (entered k) j
  entered_first (beside more other) = beside more other

  first_is : {k j : Known} → IsBeside texts known own k j → k ≡ with_found known k.next k.objects k.labels k.facts
  first_is (beside more other) = refl

  pub second_is : {k j : Known} → IsBeside texts known own k j → j ≡ own_with known own j.next j.objects j.facts
  second_is (beside more other) = refl

  first_more : {k j : Known} → IsBeside texts known own k j → HasMoreTexts texts known.objects k.objects
  first_more (beside more other) = more

  pub second_more : {k j : Known} → IsBeside texts known own k j → HasMoreTexts texts own.objects j.objects
  second_more (beside more other) = other

  -- names stand for the same
  pub names_beside : {k j : Known} → AreScopesAlike texts known own → IsBeside texts known own k j → (name : List ℕ)
      → StandAlike texts k.objects j.objects (meaning_of name k) (meaning_of name j)
  names_beside alike (beside more other) name = stand_later more other (alike.names name)

  -- names stand for objects that are known there too
  pub named_beside : {k j : Known} → IsNamed texts known → IsBeside texts known own k j → IsNamed texts k
  named_beside w (beside more other) = λ is name n r e. kept_within n more (w is name n r e)

  -- without a fact that the second text found last
  pub unnoted : {k l : Known} (facts : List Fact) → IsBeside texts known own k (record l { facts = facts }) → IsBeside texts known own k l
  unnoted {k} {l} facts b =
      subst (λ it. IsBeside texts known own it l) (sym (first_is b))
      (subst (IsBeside texts known own (with_found known k.next k.objects k.labels k.facts)) (sym (ap (λ (it : Known). record it { facts = l.facts }) (second_is b))) (beside (first_more b) (second_more b)))

pub behind_anything : {A : Type 0} (o : Outcome A) → Behind o (λ a k. Unit {0})
behind_anything (Goes a k) = tt
behind_anything (Breaks rule node) = tt
