-- Going over both texts side by side.
use Rattle.std.proofs.Common.{◌≡◌, ℕ, ◌+◌, List, [], ◌∷◌, Bool, refl, ap, ◌∙◌}
use Rattle.lt_tree.specs.Typing.Rules.{Rule}
use Rattle.lt_tree.specs.Typing.Entities.{Known, Object, Function, Label, Fact, greatest_label_id}
use Rattle.lt_tree.specs.Typing.Steps.{Outcome, Goes, Breaks, goes_on, settle}
use Rattle.lt_object_laws.specs.Renamed.{renumbered}
use Rattle.lt_mark_typing.specs.Renumbered.{frames_with}
use Rattle.lt_mark_typing.specs.Further.{Extends, Agrees, HasObjects}
use Rattle.lt_mark_typing.specs.Beside.{IsBeside, Follows, goes, breaks}
use Rattle.lt_mark_typing.proofs.Numbers.{extends_itself, extends_on, agrees_so_far}

-- what is known there, with these numbers of objects, this next node, and these objects, functions, labels and facts, where labels may have any id
abbrev pub with_others : (ℕ → ℕ) → Known → ℕ → List Object → List Function → List Label → List Fact → Known
with_others r known n os fs ls facts =
    record known { next = n; greatest_id = greatest_label_id; frames = frames_with r known.frames; objects = os; functions = fs; labels = ls; facts = facts }

module _ {new : ℕ → Bool} where
  -- what depends on what differs in this way alone
  pub same_with : {C : Type 0} {used : List ℕ} {further : List Bool} {k j : Known} (r : ℕ → ℕ) → Agrees r further → (f : Known → C) (c : C) → IsBeside new used further k j
      → ((n : ℕ) (os : List Object) (fs : List Function) (ls : List Label) (facts : List Fact) → HasObjects r further k.objects os → f (with_others r k n os fs ls facts) ≡ c)
      → f j ≡ c
  same_with {C} {used} {further} {k} {j} r a f c b h = ap f (b.same r a) ∙ h j.next j.objects j.functions j.labels j.facts (b.objects r a)

  -- what doesn't depend on what differs is the same
  pub same_of : {C : Type 0} {used : List ℕ} {further : List Bool} {k j : Known} (f : Known → C) → IsBeside new used further k j
      → ((r : ℕ → ℕ) (n : ℕ) (os : List Object) (fs : List Function) (ls : List Label) (facts : List Fact) → HasObjects r further k.objects os → f (with_others r k n os fs ls facts) ≡ f k)
      → f j ≡ f k
  same_of {C} {used} {further} {k} {j} f b h = same_with (renumbered further) (agrees_so_far further) f (f k) b (h (renumbered further))

  -- behind the first, whatever it found
  pub from_there : {A B : Type 0} {used : List ℕ} {further behind : List Bool} {R : (ℕ → ℕ) → A → B → Type 0} {o : Outcome A} {p : Outcome B}
      → Extends further behind → Follows new used behind R o p → Follows new used further R o p
  from_there e (goes last g r b) = goes last (extends_on e g) r b
  from_there e breaks = breaks

  pub bind : {A B C D : Type 0} {used after : List ℕ} {further : List Bool} {R : (ℕ → ℕ) → A → B → Type 0} {Q : (ℕ → ℕ) → C → D → Type 0} {o : Outcome A} {p : Outcome B}
      {f : A → Known → Outcome C} {g : B → Known → Outcome D} → Follows new used further R o p
      → ((a : A) (b : B) (k j : Known) (behind : List Bool) → Extends further behind → ((r : ℕ → ℕ) → Agrees r behind → R r a b) → IsBeside new used behind k j → Follows new after behind Q (f a k) (g b j))
      → Follows new after further Q (goes_on o f) (goes_on p g)
  bind (goes {a} {b} {known} {other} behind e r s) h = from_there e (h a b known other behind e r s)
  bind breaks h = breaks

  bind_by : {A B C D : Type 0} {used after : List ℕ} {further : List Bool} {R : (ℕ → ℕ) → A → B → Type 0} {Q : (ℕ → ℕ) → C → D → Type 0}
      {f : A → Known → Outcome C} {g : B → Known → Outcome D} (o o' : Outcome A) (p : Outcome B) → o ≡ o' → Follows new used further R o' p
      → ((a : A) (b : B) (k j : Known) (behind : List Bool) → o ≡ Goes a k → Extends further behind → ((r : ℕ → ℕ) → Agrees r behind → R r a b) → IsBeside new used behind k j
      → Follows new after behind Q (f a k) (g b j))
      → Follows new after further Q (goes_on o' f) (goes_on p g)
  bind_by o (Goes a k) (Goes b j) q (goes behind e r s) h = from_there e (h a b k j behind q e r s)
  bind_by o (Goes a k) (Breaks rule node) q d h = elim d [ ]
  bind_by o (Breaks rule node) p q d h = breaks

  -- with what the first came to
  pub bind_at : {A B C D : Type 0} {used after : List ℕ} {further : List Bool} {R : (ℕ → ℕ) → A → B → Type 0} {Q : (ℕ → ℕ) → C → D → Type 0}
      {f : A → Known → Outcome C} {g : B → Known → Outcome D} {o : Outcome A} {p : Outcome B} → Follows new used further R o p
      → ((a : A) (b : B) (k j : Known) (behind : List Bool) → o ≡ Goes a k → Extends further behind → ((r : ℕ → ℕ) → Agrees r behind → R r a b) → IsBeside new used behind k j
      → Follows new after behind Q (f a k) (g b j))
      → Follows new after further Q (goes_on o f) (goes_on p g)
  bind_at {o = o} {p = p} d h = bind_by o o p refl d h

  so_by : {A B : Type 0} {used : List ℕ} {further : List Bool} {R Q : (ℕ → ℕ) → A → B → Type 0} (o o' : Outcome A) (p : Outcome B)
      → o ≡ o' → Follows new used further R o' p → ((r : ℕ → ℕ) (a : A) (b : B) (k : Known) → o ≡ Goes a k → R r a b → Q r a b) → Follows new used further Q o' p
  so_by o (Goes a k) (Goes b j) q (goes behind e r s) h = goes behind e (λ m g. h m a b k q (r m g)) s
  so_by o (Goes a k) (Breaks rule node) q d h = elim d [ ]
  so_by o (Breaks rule node) p q d h = breaks

  pub so_at : {A B : Type 0} {used : List ℕ} {further : List Bool} {R Q : (ℕ → ℕ) → A → B → Type 0} {o : Outcome A} {p : Outcome B} → Follows new used further R o p
      → ((r : ℕ → ℕ) (a : A) (b : B) (k : Known) → o ≡ Goes a k → R r a b → Q r a b) → Follows new used further Q o p
  so_at {o = o} {p = p} d h = so_by o o p refl d h

  pub so : {A B : Type 0} {used : List ℕ} {further : List Bool} {R Q : (ℕ → ℕ) → A → B → Type 0} {o : Outcome A} {p : Outcome B}
      → ((r : ℕ → ℕ) (a : A) (b : B) → R r a b → Q r a b) → Follows new used further R o p → Follows new used further Q o p
  so f (goes {a} {b} behind e r s) = goes behind e (λ m g. f m a b (r m g)) s
  so f breaks = breaks

  -- something is found where no object is
  pub goes_here : {A B : Type 0} {used : List ℕ} {further : List Bool} {R : (ℕ → ℕ) → A → B → Type 0} {a : A} {b : B} {k j : Known}
      → ((r : ℕ → ℕ) → Agrees r further → R r a b) → IsBeside new used further k j → Follows new used further R (Goes a k) (Goes b j)
  goes_here {further = further} r b = goes further (extends_itself further) r b

  -- nodes are numbered
  pub entered_beside : {used : List ℕ} {further : List Bool} {k j : Known} → IsBeside new used further k j
      → IsBeside new used further (record k { next = k.next + 1 }) (record j { next = j.next + 1 })
  entered_beside {used} {further} {k} {j} b = record {
    same = λ r a. ap (λ (it : Known). record it { next = j.next + 1 }) (b.same r a);
    objects = b.objects;
    functions = b.functions;
    labels = b.labels;
  }

  -- where no rule is broken in the first text, none is in the second
  pub settled : {C D : Type 0} {after : List ℕ} {further : List Bool} {Q : (ℕ → ℕ) → C → D → Type 0} {k j : Known} (f : Unit {0} → Known → Outcome C) (g : Unit {0} → Known → Outcome D)
      (n m : ℕ) (xs ys : List Rule) → (xs ≡ [] → ys ≡ []) → Follows new after further Q (f tt k) (g tt j)
      → Follows new after further Q (goes_on (settle n xs k) f) (goes_on (settle m ys j) g)
  settled f g n m [] [] h d = d
  settled f g n m [] (y ∷ ys) h d = absurd (cons_none (h refl))
    where
      cons_none : y ∷ ys ≡ [] → ⊥
      cons_none e = cc
  settled f g n m (x ∷ xs) ys h d = breaks
