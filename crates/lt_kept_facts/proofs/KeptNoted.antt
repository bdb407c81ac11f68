-- Two texts are gone over side by side, and only what is noted is compared.
use Rattle.std.proofs.Common.{◌≡◌, refl, sym, subst, ℕ, Bool, List, [], ◌++◌, Option}
use Rattle.std.proofs.lemmas.List.{append-nil}
use Rattle.lt_tree.specs.Nodes.{Node}
use Rattle.lt_tree.specs.Typing.Rules.{Rule}
use Rattle.lt_tree.specs.Typing.Entities.{Known, Fact, Frame, Function}
use Rattle.lt_tree.specs.Typing.Steps.{Outcome, Goes, Breaks, goes_on, left}
use Rattle.lt_tree.specs.Typing.Declarators.{Parameters, Declares}
use Rattle.lt_mark_typing.specs.Further.{Agrees}
use Rattle.lt_mark_typing.specs.Beside.{IsBeside, Follows, goes, breaks}
use Rattle.lt_kept_facts.specs.Asked.{seen}
use Rattle.lt_kept_facts.proofs.KeptSteps.{Part, HasFacts, nothing_more, part_then, both_seen, Keeps, went, first_broke, second_broke}
use Rattle.lt_kept_facts.proofs.KeptLeaves.{DeclaresSame}

-- Where both go on, the same is asked of the nodes outside of marks among these.
pub data Noted {A B : Type 0} (F G : List Fact) (k : ℕ) (facts : List Fact) (xs : List Node) (j : ℕ) (others : List Fact) (ys : List Node) : Outcome A → Outcome B → Type 0 where
  both : {a : A} {b : B} {m n : Known} (p : Part k facts xs m) (q : Part j others ys n) → (HasFacts F k m.next p.more → HasFacts G j n.next q.more → seen F k xs ≡ seen G j ys)
      → Noted F G k facts xs j others ys (Goes a m) (Goes b n)
  none_first : {rule : Rule} {node : ℕ} {o : Outcome B} → Noted F G k facts xs j others ys (Breaks rule node) o
  none_second : {rule : Rule} {node : ℕ} {o : Outcome A} → Noted F G k facts xs j others ys o (Breaks rule node)

module _ {F G : List Fact} where
  -- what has been gone over in both texts, in front of it
  pub moved : {C D : Type 0} {k j : ℕ} {facts others : List Fact} {xs ys xs' ys' : List Node} {m n : Known} {o : Outcome C} {r : Outcome D}
      → (p : Part k facts xs m) → (q : Part j others ys n) → (HasFacts F k m.next p.more → HasFacts G j n.next q.more → seen F k xs ≡ seen G j ys)
      → Noted F G m.next m.facts xs' n.next n.facts ys' o r → Noted F G k facts (xs ++ xs') j others (ys ++ ys') o r
  moved p q h (both p' q' h') = both (part_then p p') (part_then q q') (both_seen F G p q p' q' h h')
  moved p q h none_first = none_first
  moved p q h none_second = none_second

  -- functions are noted behind it
  pub with_functions : {A B : Type 0} {k j : ℕ} {facts others : List Fact} {xs ys : List Node} {o : Outcome A} {p : Outcome B} (f : A → Known → List Function) (g : B → Known → List Function) → Noted F G k facts xs j others ys o p
      → Noted F G k facts xs j others ys (goes_on o (λ x m. Goes (tt {0}) (record m { functions = f x m }))) (goes_on p (λ y n. Goes (tt {0}) (record n { functions = g y n })))
  with_functions f g (both p q h) = both (record { more = p.more; counts = p.counts; noted = p.noted; within = p.within; ends = p.ends }) (record { more = q.more; counts = q.counts; noted = q.noted; within = q.within; ends = q.ends }) h
  with_functions f g none_first = none_first
  with_functions f g none_second = none_second

  -- where nothing is gone over
  pub at_once : {A B : Type 0} {a : A} {b : B} (m n : Known) → Noted F G m.next m.facts [] n.next n.facts [] (Goes a m) (Goes b n)
  at_once m n = both (nothing_more m) (nothing_more n) (λ f g. refl)

module _ {F G : List Fact} {new : ℕ → Bool} {used : List ℕ} {further : List Bool} where
  pub noted : {A B : Type 0} {R : A → B → Type 0} {k j : ℕ} {facts others : List Fact} {xs ys : List Node} {o : Outcome A} {p : Outcome B}
      → Keeps F G new used further R k facts xs j others ys o p → Noted F G k facts xs j others ys o p
  noted (went e r b p q h) = both p q h
  noted first_broke = none_first
  noted second_broke = none_second

  -- in frames of its own
  pub noted_within : {A B : Type 0} {R : A → B → Type 0} {k j : ℕ} {facts others : List Fact} {xs ys : List Node} {o : Outcome A} {p : Outcome B} (frames inner : List Frame)
      → Keeps F G new used further R k facts xs j others ys o p → Noted F G k facts xs j others ys (left frames o) (left inner p)
  noted_within frames inner (went e r b p q h) = both (record { more = p.more; counts = p.counts; noted = p.noted; within = p.within; ends = p.ends }) (record { more = q.more; counts = q.counts; noted = q.noted; within = q.within; ends = q.ends }) h
  noted_within frames inner first_broke = none_first
  noted_within frames inner second_broke = none_second

  -- with what is known behind it
  pub with_known : {A B : Type 0} {T : (ℕ → ℕ) → A → B → Type 0} {k j : ℕ} {facts others : List Fact} {xs ys : List Node} {o : Outcome A} {p : Outcome B}
      → Follows new used further T o p → Noted F G k facts xs j others ys o p → Keeps F G new used further (λ (a : A) (b : B). Unit {0}) k facts xs j others ys o p
  with_known (goes behind e t s) (both p q h) = went e tt s p q h
  with_known breaks d = first_broke

  joined_by : {A B C D : Type 0} {R : A → B → Type 0} {k j : ℕ} {facts others : List Fact} {xs ys xs' ys' : List Node} {f : A → Known → Outcome C} {g : B → Known → Outcome D}
      (o o' : Outcome A) (p p' : Outcome B) → o ≡ o' → p ≡ p' → Keeps F G new used further R k facts xs j others ys o' p'
      → ((a : A) (b : B) (m n : Known) → o ≡ Goes a m → p ≡ Goes b n → R a b → (behind : List Bool) → IsBeside new used behind m n → Noted F G m.next m.facts xs' n.next n.facts ys' (f a m) (g b n))
      → Noted F G k facts (xs ++ xs') j others (ys ++ ys') (goes_on o' f) (goes_on p' g)
  joined_by o (Goes a m) p (Goes b n) e i (went {behind = behind} v r s p' q' h) t = moved p' q' h (t a b m n e i r behind s)
  joined_by o (Breaks rule node) p p' e i d t = none_first
  joined_by o o' p (Breaks rule node) e i d t = none_second

  -- a piece, and what is noted behind it
  pub noted_behind : {A B C D : Type 0} {R : A → B → Type 0} {k j : ℕ} {facts others : List Fact} {xs ys xs' ys' : List Node} {o : Outcome A} {p : Outcome B} {f : A → Known → Outcome C} {g : B → Known → Outcome D}
      → Keeps F G new used further R k facts xs j others ys o p
      → ((a : A) (b : B) (m n : Known) → o ≡ Goes a m → p ≡ Goes b n → R a b → (behind : List Bool) → IsBeside new used behind m n → Noted F G m.next m.facts xs' n.next n.facts ys' (f a m) (g b n))
      → Noted F G k facts (xs ++ xs') j others (ys ++ ys') (goes_on o f) (goes_on p g)
  noted_behind {o = o} {p = p} d t = joined_by o o p p refl refl d t

  -- a piece behind which nothing more is gone over
  pub noted_after : {A B C D : Type 0} {R : A → B → Type 0} {k j : ℕ} {facts others : List Fact} {xs ys : List Node} {o : Outcome A} {p : Outcome B} {f : A → Known → Outcome C} {g : B → Known → Outcome D}
      → Keeps F G new used further R k facts xs j others ys o p
      → ((a : A) (b : B) (m n : Known) → o ≡ Goes a m → p ≡ Goes b n → R a b → (behind : List Bool) → IsBeside new used behind m n → Noted F G m.next m.facts [] n.next n.facts [] (f a m) (g b n))
      → Noted F G k facts xs j others ys (goes_on o f) (goes_on p g)
  noted_after {k = k} {j} {facts} {others} {xs} {ys} {o = o} {p = p} {f = f} {g = g} d t =
      subst (λ list. Noted F G k facts list j others ys (goes_on o f) (goes_on p g)) (append-nil xs)
      (subst (λ list. Noted F G k facts (xs ++ []) j others list (goes_on o f) (goes_on p g)) (append-nil ys) (noted_behind d t))

  at_by : {A B C D : Type 0} {R : A → B → Type 0} {T : (ℕ → ℕ) → A → B → Type 0} {k j : ℕ} {facts others : List Fact} {xs ys xs' ys' : List Node} {f : A → Known → Outcome C} {g : B → Known → Outcome D} (o : Outcome A) (p : Outcome B)
      → Follows new used further T o p → Keeps F G new used further R k facts xs j others ys o p
      → ((a : A) (b : B) (m n : Known) (behind : List Bool) → ((r : ℕ → ℕ) → Agrees r behind → T r a b) → IsBeside new used behind m n → Noted F G m.next m.facts xs' n.next n.facts ys' (f a m) (g b n))
      → Noted F G k facts (xs ++ xs') j others (ys ++ ys') (goes_on o f) (goes_on p g)
  at_by (Goes a m) (Goes b n) (goes behind e t s) (went w r there p q h) c = moved p q h (c a b m n behind t s)
  at_by (Breaks rule node) p d w c = none_first
  at_by o (Breaks rule node) d w c = none_second

  -- with what is known to come
  pub noted_at : {A B C D : Type 0} {R : A → B → Type 0} {T : (ℕ → ℕ) → A → B → Type 0} {k j : ℕ} {facts others : List Fact} {xs ys xs' ys' : List Node} {o : Outcome A} {p : Outcome B} {f : A → Known → Outcome C} {g : B → Known → Outcome D}
      → Follows new used further T o p → Keeps F G new used further R k facts xs j others ys o p
      → ((a : A) (b : B) (m n : Known) (behind : List Bool) → ((r : ℕ → ℕ) → Agrees r behind → T r a b) → IsBeside new used behind m n → Noted F G m.next m.facts xs' n.next n.facts ys' (f a m) (g b n))
      → Noted F G k facts (xs ++ xs') j others (ys ++ ys') (goes_on o f) (goes_on p g)
  noted_at {o = o} {p = p} d w c = at_by o p d w c

  pub noted_declares : {C D : Type 0} {k j : ℕ} {facts others : List Fact} {xs ys xs' ys' : List Node} {o p : Outcome Declares} {f : Declares → Known → Outcome C} (g : Declares → Known → Outcome D)
      → Keeps F G new used further DeclaresSame k facts xs j others ys o p
      → ((a : Declares) (i : ℕ) (parameters : Option Parameters) (m n : Known) → o ≡ Goes a m → (behind : List Bool) → IsBeside new used behind m n
      → Noted F G m.next m.facts xs' n.next n.facts ys' (f a m) (g (record a { node = i; parameters = parameters }) n))
      → Noted F G k facts (xs ++ xs') j others (ys ++ ys') (goes_on o f) (goes_on p g)
  noted_declares {xs' = xs'} {ys'} {f = f} g d t =
      noted_behind d (λ a b m n e i r behind s. subst (λ it. Noted F G m.next m.facts xs' n.next n.facts ys' (f a m) (g it n)) (sym r) (t a b.node b.parameters m n e behind s))
