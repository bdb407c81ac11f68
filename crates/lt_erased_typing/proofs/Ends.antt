-- The ends of nodes, in the text with marks and without them.
use Rattle.std.proofs.Common.{◌≡◌, ℕ, List, [], ◌∷◌, Bool, true, false, refl, sym, ap, ◌∙◌, subst}
use Rattle.std.specs.Prelude.{◌++◌}
use Rattle.lt_tree.specs.Typing.Rules.{Rule, unless}
use Rattle.lt_tree.specs.Typing.Entities.{Known, Label, Fact}
use Rattle.lt_tree.specs.Typing.Steps.{Outcome, Goes, Breaks, goes_on, settle, notes, gives, ◌>>◌}
use Rattle.lt_tree.specs.Typing.Expressions.{Typed, Use, Judged, used, fact_of, faults_of_any, finish}
use Rattle.lt_erased_typing.proofs.Scopes.{Own}
use Rattle.lt_erased_typing.proofs.Going.{IsBeside, beside, Follows, goes, breaks, Comes, came, broke, unnoted}
use Rattle.lt_erased_typing.proofs.Operands.{BareAs, BareJudged, used_as, any_same}

-- ---- rules that aren't broken

pub left_empty : (xs ys : List Rule) → xs ++ ys ≡ [] → xs ≡ []
left_empty [] ys h = refl
left_empty (x ∷ xs) ys h = absurd cc

pub right_empty : (xs ys : List Rule) → xs ++ ys ≡ [] → ys ≡ []
right_empty [] ys h = h
right_empty (x ∷ xs) ys h = absurd cc

pub empty_both : (xs ys : List Rule) → xs ≡ [] → ys ≡ [] → xs ++ ys ≡ []
empty_both xs ys h k = ap (λ it. it ++ ys) h ∙ k

pub unless_true : (b : Bool) (rule : Rule) → unless b rule ≡ [] → b ≡ true
unless_true true rule h = refl
unless_true false rule h = absurd cc

pub true_unless : (b : Bool) (rule : Rule) → b ≡ true → unless b rule ≡ []
true_unless b rule h = ap (λ it. unless it rule) h

module _ {texts : Bool} {known : Known} {own : Own} where
  -- where no rule is broken in the first text, none is in the second
  pub settled : {C D : Type 0} {Q : C → D → Type 0} {k j : Known} (f : Unit {0} → Known → Outcome C) (g : Unit {0} → Known → Outcome D)
      (n m : ℕ) (xs ys : List Rule) → (xs ≡ [] → (ys ≡ []) × Follows texts known own Q (f tt k) (g tt j)) → Follows texts known own Q (goes_on (settle n xs k) f) (goes_on (settle m ys j) g)
  settled {Q = Q} {k = k} {j = j} f g n m [] ys h = let r = h refl in subst (λ l. Follows texts known own Q (f tt k) (goes_on (settle m l j) g)) (sym r.0) r.1
  settled f g n m (x ∷ xs) ys h = breaks

  noted_beside : {k j : Known} (fact other : Fact) → IsBeside texts known own k j → IsBeside texts known own (record k { facts = k.facts ++ fact ∷ [] }) (record j { facts = j.facts ++ other ∷ [] })
  noted_beside fact other (beside more last) = beside more last

  pub structs_same : {k j : Known} → IsBeside texts known own k j → j.structs ≡ k.structs
  structs_same (beside more other) = refl

  pub finished : {k j : Known} (n m : ℕ) (role : Use) (it other : Judged) → BareJudged it other → IsBeside texts known own k j → Follows texts known own (BareAs role) (finish n role it k) (finish m role other j)
  unfolding finish
  finished {k} {j} n m role it other h b = settled (λ u. notes (fact_of n it.typed) >> gives (used role it.typed)) (λ u. notes (fact_of m other.typed) >> gives (used role other.typed)) n m
      (it.faults ++ faults_of_any k.structs role it.typed) (other.faults ++ faults_of_any j.structs role other.typed)
      (λ r. let both = h (left_empty it.faults (faults_of_any k.structs role it.typed) r) in (
        empty_both other.faults (faults_of_any j.structs role other.typed) both.0
            (ap (λ s. faults_of_any s role other.typed) (structs_same b) ∙ any_same k.structs role both.1 ∙ right_empty it.faults (faults_of_any k.structs role it.typed) r),
        goes (used_as role both.1) (noted_beside (fact_of n it.typed) (fact_of m other.typed) b),
      ))

  marked_beside : {k j : Known} (fact : Fact) → IsBeside texts known own k j → IsBeside texts known own (record k { facts = k.facts ++ fact ∷ [] }) j
  marked_beside fact (beside more other) = beside more other

  alone_by : {Q : Typed → Typed → Type 0} {k j : Known} (n : ℕ) (role : Use) (typed y : Typed) (rules : List Rule) → (rules ≡ [] → Q (used role typed) y) → IsBeside texts known own k j
      → Comes texts known own Q y j (goes_on (settle n rules k) (λ u. notes (fact_of n typed) >> gives (used role typed)))
  alone_by n role typed y [] h b = came (h refl) (marked_beside (fact_of n typed) b)
  alone_by n role typed y (rule ∷ rules) h b = broke

  -- a node that the second text doesn't have
  pub finished_alone : {Q : Typed → Typed → Type 0} {k j : Known} (n : ℕ) (role : Use) (it : Judged) (y : Typed) → (it.faults ≡ [] → Q (used role it.typed) y) → IsBeside texts known own k j
      → Comes texts known own Q y j (finish n role it k)
  unfolding finish
  finished_alone {k = k} n role it y h b = alone_by n role it.typed y (it.faults ++ faults_of_any k.structs role it.typed) (λ r. h (left_empty it.faults (faults_of_any k.structs role it.typed) r)) b

  -- labels are found behind it
  pub labelled : {A B : Type 0} {Q : A → B → Type 0} {y : B} {j : Known} {o : Outcome A} {f : A → Known → Outcome A} → Comes texts known own Q y j o
      → ((z : A) (i : Known) → IsBeside texts known own i j → Q z y → Comes texts known own Q y j (f z i)) → Comes texts known own Q y j (goes_on o f)
  labelled (came {a} {k} q s) h = h a k s q
  labelled broke h = broke

  pub label_beside : {i j : Known} (found : List Label) → IsBeside texts known own i j → IsBeside texts known own (record i { labels = found }) j
  label_beside found (beside more other) = beside more other

  stops_by : {B C D : Type 0} {Q : C → D → Type 0} {o : Outcome D} (k : Known) (n : ℕ) (rules : List Rule) (g : Unit {0} → Known → Outcome B) (rest : B → Known → Outcome C) → (rules ≡ [] → ⊥)
      → Follows texts known own Q (goes_on (goes_on (settle n rules k) g) rest) o
  stops_by k n [] g rest h = absurd (h refl)
  stops_by k n (rule ∷ rules) g rest h = breaks

  -- a node at which a rule is broken
  pub stops : {C D : Type 0} {Q : C → D → Type 0} {o : Outcome D} (k : Known) (n : ℕ) (role : Use) (it : Judged) (rest : Typed → Known → Outcome C) → (it.faults ≡ [] → ⊥) → Follows texts known own Q (goes_on (finish n role it k) rest) o
  unfolding finish
  stops k n role it rest h = stops_by k n (it.faults ++ faults_of_any k.structs role it.typed) (λ u. notes (fact_of n it.typed) >> gives (used role it.typed)) rest
      (λ r. h (left_empty it.faults (faults_of_any k.structs role it.typed) r))

  behind_of : {A : Type 0} {R : A → Typed → Type 0} {a : A} {b : Typed} {k j : Known} → Follows texts known own R (Goes a k) (Goes b j) → IsBeside texts known own k j
  behind_of (goes r s) = s

  -- what stands in front of the end of a node in the second text
  unfinished_by : {A : Type 0} {R : A → Typed → Type 0} (a : A) (k l : Known) (n : ℕ) (rules : List Rule) (fact : Fact) (z : Typed)
      → Follows texts known own R (Goes a k) (goes_on (settle n rules l) (λ u. notes fact >> gives z)) → IsBeside texts known own k l
  unfinished_by a k l n [] fact z d = unnoted (l.facts ++ fact ∷ []) (behind_of d)
  unfinished_by a k l n (rule ∷ rules) fact z d = elim d [ ]

  pub unfinished : {A B : Type 0} {R : A → Typed → Type 0} (o : Outcome A) (p : Outcome B) (n : ℕ) (role : Use) (f : B → Judged) → Follows texts known own R o (goes_on p (λ ys l. finish n role (f ys) l))
      → Follows texts known own (λ a ys. Unit {0}) o p
  unfolding finish
  unfinished (Breaks rule node) p n role f d = breaks
  unfinished (Goes a k) (Breaks rule node) n role f d = elim d [ ]
  unfinished (Goes a k) (Goes ys l) n role f d = goes tt (unfinished_by a k l n ((f ys).faults ++ faults_of_any l.structs role (f ys).typed) (fact_of n (f ys).typed) (used role (f ys).typed) d)
