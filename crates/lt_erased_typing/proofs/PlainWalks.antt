-- Walks that find string literals, parameters of type names, labels and facts.
use Rattle.std.proofs.Common.{◌≡◌, ℕ, Bool, true, List, [], ◌∷◌, refl, subst}
use Rattle.std.specs.Prelude.{◌++◌}
use Rattle.lt_tree.specs.Typing.Rules.{Rule}
use Rattle.lt_tree.specs.Typing.Entities.{Known, Object, Label, Fact}
use Rattle.lt_tree.specs.Typing.Steps.{Outcome, Goes, Breaks, goes_on, settle, marked_again, notes, gives, ◌>>◌}
use Rattle.lt_tree.specs.Typing.Expressions.{Use, used, fact_of, faults_of_any, finish, Judged}
use Rattle.lt_tree.specs.Typing.NodeEnds.{text_object}
use Rattle.lt_erased_typing.specs.Literals.{HasMoreTexts, none_more, one_more}
use Rattle.lt_erased_typing.specs.Erasable.{FindsLabels, with_found, entered, unmarked}
use Rattle.lt_erased_typing.proofs.Texts.{IsNamed, more_after, kept_within}
use Rattle.lt_erased_typing.proofs.Shows.{Holds, holds, broken}

-- the same is known but for the numbers of nodes, string literals, parameters, labels and facts
pub data IsNear (texts : Bool) (known : Known) : Known → Type 0 where
  near : {n : ℕ} {objects : List Object} {found : List Label} {facts : List Fact} → HasMoreTexts texts known.objects objects
      → IsNear texts known (with_found known n objects found facts)

-- where a walk goes on, it found string literals, parameters, labels and facts
pub data Finds {A : Type 0} (texts : Bool) (known : Known) : Outcome A → Type 0 where
  went : {a : A} {k : Known} → IsNear texts known k → Finds texts known (Goes a k)
  broke : {rule : Rule} {node : ℕ} → Finds texts known (Breaks rule node)

module _ {texts : Bool} {known : Known} where
  pub bind : {A B : Type 0} {o : Outcome A} {f : A → Known → Outcome B} → Finds texts known o
      → ((a : A) (k : Known) → IsNear texts known k → Finds texts known (f a k)) → Finds texts known (goes_on o f)
  bind (went {a} {k} s) g = g a k s
  bind broke g = broke

  pub entered_near : {k : Known} → IsNear texts known k → IsNear texts known (entered k)
  entered_near (near more) = near more

  pub labels_near : {k : Known} (found : List Label) → IsNear texts known k → IsNear texts known (record k { labels = found })
  labels_near found (near more) = near more

  noted_near : {k : Known} (facts : List Fact) → IsNear texts known k → IsNear texts known (record k { facts = facts })
  noted_near facts (near more) = near more

  pub constant_near : {k : Known} → IsNear texts known k → IsNear texts (unmarked known) (unmarked k)
  constant_near (near more) = near more

  marked_near : {k : Known} → IsNear texts (unmarked known) k → IsNear texts known (record k { is_unmarked = known.is_unmarked })
  marked_near (near more) = near more

  -- whether marks may stand there is the same
  pub unmarked_near : {k : Known} → IsNear texts known k → k.is_unmarked ≡ known.is_unmarked
  unmarked_near (near more) = refl

  pub constant_walk : {A : Type 0} {o : Outcome A} {k : Known} → IsNear texts known k → Finds texts (unmarked known) o
      → Finds texts known (marked_again k.is_unmarked o)
  constant_walk (near more) (went s) = went (marked_near s)
  constant_walk (near more) broke = broke

  pub found_labels : {k : Known} → IsNear texts known k → FindsLabels texts known k
  found_labels (near more) = (more, refl)

  -- what is near to what is near
  pub near_after : {k l : Known} → IsNear texts known k → IsNear texts k l → IsNear texts known l
  near_after (near more) (near another) = near (more_after more another)

  pub named_near : {k : Known} → IsNamed texts known → IsNear texts known k → IsNamed texts k
  named_near w (near more) = λ is name n r e. kept_within n more (w is name n r e)

  -- a string literal is one more object
  pub text_near : {k : Known} (bytes : List ℕ) → texts ≡ true → IsNear texts known k
      → IsNear texts known (record (entered k) { objects = k.objects ++ text_object k.next (entered k) bytes ∷ [] })
  text_near bytes is (near {n} {objects} {found} {facts} more) = near (one_more n (entered (with_found known n objects found facts)) bytes is more)

  pub settled : {B : Type 0} {k : Known} (n : ℕ) (rules : List Rule) (f : Unit {0} → Known → Outcome B) → Finds texts known (f tt k)
      → Finds texts known (goes_on (settle n rules k) f)
  settled n [] f h = h
  settled n (rule ∷ rules) f h = broke

  pub finished : {k : Known} (n : ℕ) (role : Use) (it : Judged) → IsNear texts known k → Finds texts known (finish n role it k)
  unfolding finish
  finished {k} n role it s =
      settled n (it.faults ++ faults_of_any k.structs role it.typed) (λ u. notes (fact_of n it.typed) >> gives (used role it.typed)) (went (noted_near (k.facts ++ fact_of n it.typed ∷ []) s))

  pub behind_found : {A : Type 0} {C : A → Known → Type 0} {o : Outcome A} → Finds texts known o → ((a : A) (k : Known) → IsNear texts known k → C a k) → Holds C o
  behind_found (went {a} {k} s) g = holds (g a k s)
  behind_found broke g = broken

  behind_it : {A : Type 0} {a : A} {k : Known} → Finds texts known (Goes a k) → IsNear texts known k
  behind_it (went s) = s

  -- of a walk that is known to go on
  pub near_behind : {A : Type 0} {a : A} {k : Known} {o : Outcome A} → Finds texts known o → o ≡ Goes a k → IsNear texts known k
  near_behind h e = behind_it (subst (Finds texts known) e h)

pub here_near : {texts : Bool} (known : Known) → IsNear texts known known
here_near known = near none_more
