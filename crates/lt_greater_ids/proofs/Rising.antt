-- Going over a text where ids to a greater number are good: the same is found.
use Rattle.std.proofs.Common.{◌≡◌, ◌≤◌, ℕ, ◌+◌, List, [], ◌∷◌, ◌++◌, Bool, true, Option, Some, None, refl, sym, subst, arith}
use Rattle.std.proofs.lemmas.Bool.{and_parts, and_from}
use Rattle.std.specs.Prelude.{◌&&◌, nat_le}
use Rattle.std.proofs.lemmas.Bool.Decides.{nat_tests}
use Rattle.lt_tree.specs.Typing.Rules.{Rule}
use Rattle.lt_tree.specs.Typing.Operands.{holds}
use Rattle.lt_tree.specs.Typing.MarkRules.{is_new_id, is_good_id, id_of}
use Rattle.lt_tree.specs.Typing.Entities.{Known, Frame, no_names}
use Rattle.lt_tree.specs.Typing.Steps.{Outcome, Goes, Breaks, goes_on, settle, left, marked_again, gives}
use Rattle.lt_tree.specs.Typing.Expressions.{Use, Judged, judgement, faults_of_any, finish}
use Rattle.lt_mark_typing.proofs.Operators.{left_empty, right_empty, empty_both}

-- what is known there, where ids to this number are good
abbrev pub raised : ℕ → Known → Known
raised more known = record known { greatest_id = more }

-- If the first breaks no rule, the second gives the same, and the same is known behind it but for the greatest id, which is no less.
pub data Rises {A : Type 0} (more : ℕ) : Outcome A → Outcome A → Type 0 where
  goes : {a b : A} {known : Known} → b ≡ a → known.greatest_id ≤ more → Rises more (Goes a known) (Goes b (raised more known))
  breaks : {rule : Rule} {node : ℕ} {o : Outcome A} → Rises more (Breaks rule node) o

no_more : (n few more : ℕ) → few ≤ more → nat_le n few ≡ true → nat_le n more ≡ true
no_more n few more h g = grind (arith, nat_tests)

module _ {more : ℕ} where
  -- ---- steps

  pub bind : {A B : Type 0} {o p : Outcome A} {rest : A → Known → Outcome B} → Rises more o p → ((a : A) (k : Known) → k.greatest_id ≤ more → Rises more (rest a k) (rest a (raised more k)))
      → Rises more (goes_on o rest) (goes_on p rest)
  bind {A} {B} {o} {p} {rest} (goes {a} {b} {known} e h) f = subst (λ (it : A). Rises more (rest a known) (rest it (raised more known))) (sym e) (f a known h)
  bind breaks f = breaks

  -- where no rule is broken in the first, none is in the second
  pub settled : (node : ℕ) (xs ys : List Rule) (known : Known) → (xs ≡ [] → ys ≡ []) → known.greatest_id ≤ more → Rises more (settle node xs known) (settle node ys (raised more known))
  settled node [] [] known f h = goes refl h
  settled node [] (y ∷ ys) known f h = absurd (cons_none (f refl))
    where
      cons_none : y ∷ ys ≡ [] → ⊥
      cons_none e = cc
  settled node (x ∷ xs) ys known f h = breaks

  pub judged : (node : ℕ) (rules : List Rule) (known : Known) → known.greatest_id ≤ more → Rises more (settle node rules known) (settle node rules (raised more known))
  judged node rules known h = settled node rules rules known (λ e. e) h

  -- ---- ends of nodes

  -- what breaks fewer rules in the second
  pub finished_if : (node : ℕ) (role : Use) (it : Judged) (faults : List Rule) (known : Known) → (it.faults ≡ [] → faults ≡ []) → known.greatest_id ≤ more
      → Rises more (finish node role it known) (finish node role (judgement faults it.typed) (raised more known))
  unfolding finish
  finished_if node role it faults known f h =
      bind (settled node (it.faults ++ faults_of_any known.structs role it.typed) (faults ++ faults_of_any known.structs role it.typed) known
      (λ e. empty_both faults (faults_of_any known.structs role it.typed) (f (left_empty it.faults (faults_of_any known.structs role it.typed) e)) (right_empty it.faults (faults_of_any known.structs role it.typed) e)) h)
      (λ u k h. goes refl h)

  -- what is judged alike
  pub finished : (node : ℕ) (role : Use) (judge : Known → Judged) (known : Known) → judge (raised more known) ≡ judge known → known.greatest_id ≤ more
      → Rises more (finish node role (judge known) known) (finish node role (judge (raised more known)) (raised more known))
  finished node role judge known e h =
      subst (λ (other : Judged). Rises more (finish node role (judge known) known) (finish node role other (raised more known))) (sym e)
      (finished_if node role (judge known) (judge known).faults known (λ e. e) h)

  -- ---- scopes

  pub unmarked : {A : Type 0} {o p : Outcome A} (was : Bool) → Rises more o p → Rises more (marked_again was o) (marked_again was p)
  unmarked was (goes e h) = goes e h
  unmarked was breaks = breaks

  -- in a scope of its own
  pub scoped : {A : Type 0} {o p : Outcome A} (frames : List Frame) → Rises more o p → Rises more (goes_on (left frames o) (λ r. gives r.0)) (goes_on (left frames p) (λ r. gives r.0))
  scoped frames (goes e h) = goes e h
  scoped frames breaks = breaks

  -- ---- ids

  good_by : (known : Known) (found : Option ℕ) → known.greatest_id ≤ more → holds (λ n. nat_le n known.greatest_id && is_new_id known n) found ≡ true → holds (λ n. nat_le n more && is_new_id known n) found ≡ true
  good_by known None h g = g
  good_by known (Some n) h g =
      and_from (nat_le n more) (is_new_id known n) (no_more n known.greatest_id more h (and_parts (nat_le n known.greatest_id) (is_new_id known n) g).0) (and_parts (nat_le n known.greatest_id) (is_new_id known n) g).1

  pub good_id : (known : Known) (text : List ℕ) → known.greatest_id ≤ more → is_good_id known text ≡ true → is_good_id (raised more known) text ≡ true
  good_id known text h g = good_by known (id_of text) h g

abbrev pub entered : Known → Known
entered known = record known { next = known.next + 1 }

abbrev pub unmarked_here : Known → Known
unmarked_here known = record known { is_unmarked = true }

abbrev pub in_new_frame : Known → Known
in_new_frame known = record known { frames = no_names ∷ known.frames }
