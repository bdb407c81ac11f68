-- How the node of an expression ends.
use Rattle.std.proofs.Common.{◌≡◌, ℕ, List, [], ◌∷◌, ◌++◌}
use Rattle.lt_tree.specs.Typing.Entities.{Known}
use Rattle.lt_tree.specs.Typing.Steps.{Goes}
use Rattle.lt_tree.specs.Typing.Expressions.{Typed, Use, Judged, faults_of_any, fact_of, used, finish}
use Rattle.lt_tree.specs.Typing.MarkRules.{judge_decide, judge_after}
use Rattle.lt_tree.specs.Typing.Ranges.{Lists, in_constancy, in_fact}
use Rattle.lt_ranges.proofs.References.{Has, none, both, same}
use Rattle.lt_ranges.proofs.Steps.{Sound, lists_of, Good, went, judges}
use Rattle.lt_ranges.proofs.TypedInRange.{TypedIn, own_type_in, read_typed, used_in, fact_in}
use Rattle.lt_ranges.proofs.OperationsInRange.{front_empty}
use Rattle.lt_ranges.proofs.Growth.{noted}

-- the expression that is given is so, and what is noted of it is in range
pub finished_as : {P : Lists → Typed → Type 0} (node : ℕ) (role : Use) (it : Judged) (known : Known) → Sound known
    → (it.faults ≡ [] → Has (lists_of known) (in_fact (fact_of node it.typed)) × P (lists_of known) (used role it.typed)) → Good P (lists_of known) (finish node role it known)
unfolding finish
finished_as {P} node role it known s f =
    judges node (it.faults ++ faults_of_any known.structs role it.typed) known (λ u k. Goes (used role it.typed) (record k { facts = k.facts ++ fact_of node it.typed ∷ [] }))
    (λ clean. let h = f (front_empty it.faults (faults_of_any known.structs role it.typed) clean) in went same (noted (fact_of node it.typed) known h.0 s) h.1)

-- what is made of operands in range
pub finished : (node : ℕ) (role : Use) (it : Judged) (known : Known) → Sound known → (it.faults ≡ [] → TypedIn (lists_of known) it.typed) → Good TypedIn (lists_of known) (finish node role it known)
finished node role it known s f = finished_as node role it known s (λ clean. (fact_in node (f clean), used_in role (f clean)))

-- what is noted of marks, whose labels aren't there yet
pub decide_fact_in : {b : Lists} {x : Typed} (node : ℕ) (role : Use) (when_true when_false tag : List ℕ) (known : Known) → TypedIn b x
    → Has b (in_fact (fact_of node (judge_decide role x when_true when_false tag known).typed))
unfolding judge_decide
decide_fact_in {b} {x} node role when_true when_false tag known h = both {rs = in_constancy x.erased} h.erased none

pub after_fact_in : {b : Lists} {x : Typed} (node : ℕ) (role : Use) (id tag : List ℕ) (known : Known) → TypedIn b x
    → Has b (in_fact (fact_of node (judge_after role x id tag known).typed))
unfolding judge_after
after_fact_in {b} {x} node role id tag known h = let it = read_typed h in both (own_type_in it) (both it.erased none)
