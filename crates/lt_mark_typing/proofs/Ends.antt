-- The ends of nodes in both texts.
use Rattle.std.proofs.Common.{◌≡◌, ℕ, List, [], ◌∷◌, Bool, refl, sym, ap, ◌∙◌, subst}
use Rattle.std.specs.Prelude.{◌++◌}
use Rattle.lt_tree.specs.Typing.Extents.{Structs}
use Rattle.lt_tree.specs.Typing.Entities.{Known, Object, Function, Label, Fact}
use Rattle.lt_tree.specs.Typing.Steps.{Goes, goes_on, settle, notes, gives, ◌>>◌}
use Rattle.lt_tree.specs.Typing.Expressions.{Typed, Use, Judged, used, fact_of, faults_of_any, finish}
use Rattle.lt_object_laws.specs.Renamed.{renumbered}
use Rattle.lt_mark_typing.specs.Renumbered.{typed_with}
use Rattle.lt_mark_typing.specs.Further.{Agrees}
use Rattle.lt_mark_typing.specs.Beside.{IsBeside, AddsMade, Follows}
use Rattle.lt_mark_typing.proofs.Numbers.{agrees_so_far}
use Rattle.lt_mark_typing.proofs.Going.{with_others, same_of, goes_here, settled}
use Rattle.lt_mark_typing.proofs.Operands.{AddsJudged, used_adds, any_same}
use Rattle.lt_mark_typing.proofs.Operators.{left_empty, right_empty, empty_both}
use Rattle.lt_mark_typing.proofs.Renumbering.{judged_with, used_with, any_with}

module _ {new : ℕ → Bool} {used' : List ℕ} {further : List Bool} where
  -- what holds of all that may stand beside what is known
  pub at_other : {k j : Known} (P : Known → Type 0) (r : ℕ → ℕ) → Agrees r further → IsBeside new used' further k j
      → ((n : ℕ) (os : List Object) (fs : List Function) (ls : List Label) (facts : List Fact) → IsBeside new used' further k (with_others r k n os fs ls facts) → P (with_others r k n os fs ls facts)) → P j
  at_other {k} {j} P r a b h = subst P (sym (b.same r a)) (h j.next j.objects j.functions j.labels j.facts (subst (IsBeside new used' further k) (b.same r a) b))

  pub noted_beside : {k j : Known} (fact other : Fact) → IsBeside new used' further k j
      → IsBeside new used' further (record k { facts = k.facts ++ fact ∷ [] }) (record j { facts = j.facts ++ other ∷ [] })
  noted_beside {k} {j} fact other b = record {
    same = λ r a. ap (λ (it : Known). record it { facts = j.facts ++ other ∷ [] }) (b.same r a);
    objects = b.objects;
    functions = b.functions;
    labels = b.labels;
  }

  pub structs_same : {k j : Known} → IsBeside new used' further k j → j.structs ≡ k.structs
  structs_same b = same_of (λ (it : Known). it.structs) b (λ r n os fs ls facts h. refl)

  pub ended : {Q : (ℕ → ℕ) → Typed → Typed → Type 0} {k l : Known} (n m : ℕ) (role : Use) (j i : Judged) → (j.faults ≡ [] → i.faults ≡ [])
      → ((structs : Structs) → faults_of_any structs role j.typed ≡ [] → faults_of_any structs role i.typed ≡ [])
      → ((r : ℕ → ℕ) → Agrees r further → Q r (used role j.typed) (used role i.typed)) → IsBeside new used' further k l → Follows new used' further Q (finish n role j k) (finish m role i l)
  unfolding finish
  ended {Q} {k} {l} n m role j i h g q b = settled (λ u. notes (fact_of n j.typed) >> gives (used role j.typed)) (λ u. notes (fact_of m i.typed) >> gives (used role i.typed)) n m
      (j.faults ++ faults_of_any k.structs role j.typed) (i.faults ++ faults_of_any l.structs role i.typed)
      (λ r. empty_both i.faults (faults_of_any l.structs role i.typed) (h (left_empty j.faults (faults_of_any k.structs role j.typed) r))
      (ap (λ s. faults_of_any s role i.typed) (structs_same b) ∙ g k.structs (right_empty j.faults (faults_of_any k.structs role j.typed) r)))
      (goes_here q (noted_beside (fact_of n j.typed) (fact_of m i.typed) b))

  pub finished : {k l : Known} (n m : ℕ) (role : Use) (j i : Judged) → ((r : ℕ → ℕ) → Agrees r further → AddsJudged new (judged_with r j) i) → IsBeside new used' further k l
      → Follows new used' further (λ r (x y : Typed). AddsMade new (typed_with r x) y) (finish n role j k) (finish m role i l)
  finished n m role j i d b =
      let it = d (renumbered further) (agrees_so_far further) in
      ended n m role j i it.faults (λ structs h. any_same structs role it.typed ∙ any_with (renumbered further) structs role j.typed ∙ h)
      (λ r a. subst (λ (x : Typed). AddsMade new x (used role i.typed)) (used_with r role j.typed) (used_adds role (d r a).typed)) b

  -- the same is judged, where fewer rules may be broken
  pub finished_alike : {k l : Known} (n m : ℕ) (role : Use) (j i : Judged) → (j.faults ≡ [] → i.faults ≡ []) → ((r : ℕ → ℕ) → Agrees r further → i.typed ≡ typed_with r j.typed)
      → IsBeside new used' further k l → Follows new used' further (λ r (x y : Typed). y ≡ typed_with r x) (finish n role j k) (finish m role i l)
  finished_alike n m role j i f d b =
      ended n m role j i f (λ structs h. ap (faults_of_any structs role) (d (renumbered further) (agrees_so_far further)) ∙ any_with (renumbered further) structs role j.typed ∙ h)
      (λ r a. ap (used role) (d r a) ∙ used_with r role j.typed) b

  -- the same is judged
  pub finished_same : {k l : Known} (n m : ℕ) (role : Use) (j i : Judged) → ((r : ℕ → ℕ) → Agrees r further → i ≡ judged_with r j) → IsBeside new used' further k l
      → Follows new used' further (λ r (x y : Typed). y ≡ typed_with r x) (finish n role j k) (finish m role i l)
  finished_same n m role j i d b = finished_alike n m role j i (λ h. ap (λ (it : Judged). it.faults) (d (renumbered further) (agrees_so_far further)) ∙ h) (λ r a. ap (λ (it : Judged). it.typed) (d r a)) b

-- a node that the first text doesn't have
pub finished_alone : (l : Known) (m : ℕ) (role : Use) (i : Judged) → i.faults ≡ [] → faults_of_any l.structs role i.typed ≡ []
    → finish m role i l ≡ Goes (used role i.typed) (record l { facts = l.facts ++ fact_of m i.typed ∷ [] })
unfolding finish
finished_alone l m role i h g =
    ap (λ rules. goes_on (settle m rules l) (λ u. notes (fact_of m i.typed) >> gives (used role i.typed))) (empty_both i.faults (faults_of_any l.structs role i.typed) h g)
