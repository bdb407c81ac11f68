-- Where a walk stands, and where it stands afterwards.
use Rattle.std.proofs.Common.{◌≡◌, sym, ap, ◌∙◌, subst, ℕ, ◌+◌, ◌-◌, ◌^◌, min, List, [], ◌∷◌, ◌++◌, arith}
use Rattle.std.specs.List.{AllByRecursion}
use Rattle.lt_objectives.specs.Marked.{NewMark}
use Rattle.lt_placing.specs.declared.walk.Walk.{Walk}
use Rattle.lt_placing.specs.NewMarks.{new_marks}
use Rattle.lt_placing.specs.Walks.{counted, of_place, AscendFrom, StandsAt}

-- ---- lists of marks

pub all_joined : {X : Type 0} (P : X → Type 0) (xs ys : List X) → AllByRecursion P xs → AllByRecursion P ys → AllByRecursion P (xs ++ ys)
all_joined P [] ys p q = q
all_joined P (x ∷ xs) ys p q = (p.0, all_joined P xs ys p.1 q)

pub all_weaker : {X : Type 0} (P Q : X → Type 0) → ((x : X) → P x → Q x) → (xs : List X) → AllByRecursion P xs → AllByRecursion Q xs
all_weaker P Q f [] p = tt
all_weaker P Q f (x ∷ xs) p = (f x p.0, all_weaker P Q f xs p.1)

ascend_least : (k : ℕ) (left : List NewMark) → AscendFrom k left → AscendFrom 0 left
ascend_least k [] p = tt
ascend_least k (it ∷ rest) p = (omega arith, p.1)

pub ascend_rest : (k : ℕ) (behind left : List NewMark) → AscendFrom k (behind ++ left) → AscendFrom 0 left
ascend_rest k [] left p = ascend_least k left p
ascend_rest k (it ∷ rest) left p = ascend_rest it.objective.place rest left p.1

-- ---- standing

pub stands : {walk : Walk} {new : List NewMark} {i : ℕ} (j : ℕ) → StandsAt walk new i → i ≡ j → StandsAt walk new j
stands {walk} {new} j at e = subst (λ k. StandsAt walk new k) e at

-- the same marks, and a number that is as many nodes further
pub on : (before now : Walk) (new : List NewMark) (k count : ℕ) → now.marks.items ≡ before.marks.items → now.next ≡ counted (k + count) →
    StandsAt before new k → StandsAt now new (k + count)
on before now new k count same number at = record {
  left = λ j far. ap (λ xs. of_place j (new_marks xs)) same ∙ at.left j (omega arith);
  ordered = subst (λ xs. AscendFrom 0 (new_marks xs)) (sym same) at.ordered;
  number = number;
}

-- behind one node
pub stepped : (before now : Walk) → now.marks.items ≡ before.marks.items → now.next ≡ min (before.next + 1) (2 ^ 128 - 1) →
    (new : List NewMark) (k : ℕ) → StandsAt before new k → StandsAt now new (k + 1)
stepped before now same next new k at =
    let number : before.next ≡ counted k = at.number in
    on before now new k 1 same (omega arith) at
