-- What is added to parts that stand behind each other is added to the whole.
use Rattle.std.proofs.Common.{◌≡◌, subst, ℕ, suc, ◌+◌, List, ◌++◌, length, length-append, arith}
use Rattle.lt_tree.specs.Nodes.{Node}
use Rattle.lt_objectives.specs.Objectives.{Objective}
use Rattle.lt_objectives.specs.Marked.{NewMark, numbered}
use Rattle.lt_objective_marks.specs.Settings.{AreUnused, IsAdded}
use Rattle.lt_objective_marks.proofs.Ids.{fewer_unused, more_added, none_added, then_added, behind}

module _ (id : ℕ) (them : List Objective) where
  abbrev Unused : List ℕ → ℕ → ℕ → Type 0
  Unused used first size = AreUnused (numbered id them) used first size

  abbrev Added : List ℕ → ℕ → ℕ → (List ℕ → Type 0) → Type 0
  Added used first size holds = IsAdded (numbered id them) used first size holds

  -- nothing is added
  pub nothing : {P : List ℕ → Type 0} (used : List ℕ) (k n : ℕ) → P used → Added used k n P
  nothing used k n p = record { after = used; added = p; ids = none_added (numbered id them) used k n }

  -- to what stands in a node
  pub in_node : {P Q : List ℕ → Type 0} (used : List ℕ) (k n : ℕ) → Unused used k (suc n) → (Unused used (k + 1) n → Added used (k + 1) n P) → ((after : List ℕ) → P after → Q after) → Added used k (suc n) Q
  in_node used k n unused f so =
      let it = f (fewer_unused (numbered id them) used k (suc n) (k + 1) n (omega arith) (omega arith) unused) in
      record { after = it.after; added = so it.after it.added; ids = more_added (numbered id them) used it.after k (suc n) (k + 1) n (omega arith) (omega arith) it.ids }

  -- to the first part of a run of nodes
  pub first_alone : {P Q : List ℕ → Type 0} (used : List ℕ) (k : ℕ) (xs ys : List Node) → Unused used k (length (xs ++ ys)) → (Unused used k (length xs) → Added used k (length xs) P)
      → ((after : List ℕ) → P after → Q after) → Added used k (length (xs ++ ys)) Q
  first_alone used k xs ys unused f so =
      let size = length-append xs ys in
      let it = f (fewer_unused (numbered id them) used k (length (xs ++ ys)) k (length xs) (omega arith) (omega (arith, size)) unused) in
      record { after = it.after; added = so it.after it.added; ids = more_added (numbered id them) used it.after k (length (xs ++ ys)) k (length xs) (omega arith) (omega (arith, size)) it.ids }

  -- to the second part alone
  pub second_alone : {P Q : List ℕ → Type 0} (used : List ℕ) (k : ℕ) (xs ys : List Node) → Unused used k (length (xs ++ ys)) → (Unused used (k + length xs) (length ys) → Added used (k + length xs) (length ys) P)
      → ((after : List ℕ) → P after → Q after) → Added used k (length (xs ++ ys)) Q
  second_alone used k xs ys unused f so =
      let size = length-append xs ys in
      let it = f (fewer_unused (numbered id them) used k (length (xs ++ ys)) (k + length xs) (length ys) (omega arith) (omega (arith, size)) unused) in
      record { after = it.after; added = so it.after it.added; ids = more_added (numbered id them) used it.after k (length (xs ++ ys)) (k + length xs) (length ys) (omega arith) (omega (arith, size)) it.ids }

  -- to both
  pub two : {P R : List ℕ → Type 0} {Q : List ℕ → List ℕ → Type 0} (used : List ℕ) (k : ℕ) (xs ys : List Node) → Unused used k (length (xs ++ ys))
      → (Unused used k (length xs) → Added used k (length xs) P)
      → ((between : List ℕ) → P between → Unused between (k + length xs) (length ys) → Added between (k + length xs) (length ys) (Q between))
      → ((between after : List ℕ) → P between → Q between after → R after) → Added used k (length (xs ++ ys)) R
  two used k xs ys unused f g so =
      let marks : List NewMark = numbered id them in
      let size = length-append xs ys in
      let it = f (fewer_unused marks used k (length (xs ++ ys)) k (length xs) (omega arith) (omega (arith, size)) unused) in
      let left = fewer_unused marks used k (length (xs ++ ys)) (k + length xs) (length ys) (omega arith) (omega (arith, size)) unused in
      let other = g it.after it.added (behind id them used it.after k (length xs) (k + length xs) (length ys) (omega arith) it.ids left) in
      record {
        after = other.after;
        added = so it.after other.after it.added other.added;
        ids = then_added marks used it.after other.after k (length (xs ++ ys))
            (more_added marks used it.after k (length (xs ++ ys)) k (length xs) (omega arith) (omega (arith, size)) it.ids)
            (more_added marks it.after other.after k (length (xs ++ ys)) (k + length xs) (length ys) (omega arith) (omega (arith, size)) other.ids);
      }

  -- to what begins at the same number
  pub from_there : {P : List ℕ → Type 0} (used : List ℕ) {k j : ℕ} (n : ℕ) → k ≡ j → (Unused used k n → Added used k n P) → Unused used j n → Added used j n P
  from_there {P} used n same f unused = subst (λ first. Unused used first n → Added used first n P) same f unused

  -- the number behind two parts
  pub behind_two : (k : ℕ) (xs ys : List Node) → k + length xs + length ys ≡ k + length (xs ++ ys)
  behind_two k xs ys = omega (arith, length-append xs ys)
