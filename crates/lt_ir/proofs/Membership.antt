-- Footprints count by the cells that they have.
use Rattle.std.proofs.Common.{◌≡◌, List, [], ◌∷◌, Bool, true, false, refl, sym, ap, ap₂, ◌∙◌, arith}
use Rattle.std.specs.Prelude.{◌++◌, ◌||◌, ◌&&◌, nat_eq, ℕ}
use Rattle.std.specs.List.{list_any}
use Rattle.lt_model.specs.State.{CellName, same_cell, meets}
use Rattle.lt_ir.specs.Membership.{HaveTheSame, FootprintsCountByMembership}

pub or_assoc : (a b c : Bool) → ((a || b) || c) ≡ (a || (b || c))
or_assoc true b c = refl
or_assoc false b c = refl

or_none : (a : Bool) → (a || false) ≡ a
or_none true = refl
or_none false = refl

or_swap : (a b c d : Bool) → ((a || b) || (c || d)) ≡ ((a || c) || (b || d))
or_swap true b c d = refl
or_swap false true true d = refl
or_swap false true false d = refl
or_swap false false true d = refl
or_swap false false false d = refl

any_behind : (f : CellName → Bool) (xs ys : List CellName) → list_any f (xs ++ ys) ≡ (list_any f xs || list_any f ys)
any_behind f [] ys = refl
any_behind f (x ∷ xs) ys = ap (λ b. f x || b) (any_behind f xs ys) ∙ sym (or_assoc (f x) (list_any f xs) (list_any f ys))

any_same : (f g : CellName → Bool) (xs : List CellName) → ((c : CellName) → f c ≡ g c) → list_any f xs ≡ list_any g xs
any_same f g [] h = refl
any_same f g (x ∷ xs) h = ap₂ (λ a b. a || b) (h x) (any_same f g xs h)

any_none : (xs : List CellName) → list_any (λ x. false) xs ≡ false
any_none [] = refl
any_none (x ∷ xs) = any_none xs

any_either : (f g : CellName → Bool) (xs : List CellName) → list_any (λ x. f x || g x) xs ≡ (list_any f xs || list_any g xs)
any_either f g [] = refl
any_either f g (x ∷ xs) = ap (λ b. (f x || g x) || b) (any_either f g xs) ∙ or_swap (f x) (g x) (list_any f xs) (list_any g xs)

-- which list is gone over first doesn't count
any_swapped : (r : CellName → CellName → Bool) (xs ys : List CellName) → list_any (λ x. list_any (r x) ys) xs ≡ list_any (λ y. list_any (λ x. r x y) xs) ys
any_swapped r [] ys = sym (any_none ys)
any_swapped r (x ∷ xs) ys = ap (λ b. list_any (r x) ys || b) (any_swapped r xs ys) ∙ sym (any_either (r x) (λ y. list_any (λ x. r x y) xs) ys)

same_number : (m n : ℕ) → nat_eq m n ≡ nat_eq n m
same_number m n = grind arith

same_turned : (a b : CellName) → same_cell a b ≡ same_cell b a
same_turned a b = ap₂ (λ x y. x && y) (same_number a.block b.block) (same_number a.offset b.offset)

meets_turned : (xs ys : List CellName) → meets xs ys ≡ meets ys xs
meets_turned xs ys = any_swapped same_cell xs ys ∙ any_same (λ y. list_any (λ x. same_cell x y) xs) (λ y. list_any (same_cell y) xs) ys (λ y. any_same (λ x. same_cell x y) (same_cell y) xs (λ x. same_turned x y))

meets_same : (cells xs ys : List CellName) → HaveTheSame xs ys → meets cells xs ≡ meets cells ys
meets_same cells xs ys h = any_same (λ c. list_any (same_cell c) xs) (λ c. list_any (same_cell c) ys) cells h

meets_both : (xs xs1 ys ys1 : List CellName) → HaveTheSame xs xs1 → HaveTheSame ys ys1 → meets xs ys ≡ meets xs1 ys1
meets_both xs xs1 ys ys1 h k = meets_same xs ys ys1 k ∙ meets_turned xs ys1 ∙ meets_same ys1 xs xs1 h ∙ meets_turned ys1 xs1

same_behind : (xs xs1 ys ys1 : List CellName) → HaveTheSame xs xs1 → HaveTheSame ys ys1 → HaveTheSame (xs ++ ys) (xs1 ++ ys1)
same_behind xs xs1 ys ys1 h k c = any_behind (same_cell c) xs ys ∙ ap₂ (λ a b. a || b) (h c) (k c) ∙ sym (any_behind (same_cell c) xs1 ys1)

pub by_membership : FootprintsCountByMembership
by_membership p p1 q q1 a b =
    let wp = same_behind p.settled p1.settled p.pending p1.pending a.settled a.pending in
    let wq = same_behind q.settled q1.settled q.pending q1.pending b.settled b.pending in
    record {
      clashes = ap₂ (λ x y. x || y) (ap₂ (λ x y. x || y) (meets_both _ _ _ _ wp b.reads) (meets_both _ _ _ _ wq a.reads)) (meets_both _ _ _ _ wp wq);
      joins = record { reads = same_behind _ _ _ _ a.reads b.reads; settled = same_behind _ _ _ _ a.settled b.settled; pending = same_behind _ _ _ _ a.pending b.pending };
      settles = record { reads = a.reads; settled = wp; pending = λ c. refl };
      targets = λ cells. meets_same cells p.pending p1.pending a.pending;
    }
