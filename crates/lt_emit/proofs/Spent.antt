-- Costs of code that is added piece by piece.
use Rattle.std.proofs.Common.{◌≡◌, ℕ, suc, ◌+◌, ◌-◌, ◌<◌, ◌≤◌, ◌==◌, max, List, [], ◌∷◌, ◌++◌, length, drop, get_or, cond, refl, sym, ap, subst, ◌∙◌, arith, rules, Result, Ok, Err, IfOk}
use Rattle.std.proofs.lemmas.List.Sums.{sum_by-cons}
use Rattle.std.specs.declared.alloc.AllocError.{AllocError}
use Rattle.lt_code.specs.Costs.{Cost, ◌⊕◌, alone, times}
use Rattle.lt_emit.specs.declared.builder.Builder.{Builder}
use Rattle.lt_emit.specs.Spending.{called, IsWithin, Spends}
use Rattle.lt_emit.specs.Emission.{Here, here_of, Finished, Grows, Adds, EmitsWithin, GivesWithin, HasPoint}
use Rattle.lt_emit.proofs.Adding.{last, last_here, also_here}
use Rattle.lt_emit.proofs.Backwards.{RowStands, row_from, nothing_given, none_left, one_more}

-- ---- calls

times_cons : (f g : ℕ) (gs : List ℕ) → times f (g ∷ gs) ≡ cond (g == f) 1 0 + times f gs
times_cons f g gs = sum_by-cons (λ h. cond (h == f) 1 0) g gs

times_both : (f : ℕ) (xs ys : List ℕ) → times f (xs ++ ys) ≡ times f xs + times f ys
times_both f [] ys = omega arith
times_both f (x ∷ xs) ys = omega (arith, times_cons f x xs, times_cons f x (xs ++ ys), times_both f xs ys)

pub called_both : (f : ℕ) (xs ys : List ℕ) → called f (xs ++ ys) ≡ called f xs + called f ys
unfolding called
called_both f xs ys = times_both f xs ys

pub called_none : (f : ℕ) → called f [] ≡ 0
unfolding called
called_none f = refl

pub ruleset fitting = (arith, called_both, called_none)

-- ---- costs

pub itself : (cost : Cost) → IsWithin cost cost
itself cost = record { nodes = omega arith; registers = omega arith; loops = omega arith; calls = λ f. omega arith }

pub spends_none : {b : Builder} (cost : Cost) → Spends cost b b
spends_none cost = record { nodes = omega arith; registers = omega arith; loops = omega arith; calls = λ f. omega arith }

pub spends_both : {a b c : Builder} {p q : Cost} → Spends p a b → Spends q b c → Spends (p ⊕ q) a c
spends_both {p = p} {q} first then = record {
  nodes = omega (arith, first.nodes, then.nodes);
  registers = omega (arith, first.registers, then.registers);
  loops = omega (arith, first.loops, then.loops);
  calls = λ f. omega (arith, first.calls f, then.calls f, called_both f p.calls q.calls);
}

pub spends_within : {a b : Builder} {p q : Cost} → Spends p a b → IsWithin p q → Spends q a b
spends_within spends fits = record {
  nodes = omega (arith, spends.nodes, fits.nodes);
  registers = omega (arith, spends.registers, fits.registers);
  loops = omega (arith, spends.loops, fits.loops);
  calls = λ f. omega (arith, spends.calls f, fits.calls f);
}

-- the cost of one piece, and then of another
pub spends_more :
    {a b c : Builder} (p q : Here → Cost) → Grows a b → Spends (p (here_of a)) a b → Spends (q (here_of b)) b c
    → Spends (p (here_of a) ⊕ q (here_of a)) a c
spends_more {a} {b} {c} p q g first then =
    spends_both first (subst (λ here. Spends (q here) b c) g.same then)

-- ---- code with its cost

-- nothing is emitted
pub nothing_within :
    {a : Builder} {cost : Here → Cost} {P : ℕ → Here → Finished → Type 0} (to : ℕ) → HasPoint a to
    → ((it : Finished) → P to (here_of a) it) → GivesWithin a a (Ok to) cost P
nothing_within {a} {cost} to has so = record { gives = nothing_given to has so; spends = spends_none (cost (here_of a)) }

-- the code is also this, and costs no more than that
pub within_here :
    {a b : Builder} {result : Result ℕ AllocError} {p q : Here → Cost} {P Q : ℕ → Here → Finished → Type 0}
    → GivesWithin a b result p P → ((from : ℕ) (it : Finished) → P from (here_of a) it → Q from (here_of a) it)
    → IsWithin (p (here_of a)) (q (here_of a)) → GivesWithin a b result q Q
within_here {a} {result = Ok from} code make fits =
    record { gives = also_here code.gives make; spends = spends_within code.spends fits }
within_here {result = Err e} code make fits = record { gives = also_here code.gives make; spends = tt }

pub within :
    {a b : Builder} {result : Result ℕ AllocError} {p q : Here → Cost} {P Q : ℕ → Here → Finished → Type 0}
    → GivesWithin a b result p P → ((from : ℕ) (here : Here) (it : Finished) → P from here it → Q from here it)
    → ((here : Here) → IsWithin (p here) (q here)) → GivesWithin a b result q Q
within {a} code make fits = within_here code (λ from it. make from (here_of a) it) (fits (here_of a))

-- a piece, and then another
pub then_here :
    {a b c : Builder} {m : ℕ} {result : Result ℕ AllocError} {p q r : Here → Cost} {P Q R : ℕ → Here → Finished → Type 0}
    → GivesWithin a b (Ok m) p P → GivesWithin b c result q Q
    → ((from : ℕ) (it : Finished) → P m (here_of a) it → Q from (here_of a) it → R from (here_of a) it)
    → IsWithin (p (here_of a) ⊕ q (here_of a)) (r (here_of a)) → GivesWithin a c result r R
then_here {a} {m = m} {result = Ok from} {p} {q} {P = P} {Q} {R} first second make fits = record {
  gives = last_here {P = P m} {Q = Q} {R = R} first.gives.code.adds second.gives make;
  spends = spends_within (spends_more p q first.gives.code.adds.grows first.spends second.spends) fits;
}
then_here {m = m} {result = Err e} {P = P} {Q} {R} first second make fits =
    record { gives = last_here {P = P m} {Q = Q} {R = R} first.gives.code.adds second.gives make; spends = tt }

pub then1 :
    {a b c : Builder} {m : ℕ} {result : Result ℕ AllocError} {p q r : Here → Cost} {P Q R : ℕ → Here → Finished → Type 0}
    → GivesWithin a b (Ok m) p P → GivesWithin b c result q Q
    → ((from : ℕ) (here : Here) (it : Finished) → P m here it → Q from here it → R from here it)
    → ((here : Here) → IsWithin (p here ⊕ q here) (r here)) → GivesWithin a c result r R
then1 {a} first second make fits = then_here first second (λ from it. make from (here_of a) it) (fits (here_of a))

-- something else that was added, and then a piece
pub after_adds :
    {a b c : Builder} {result : Result ℕ AllocError} {q r : Here → Cost} {P : Here → Finished → Type 0} {Q R : ℕ → Here → Finished → Type 0}
    (p : Here → Cost) → Adds a b P → Spends (p (here_of a)) a b → GivesWithin b c result q Q
    → ((from : ℕ) (here : Here) (it : Finished) → P here it → Q from here it → R from here it)
    → ((here : Here) → IsWithin (p here ⊕ q here) (r here)) → GivesWithin a c result r R
after_adds {a} {result = Ok from} {q} {P = P} {Q} {R} p puts spends code make fits = record {
  gives = last {P = P} {Q = Q} {R = R} puts code.gives make;
  spends = spends_within (spends_more p q puts.grows spends code.spends) (fits (here_of a));
}
after_adds {result = Err e} {P = P} {Q} {R} p puts spends code make fits =
    record { gives = last {P = P} {Q = Q} {R = R} puts code.gives make; spends = tt }

nothing_more : (cost : Cost) → IsWithin (alone 0 ⊕ cost) cost
nothing_more cost = grind fitting

-- where it costs nothing
pub put_first :
    {a b c : Builder} {result : Result ℕ AllocError} {p : Here → Cost} {P : Here → Finished → Type 0} {Q R : ℕ → Here → Finished → Type 0}
    → Adds a b P → Spends (alone 0) a b → GivesWithin b c result p Q
    → ((from : ℕ) (here : Here) (it : Finished) → P here it → Q from here it → R from here it)
    → GivesWithin a c result p R
put_first {p = p} puts spends code make = after_adds (λ here. alone 0) puts spends code make (λ here. nothing_more (p here))

-- as one with the piece behind it
pub put_beside :
    {a b c : Builder} {m : ℕ} {q : Here → Cost} {P : Here → Finished → Type 0} {Q : ℕ → Here → Finished → Type 0}
    (p : Here → Cost) → Adds a b P → Spends (p (here_of a)) a b → GivesWithin b c (Ok m) q Q
    → GivesWithin a c (Ok m) (λ here. p here ⊕ q here) (λ from here it. P here it × Q from here it)
put_beside {q = q} {P} {Q} p puts spends code =
    after_adds {P = P} {Q = Q} {R = λ from here it. P here it × Q from here it} p puts spends code (λ from here it x y. (x, y))
    (λ here. itself (p here ⊕ q here))

-- one piece and another, as one
pub beside :
    {a b c : Builder} {m n : ℕ} {p q : Here → Cost} {P Q : ℕ → Here → Finished → Type 0}
    → GivesWithin a b (Ok m) p P → GivesWithin b c (Ok n) q Q
    → GivesWithin a c (Ok n) (λ here. p here ⊕ q here) (λ from here it. P m here it × Q from here it)
beside {a} {m = m} {n} {p} {q} {P} {Q} first second = record {
  gives = last {P = P m} {Q = Q} {R = λ from here it. P m here it × Q from here it} first.gives.code.adds second.gives
      (λ from here it x y. (x, y));
  spends = spends_more p q first.gives.code.adds.grows first.spends second.spends;
}

pub then2 :
    {a b c d : Builder} {m n : ℕ} {result : Result ℕ AllocError} {p q r s : Here → Cost} {P Q R S : ℕ → Here → Finished → Type 0}
    → GivesWithin a b (Ok m) p P → GivesWithin b c (Ok n) q Q → GivesWithin c d result r R
    → ((from : ℕ) (here : Here) (it : Finished) → P m here it → Q n here it → R from here it → S from here it)
    → ((here : Here) → IsWithin ((p here ⊕ q here) ⊕ r here) (s here)) → GivesWithin a d result s S
then2 first second third make fits =
    then1 (beside first second) third (λ from here it x y. make from here it x.0 x.1 y) fits

pub then3 :
    {a b c d e : Builder} {m n o : ℕ} {result : Result ℕ AllocError} {p q r s t : Here → Cost}
    {P Q R S T : ℕ → Here → Finished → Type 0}
    → GivesWithin a b (Ok m) p P → GivesWithin b c (Ok n) q Q → GivesWithin c d (Ok o) r R → GivesWithin d e result s S
    → ((from : ℕ) (here : Here) (it : Finished) → P m here it → Q n here it → R o here it → S from here it → T from here it)
    → ((here : Here) → IsWithin (((p here ⊕ q here) ⊕ r here) ⊕ s here) (t here)) → GivesWithin a e result t T
then3 first second third fourth make fits =
    then2 (beside first second) third fourth (λ from here it x y z. make from here it x.0 x.1 y z) fits

pub then4 :
    {a b c d e f : Builder} {m n o u : ℕ} {result : Result ℕ AllocError} {p q r s t v : Here → Cost}
    {P Q R S T V : ℕ → Here → Finished → Type 0}
    → GivesWithin a b (Ok m) p P → GivesWithin b c (Ok n) q Q → GivesWithin c d (Ok o) r R → GivesWithin d e (Ok u) s S
    → GivesWithin e f result t T
    → ((from : ℕ) (here : Here) (it : Finished) → P m here it → Q n here it → R o here it → S u here it → T from here it
    → V from here it)
    → ((here : Here) → IsWithin ((((p here ⊕ q here) ⊕ r here) ⊕ s here) ⊕ t here) (v here)) → GivesWithin a f result v V
then4 first second third fourth fifth make fits =
    then3 (beside first second) third fourth fifth (λ from here it x y z w. make from here it x.0 x.1 y z w) fits

pub then5 :
    {a b c d e f g : Builder} {m n o u w : ℕ} {result : Result ℕ AllocError} {p q r s t v x : Here → Cost}
    {P Q R S T U V : ℕ → Here → Finished → Type 0}
    → GivesWithin a b (Ok m) p P → GivesWithin b c (Ok n) q Q → GivesWithin c d (Ok o) r R → GivesWithin d e (Ok u) s S
    → GivesWithin e f (Ok w) t T → GivesWithin f g result v U
    → ((from : ℕ) (here : Here) (it : Finished) → P m here it → Q n here it → R o here it → S u here it → T w here it
    → U from here it → V from here it)
    → ((here : Here) → IsWithin (((((p here ⊕ q here) ⊕ r here) ⊕ s here) ⊕ t here) ⊕ v here) (x here))
    → GivesWithin a g result x V
then5 first second third fourth fifth sixth make fits =
    then4 (beside first second) third fourth fifth sixth (λ from here it x y z w v. make from here it x.0 x.1 y z w v) fits

-- ---- rows that are gone over from their ends

-- what the elements of a row from one on cost
abbrev pub RowCosts : Type 0 → Type 0
RowCosts X = List X → (k : ℕ) → Here → Cost

pub none_within :
    {X : Type 0} {a : Builder} (cost : RowCosts X) (Stands : RowStands X) (row : List X) (k to : ℕ) → length row ≤ k → HasPoint a to
    → ((here : Here) (it : Finished) → Stands [] k to here it)
    → EmitsWithin a a to (cost (drop k row) k) (Stands (drop k row) k to)
none_within {a = a} cost Stands row k to all has so =
    record { emits = none_left Stands row k to all has so; spends = spends_none (cost (drop k row) k (here_of a)) }

-- what was emitted, as code that is given
pub as_given :
    {a b : Builder} {from : ℕ} {cost : Here → Cost} {P : ℕ → Here → Finished → Type 0} → EmitsWithin a b from cost (P from)
    → GivesWithin a b (Ok from) cost P
as_given code = record { gives = record { code = code.emits }; spends = code.spends }

pub one_more_within :
    {X : Type 0} {a b c : Builder} {p : Here → Cost} {Q : ℕ → Here → Finished → Type 0} (cost : RowCosts X) (Stands : RowStands X)
    (row : List X) (k from : ℕ) (x : X) (m : ℕ) → 0 < k → k ≤ length row → x ≡ get_or row (k - 1) x
    → EmitsWithin a b from (cost (drop k row) k) (Stands (drop k row) k from) → GivesWithin b c (Ok m) p Q
    → ((here : Here) (it : Finished) → Stands (drop k row) k from here it → Q m here it → Stands (x ∷ drop k row) (k - 1) m here it)
    → ((here : Here) → IsWithin (cost (drop k row) k here ⊕ p here) (cost (x ∷ drop k row) (k - 1) here))
    → EmitsWithin a c m (cost (drop (k - 1) row) (k - 1)) (Stands (drop (k - 1) row) (k - 1) m)
one_more_within {X} {a} {b} {c} {p} {Q} cost Stands row k from x m some fits is before one make cheap =
    let Costs : List X → Type 0 = λ xs. Spends (cost xs (k - 1) (here_of a)) a c in
    record {
      emits = one_more {Q = Q m} Stands row k from x m some fits is before.emits one.gives.code make;
      spends = subst Costs (sym (row_from row k x some fits is))
          (spends_within (spends_more (cost (drop k row) k) p before.emits.adds.grows before.spends one.spends) (cheap (here_of a)));
    }

pub two_more_within :
    {X : Type 0} {a b c d : Builder} {n : ℕ} {p q : Here → Cost} {P Q : ℕ → Here → Finished → Type 0} (cost : RowCosts X)
    (Stands : RowStands X) (row : List X) (k from : ℕ) (x : X) (m : ℕ) → 0 < k → k ≤ length row → x ≡ get_or row (k - 1) x
    → EmitsWithin a b from (cost (drop k row) k) (Stands (drop k row) k from) → GivesWithin b c (Ok n) p P → GivesWithin c d (Ok m) q Q
    → ((here : Here) (it : Finished) → Stands (drop k row) k from here it → P n here it → Q m here it
    → Stands (x ∷ drop k row) (k - 1) m here it)
    → ((here : Here) → IsWithin (cost (drop k row) k here ⊕ (p here ⊕ q here)) (cost (x ∷ drop k row) (k - 1) here))
    → EmitsWithin a d m (cost (drop (k - 1) row) (k - 1)) (Stands (drop (k - 1) row) (k - 1) m)
two_more_within cost Stands row k from x m some fits is before one other make cheap =
    one_more_within cost Stands row k from x m some fits is before (beside one other) (λ here it p q. make here it p q.0 q.1) cheap

pub all_within :
    {X : Type 0} {a b : Builder} (cost : RowCosts X) (Stands : RowStands X) (row : List X) (k from : ℕ) → k ≤ 0
    → EmitsWithin a b from (cost (drop k row) k) (Stands (drop k row) k from) → EmitsWithin a b from (cost row 0) (Stands row 0 from)
all_within {X} {a} {b} cost Stands row k from first code =
    let none : k ≡ 0 = omega arith in
    let From : ℕ → Type 0 = λ n. EmitsWithin a b from (cost (drop n row) n) (Stands (drop n row) n from) in
    subst From none code
