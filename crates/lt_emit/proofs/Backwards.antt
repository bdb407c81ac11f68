-- Rows that are gone over from their ends, and what isn't done.
use Rattle.std.proofs.Common.{◌≡◌, ℕ, suc, ◌-◌, ◌<◌, ◌≤◌, List, [], ◌∷◌, length, drop, get_or, drop-cons, ap, sym, subst, ◌∙◌, arith, Result, Ok}
use Rattle.std.specs.declared.alloc.AllocError.{AllocError}
use Rattle.std.proofs.lemmas.List.{drop_all}
use Rattle.lt_emit.specs.declared.builder.Builder.{Builder}
use Rattle.lt_emit.specs.Emission.{Here, here_of, Finished, Adds, Emits, Gives, HasPoint}
use Rattle.lt_emit.proofs.Adding.{both, last4, grows_none, none_added, more}

-- nothing is emitted
pub nothing_given :
    {a : Builder} {P : ℕ → Here → Finished → Type 0} (to : ℕ) → HasPoint a to → ((it : Finished) → P to (here_of a) it)
    → Gives a a (Ok to) P
nothing_given to has so =
    record { code = record { adds = record { grows = grows_none; stands = λ it kept. so it }; within = has } }

-- the elements from one on
pub row_from :
    {X : Type 0} (row : List X) (k : ℕ) (x : X) → 0 < k → k ≤ length row → x ≡ get_or row (k - 1) x
    → drop (k - 1) row ≡ x ∷ drop k row
row_from row k x some fits is =
    let less = k - 1 in
    let more : suc less ≡ k = omega arith in
    let there : less < length row = omega arith in
    drop-cons row less x there ∙ ap (λ y. y ∷ drop (suc less) row) (sym is) ∙ ap (λ n. x ∷ drop n row) more

-- What stands of the elements of a row from one on.
abbrev pub RowStands : Type 0 → Type 1
RowStands X = List X → (k from : ℕ) → Here → Finished → Type 0

pub none_left :
    {X : Type 0} {a : Builder} (Stands : RowStands X) (row : List X) (k to : ℕ) → length row ≤ k → HasPoint a to
    → ((here : Here) (it : Finished) → Stands [] k to here it) → Emits a a to (Stands (drop k row) k to)
none_left {X} {a} Stands row k to all has so =
    let Are : List X → Type 0 = λ xs. Emits a a to (Stands xs k to) in
    subst Are (sym (drop_all k row all)) (none_added to has so)

pub one_more :
    {X : Type 0} {a b c : Builder} {Q : Here → Finished → Type 0} (Stands : RowStands X) (row : List X) (k from : ℕ) (x : X) (m : ℕ)
    → 0 < k → k ≤ length row → x ≡ get_or row (k - 1) x
    → Emits a b from (Stands (drop k row) k from) → Emits b c m Q
    → ((here : Here) (it : Finished) → Stands (drop k row) k from here it → Q here it → Stands (x ∷ drop k row) (k - 1) m here it)
    → Emits a c m (Stands (drop (k - 1) row) (k - 1) m)
one_more {X} {a} {b} {c} Stands row k from x m some fits is before one make =
    let Are : List X → Type 0 = λ xs. Emits a c m (Stands xs (k - 1) m) in
    subst Are (sym (row_from row k x some fits is)) (record { adds = both before.adds one.adds make; within = one.within })

pub two_more :
    {X : Type 0} {a b c d : Builder} {Q R : Here → Finished → Type 0} (Stands : RowStands X) (row : List X) (k from : ℕ) (x : X) (n m : ℕ)
    → 0 < k → k ≤ length row → x ≡ get_or row (k - 1) x
    → Emits a b from (Stands (drop k row) k from) → Emits b c n Q → Emits c d m R
    → ((here : Here) (it : Finished) → Stands (drop k row) k from here it → Q here it → R here it
    → Stands (x ∷ drop k row) (k - 1) m here it)
    → Emits a d m (Stands (drop (k - 1) row) (k - 1) m)
two_more {Q = Q} {R} Stands row k from x n m some fits is before one other make =
    let F : Here → Finished → Type 0 = λ here it. Q here it × R here it in
    one_more {Q = F} Stands row k from x m some fits is before (more one other (λ here it p q. (p, q)))
    (λ here it p q. make here it p q.0 q.1)

pub all_of_them :
    {X : Type 0} {a b : Builder} (Stands : RowStands X) (row : List X) (k from : ℕ) → k ≤ 0
    → Emits a b from (Stands (drop k row) k from) → Emits a b from (Stands row 0 from)
all_of_them {X} {a} {b} Stands row k from first code =
    let none : k ≡ 0 = omega arith in
    let From : ℕ → Type 0 = λ n. Emits a b from (Stands (drop n row) n from) in
    subst From none code

-- the code with which five additions end
pub last5 :
    {a b c d e f g : Builder} {P Q R S T : Here → Finished → Type 0} {U V : ℕ → Here → Finished → Type 0}
    {result : Result ℕ AllocError}
    → Adds a b P → Adds b c Q → Adds c d R → Adds d e S → Adds e f T → Gives f g result U
    → ((from : ℕ) (here : Here) (it : Finished) → P here it → Q here it → R here it → S here it → T here it → U from here it
    → V from here it)
    → Gives a g result V
last5 {P = P} {Q} p q r s t u make =
    let F : Here → Finished → Type 0 = λ here it. P here it × Q here it in
    last4 {P = F} (both p q (λ here it x y. (x, y))) r s t u (λ from here it x y z w v. make from here it x.0 x.1 y z w v)
