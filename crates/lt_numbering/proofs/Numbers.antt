-- Lists of objectives one behind the other, and the ids of their marks.
use Rattle.std.proofs.Common.{◌≡◌, ◌≤◌, ◌<◌, ℕ, ◌+◌, List, [], ◌∷◌, ◌++◌, length, map, refl, sym, ap, subst, ◌∙◌, false, arith}
use Rattle.std.specs.Prelude.{◌==◌}
use Rattle.std.proofs.lemmas.Bool.Decides.{nat_tests}
use Rattle.std.proofs.lemmas.List.{length-map, map-append, append_assoc, append-nil}
use Rattle.lt_tree.specs.Tree as c
use Rattle.lt_objectives.specs.declared.criteria.Criterion.{Criterion}
use Rattle.lt_objectives.specs.Objectives.{Form, Objective, objective, all_at}
use Rattle.lt_objectives.specs.Marked.{ids_of, numbered, next_id, NewMark as Marked}
use Rattle.lt_objectives.specs.Criteria.{tag_of}
use Rattle.lt_placing.specs.declared.new_mark.NewMark.{NewMark}
use Rattle.lt_placing.specs.NewMarks.{new_mark_of}
use Rattle.lt_numbering.specs.declared.new_marks.NewMarks.{NewMarks}
use Rattle.lt_numbering.specs.Numbering.{Adds, Number, most_id}

numbered_append : (id : ℕ) (xs ys : List Objective) → numbered id (xs ++ ys) ≡ numbered id xs ++ numbered (next_id id xs) ys
numbered_append id [] ys = refl
numbered_append id (x ∷ xs) ys = ap (λ rest. record { objective = x; id = id } ∷ rest) (numbered_append (id + ids_of x.form) xs ys)

pub next_append : (id : ℕ) (xs ys : List Objective) → next_id id (xs ++ ys) ≡ next_id (next_id id xs) ys
next_append id [] ys = refl
next_append id (x ∷ xs) ys = next_append (id + ids_of x.form) xs ys

pub next_grows : (id : ℕ) (xs : List Objective) → id ≤ next_id id xs
next_grows id [] = omega arith
next_grows id (x ∷ xs) = let h = next_grows (id + ids_of x.form) xs in omega arith

-- nothing is added
pub adds_nothing : (new : NewMarks) → Adds new new []
adds_nothing new = λ id before h. subst (λ them. Number new id them) (sym (append-nil before)) h

-- what is added in two steps
pub adds_both : (a b c : NewMarks) (xs ys : List Objective) → Adds a b xs → Adds b c ys → Adds a c (xs ++ ys)
adds_both a b c xs ys first second = λ id before h. subst (λ them. Number c id them) (append_assoc before xs ys) (second id (before ++ xs) (first id before h))

-- one mark more
pub adds_one : (old new : NewMarks) (marks : List NewMark) (mark : NewMark) (it : Objective)
    → new.marks.items ≡ marks ++ mark ∷ [] → marks ≡ old.marks.items → new_mark_of mark ≡ record { objective = it; id = old.next }
    → new.next ≡ old.next + ids_of it.form → new.next ≤ most_id + 1 → Adds old new (it ∷ [])
adds_one old new marks mark it items same is next within = λ id before h.
    record {
      marks = ap (map new_mark_of) (items ∙ ap (λ list. list ++ mark ∷ []) same) ∙ map-append new_mark_of old.marks.items (mark ∷ [])
          ∙ ap (λ front. front ++ new_mark_of mark ∷ []) h.marks
          ∙ ap (λ last. numbered id before ++ last ∷ []) (is ∙ ap (λ n. record { objective = it; id = n }) h.next)
          ∙ sym (numbered_append id before (it ∷ []));
      next = next ∙ ap (λ n. n + ids_of it.form) h.next ∙ sym (next_append id before (it ∷ []));
      within = within;
    }

-- where there is no id for the next of some predicates, there are too few
pub too_few : (old : NewMarks) (now : NewMarks) (place : ℕ) (form : Form) (criterion : Criterion) (done rest : List c.Expression) (e : c.Expression) (id : ℕ) (before : List Objective)
    → Adds old now (all_at place form criterion done) → Number old id before → most_id + 1 < now.next + ids_of form
    → most_id + 1 < next_id id (before ++ all_at place form criterion (done ++ e ∷ rest))
too_few old now place form criterion done rest e id before adds h out =
    let reached : now.next ≡ next_id id (before ++ all_at place form criterion done) = (adds id before h).next in
    let parts : before ++ all_at place form criterion (done ++ e ∷ rest) ≡ (before ++ all_at place form criterion done) ++ all_at place form criterion (e ∷ rest)
    = ap (λ them. before ++ them) (map-append (objective place form criterion) done (e ∷ rest))
    ∙ sym (append_assoc before (all_at place form criterion done) (all_at place form criterion (e ∷ rest))) in
    let value : next_id id (before ++ all_at place form criterion (done ++ e ∷ rest)) ≡ next_id (now.next + ids_of form) (all_at place form criterion rest)
    = ap (next_id id) parts ∙ next_append id (before ++ all_at place form criterion done) (all_at place form criterion (e ∷ rest))
    ∙ ap (λ n. next_id (n + ids_of form) (all_at place form criterion rest)) (sym reached) in
    let grows = next_grows (now.next + ids_of form) (all_at place form criterion rest) in
    subst (λ n. most_id + 1 < n) (sym value) (omega arith)

pub too_few_left : (old : NewMarks) (now : NewMarks) (place : ℕ) (form : Form) (criterion : Criterion) (done more given : List c.Expression)
    → given ≡ done ++ more → 0 < length more → Adds old now (all_at place form criterion done) → most_id + 1 < now.next + ids_of form
    → (id : ℕ) (before : List Objective) → Number old id before → most_id + 1 < next_id id (before ++ all_at place form criterion given)
too_few_left old now place form criterion done [] given parts some adds out id before h = absurd (omega arith)
too_few_left old now place form criterion done (e ∷ rest) given parts some adds out id before h =
    subst (λ them. most_id + 1 < next_id id (before ++ all_at place form criterion them)) (sym parts) (too_few old now place form criterion done rest e id before adds h out)

pub one_done : {A : Type 0} (done rest given : List A) (e : A) → given ≡ done ++ e ∷ rest → given ≡ (done ++ e ∷ []) ++ rest
one_done done rest given e parts = parts ∙ sym (append_assoc done (e ∷ []) rest)

pub all_of_one_more : (place : ℕ) (form : Form) (criterion : Criterion) (done : List c.Expression) (e : c.Expression)
    → all_at place form criterion done ++ objective place form criterion e ∷ [] ≡ all_at place form criterion (done ++ e ∷ [])
all_of_one_more place form criterion done e = sym (map-append (objective place form criterion) done (e ∷ []))

not_zero : (n : ℕ) → false ≡ (n == 0) → 0 < n
not_zero n e = grind (arith, nat_tests)

pub some_mapped : {A B : Type 0} (f : A → B) (xs : List A) → false ≡ (length xs == 0) → 0 < length (map f xs)
some_mapped f xs e = subst (λ n. 0 < n) (sym (length-map xs f)) (not_zero (length xs) e)

abbrev marked_so : ℕ → List ℕ → ℕ → Form → c.Expression → Marked
marked_so id tag place form e = record { objective = record { place = place; form = form; predicate = e; tag = tag }; id = id }

-- a mark is the one of an objective if its id and its tag are
pub mark_is : (id other place : ℕ) (form : Form) (criterion : Criterion) (e : c.Expression) (tag : List ℕ) → other ≡ id → tag ≡ tag_of criterion
    → marked_so other tag place form e ≡ marked_so id (tag_of criterion) place form e
mark_is id other place form criterion e tag same tags = ap (λ n. marked_so n tag place form e) same ∙ ap (λ t. marked_so id t place form e) tags
