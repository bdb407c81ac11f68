-- Which ids marks have: each is of one place.
use Rattle.std.proofs.Common.{◌≡◌, ◌⊎◌, inl, inr, refl, sym, ap, ◌∙◌, subst, ℕ, ◌+◌, ◌<◌, ◌≤◌, List, [], ◌∷◌, ◌++◌, length, true, false, eqb, eq-eqb, arith}
use Rattle.std.proofs.lemmas.Bool.{false≢true, eqb-true}
use Rattle.lt_tree.specs.Tree as c
use Rattle.lt_objectives.specs.declared.criteria.Criterion.{Criterion}
use Rattle.lt_objectives.specs.Objectives.{Form, Objective, objective, all_at}
use Rattle.lt_objectives.specs.Marked.{NewMark, ids_of, numbered, next_id}
use Rattle.lt_objective_places.specs.Stands.{IsAmong, IsWithin}
use Rattle.lt_objective_marks.specs.Settings.{IsIdAt, AreUnused, AddsIdsOf}

-- ---- numbers

pub next_from : (id : ℕ) (them : List Objective) → id ≤ next_id id them
next_from id [] = omega arith
next_from id (it ∷ rest) = let more = next_from (id + ids_of it.form) rest in omega arith

pub next_both : (id : ℕ) (xs ys : List Objective) → next_id id (xs ++ ys) ≡ next_id (next_id id xs) ys
next_both id [] ys = refl
next_both id (x ∷ xs) ys = next_both (id + ids_of x.form) xs ys

pub numbered_both : (id : ℕ) (xs ys : List Objective) → numbered id (xs ++ ys) ≡ numbered id xs ++ numbered (next_id id xs) ys
numbered_both id [] ys = refl
numbered_both id (x ∷ xs) ys = ap (λ (rest : List NewMark). record { objective = x; id = id } ∷ rest) (numbered_both (id + ids_of x.form) xs ys)

-- a mark's ids are not below the first, nor behind the last
bounds : (id : ℕ) (them : List Objective) (mark : NewMark) → IsAmong mark (numbered id them) → (id ≤ mark.id) × (mark.id + ids_of mark.objective.form ≤ next_id id them)
bounds id [] mark h = absurd h
bounds id (it ∷ rest) mark (inl is) =
    let number : id ≡ mark.id = ap (λ (m : NewMark). m.id) is in
    let width : ids_of it.form ≡ ids_of mark.objective.form = ap (λ (m : NewMark). ids_of m.objective.form) is in
    let more : id + ids_of it.form ≤ next_id (id + ids_of it.form) rest = next_from (id + ids_of it.form) rest in
    (omega arith, omega arith)
bounds id (it ∷ rest) mark (inr h) = let more = bounds (id + ids_of it.form) rest mark h in (omega (arith, more.0), more.1)

-- an id is of one place
pub one_place : (id : ℕ) (them : List Objective) (p q n : ℕ) → IsIdAt (numbered id them) p n → IsIdAt (numbered id them) q n → p ≡ q
one_place id [] p q n here there = absurd here.1
one_place id (it ∷ rest) p q n (a, inl ha, pa, la, ua) (b, inl hb, pb, lb, ub) =
    sym pa ∙ ap (λ (m : NewMark). m.objective.place) (sym ha) ∙ ap (λ (m : NewMark). m.objective.place) hb ∙ pb
one_place id (it ∷ rest) p q n (a, inl ha, pa, la, ua) (b, inr hb, pb, lb, ub) =
    let low = bounds (id + ids_of it.form) rest b hb in
    let number : id ≡ a.id = ap (λ (m : NewMark). m.id) ha in
    let width : ids_of it.form ≡ ids_of a.objective.form = ap (λ (m : NewMark). ids_of m.objective.form) ha in
    absurd (omega (arith, low.0))
one_place id (it ∷ rest) p q n (a, inr ha, pa, la, ua) (b, inl hb, pb, lb, ub) =
    let low = bounds (id + ids_of it.form) rest a ha in
    let number : id ≡ b.id = ap (λ (m : NewMark). m.id) hb in
    let width : ids_of it.form ≡ ids_of b.objective.form = ap (λ (m : NewMark). ids_of m.objective.form) hb in
    absurd (omega (arith, low.0))
one_place id (it ∷ rest) p q n (a, inr ha, pa, la, ua) (b, inr hb, pb, lb, ub) =
    one_place (id + ids_of it.form) rest p q n (a, ha, pa, la, ua) (b, hb, pb, lb, ub)

-- ---- ids of several runs of nodes

pub fewer_unused : (marks : List NewMark) (used : List ℕ) (k size j more : ℕ) → k ≤ j → j + more ≤ k + size → AreUnused marks used k size → AreUnused marks used j more
fewer_unused marks used k size j more first last unused = λ n place is at w.
    let low : j ≤ place = w.0 in
    let high : place < j + more = w.1 in
    unused n place is at (omega arith, omega arith)

pub more_added : (marks : List NewMark) (used after : List ℕ) (k size j more : ℕ) → k ≤ j → j + more ≤ k + size → AddsIdsOf marks used after j more → AddsIdsOf marks used after k size
more_added marks used after k size j more first last adds = λ n is. elim (adds n is) [
  | inl old ↦ inl old
  | inr it ↦
      let low : j ≤ it.0 = it.2.0 in
      let high : it.0 < j + more = it.2.1 in
      inr (it.0, it.1, (omega arith, omega arith))
]

pub none_added : (marks : List NewMark) (used : List ℕ) (k size : ℕ) → AddsIdsOf marks used used k size
none_added marks used k size = λ n is. inl is

pub then_added : (marks : List NewMark) (used between after : List ℕ) (k size : ℕ) → AddsIdsOf marks used between k size → AddsIdsOf marks between after k size → AddsIdsOf marks used after k size
then_added marks used between after k size first second = λ n is. elim (second n is) [ inl old ↦ first n old | inr it ↦ inr it ]

-- what is used in one run isn't of another
pub still_unused : (id : ℕ) (them : List Objective) (used between : List ℕ) (k size j more : ℕ) → ((place : ℕ) → IsWithin k size place → IsWithin j more place → ⊥)
    → AddsIdsOf (numbered id them) used between k size → AreUnused (numbered id them) used j more → AreUnused (numbered id them) between j more
still_unused id them used between k size j more apart adds unused = λ n place is at w. elim (adds n is) [
  | inl old ↦ unused n place old at w
  | inr it ↦ apart place (subst (IsWithin k size) (one_place id them it.0 place n it.1 at) it.2) w
]

pub behind : (id : ℕ) (them : List Objective) (used between : List ℕ) (k size j more : ℕ) → k + size ≤ j
    → AddsIdsOf (numbered id them) used between k size → AreUnused (numbered id them) used j more → AreUnused (numbered id them) between j more
behind id them used between k size j more le adds unused = still_unused id them used between k size j more apart adds unused
  where
    apart : (place : ℕ) → IsWithin k size place → IsWithin j more place → ⊥
    apart place w v = let high : place < k + size = w.1 in let low : j ≤ place = v.0 in omega arith

-- ---- ids of labels at one place

module _ (place : ℕ) (form : Form) (criterion : Criterion) (one : ids_of form ≡ 1) where
  pub next_of_all : (id : ℕ) (predicates : List c.Expression) → next_id id (all_at place form criterion predicates) ≡ id + length predicates
  next_of_all id [] = omega arith
  next_of_all id (p ∷ ps) = let rest = next_of_all (id + ids_of form) ps in omega (arith, rest, one)

  pub id_of_all : (id n : ℕ) (predicates : List c.Expression) → id ≤ n → n < id + length predicates → IsIdAt (numbered id (all_at place form criterion predicates)) place n
  id_of_all id n [] low high = absurd (omega arith)
  id_of_all id n (p ∷ ps) low high = elim (le_cases id n low) [
    | inl e ↦ (record { objective = objective place form criterion p; id = id }, inl refl, refl, low, omega (arith, e, one))
    | inr l ↦ let rest = id_of_all (id + ids_of form) n ps l (omega (arith, high, one)) in (rest.0, inr rest.1, rest.2, rest.3, rest.4)
  ]
    where
      le_cases : (id n : ℕ) → id ≤ n → (id ≡ n) ⊎ (id + ids_of form ≤ n)
      le_cases id n le = elim (eqb id n) as (λ b. eqb id n ≡ b → (id ≡ n) ⊎ (id + ids_of form ≤ n)) [
        | true ↦ λ e. inl (eqb-true id n e)
        | false ↦ λ e. inr (omega (arith, one, (λ (same : id ≡ n). false≢true (sym e ∙ eq-eqb id n same))))
      ] refl
