-- The first of the marks that are left.
use Rattle.std.proofs.Common.{◌≡◌, refl, sym, ap, ◌∙◌, ℕ, ◌<◌, ◌≤◌, nat_le, true, false, List, [], ◌∷◌, ◌++◌, length, drop, Option, Some, None, arith, subst}
use Rattle.std.specs.Prelude.{MatchOption, slice_index_or}
use Rattle.std.specs.Option.{option_to_list}
use Rattle.std.proofs.lemmas.Bool.Decides.{nat_tests}
use Rattle.lt_placing.specs.declared.new_mark.NewMark.{NewMark as Held}
use Rattle.lt_placing.specs.declared.walk.Walk.{Walk}
use Rattle.lt_placing.specs.NewMarks.{new_marks}
use Rattle.lt_placing.specs.Walks.{of_place, AscendFrom, is_reached, StandsAt, StartsCopy}

pub none_reached : (next : ℕ) (items : List Held) → length items ≤ 0 → false ≡ is_reached next (new_marks items)
none_reached next [] none = refl
none_reached next (x ∷ xs) none = absurd (omega arith)

pub first_reached : (next : ℕ) (items : List Held) (it : Held) → 0 < length items → it ≡ slice_index_or items 0 it → nat_le it.place next ≡ is_reached next (new_marks items)
first_reached next [] it some is = absurd (omega arith)
first_reached next (x ∷ xs) it some is = ap (λ (y : Held). nat_le y.place next) is

pub none_left : {X : Type 0} (old : List X) → old ≡ drop 1 old → old ≡ []
none_left [] is = refl
none_left (x ∷ xs) is = let e : length (x ∷ xs) ≡ length xs = ap length is in absurd (omega arith)

reached : (p n : ℕ) → nat_le p n ≡ true → p ≤ n
reached p n test = grind (arith, nat_tests)

-- what comes of the first mark, where it is reached
pub taken : (r : Option Held) (old now : List Held) (next : ℕ) → is_reached next (new_marks old) ≡ true → old ≡ option_to_list r ++ now → now ≡ drop 1 old →
    MatchOption r (now ≡ old) (λ it. old ≡ it ∷ now) × MatchOption r (is_reached next (new_marks old) ≡ false) (λ it. it.place ≤ next)
taken None old now next test is rest =
    let empty : old ≡ [] = none_left old (is ∙ rest) in
    (sym is, ap (λ xs. is_reached next (new_marks xs)) empty)
taken (Some it) old now next test is rest = (is, reached it.place next (sym (ap (λ xs. is_reached next (new_marks xs)) is) ∙ test))

-- before the first node, when the marks are sorted
pub first : (walk : Walk) (marks : List Held) → ((j : ℕ) → of_place j (new_marks walk.marks.items) ≡ of_place j (new_marks marks)) →
    AscendFrom 0 (new_marks walk.marks.items) → walk.next ≡ 0 → StandsAt walk (new_marks marks) 0
first walk marks same ordered zero = record { left = λ j far. same j; ordered = ordered; number = zero }

pub copying : (walk now : Walk) → now.marks.items ≡ [] → now.next ≡ walk.next → StartsCopy walk now
copying walk now none same new k at = record {
  left = λ j far. ap (λ xs. of_place j (new_marks xs)) none;
  ordered = subst (λ xs. AscendFrom 0 (new_marks xs)) (sym none) tt;
  number = same ∙ at.number;
}
