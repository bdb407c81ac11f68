-- Lists of criteria, name by name.
use Rattle.std.proofs.Common.{◌≡◌, ℕ, ◌+◌, ◌<◌, List, length, drop, get_or, refl, ap, sym, ◌∙◌, Some, None}
use Rattle.std.specs.Prelude.{option_and_then}
use Rattle.std.proofs.lemmas.List.{at_drop_more}
use Rattle.lt_command.specs.Plan.{with_name, with_names}

one_name : (set n : ℕ) (names : List (List ℕ)) (name : List ℕ) → (n < length names) × (name ≡ get_or names n name)
    → with_names set (drop n names) ≡ option_and_then (λ more. with_names more (drop (n + 1) names)) (with_name set name)
one_name set n names name h =
    at_drop_more (with_names set) names n name h.0 ∙ ap (λ (x : List ℕ). option_and_then (λ more. with_names more (drop (n + 1) names)) (with_name set x)) (sym h.1)

pub name_refused : (set n : ℕ) (names : List (List ℕ)) (name : List ℕ) → (n < length names) × (name ≡ get_or names n name) → with_name set name ≡ None
    → with_names set (drop n names) ≡ None
name_refused set n names name h none = one_name set n names name h ∙ rw none refl

pub name_taken : (set n more : ℕ) (names : List (List ℕ)) (name : List ℕ) → (n < length names) × (name ≡ get_or names n name) → with_name set name ≡ Some more
    → with_names set (drop n names) ≡ with_names more (drop (n + 1) names)
name_taken set n more names name h some = one_name set n names name h ∙ rw some refl
