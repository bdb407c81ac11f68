-- Where a number stands first in a list.
use Rattle.std.specs.Prelude.{ℕ, suc, ◌==◌, ◌<◌, if◌then◌else◌, List, [], ◌∷◌, Option, Some, None, IfSome, option_map, option_and_then, slice_get}
use Rattle.std.specs.List.{All}

abbrev pub first_place : ℕ → List ℕ → Option ℕ
first_place n [] = None
first_place n (m ∷ ms) = if m == n then Some 0 else option_map suc (first_place n ms)

-- of a number that may be absent
abbrev pub place_among : List ℕ → Option ℕ → Option ℕ
place_among numbers number = option_and_then (λ n. first_place n numbers) number

-- what stands at a place that may be absent
abbrev pub at_place : {A : Type 0} → List A → Option ℕ → Option A
at_place list place = option_and_then (slice_get list) place

-- each that is there stands for an element of a list of this length
abbrev pub AreIndicesBelow : ℕ → List (Option ℕ) → Type 0
AreIndicesBelow count indices = All (λ index. IfSome index (λ i. i < count)) indices
