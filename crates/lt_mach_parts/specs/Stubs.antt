-- The values that are left for functions without a body, as they lie in memory: the sets of an input, and how many values of each
-- were taken.
use Rattle.std.specs.Prelude.{◌≡◌, ℕ, suc, ℤ, List, [], ◌∷◌, drop, Option, Some, None, if◌then◌else◌}
use Rattle.std.specs.Borrow.{Bor}
use Rattle.std.specs.BTreeMap.{BTreeMap, get_by}
use Rattle.std.specs.Cmp.Lexicographic.{slice_cmp}
use Rattle.std.specs.Ordering.{nat_cmp}
use Rattle.std.specs.Str.{bytes_eq}
use Rattle.lt_model.specs.declared.input.StubSet.{StubSet}
use Rattle.lt_model.specs.State.{Left}

abbrev pub left_of : StubSet → ℕ → Left
left_of set taken = record { stub = set.name; values = drop taken set.values }

abbrev pub lefts_after : List StubSet → List ℕ → List Left
lefts_after (set ∷ sets) (n ∷ ns) = left_of set n ∷ lefts_after sets ns
lefts_after sets ns = []

-- a value, and what is left then
abbrev pub with_left : Option ℤ → List Left → Option (ℤ × List Left)
with_left None lefts = None
with_left (Some z) lefts = Some (z, lefts)

-- ---- places of names

-- the place of the first set of a name, where the first of all has this place
abbrev pub place_from : ℕ → List StubSet → List ℕ → Option ℕ
place_from n [] name = None
place_from n (set ∷ sets) name = if bytes_eq set.name name then Some n else place_from (suc n) sets name

abbrev pub found : BTreeMap (Bor (List ℕ)) ℕ → List ℕ → Option ℕ
found places name = get_by (λ k. slice_cmp nat_cmp name k.now) places

-- the sets have these places by their names
abbrev pub ArePlacesFrom : ℕ → List StubSet → BTreeMap (Bor (List ℕ)) ℕ → Type 0
ArePlacesFrom n sets places = (name : List ℕ) → found places name ≡ place_from n sets name
