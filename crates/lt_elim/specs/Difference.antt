-- Difference systems.
use Rattle.std.specs.Prelude.{pos, ◌+ℤ◌, ◌==◌, Bool, true, false, ◌&&◌, unsigned_abs, List, [], ◌∷◌}
use Rattle.std.specs.Ordering.{int_eq}
use Rattle.lt_lin.specs.declared.row.Row.{Row}
use Rattle.lt_lin.specs.Terms.{Term}

-- a factor is 1 or -1
abbrev pub is_unit : Term → Bool
is_unit t = unsigned_abs t.1 == 1

-- no variable, one, or two with opposite signs, with factors 1 or -1
abbrev pub is_difference : List Term → Bool
is_difference [] = true
is_difference (t ∷ []) = is_unit t
is_difference (s ∷ t ∷ []) = is_unit s && is_unit t && int_eq (s.1 +ℤ t.1) (pos 0)
is_difference (s ∷ t ∷ u ∷ ts) = false

abbrev pub are_differences : List Row → Bool
are_differences [] = true
are_differences (r ∷ rs) = is_difference r.terms && are_differences rs
