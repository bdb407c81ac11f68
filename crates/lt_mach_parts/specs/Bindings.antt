-- The objects of variables as they lie in memory, the innermost last.
use Rattle.std.specs.Prelude.{ℕ, suc, List, [], ◌∷◌, ◌++◌, Option, Some, None, Bool, true, false, if◌then◌else◌}
use Rattle.lt_ir.specs.declared.variable.Variable.{Variable}
use Rattle.lt_ir.specs.Running.{Bound, same_variable, is_static}
pub use Rattle.lt_mach_parts.specs.declared.bounds.HeldBound.{HeldBound}

abbrev pub bound_of : HeldBound → Bound
bound_of it = record { variable = it.variable; block = it.block }

-- the last one first
abbrev pub scope_of : List HeldBound → List Bound
scope_of [] = []
scope_of (it ∷ its) = scope_of its ++ bound_of it ∷ []

abbrev pub further_on : Option ℕ → Option ℕ → Option ℕ
further_on None here = here
further_on (Some k) here = Some (suc k)

-- the place of the last one of a variable
abbrev pub last_of : List HeldBound → Variable → Option ℕ
last_of [] v = None
last_of (it ∷ its) v = further_on (last_of its v) (if same_variable it.variable v then Some 0 else None)

-- whether no object is there from the start
abbrev pub are_own : List Bound → Bool
are_own [] = true
are_own (bound ∷ scope) = if is_static bound.variable then false else are_own scope
