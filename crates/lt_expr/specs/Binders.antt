-- Names in scope, of the code.
use Rattle.std.specs.Prelude.{◌≡◌, ℕ, if◌then◌else◌, List, [], ◌∷◌, map, reverse, length, Option, Some, None}
use Rattle.std.specs.Global.{Vec}
use Rattle.std.specs.HashMap.{HashMap, get_by}
use Rattle.std.specs.Str.{bytes_eq}
use Rattle.lt_tree.specs.Scope as scope
use Rattle.lt_tree.specs.Scope.{Scope}
use Rattle.lt_expr.specs.declared.typedefs.Binder.{Binder}

abbrev pub binder_of : Binder → scope.Binder
binder_of b = record { name = b.name; is_type = b.is_type }

-- binders, of which the innermost is the last
abbrev pub scope_in : List Binder → Scope
scope_in binders = map binder_of (reverse binders)

-- where the innermost binder of a name stands, counted from the outermost
abbrev pub place : Scope → List ℕ → Option ℕ
place [] w = None
place (binder ∷ scope) w = if bytes_eq binder.name w then Some (length scope) else place scope w

-- each binder, the innermost first, has the place of the one that it hides
abbrev pub KnowHidden : List Binder → Type 0
KnowHidden [] = Unit {0}
KnowHidden (b ∷ outer) = (b.hidden ≡ place (map binder_of outer) b.name) × KnowHidden outer

-- the place that a map has for a name
abbrev pub place_in : {S : Type 0} → HashMap (Vec ℕ) ℕ S → List ℕ → Option ℕ
place_in newest w = get_by (λ key. bytes_eq w key.items) newest

-- The map finds the innermost binders.
pub record Agree {S : Type 0} (binders : List Binder) (newest : HashMap (Vec ℕ) ℕ S) : Type 0 where
  pub places : (w : List ℕ) → place_in newest w ≡ place (scope_in binders) w
  pub hidden : KnowHidden (reverse binders)
