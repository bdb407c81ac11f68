-- Tags in scope, and that going over a part of a unit keeps them there.
use Rattle.std.specs.Prelude.{◌≡◌, ◌≤◌, ℕ, true, List, length, is_some}
use Rattle.std.specs.List.{AllByRecursion}
use Rattle.lt_tree.specs.Typing.Entities.{Known, Frame, tagged_in}
use Rattle.lt_tree.specs.Typing.Steps.{Outcome, Goes, Breaks}
use Rattle.lt_objectives.specs.Tags.{Tags}

abbrev pub IsInScope : List Frame → List ℕ → Type 0
IsInScope frames tag = is_some (tagged_in tag frames) ≡ true

abbrev pub AreInScope : List Frame → Tags → Type 0
AreInScope frames tags = AllByRecursion (IsInScope frames) tags

-- As many scopes are open at the second place as at the first; what is in scope stays so, and these tags come into it.
pub record Keeps (named : Tags) (known next : Known) : Type 0 where
  pub depth : length next.frames ≡ length known.frames
  pub stays : (tag : List ℕ) → IsInScope known.frames tag → IsInScope next.frames tag
  pub comes : 1 ≤ length known.frames → AreInScope next.frames named

-- so where going over a part goes on
abbrev pub KeepsBehind : {A : Type 0} → Tags → Known → Outcome A → Type 0
KeepsBehind named known (Goes a next) = Keeps named known next
KeepsBehind named known (Breaks rule node) = Unit {0}
