-- What follows from the definitions of the canonical text.
use Rattle.std.specs.Prelude.{◌≡◌, ℕ, List, None}
use Rattle.lt_token.specs.Tokens.{Token, Lexes}
use Rattle.lt_tree.specs.Tree.{Unit}
use Rattle.lt_tree.specs.CanonUnits.{canon}
use Rattle.lt_tree.specs.Units.{IsWellMade, Derives}

-- The tokens of a text derive this unit, and no other.
pub record IsOfUnitAlone (text : List ℕ) (unit : Unit) : Type 0 where
  pub tokens : List Token
  pub spots : List ℕ
  pub lexes : Lexes text tokens None
  pub derives : Derives tokens unit spots
  pub alone : (other : Unit) (places : List ℕ) → Derives tokens other places → other ≡ unit

-- So it is with the canonical text of a unit.
abbrev pub CanonicalTextIsOfUnitAlone : Type 0
CanonicalTextIsOfUnitAlone = (unit : Unit) → IsWellMade unit → IsOfUnitAlone (canon unit) unit
