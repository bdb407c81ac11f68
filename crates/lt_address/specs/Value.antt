-- What a value stands for.
use Rattle.std.specs.Prelude.{◌≡◌, ℕ, ℤ, pos, ◌==◌, ◌↔◌, ◌≢◌, IsTrue, Bool, true, false, Option, Some, None, if◌then◌else◌}
use Rattle.lt_model.specs.declared.cell.Content.{Content}
use Rattle.lt_model.specs.declared.cell.Content.TheVariants as content
use Rattle.lt_address.specs.declared.value.Value.{Value}
use Rattle.lt_address.specs.Targets.{PointsTo, HasNumber}

-- A content, as values tell contents apart: a number, null, what was never set, an address in a block whose lifetime is over, or
-- the address at an offset in the living instance of an abstract block.
pub data Held : Type 0 where
  number : ℤ → Held
  null : Held
  unset : Held
  ended : Held
  within : ℕ → ℤ → Held

abbrev pub StandsFor : Value → Held → Type 0
StandsFor v (number z) = HasNumber v.num z
StandsFor v null = IsTrue v.null
StandsFor v unset = IsTrue v.unset
StandsFor v ended = IsTrue v.ended
StandsFor v (within block offset) = PointsTo v.targets.list.items block offset

-- ---- the contents of a memory
-- an address in a block that is the living instance of an abstract block, or in none
abbrev pub held_in : Option ℕ → ℕ → Held
held_in None offset = ended
held_in (Some block) offset = within block (pos offset)

-- a content, where `instance` gives the abstract block of which a block is the living instance, and none for other blocks
abbrev pub held_of : (ℕ → Option ℕ) → Content → Held
held_of instance content.Unset = unset
held_of instance (content.Number z) = number z
held_of instance (content.Address None) = null
held_of instance (content.Address (Some a)) = held_in (instance a.block) a.offset

-- ---- order and join
-- all that v stands for, w stands for
abbrev pub IsBelowValue : Value → Value → Type 0
IsBelowValue v w = (h : Held) → StandsFor v h → StandsFor w h

-- the least value that stands for all that a or b stands for
pub record IsJoinValue (a b v : Value) : Type 0 where
  pub left : IsBelowValue a v
  pub right : IsBelowValue b v
  pub least : (w : Value) → IsBelowValue a w → IsBelowValue b w → IsBelowValue v w

-- v stands for exactly what a does and the test lets through
abbrev pub IsPart : (Held → Type 0) → Value → Value → Type 0
IsPart takes a v = (h : Held) → StandsFor v h ↔ (StandsFor a h × takes h)

-- ---- truth
-- A number is true unless it is 0, and an address unless it is null; what was never set has no truth. The address of an ended
-- block isn't null.
abbrev pub IsTruthOf : Bool → Held → Type 0
IsTruthOf true (number z) = z ≢ pos 0
IsTruthOf true (within block offset) = Unit {0}
IsTruthOf true ended = Unit {0}
IsTruthOf true h = ⊥
IsTruthOf false (number z) = z ≡ pos 0
IsTruthOf false null = Unit {0}
IsTruthOf false h = ⊥

-- some of what v stands for is true, or false
abbrev pub CanBe : Bool → Value → Type 0
CanBe truth v = (h : Held) × StandsFor v h × IsTruthOf truth h

abbrev pub truth_number : Bool → ℤ
truth_number b = if b then pos 1 else pos 0

-- z is the truth of some of what v stands for, as a value of `_Bool`
abbrev pub IsTruthIn : Value → ℤ → Type 0
IsTruthIn v z = (b : Bool) × CanBe b v × (truth_number b ≡ z)

-- what a pointer holds where it is true, and where it is false: null is taken out or kept alone, and what was never set goes
abbrev pub IsPointerWith : Bool → Held → Type 0
IsPointerWith true h = (h ≢ null) × (h ≢ unset)
IsPointerWith false h = h ≡ null

-- ---- uses and ends
-- what a load may give: what was never set can't be used, nor an address in an ended block
abbrev pub IsUsable : Held → Type 0
IsUsable h = (h ≢ unset) × (h ≢ ended)

-- a content after the living instance of a block has ended
abbrev pub after_end : ℕ → Held → Held
after_end block (within b offset) = if b == block then ended else within b offset
after_end block h = h

-- the living instances, after that of a block has ended
abbrev pub unless_ended : ℕ → Option ℕ → Option ℕ
unless_ended block None = None
unless_ended block (Some b) = if b == block then None else Some b

abbrev pub without_instance : ℕ → (ℕ → Option ℕ) → ℕ → Option ℕ
without_instance block instance k = unless_ended block (instance k)

-- v stands for what a does, after the living instance of a block has ended
pub record IsAfterEnd (block : ℕ) (a v : Value) : Type 0 where
  pub same : (h : Held) → StandsFor v h ↔ ((g : Held) × StandsFor a g × (after_end block g ≡ h))
