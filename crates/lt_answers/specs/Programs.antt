-- The program that the text of FILE spells, and the first reason why it spells none.
use Rattle.std.specs.Prelude.{◌≡◌, ◌⊎◌, ℕ, List, map, length, slice_get, Some, Contains}
use Rattle.lt_model.specs.declared.scalar.DataModel.{DataModel}
use Rattle.lt_token.specs.Tokens.{Token, no_token, unsupported_word}
use Rattle.lt_token.specs.Answer.{IsAnswer, lexed, refused, too_nested}
use Rattle.lt_tree.specs.Tree.{Unit as SourceUnit}
use Rattle.lt_tree.specs.Units.{Derives}
use Rattle.lt_tree.specs.Typing.Rules.{Rule, number_of}
use Rattle.lt_tree.specs.Typing.Programs.{Program}
use Rattle.lt_tree.specs.Typing.UnitTyping.{IsProgramOf, BreaksFirst}
use Rattle.lt_answers.specs.declared.status.Refusal.{Refusal}
use Rattle.lt_answers.specs.declared.status.Refusal.TheVariants.{Lex, Unsupported, TooNested, Syntax, Typing}

-- The text is tokens that derive this unit, whose nodes begin at these bytes.
pub record Spells (text : List ℕ) (unit : SourceUnit) (spots : List ℕ) : Type 0 where
  pub tokens : List Token
  pub lexes : IsAnswer text (lexed tokens)
  pub derives : Derives tokens unit spots

-- some tokens derive this unit, whose nodes begin at these bytes
abbrev pub IsDerived : SourceUnit → List ℕ → Type 0
IsDerived unit spots = (tokens : List Token) × Derives tokens unit spots

-- The text spells a unit whose typed program this is.
pub record IsProgram (model : DataModel) (text : List ℕ) (program : Program) : Type 0 where
  pub unit : SourceUnit
  pub spots : List ℕ
  pub spells : Spells text unit spots
  pub typed : IsProgramOf model unit program

-- where a token begins, or where the text ends
abbrev pub IsPlaceIn : List ℕ → List Token → ℕ → Type 0
IsPlaceIn text tokens at = Contains (map (λ t. t.at) tokens) at ⊎ (at ≡ length text)

-- Why a text spells no unit: no token begins at a byte, a word isn't supported, a token nests too deeply, or the tokens derive no unit.
pub data SpellsNone (text : List ℕ) : Refusal → Type 0 where
  no_token_there : {at : ℕ} → IsAnswer text (refused (no_token at)) → SpellsNone text (Lex at)
  word_not_supported : {word : List ℕ} {at : ℕ} → IsAnswer text (refused (unsupported_word word at)) → SpellsNone text (Unsupported word at)
  nests_too_deeply : {at : ℕ} → IsAnswer text (too_nested at) → SpellsNone text (TooNested at)
  derives_none : {tokens : List Token} {at : ℕ} → IsAnswer text (lexed tokens) → IsPlaceIn text tokens at
      → ((unit : SourceUnit) (spots : List ℕ) → Derives tokens unit spots → ⊥) → SpellsNone text (Syntax at)

-- Why a text has no program: it spells no unit, or the unit breaks a rule of typing, first at the node that begins at a byte.
pub data HasNoProgram (model : DataModel) (text : List ℕ) : Refusal → Type 0 where
  spells_none : {why : Refusal} → SpellsNone text why → HasNoProgram model text why
  breaks_rule : {unit : SourceUnit} {spots : List ℕ} {rule : Rule} {node at : ℕ} → Spells text unit spots
      → BreaksFirst model unit rule node → slice_get spots node ≡ Some at → HasNoProgram model text (Typing (number_of rule) at)
