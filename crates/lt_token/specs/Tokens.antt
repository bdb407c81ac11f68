-- The tokens of a text, and the first place where it has none.
use Rattle.std.specs.Prelude.{◌≡◌, ℕ, zero, suc, ◌+◌, ◌-◌, ◌≤◌, ◌<◌, Bool, true, false, ◌||◌, if◌then◌else◌, List, [], ◌∷◌, length, take, drop, codes, Option, Some, None}
use Rattle.std.specs.Str.{bytes_eq}
use Rattle.lt_token.specs.declared.kind.Kind.{Kind}
use Rattle.lt_token.specs.declared.kind.Kind.TheVariants as kind
use Rattle.lt_token.specs.declared.lexeme.Sort.{Sort}
use Rattle.lt_token.specs.declared.lexeme.Sort.TheVariants as sort
use Rattle.lt_token.specs.declared.lexeme.Role.{Role}
use Rattle.lt_token.specs.declared.lexeme.Role.TheVariants as role
use Rattle.lt_token.specs.Words.{is_among, keywords, respelled, word_of, skipped, attributes, assemblers, unsupported}
use Rattle.lt_token.specs.Lexemes.{Lexeme, Cuts}

-- a token: its kind, its bytes as they stand in the text, and the place of the first
pub record Token : Type 0 where
  pub kind : Kind
  pub text : List ℕ
  pub at : ℕ

-- the word that a token stands for, as `const` for `__const`
abbrev pub word : Token → List ℕ
word t = word_of t.text

-- a token that separates or brackets
abbrev pub is_mark : List ℕ → Sort → List ℕ → Bool
is_mark mark sort.Punctuator text = bytes_eq text mark
is_mark mark _ text = false

abbrev pub opens : Lexeme → Bool
opens l = is_mark (codes "(") l.sort l.text

abbrev pub closes : Lexeme → Bool
closes l = is_mark (codes ")") l.sort l.text

-- What becomes of a word. `trails` says that it stands directly behind an identifier, `)` or `]`.
abbrev pub role_of_word : Bool → List ℕ → Role
role_of_word trails w =
    if is_among w skipped then role.Skipped
    else (if is_among w attributes then role.SkippedGroup
    else (if is_among w assemblers then (if trails then role.SkippedGroup else role.Unsupported)
    else (if is_among w unsupported then role.Unsupported
    else (if is_among w keywords || is_among w respelled then role.Token kind.Keyword
    else role.Token kind.Identifier))))

abbrev pub role_of : Bool → Sort → List ℕ → Role
role_of trails sort.Word w = role_of_word trails w
role_of trails sort.Integer w = role.Token kind.Integer
role_of trails sort.Character w = role.Token kind.Character
role_of trails sort.Text w = role.Token kind.Text
role_of trails sort.Punctuator w = role.Token kind.Punctuator
role_of trails sort.Foreign w = role.Unsupported
role_of trails sort.Malformed w = role.Malformed

-- an `asm` behind this token trails
abbrev pub trails_after : Kind → List ℕ → Bool
trails_after kind.Identifier w = true
trails_after kind.Punctuator w = bytes_eq w (codes ")") || bytes_eq w (codes "]")
trails_after _ w = false

-- how many parentheses are open behind a lexeme
abbrev pub depth_after : ℕ → Lexeme → ℕ
depth_after depth l = if opens l then depth + 1 else (if closes l then depth - 1 else depth)

-- what is left behind the closing of this many parentheses, if they are closed
abbrev pub after_closing : ℕ → List Lexeme → Option (List Lexeme)
after_closing zero ls = Some ls
after_closing (suc depth) [] = None
after_closing (suc depth) (l ∷ ls) = after_closing (depth_after (suc depth) l) ls

-- what is left behind balanced parentheses, if the lexemes begin with them
abbrev pub after_group : List Lexeme → Option (List Lexeme)
after_group [] = None
after_group (l ∷ ls) = if opens l then after_closing 1 ls else None

-- why a text has no more tokens
pub data Refusal : Type 0 where
  no_token : (at : ℕ) → Refusal
  unsupported_word : (word : List ℕ) (at : ℕ) → Refusal

abbrev pub token_at : Kind → Lexeme → Token
token_at k l = record { kind = k; text = l.text; at = l.at }

-- The lexemes have these tokens, up to the first refusal, if there is one.
pub data Reads : (trails : Bool) → (lexemes : List Lexeme) → (tokens : List Token) → (refusal : Option Refusal) → Type 0 where
  ended : {trails : Bool} → Reads trails [] [] None
  token : {trails : Bool} {ls : List Lexeme} {ts : List Token} {refusal : Option Refusal} (l : Lexeme) (k : Kind)
      → role_of trails l.sort l.text ≡ role.Token k → Reads (trails_after k l.text) ls ts refusal
      → Reads trails (l ∷ ls) (token_at k l ∷ ts) refusal
  skips : {trails : Bool} {ls : List Lexeme} {ts : List Token} {refusal : Option Refusal} (l : Lexeme)
      → role_of trails l.sort l.text ≡ role.Skipped → Reads trails ls ts refusal → Reads trails (l ∷ ls) ts refusal
  skips_group : {trails : Bool} {ls : List Lexeme} {ts : List Token} {refusal : Option Refusal} (l : Lexeme) (rest : List Lexeme)
      → role_of trails l.sort l.text ≡ role.SkippedGroup → after_group ls ≡ Some rest
      → Reads trails rest ts refusal → Reads trails (l ∷ ls) ts refusal
  unbalanced : {trails : Bool} {ls : List Lexeme} (l : Lexeme)
      → role_of trails l.sort l.text ≡ role.SkippedGroup → after_group ls ≡ None → Reads trails (l ∷ ls) [] (Some (no_token l.at))
  refuses : {trails : Bool} {ls : List Lexeme} (l : Lexeme)
      → role_of trails l.sort l.text ≡ role.Unsupported → Reads trails (l ∷ ls) [] (Some (unsupported_word l.text l.at))
  malformed : {trails : Bool} {ls : List Lexeme} (l : Lexeme)
      → role_of trails l.sort l.text ≡ role.Malformed → Reads trails (l ∷ ls) [] (Some (no_token l.at))

-- The text has these tokens, up to the first refusal, if there is one.
pub record Lexes (text : List ℕ) (tokens : List Token) (refusal : Option Refusal) : Type 0 where
  pub lexemes : List Lexeme
  pub cuts : Cuts true 0 text lexemes
  pub reads : Reads false lexemes tokens refusal

-- The tokens stand in order from this place of the source on, each a slice of it, and don't overlap.
abbrev pub ArePlaced : List ℕ → ℕ → List Token → Type 0
ArePlaced source from [] = from ≤ length source
ArePlaced source from (t ∷ ts) =
    (from ≤ t.at) × (0 < length t.text) × (t.text ≡ take (length t.text) (drop t.at source)) × ArePlaced source (t.at + length t.text) ts

-- The tokens stand in order from this place on, before the end, and don't overlap.
abbrev pub AreApart : ℕ → List Token → ℕ → Type 0
AreApart from [] end = from ≤ end
AreApart from (t ∷ ts) end = (from ≤ t.at) × (0 < length t.text) × AreApart (t.at + length t.text) ts end
