-- String literals and parameters of type names: each is an object of its own.
use Rattle.std.specs.Prelude.{◌≡◌, ℕ, ◌<◌, Bool, true, List, [], ◌∷◌, ◌++◌, length, Some}
use Rattle.lt_tree.specs.Typing.Entities.{Known, Object, unmade, an_object, meaning_of}
use Rattle.lt_tree.specs.Typing.NodeEnds.{text_object}

-- Objects, and after them those of string literals and parameters of type names, where these are allowed: such a parameter is never made.
pub data HasMoreTexts (texts : Bool) (first : List Object) : List Object → Type 0 where
  none_more : HasMoreTexts texts first first
  one_more : {objects : List Object} (node : ℕ) (known : Known) (bytes : List ℕ) → texts ≡ true → HasMoreTexts texts first objects
      → HasMoreTexts texts first (objects ++ text_object node known bytes ∷ [])
  one_unmade : {objects : List Object} (object : Object) → texts ≡ true → object.life ≡ unmade → HasMoreTexts texts first objects
      → HasMoreTexts texts first (objects ++ object ∷ [])

-- Each object that has a name in scope is known.
abbrev pub NamesObjects : Known → Type 0
NamesObjects known = (name : List ℕ) (n : ℕ) (is_register : Bool) → meaning_of name known ≡ Some (an_object n is_register) → n < length known.objects
