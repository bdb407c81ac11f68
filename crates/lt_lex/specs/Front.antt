-- The piece at the front of a text, as it is scanned.
use Rattle.std.specs.Prelude.{ℕ, ◌+◌, max, Bool, if◌then◌else◌, ◌==◌, List, [], ◌∷◌, length, take, drop, Option, Some, None, option_map, nat_eq}
use Rattle.std.specs.List.{prefix_len, starts_with}
use Rattle.std.specs.Char.{is_ascii_digit}
use Rattle.std.specs.Str.{byte}
use Rattle.lt_token.specs.declared.piece.Class.{Class}
use Rattle.lt_token.specs.declared.piece.Class.TheVariants as class
use Rattle.lt_token.specs.declared.piece.Form.{Form}
use Rattle.lt_token.specs.declared.piece.Form.TheVariants as form
use Rattle.lt_token.specs.declared.piece.Part.{Part}
use Rattle.lt_token.specs.declared.piece.Part.TheVariants as part
use Rattle.lt_token.specs.declared.lexeme.Sort.{Sort}
use Rattle.lt_token.specs.declared.lexeme.Sort.TheVariants as sort
use Rattle.lt_token.specs.Bytes.{class_of, is_word_byte, is_blank, is_in_line, quote, apostrophe}
use Rattle.lt_token.specs.Parts.{after, is_whole, first_digit}
use Rattle.lt_token.specs.Words.{is_among, punctuators, literal_prefixes}
use Rattle.lt_token.specs.Lexemes.{sort_of, is_closed_text}

-- the last place so far where the bytes may end
abbrev pub latest : Part → ℕ → Option ℕ → Option ℕ
latest p at best = if is_whole p then Some at else best

-- the last place where the bytes from this place on may end
abbrev pub reach : Part → ℕ → Option ℕ → List ℕ → Option ℕ
reach p at best [] = latest p at best
reach p at best (b ∷ bs) = reach (after p b) (at + 1) (latest p at best) bs

-- the length of the longest of the words that begins the text
abbrev pub longest_front : List (List ℕ) → List ℕ → ℕ
longest_front [] text = 0
longest_front (w ∷ ws) text = if starts_with nat_eq text w then max (length w) (longest_front ws text) else longest_front ws text

abbrev pub punctuator : List ℕ → Option (Form × ℕ)
punctuator text = if longest_front punctuators text == 0 then None else Some (form.Punctuator, longest_front punctuators text)

-- the length where the string of that length is closed
abbrev pub closed_len : Option ℕ → List ℕ → Option ℕ
closed_len None text = None
closed_len (Some n) text = if is_closed_text (take n text) then Some n else None

abbrev pub literal_len : List ℕ → Option ℕ
literal_len [] = None
literal_len (b ∷ bs) =
    if b == quote then closed_len (reach part.Text 1 None bs) (b ∷ bs) else (if b == apostrophe then reach part.Character 1 None bs else None)

abbrev pub prefixed : ℕ → Option ℕ → Form × ℕ
prefixed n None = (form.Word, n)
prefixed n (Some m) = (form.Prefixed, n + m)

-- a word of this length, or a literal with that prefix
abbrev pub word : ℕ → List ℕ → Form × ℕ
word n text = if is_among (take n text) literal_prefixes then prefixed n (literal_len (drop n text)) else (form.Word, n)

-- after a point
abbrev pub dot : List ℕ → List ℕ → Option (Form × ℕ)
dot [] text = punctuator text
dot (b ∷ bs) text = if is_ascii_digit b then option_map (λ n. (form.Number, n)) (reach part.Fraction 2 None bs) else punctuator text

-- after a slash
abbrev pub slash : List ℕ → List ℕ → Option (Form × ℕ)
slash [] text = punctuator text
slash (b ∷ bs) text =
    if b == byte "/" then Some (form.LineComment, 2 + prefix_len is_in_line bs)
    else (if b == byte "*" then option_map (λ n. (form.BlockComment, n)) (reach part.Comment 2 None bs) else punctuator text)

abbrev pub front_at : Bool → Class → ℕ → List ℕ → List ℕ → Option (Form × ℕ)
front_at fresh class.Letter b bs text = Some (word (prefix_len is_word_byte text) text)
front_at fresh class.Digit b bs text = option_map (λ n. (form.Number, n)) (reach (first_digit b) 1 None bs)
front_at fresh class.Dot b bs text = dot bs text
front_at fresh class.Blank b bs text = Some (form.Blank, 1 + prefix_len is_blank bs)
front_at fresh class.Quote b bs text = option_map (λ n. (form.Text, n)) (reach part.Text 1 None bs)
front_at fresh class.Apostrophe b bs text = option_map (λ n. (form.Character, n)) (reach part.Character 1 None bs)
front_at fresh class.Hash b bs text = if fresh then Some (form.Marker, 1 + prefix_len is_in_line bs) else None
front_at fresh class.Slash b bs text = slash bs text
front_at fresh class.Sign b bs text = punctuator text

unfoldable pub front : Bool → List ℕ → Option (Form × ℕ)
front fresh [] = None
front fresh (b ∷ bs) = front_at fresh (class_of b) b bs (b ∷ bs)

-- what is cut off, and how long it is
abbrev pub cut_at : Option (Form × ℕ) → List ℕ → Option Sort × ℕ
cut_at None text = (Some sort.Malformed, 1)
cut_at (Some found) text = (sort_of found.0 (take found.1 text), found.1)

unfoldable pub first_cut : Bool → List ℕ → Option Sort × ℕ
first_cut fresh text = cut_at (front fresh text) text
