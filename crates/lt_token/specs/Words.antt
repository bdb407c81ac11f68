-- The words and punctuators of C11, and which words are read, skipped or refused.
use Rattle.std.specs.Prelude.{ℕ, Bool, ◌||◌, if◌then◌else◌, List, [], ◌∷◌, codes}
use Rattle.std.specs.List.{list_any}
use Rattle.std.specs.Str.{bytes_eq}

abbrev pub is_among : List ℕ → List (List ℕ) → Bool
is_among w words = list_any (λ p. bytes_eq w p) words

-- C11 6.4.1
unfoldable pub keywords : List (List ℕ)
keywords =
    codes "auto" ∷ codes "break" ∷ codes "case" ∷ codes "char" ∷ codes "const" ∷ codes "continue" ∷ codes "default" ∷ codes "do"
    ∷ codes "double" ∷ codes "else" ∷ codes "enum" ∷ codes "extern" ∷ codes "float" ∷ codes "for" ∷ codes "goto" ∷ codes "if"
    ∷ codes "inline" ∷ codes "int" ∷ codes "long" ∷ codes "register" ∷ codes "restrict" ∷ codes "return" ∷ codes "short"
    ∷ codes "signed" ∷ codes "sizeof" ∷ codes "static" ∷ codes "struct" ∷ codes "switch" ∷ codes "typedef" ∷ codes "union"
    ∷ codes "unsigned" ∷ codes "void" ∷ codes "volatile" ∷ codes "while" ∷ codes "_Alignas" ∷ codes "_Alignof" ∷ codes "_Atomic"
    ∷ codes "_Bool" ∷ codes "_Complex" ∷ codes "_Generic" ∷ codes "_Imaginary" ∷ codes "_Noreturn" ∷ codes "_Static_assert"
    ∷ codes "_Thread_local" ∷ []

-- C11 6.4.6, without digraphs and what only the preprocessor reads
unfoldable pub punctuators : List (List ℕ)
punctuators =
    codes "[" ∷ codes "]" ∷ codes "(" ∷ codes ")" ∷ codes "{" ∷ codes "}" ∷ codes "." ∷ codes "->"
    ∷ codes "++" ∷ codes "--" ∷ codes "&" ∷ codes "*" ∷ codes "+" ∷ codes "-" ∷ codes "~" ∷ codes "!"
    ∷ codes "/" ∷ codes "%" ∷ codes "<<" ∷ codes ">>" ∷ codes "<" ∷ codes ">" ∷ codes "<=" ∷ codes ">=" ∷ codes "==" ∷ codes "!="
    ∷ codes "^" ∷ codes "|" ∷ codes "&&" ∷ codes "||" ∷ codes "?" ∷ codes ":" ∷ codes ";" ∷ codes "..."
    ∷ codes "=" ∷ codes "*=" ∷ codes "/=" ∷ codes "%=" ∷ codes "+=" ∷ codes "-=" ∷ codes "<<=" ∷ codes ">>=" ∷ codes "&=" ∷ codes "^=" ∷ codes "|="
    ∷ codes "," ∷ []

-- other spellings of keywords
unfoldable pub spells_const : List ℕ
spells_const = codes "__const"

unfoldable pub spells_volatile : List ℕ
spells_volatile = codes "__volatile__"

unfoldable pub spells_signed : List ℕ
spells_signed = codes "__signed__"

unfoldable pub respelled : List (List ℕ)
respelled = spells_const ∷ spells_volatile ∷ spells_signed ∷ []

-- The word that a spelling stands for: itself, but for the other spellings of keywords.
unfoldable pub word_of : List ℕ → List ℕ
word_of w =
    if bytes_eq w spells_const then codes "const"
    else (if bytes_eq w spells_volatile then codes "volatile" else (if bytes_eq w spells_signed then codes "signed" else w))

-- words that are read and leave nothing
unfoldable pub skipped : List (List ℕ)
skipped =
    codes "__extension__" ∷ codes "__inline" ∷ codes "__inline__" ∷ codes "__restrict" ∷ codes "__restrict__" ∷ codes "restrict" ∷ []

-- words that are skipped with the parentheses behind them
unfoldable pub attributes : List (List ℕ)
attributes = codes "__attribute__" ∷ []

-- skipped with the parentheses behind them after an identifier, `)` or `]`, and else unsupported
unfoldable pub assemblers : List (List ℕ)
assemblers = codes "__asm__" ∷ codes "__asm" ∷ codes "asm" ∷ []

unfoldable pub unsupported : List (List ℕ)
unsupported =
    codes "union" ∷ codes "goto" ∷ codes "_Atomic" ∷ codes "_Thread_local" ∷ codes "__thread" ∷ codes "_Complex" ∷ codes "__complex__"
    ∷ codes "_Imaginary" ∷ codes "_Generic" ∷ codes "_Alignas" ∷ codes "_Alignof" ∷ codes "__alignof__" ∷ codes "_Static_assert"
    ∷ codes "typeof" ∷ codes "__typeof__" ∷ codes "__builtin_va_arg" ∷ codes "__label__" ∷ codes "__int128" ∷ codes "_Float128" ∷ []

-- the names of annotations
unfoldable pub annotations : List (List ℕ)
annotations = codes "pc_label" ∷ codes "pc_label_bind" ∷ codes "pc_decide" ∷ codes "pc_after" ∷ []

-- a word that has the form of an identifier and is none: a keyword of C11 6.4.1 in any of its spellings, a word that the lexer skips
-- or that isn't supported, or the name of an annotation
abbrev pub is_no_identifier : List ℕ → Bool
is_no_identifier word =
    is_among word keywords || is_among word respelled || is_among word skipped || is_among word attributes || is_among word assemblers
    || is_among word unsupported || is_among word annotations

-- what stands behind the `#` of a line that is skipped, if no digit does
unfoldable pub directives : List (List ℕ)
directives = codes "line" ∷ codes "pragma" ∷ codes "ident" ∷ []

-- C11 6.4.4.1: `u` and `l` or `ll` in either order, each in one case
unfoldable pub integer_suffixes : List (List ℕ)
integer_suffixes =
    [] ∷ codes "u" ∷ codes "U" ∷ codes "l" ∷ codes "L" ∷ codes "ll" ∷ codes "LL"
    ∷ codes "ul" ∷ codes "uL" ∷ codes "Ul" ∷ codes "UL" ∷ codes "ull" ∷ codes "uLL" ∷ codes "Ull" ∷ codes "ULL"
    ∷ codes "lu" ∷ codes "lU" ∷ codes "Lu" ∷ codes "LU" ∷ codes "llu" ∷ codes "llU" ∷ codes "LLu" ∷ codes "LLU" ∷ []

-- C11 6.4.4.4 and 6.4.5
unfoldable pub literal_prefixes : List (List ℕ)
literal_prefixes = codes "u8" ∷ codes "u" ∷ codes "U" ∷ codes "L" ∷ []
