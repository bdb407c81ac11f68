-- How lines are read from their words. `Laws` has that what is read is what the words write, and that each line of its form is read.
use Rattle.std.specs.Prelude.{ℕ, ◌==◌, Bool, true, false, if◌then◌else◌, List, [], ◌∷◌, codes, Option, Some, None, option_map, option_and_then}
use Rattle.std.specs.List.{slice_split}
use Rattle.std.specs.Str.{bytes_eq}
use Rattle.lt_entry.specs.Written.{Numeral, is_name, PlaceWord, TargetWord}
use Rattle.lt_entry.specs.SpecificationLines.{Relation, at_most, at_least, equal_to, Term, Addend, Line, entry_line, block_line, range_line, points_line, stub_line, require_line}
use Rattle.lt_entry.specs.Suites.{SuiteLine, test_line, set_line, point_line, values_line, is_test_name}
use Rattle.lt_entry.specs.Reading.{read_numeral, with_first, read_all, read_place, read_target, read_single, read_single_target}

-- ---- terms

abbrev pub parts_of_term : List ℕ → List (List ℕ)
parts_of_term word = slice_split (λ b. b == 42) word

abbrev pub factor_and_place : Option Numeral → Option PlaceWord → Option Term
factor_and_place (Some factor) (Some place) = Some (record { factor = Some factor; place = place })
factor_and_place _ _ = None

-- a factor and a place on both sides of an asterisk, or a place alone
abbrev pub term_from : (word : List ℕ) → List (List ℕ) → Option Term
term_from word (factor ∷ place ∷ []) = factor_and_place (read_numeral factor) (read_single place)
term_from word _ = option_map (λ p. record { factor = None; place = p }) (read_single word)

abbrev pub read_term : List ℕ → Option Term
read_term word = term_from word (parts_of_term word)

-- whether a sign is a minus
abbrev pub read_sign : List ℕ → Option Bool
read_sign word = if bytes_eq word (codes "+") then Some false else if bytes_eq word (codes "-") then Some true else None

abbrev pub sign_and_term : Option Bool → Option Term → Option Addend
sign_and_term (Some is_minus) (Some term) = Some (record { is_minus = is_minus; term = term })
sign_and_term _ _ = None

abbrev pub read_addend : (sign word : List ℕ) → Option Addend
read_addend sign word = sign_and_term (read_sign sign) (read_term word)

abbrev pub first_addend : List (List ℕ) → Option Addend
first_addend (sign ∷ word ∷ words) = read_addend sign word
first_addend _ = None

abbrev pub read_addends : List (List ℕ) → Option (List Addend)
read_addends [] = Some []
read_addends (sign ∷ []) = None
read_addends (sign ∷ word ∷ words) = with_first (read_addend sign word) (read_addends words)

abbrev pub read_relation : List ℕ → Option Relation
read_relation word =
    if bytes_eq word (codes "<=") then Some at_most
    else if bytes_eq word (codes ">=") then Some at_least
    else if bytes_eq word (codes "==") then Some equal_to
    else None

-- ---- the ends of lines

abbrev pub all_but_last : List (List ℕ) → List (List ℕ)
all_but_last [] = []
all_but_last (word ∷ []) = []
all_but_last (word ∷ words) = word ∷ all_but_last words

abbrev pub last_word : List (List ℕ) → Option (List ℕ)
last_word [] = None
last_word (word ∷ []) = Some word
last_word (word ∷ words) = last_word words

-- ---- lines of specifications, behind their first words

abbrev pub read_entry : List (List ℕ) → Option (List ℕ)
read_entry (name ∷ []) = Some name
read_entry _ = None

abbrev pub block_from : (name : List ℕ) (type : List (List ℕ)) → Option Numeral → Option Line
block_from name type count = if is_name name then option_map (block_line name type) count else None

abbrev pub read_block : List (List ℕ) → Option Line
read_block [] = None
read_block (name ∷ words) = block_from name (all_but_last words) (option_and_then read_numeral (last_word words))

abbrev pub range_from : Option PlaceWord → Option Numeral → Option Numeral → Option Line
range_from (Some place) (Some low) (Some high) = Some (range_line place low high)
range_from _ _ _ = None

abbrev pub read_range : List (List ℕ) → Option Line
read_range (place ∷ low ∷ high ∷ []) = range_from (read_place place) (read_numeral low) (read_numeral high)
read_range _ = None

abbrev pub points_from : Option PlaceWord → Option (List TargetWord) → Option Line
points_from (Some place) (Some targets) = Some (points_line place targets)
points_from _ _ = None

abbrev pub read_points : List (List ℕ) → Option Line
read_points [] = None
read_points (place ∷ targets) = points_from (read_place place) (read_all read_target targets)

abbrev pub stub_from : (name : List ℕ) → Option Numeral → Option Numeral → Option Line
stub_from name (Some low) (Some high) = Some (stub_line name low high)
stub_from name _ _ = None

abbrev pub read_stub : List (List ℕ) → Option Line
read_stub (name ∷ low ∷ high ∷ []) = stub_from name (read_numeral low) (read_numeral high)
read_stub _ = None

abbrev pub require_from : Option Term → Option (List Addend) → Option Relation → Option Numeral → Option Line
require_from (Some first) (Some others) (Some relation) (Some constant) = Some (require_line (record { first = first; others = others }) relation constant)
require_from _ _ _ _ = None

abbrev pub read_requirement : (sum : List (List ℕ)) (relation constant : List ℕ) → Option Line
read_requirement [] relation constant = None
read_requirement (first ∷ others) relation constant =
    require_from (read_term first) (read_addends others) (read_relation relation) (read_numeral constant)

abbrev pub requirement_before : (constant : List ℕ) (sum : List (List ℕ)) → Option (List ℕ) → Option Line
requirement_before constant sum None = None
requirement_before constant sum (Some relation) = read_requirement sum relation constant

abbrev pub read_require : List (List ℕ) → Option Line
read_require words =
    option_and_then (λ constant. requirement_before constant (all_but_last (all_but_last words)) (last_word (all_but_last words))) (last_word words)

-- a line with no place
abbrev pub read_short : (keyword : List ℕ) → List (List ℕ) → Option Line
read_short keyword words =
    if bytes_eq keyword (codes "entry") then option_map entry_line (read_entry words)
    else if bytes_eq keyword (codes "block") then read_block words
    else if bytes_eq keyword (codes "stub") then read_stub words
    else None

abbrev pub read_line : List (List ℕ) → Option Line
read_line [] = None
read_line (keyword ∷ words) =
    if bytes_eq keyword (codes "range") then read_range words
    else if bytes_eq keyword (codes "points") then read_points words
    else if bytes_eq keyword (codes "require") then read_require words
    else read_short keyword words

-- ---- lines of suites

abbrev pub read_test : List (List ℕ) → Option SuiteLine
read_test (name ∷ []) = if is_test_name name then Some (test_line name) else None
read_test _ = None

abbrev pub set_from : Option PlaceWord → Option Numeral → Option SuiteLine
set_from (Some place) (Some value) = Some (set_line place value)
set_from _ _ = None

abbrev pub read_set : List (List ℕ) → Option SuiteLine
read_set (place ∷ value ∷ []) = set_from (read_single place) (read_numeral value)
read_set _ = None

abbrev pub point_from : Option PlaceWord → Option TargetWord → Option SuiteLine
point_from (Some place) (Some target) = Some (point_line place target)
point_from _ _ = None

abbrev pub read_point : List (List ℕ) → Option SuiteLine
read_point (place ∷ target ∷ []) = point_from (read_single place) (read_single_target target)
read_point _ = None

abbrev pub read_values : List (List ℕ) → Option SuiteLine
read_values [] = None
read_values (stub ∷ values) = option_map (values_line stub) (read_all read_numeral values)

abbrev pub read_suite_line : List (List ℕ) → Option SuiteLine
read_suite_line [] = None
read_suite_line (keyword ∷ words) =
    if bytes_eq keyword (codes "set") then read_set words
    else if bytes_eq keyword (codes "point") then read_point words
    else if bytes_eq keyword (codes "stub") then read_values words
    else if bytes_eq keyword (codes "test") then read_test words
    else None
