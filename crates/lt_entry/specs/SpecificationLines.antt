-- The lines of an entry specification, as they are written.
use Rattle.std.specs.Prelude.{ℕ, ◌&&◌, Bool, true, not, if◌then◌else◌, List, [], ◌∷◌, ◌++◌, map, flat_map, codes, Option, Some, None}
use Rattle.std.specs.List.{list_all}
use Rattle.lt_model.specs.declared.operator.Op.{Op}
use Rattle.lt_model.specs.declared.operator.Op.TheVariants as op
use Rattle.lt_entry.specs.Written.{Numeral, numeral_word, is_numeral, is_name, PlaceWord, place_word, is_place, is_single, TargetWord, target_word, is_target}

-- ---- requirements

pub data Relation : Type 0 where
  at_most : Relation
  at_least : Relation
  equal_to : Relation

abbrev pub relation_word : Relation → List ℕ
relation_word at_most = codes "<="
relation_word at_least = codes ">="
relation_word equal_to = codes "=="

abbrev pub op_of : Relation → Op
op_of at_most = op.Le
op_of at_least = op.Ge
op_of equal_to = op.Eq

-- `PLACE` or `INT*PLACE`
pub record Term : Type 0 where
  pub factor : Option Numeral
  pub place : PlaceWord

abbrev pub factor_bytes : Option Numeral → List ℕ
factor_bytes None = []
factor_bytes (Some factor) = numeral_word factor ++ codes "*"

abbrev pub term_word : Term → List ℕ
term_word term = factor_bytes term.factor ++ place_word term.place

-- a term behind `+` or `-`
pub record Addend : Type 0 where
  pub is_minus : Bool
  pub term : Term

abbrev pub addend_words : Addend → List (List ℕ)
addend_words addend = (if addend.is_minus then codes "-" else codes "+") ∷ term_word addend.term ∷ []

pub record Sum : Type 0 where
  pub first : Term
  pub others : List Addend

-- a sum's terms, each behind its sign
abbrev pub addends : Sum → List Addend
addends sum = record { is_minus = not true; term = sum.first } ∷ sum.others

abbrev pub sum_words : Sum → List (List ℕ)
sum_words sum = term_word sum.first ∷ flat_map addend_words sum.others

-- ---- lines

pub data Line : Type 0 where
  entry_line : (name : List ℕ) → Line
  block_line : (name : List ℕ) (type : List (List ℕ)) (count : Numeral) → Line
  range_line : (place : PlaceWord) (low high : Numeral) → Line
  points_line : (place : PlaceWord) (targets : List TargetWord) → Line
  stub_line : (name : List ℕ) (low high : Numeral) → Line
  require_line : (sum : Sum) (relation : Relation) (constant : Numeral) → Line

abbrev pub line_words : Line → List (List ℕ)
line_words (entry_line name) = codes "entry" ∷ name ∷ []
line_words (block_line name type count) = codes "block" ∷ name ∷ type ++ numeral_word count ∷ []
line_words (range_line place low high) = codes "range" ∷ place_word place ∷ numeral_word low ∷ numeral_word high ∷ []
line_words (points_line place targets) = codes "points" ∷ place_word place ∷ map target_word targets
line_words (stub_line name low high) = codes "stub" ∷ name ∷ numeral_word low ∷ numeral_word high ∷ []
line_words (require_line sum relation constant) =
    codes "require" ∷ sum_words sum ++ relation_word relation ∷ numeral_word constant ∷ []

abbrev pub is_factor : Option Numeral → Bool
is_factor None = true
is_factor (Some factor) = is_numeral factor

-- `[*]` doesn't stand in a requirement
abbrev pub is_addend : Addend → Bool
is_addend addend = is_factor addend.term.factor && is_place addend.term.place && is_single addend.term.place

-- Its names, places and numbers are of their forms.
abbrev pub is_in_form : Line → Bool
is_in_form (entry_line name) = true
is_in_form (block_line name type count) = is_name name && is_numeral count
is_in_form (range_line place low high) = is_place place && is_numeral low && is_numeral high
is_in_form (points_line place targets) = is_place place && list_all is_target targets
is_in_form (stub_line name low high) = is_numeral low && is_numeral high
is_in_form (require_line sum relation constant) = list_all is_addend (addends sum) && is_numeral constant
