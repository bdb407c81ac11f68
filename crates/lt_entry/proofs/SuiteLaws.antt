-- A line of a suite that is read is the one that its words write, and every line is read.
use Rattle.std.proofs.Common.{◌≡◌, ℕ, Bool, true, false, List, [], ◌∷◌, Option, Some, None, refl, sym, ◌∙◌, ap, subst}
use Rattle.std.specs.Prelude.{◌&&◌, if◌then◌else◌, codes, option_map}
use Rattle.std.specs.Str.{bytes_eq}
use Rattle.std.proofs.lemmas.Slice.Eq.{bytes_eq-Decides}
use Rattle.lt_entry.specs.Written.{Numeral, numeral_word, is_numeral, PlaceWord, is_place, is_single, TargetWord, is_target, is_single_target}
use Rattle.lt_entry.specs.Suites.{SuiteLine, test_line, set_line, point_line, values_line, suite_words, is_suite_form, is_test_name}
use Rattle.lt_entry.specs.Reading.{read_numeral, read_all, read_single, read_single_target}
use Rattle.lt_entry.specs.ReadingLines.{read_test, set_from, read_set, point_from, read_point, read_values, read_suite_line}
use Rattle.lt_entry.specs.Laws.{SuiteLinesAreRead}
use Rattle.lt_entry.proofs.NumeralLaws.{numeral_read, numeral_said}
use Rattle.lt_entry.proofs.PieceLaws.{both}
use Rattle.lt_entry.proofs.AllRead.{all_read, all_said}
use Rattle.lt_entry.proofs.WrittenRead.{single_said, single_read, target_said, target_read}

-- ---- lines that are written

pub line_read : (line : SuiteLine) → is_suite_form line ≡ true → read_suite_line (suite_words line) ≡ Some line
line_read (test_line name) h = rw h refl
line_read (set_line place value) h =
    let hs = both (is_place place && is_single place) (is_numeral value) h in
    let ps = both (is_place place) (is_single place) hs.0 in
    rw (single_read place ps.0 ps.1, numeral_read value hs.1) refl
line_read (point_line place target) h =
    let hs = both (is_place place && is_single place && is_target target) (is_single_target target) h in
    let gs = both (is_place place && is_single place) (is_target target) hs.0 in
    let ps = both (is_place place) (is_single place) gs.0 in
    rw (single_read place ps.0 ps.1, target_read target gs.1 hs.1) refl
line_read (values_line stub values) h = rw (all_read read_numeral numeral_word is_numeral numeral_read values h) refl

-- ---- lines that are read

-- the line is of its form, and these are its words
abbrev WritesLine : SuiteLine → List (List ℕ) → Type 0
WritesLine line words = (is_suite_form line ≡ true) × (suite_words line ≡ words)

name_by : (t : Bool) (name : List ℕ) (line : SuiteLine) → is_test_name name ≡ t → (if t then Some (test_line name) else None) ≡ Some line → WritesLine line (codes "test" ∷ name ∷ [])
name_by true name line e h =
    let is : test_line name ≡ line = cc in
    let writes : WritesLine (test_line name) (codes "test" ∷ name ∷ []) = (e, refl) in
    subst (λ l. WritesLine l (codes "test" ∷ name ∷ [])) is writes
name_by false name line e h = absurd (cc)

test_said : (words : List (List ℕ)) (line : SuiteLine) → read_test words ≡ Some line → WritesLine line (codes "test" ∷ words)
test_said [] line h = absurd (cc)
test_said (name ∷ []) line h = name_by (is_test_name name) name line refl h
test_said (name ∷ other ∷ words) line h = absurd (cc)

set_by : (o : Option PlaceWord) (p : Option Numeral) (place value : List ℕ) (line : SuiteLine) → read_single place ≡ o → read_numeral value ≡ p → set_from o p ≡ Some line → WritesLine line (codes "set" ∷ place ∷ value ∷ [])
set_by (Some it) (Some n) place value line e f h =
    let is : set_line it n ≡ line = cc in
    let w = single_said place it e in
    let v = numeral_said value n f in
    let writes : WritesLine (set_line it n) (codes "set" ∷ place ∷ value ∷ []) = (rw (w.0.0, w.1, v.0) refl, rw (w.0.1, v.1) refl) in
    subst (λ l. WritesLine l (codes "set" ∷ place ∷ value ∷ [])) is writes
set_by (Some it) None place value line e f h = absurd (cc)
set_by None p place value line e f h = absurd (cc)

set_said : (words : List (List ℕ)) (line : SuiteLine) → read_set words ≡ Some line → WritesLine line (codes "set" ∷ words)
set_said [] line h = absurd (cc)
set_said (place ∷ []) line h = absurd (cc)
set_said (place ∷ value ∷ []) line h = set_by (read_single place) (read_numeral value) place value line refl refl h
set_said (place ∷ value ∷ other ∷ words) line h = absurd (cc)

point_by : (o : Option PlaceWord) (p : Option TargetWord) (place target : List ℕ) (line : SuiteLine) → read_single place ≡ o → read_single_target target ≡ p → point_from o p ≡ Some line → WritesLine line (codes "point" ∷ place ∷ target ∷ [])
point_by (Some it) (Some to) place target line e f h =
    let is : point_line it to ≡ line = cc in
    let w = single_said place it e in
    let v = target_said target to f in
    let writes : WritesLine (point_line it to) (codes "point" ∷ place ∷ target ∷ []) = (rw (w.0.0, w.1, v.0, v.1) refl, rw (w.0.1, v.2) refl) in
    subst (λ l. WritesLine l (codes "point" ∷ place ∷ target ∷ [])) is writes
point_by (Some it) None place target line e f h = absurd (cc)
point_by None p place target line e f h = absurd (cc)

point_said : (words : List (List ℕ)) (line : SuiteLine) → read_point words ≡ Some line → WritesLine line (codes "point" ∷ words)
point_said [] line h = absurd (cc)
point_said (place ∷ []) line h = absurd (cc)
point_said (place ∷ target ∷ []) line h = point_by (read_single place) (read_single_target target) place target line refl refl h
point_said (place ∷ target ∷ other ∷ words) line h = absurd (cc)

values_by : (o : Option (List Numeral)) (stub : List ℕ) (words : List (List ℕ)) (line : SuiteLine) → read_all read_numeral words ≡ o → option_map (values_line stub) o ≡ Some line → WritesLine line (codes "stub" ∷ stub ∷ words)
values_by None stub words line e h = absurd (cc)
values_by (Some values) stub words line e h =
    let is : values_line stub values ≡ line = cc in
    let w = all_said read_numeral numeral_word is_numeral numeral_said words values e in
    let writes : WritesLine (values_line stub values) (codes "stub" ∷ stub ∷ words) = (w.0, ap (λ ws. codes "stub" ∷ stub ∷ ws) w.1) in
    subst (λ l. WritesLine l (codes "stub" ∷ stub ∷ words)) is writes

values_said : (words : List (List ℕ)) (line : SuiteLine) → read_values words ≡ Some line → WritesLine line (codes "stub" ∷ words)
values_said [] line h = absurd (cc)
values_said (stub ∷ words) line h = values_by (read_all read_numeral words) stub words line refl h

named : (keyword spelled : List ℕ) (words : List (List ℕ)) (line : SuiteLine) → bytes_eq keyword spelled ≡ true → WritesLine line (spelled ∷ words) → WritesLine line (keyword ∷ words)
named keyword spelled words line e w = subst (λ k. WritesLine line (k ∷ words)) (sym ((bytes_eq-Decides keyword spelled).0 e)) w

keyword_by : (a b c d : Bool) (keyword : List ℕ) (words : List (List ℕ)) (line : SuiteLine) → bytes_eq keyword (codes "set") ≡ a → bytes_eq keyword (codes "point") ≡ b → bytes_eq keyword (codes "stub") ≡ c → bytes_eq keyword (codes "test") ≡ d
    → (if a then read_set words else if b then read_point words else if c then read_values words else if d then read_test words else None) ≡ Some line → WritesLine line (keyword ∷ words)
keyword_by true b c d keyword words line ea eb ec ed h = named keyword (codes "set") words line ea (set_said words line h)
keyword_by false true c d keyword words line ea eb ec ed h = named keyword (codes "point") words line eb (point_said words line h)
keyword_by false false true d keyword words line ea eb ec ed h = named keyword (codes "stub") words line ec (values_said words line h)
keyword_by false false false true keyword words line ea eb ec ed h = named keyword (codes "test") words line ed (test_said words line h)
keyword_by false false false false keyword words line ea eb ec ed h = absurd (cc)

line_said : (words : List (List ℕ)) (line : SuiteLine) → read_suite_line words ≡ Some line → WritesLine line words
line_said [] line h = absurd (cc)
line_said (keyword ∷ words) line h =
    keyword_by (bytes_eq keyword (codes "set")) (bytes_eq keyword (codes "point")) (bytes_eq keyword (codes "stub")) (bytes_eq keyword (codes "test")) keyword words line refl refl refl refl h

pub suite_lines : SuiteLinesAreRead
suite_lines words line =
    (line_said words line, λ w. ap read_suite_line (sym w.1) ∙ line_read line w.0)
