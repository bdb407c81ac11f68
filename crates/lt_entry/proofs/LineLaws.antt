-- A line of a specification that is read is the one that its words write, and every line is read.
use Rattle.std.proofs.Common.{◌≡◌, ℕ, Bool, true, false, List, [], ◌∷◌, ◌++◌, Option, Some, None, refl, sym, ◌∙◌, ap, subst, append_assoc}
use Rattle.std.specs.Prelude.{◌&&◌, not, if◌then◌else◌, codes, flat_map, option_map, option_and_then}
use Rattle.std.specs.List.{list_all}
use Rattle.std.specs.Str.{bytes_eq}
use Rattle.std.proofs.lemmas.Slice.Eq.{bytes_eq-Decides}
use Rattle.lt_entry.specs.Written.{Numeral, numeral_word, is_numeral, is_name, PlaceWord, is_place, TargetWord, target_word, is_target}
use Rattle.lt_entry.specs.SpecificationLines.{Relation, relation_word, Term, term_word, Addend, addend_words, is_addend, Line, entry_line, block_line, range_line, points_line, stub_line, require_line, line_words, is_in_form}
use Rattle.lt_entry.specs.Reading.{read_numeral, read_all, read_place, read_target}
use Rattle.lt_entry.specs.ReadingLines.{read_term, read_addends, read_relation, all_but_last, last_word, read_entry, block_from, read_block, range_from, read_range, points_from, read_points, stub_from, read_stub, require_from, read_requirement, requirement_before, read_require, read_short, read_line}
use Rattle.lt_entry.specs.Laws.{LinesAreRead}
use Rattle.lt_entry.proofs.NumeralLaws.{numeral_read, numeral_said}
use Rattle.lt_entry.proofs.PieceLaws.{both}
use Rattle.lt_entry.proofs.AllRead.{all_read, all_said}
use Rattle.lt_entry.proofs.WrittenRead.{place_said, place_read, any_said, any_read}
use Rattle.lt_entry.proofs.TermLaws.{term_said, term_read, addends_said, addends_read, relation_said, relation_read}

-- ---- the ends of lines

last_of : (words : List (List ℕ)) (word : List ℕ) → (last_word (words ++ word ∷ []) ≡ Some word) × (all_but_last (words ++ word ∷ []) ≡ words)
last_of [] word = (refl, refl)
last_of (first ∷ []) word = (refl, refl)
last_of (first ∷ second ∷ words) word =
    let more = last_of (second ∷ words) word in
    (more.0, ap (λ ws. first ∷ ws) more.1)

last_said : (words : List (List ℕ)) (word : List ℕ) → last_word words ≡ Some word → all_but_last words ++ word ∷ [] ≡ words
last_said [] word h = absurd (cc)
last_said (first ∷ []) word h = let is : first ≡ word = cc in rw is refl
last_said (first ∷ second ∷ words) word h = ap (λ ws. first ∷ ws) (last_said (second ∷ words) word h)

-- ---- lines that are written

block_read : (name : List ℕ) (type : List (List ℕ)) (count : Numeral) → is_name name ≡ true → is_numeral count ≡ true → read_block (name ∷ type ++ numeral_word count ∷ []) ≡ Some (block_line name type count)
block_read name type count n c =
    let ends = last_of type (numeral_word count) in
    ap (λ ws. block_from name ws (option_and_then read_numeral (last_word (type ++ numeral_word count ∷ [])))) ends.1
    ∙ ap (λ o. block_from name type (option_and_then read_numeral o)) ends.0
    ∙ ap (block_from name type) (numeral_read count c)
    ∙ rw n refl

require_ends : (sum : List (List ℕ)) (relation constant : List ℕ) → read_require ((sum ++ relation ∷ []) ++ constant ∷ []) ≡ read_requirement sum relation constant
require_ends sum relation constant =
    let before = last_of (sum ++ relation ∷ []) constant in
    let front = last_of sum relation in
    rw (before.0, before.1, front.0, front.1) refl

require_read : (first : Term) (others : List Addend) (relation : Relation) (constant : Numeral) → is_addend (record { is_minus = false; term = first }) ≡ true → list_all is_addend others ≡ true → is_numeral constant ≡ true → read_require ((term_word first ∷ flat_map addend_words others) ++ relation_word relation ∷ numeral_word constant ∷ []) ≡ Some (require_line (record { first = first; others = others }) relation constant)
require_read first others relation constant f os c =
    ap read_require (sym (append_assoc (term_word first ∷ flat_map addend_words others) (relation_word relation ∷ []) (numeral_word constant ∷ [])))
    ∙ require_ends (term_word first ∷ flat_map addend_words others) (relation_word relation) (numeral_word constant)
    ∙ rw (term_read first f, addends_read others os, relation_read relation, numeral_read constant c) refl

pub line_read : (line : Line) → is_in_form line ≡ true → read_line (line_words line) ≡ Some line
line_read (entry_line name) h = refl
line_read (block_line name type count) h =
    let hs = both (is_name name) (is_numeral count) h in
    block_read name type count hs.0 hs.1
line_read (range_line place low high) h =
    let hs = both (is_place place && is_numeral low) (is_numeral high) h in
    let gs = both (is_place place) (is_numeral low) hs.0 in
    rw (place_read place gs.0, numeral_read low gs.1, numeral_read high hs.1) refl
line_read (points_line place targets) h =
    let hs = both (is_place place) (list_all is_target targets) h in
    rw (place_read place hs.0, all_read read_target target_word is_target any_read targets hs.1) refl
line_read (stub_line name low high) h =
    let hs = both (is_numeral low) (is_numeral high) h in
    rw (numeral_read low hs.0, numeral_read high hs.1) refl
line_read (require_line sum relation constant) h =
    let hs = both (is_addend (record { is_minus = not true; term = sum.first }) && list_all is_addend sum.others) (is_numeral constant) h in
    let gs = both (is_addend (record { is_minus = not true; term = sum.first })) (list_all is_addend sum.others) hs.0 in
    require_read sum.first sum.others relation constant gs.0 gs.1 hs.1

-- ---- lines that are read

-- the line is of its form, and these are its words
abbrev WritesLine : Line → List (List ℕ) → Type 0
WritesLine line words = (is_in_form line ≡ true) × (line_words line ≡ words)

entry_by : (o : Option (List ℕ)) (words : List (List ℕ)) (line : Line) → ((name : List ℕ) → o ≡ Some name → name ∷ [] ≡ words) → option_map entry_line o ≡ Some line → WritesLine line (codes "entry" ∷ words)
entry_by None words line said h = absurd (cc)
entry_by (Some name) words line said h =
    let is : entry_line name ≡ line = cc in
    let writes : WritesLine (entry_line name) (codes "entry" ∷ words) = (refl, ap (λ ws. codes "entry" ∷ ws) (said name refl)) in
    subst (λ l. WritesLine l (codes "entry" ∷ words)) is writes

entry_words : (words : List (List ℕ)) (name : List ℕ) → read_entry words ≡ Some name → name ∷ [] ≡ words
entry_words [] name h = absurd (cc)
entry_words (word ∷ []) name h = let is : word ≡ name = cc in rw is refl
entry_words (word ∷ other ∷ words) name h = absurd (cc)

entry_said : (words : List (List ℕ)) (line : Line) → option_map entry_line (read_entry words) ≡ Some line → WritesLine line (codes "entry" ∷ words)
entry_said words line h = entry_by (read_entry words) words line (entry_words words) h

block_count : (o : Option Numeral) (name : List ℕ) (type : List (List ℕ)) (count : List ℕ) (line : Line) → is_name name ≡ true → read_numeral count ≡ o → option_map (block_line name type) o ≡ Some line → WritesLine line (codes "block" ∷ name ∷ type ++ count ∷ [])
block_count None name type count line n e h = absurd (cc)
block_count (Some it) name type count line n e h =
    let is : block_line name type it ≡ line = cc in
    let v = numeral_said count it e in
    let writes : WritesLine (block_line name type it) (codes "block" ∷ name ∷ type ++ count ∷ []) = (rw (n, v.0) refl, ap (λ c. codes "block" ∷ name ∷ type ++ c ∷ []) v.1) in
    subst (λ l. WritesLine l (codes "block" ∷ name ∷ type ++ count ∷ [])) is writes

block_name : (t : Bool) (name : List ℕ) (type : List (List ℕ)) (count : List ℕ) (line : Line) → is_name name ≡ t → (if t then option_map (block_line name type) (read_numeral count) else None) ≡ Some line → WritesLine line (codes "block" ∷ name ∷ type ++ count ∷ [])
block_name true name type count line n h = block_count (read_numeral count) name type count line n refl h
block_name false name type count line n h = absurd (cc)

no_block : (t : Bool) (name : List ℕ) (type : List (List ℕ)) (line : Line) → (if t then option_map (block_line name type) None else None) ≡ Some line → ⊥
no_block true name type line h = cc
no_block false name type line h = cc

block_last : (o : Option (List ℕ)) (name : List ℕ) (words : List (List ℕ)) (line : Line) → last_word words ≡ o → block_from name (all_but_last words) (option_and_then read_numeral o) ≡ Some line → WritesLine line (codes "block" ∷ name ∷ words)
block_last None name words line e h = absurd (no_block (is_name name) name (all_but_last words) line h)
block_last (Some count) name words line e h =
    subst (λ ws. WritesLine line (codes "block" ∷ name ∷ ws)) (last_said words count e) (block_name (is_name name) name (all_but_last words) count line refl h)

block_said : (words : List (List ℕ)) (line : Line) → read_block words ≡ Some line → WritesLine line (codes "block" ∷ words)
block_said [] line h = absurd (cc)
block_said (name ∷ words) line h = block_last (last_word words) name words line refl h

range_by : (o : Option PlaceWord) (p q : Option Numeral) (place low high : List ℕ) (line : Line) → read_place place ≡ o → read_numeral low ≡ p → read_numeral high ≡ q → range_from o p q ≡ Some line → WritesLine line (codes "range" ∷ place ∷ low ∷ high ∷ [])
range_by (Some it) (Some l) (Some g) place low high line e f k h =
    let is : range_line it l g ≡ line = cc in
    let w = place_said place it e in
    let v = numeral_said low l f in
    let u = numeral_said high g k in
    let writes : WritesLine (range_line it l g) (codes "range" ∷ place ∷ low ∷ high ∷ []) = (rw (w.0, v.0, u.0) refl, rw (w.1, v.1, u.1) refl) in
    subst (λ m. WritesLine m (codes "range" ∷ place ∷ low ∷ high ∷ [])) is writes
range_by (Some it) (Some l) None place low high line e f k h = absurd (cc)
range_by (Some it) None q place low high line e f k h = absurd (cc)
range_by None p q place low high line e f k h = absurd (cc)

range_said : (words : List (List ℕ)) (line : Line) → read_range words ≡ Some line → WritesLine line (codes "range" ∷ words)
range_said [] line h = absurd (cc)
range_said (place ∷ []) line h = absurd (cc)
range_said (place ∷ low ∷ []) line h = absurd (cc)
range_said (place ∷ low ∷ high ∷ []) line h = range_by (read_place place) (read_numeral low) (read_numeral high) place low high line refl refl refl h
range_said (place ∷ low ∷ high ∷ other ∷ words) line h = absurd (cc)

points_by : (o : Option PlaceWord) (p : Option (List TargetWord)) (place : List ℕ) (words : List (List ℕ)) (line : Line) → read_place place ≡ o → read_all read_target words ≡ p → points_from o p ≡ Some line → WritesLine line (codes "points" ∷ place ∷ words)
points_by (Some it) (Some targets) place words line e f h =
    let is : points_line it targets ≡ line = cc in
    let w = place_said place it e in
    let v = all_said read_target target_word is_target any_said words targets f in
    let writes : WritesLine (points_line it targets) (codes "points" ∷ place ∷ words) = (rw (w.0, v.0) refl, rw (w.1, v.1) refl) in
    subst (λ l. WritesLine l (codes "points" ∷ place ∷ words)) is writes
points_by (Some it) None place words line e f h = absurd (cc)
points_by None p place words line e f h = absurd (cc)

points_said : (words : List (List ℕ)) (line : Line) → read_points words ≡ Some line → WritesLine line (codes "points" ∷ words)
points_said [] line h = absurd (cc)
points_said (place ∷ words) line h = points_by (read_place place) (read_all read_target words) place words line refl refl h

stub_by : (p q : Option Numeral) (name low high : List ℕ) (line : Line) → read_numeral low ≡ p → read_numeral high ≡ q → stub_from name p q ≡ Some line → WritesLine line (codes "stub" ∷ name ∷ low ∷ high ∷ [])
stub_by (Some l) (Some g) name low high line f k h =
    let is : stub_line name l g ≡ line = cc in
    let v = numeral_said low l f in
    let u = numeral_said high g k in
    let writes : WritesLine (stub_line name l g) (codes "stub" ∷ name ∷ low ∷ high ∷ []) = (rw (v.0, u.0) refl, rw (v.1, u.1) refl) in
    subst (λ m. WritesLine m (codes "stub" ∷ name ∷ low ∷ high ∷ [])) is writes
stub_by (Some l) None name low high line f k h = absurd (cc)
stub_by None q name low high line f k h = absurd (cc)

stub_said : (words : List (List ℕ)) (line : Line) → read_stub words ≡ Some line → WritesLine line (codes "stub" ∷ words)
stub_said [] line h = absurd (cc)
stub_said (name ∷ []) line h = absurd (cc)
stub_said (name ∷ low ∷ []) line h = absurd (cc)
stub_said (name ∷ low ∷ high ∷ []) line h = stub_by (read_numeral low) (read_numeral high) name low high line refl refl h
stub_said (name ∷ low ∷ high ∷ other ∷ words) line h = absurd (cc)

require_by : (o : Option Term) (p : Option (List Addend)) (q : Option Relation) (r : Option Numeral) (first : List ℕ) (others : List (List ℕ)) (relation constant : List ℕ) (line : Line) → read_term first ≡ o → read_addends others ≡ p → read_relation relation ≡ q → read_numeral constant ≡ r → require_from o p q r ≡ Some line → WritesLine line (codes "require" ∷ first ∷ others ++ relation ∷ constant ∷ [])
require_by (Some t) (Some addends) (Some it) (Some n) first others relation constant line e f g k h =
    let is : require_line (record { first = t; others = addends }) it n ≡ line = cc in
    let w = term_said first t e in
    let v = addends_said others addends f in
    let r = relation_said relation it g in
    let c = numeral_said constant n k in
    let writes : WritesLine (require_line (record { first = t; others = addends }) it n) (codes "require" ∷ first ∷ others ++ relation ∷ constant ∷ []) = (rw (w.0, v.0, c.0) refl, rw (w.1, v.1, r, c.1) refl) in
    subst (λ l. WritesLine l (codes "require" ∷ first ∷ others ++ relation ∷ constant ∷ [])) is writes
require_by (Some t) (Some addends) (Some it) None first others relation constant line e f g k h = absurd (cc)
require_by (Some t) (Some addends) None r first others relation constant line e f g k h = absurd (cc)
require_by (Some t) None q r first others relation constant line e f g k h = absurd (cc)
require_by None p q r first others relation constant line e f g k h = absurd (cc)

requirement_said : (sum : List (List ℕ)) (relation constant : List ℕ) (line : Line) → read_requirement sum relation constant ≡ Some line → WritesLine line (codes "require" ∷ sum ++ relation ∷ constant ∷ [])
requirement_said [] relation constant line h = absurd (cc)
requirement_said (first ∷ others) relation constant line h = require_by (read_term first) (read_addends others) (read_relation relation) (read_numeral constant) first others relation constant line refl refl refl refl h

require_before : (o : Option (List ℕ)) (before : List (List ℕ)) (constant : List ℕ) (line : Line) → last_word before ≡ o → requirement_before constant (all_but_last before) o ≡ Some line → WritesLine line (codes "require" ∷ before ++ constant ∷ [])
require_before None before constant line e h = absurd (cc)
require_before (Some relation) before constant line e h =
    let words : all_but_last before ++ relation ∷ constant ∷ [] ≡ before ++ constant ∷ [] =
    sym (append_assoc (all_but_last before) (relation ∷ []) (constant ∷ [])) ∙ ap (λ ws. ws ++ constant ∷ []) (last_said before relation e) in
    subst (λ ws. WritesLine line (codes "require" ∷ ws)) words (requirement_said (all_but_last before) relation constant line h)

require_last : (o : Option (List ℕ)) (words : List (List ℕ)) (line : Line) → last_word words ≡ o → option_and_then (λ constant. requirement_before constant (all_but_last (all_but_last words)) (last_word (all_but_last words))) o ≡ Some line → WritesLine line (codes "require" ∷ words)
require_last None words line e h = absurd (cc)
require_last (Some constant) words line e h =
    subst (λ ws. WritesLine line (codes "require" ∷ ws)) (last_said words constant e) (require_before (last_word (all_but_last words)) (all_but_last words) constant line refl h)

require_said : (words : List (List ℕ)) (line : Line) → read_require words ≡ Some line → WritesLine line (codes "require" ∷ words)
require_said words line h = require_last (last_word words) words line refl h

named : (keyword spelled : List ℕ) (words : List (List ℕ)) (line : Line) → bytes_eq keyword spelled ≡ true → WritesLine line (spelled ∷ words) → WritesLine line (keyword ∷ words)
named keyword spelled words line e w = subst (λ k. WritesLine line (k ∷ words)) (sym ((bytes_eq-Decides keyword spelled).0 e)) w

short_by : (a b c : Bool) (keyword : List ℕ) (words : List (List ℕ)) (line : Line) → bytes_eq keyword (codes "entry") ≡ a → bytes_eq keyword (codes "block") ≡ b → bytes_eq keyword (codes "stub") ≡ c
    → (if a then option_map entry_line (read_entry words) else if b then read_block words else if c then read_stub words else None) ≡ Some line → WritesLine line (keyword ∷ words)
short_by true b c keyword words line ea eb ec h = named keyword (codes "entry") words line ea (entry_said words line h)
short_by false true c keyword words line ea eb ec h = named keyword (codes "block") words line eb (block_said words line h)
short_by false false true keyword words line ea eb ec h = named keyword (codes "stub") words line ec (stub_said words line h)
short_by false false false keyword words line ea eb ec h = absurd (cc)

line_by : (a b c : Bool) (keyword : List ℕ) (words : List (List ℕ)) (line : Line) → bytes_eq keyword (codes "range") ≡ a → bytes_eq keyword (codes "points") ≡ b → bytes_eq keyword (codes "require") ≡ c
    → (if a then read_range words else if b then read_points words else if c then read_require words else read_short keyword words) ≡ Some line → WritesLine line (keyword ∷ words)
line_by true b c keyword words line ea eb ec h = named keyword (codes "range") words line ea (range_said words line h)
line_by false true c keyword words line ea eb ec h = named keyword (codes "points") words line eb (points_said words line h)
line_by false false true keyword words line ea eb ec h = named keyword (codes "require") words line ec (require_said words line h)
line_by false false false keyword words line ea eb ec h =
    short_by (bytes_eq keyword (codes "entry")) (bytes_eq keyword (codes "block")) (bytes_eq keyword (codes "stub")) keyword words line refl refl refl h

line_said : (words : List (List ℕ)) (line : Line) → read_line words ≡ Some line → WritesLine line words
line_said [] line h = absurd (cc)
line_said (keyword ∷ words) line h =
    line_by (bytes_eq keyword (codes "range")) (bytes_eq keyword (codes "points")) (bytes_eq keyword (codes "require")) keyword words line refl refl refl h

pub lines : LinesAreRead
lines words line = (line_said words line, λ w. ap read_line (sym w.1) ∙ line_read line w.0)
