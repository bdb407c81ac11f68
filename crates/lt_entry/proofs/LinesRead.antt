-- Lines by their words: those of a fixed number of words, and those that end with numbers.
use Rattle.std.proofs.Common.{◌≡◌, ℕ, ◌≢◌, ◌≤◌, ◌<◌, ◌+◌, suc, zero, List, [], ◌∷◌, ◌++◌, length, get_or, take, drop, length-drop, refl, sym, ◌∙◌, ap, arith, Option, Some, None, Bor, append_assoc, true, false}
use Rattle.std.specs.Prelude.{map, Bool, ◌&&◌, codes, option_map, option_and_then}
use Rattle.std.specs.Str.{bytes_eq}
use Rattle.std.specs.List.{list_all}
use Rattle.std.proofs.lemmas.List.{append-nil, map-append, map_more, drop-drop}
use Rattle.lt_entry.specs.SpecificationLines.{Term, Addend, Relation, block_line}
use Rattle.lt_entry.specs.Reading.{read_numeral, read_index, read_single, with_first}
use Rattle.lt_entry.specs.Written.{Numeral, at_index, is_name}
use Rattle.lt_entry.specs.ReadingLines.{all_but_last, last_word, parts_of_term, term_from, read_term, block_from, read_block, read_range, read_stub, read_relation, require_from, read_requirement, read_require, read_set, read_point, first_addend, read_addends}

pub all_mapped : {A B : Type 0} (test : B → Bool) (f : A → B) (xs : List A) → list_all test (map f xs) ≡ list_all (λ x. test (f x)) xs
all_mapped test f [] = refl
all_mapped test f (x ∷ xs) = rw (all_mapped test f xs) refl

all_push : {B : Type 0} (test : B → Bool) (xs : List B) (x : B) → list_all test xs ≡ true → test x ≡ true → list_all test (xs ++ x ∷ []) ≡ true
all_push test [] x all is = rw is refl
all_push test (y ∷ xs) x all is = joined (test y) (list_all test xs) (list_all test (xs ++ x ∷ [])) (λ h. all_push test xs x h is) all
  where
    joined : (t a b : Bool) → (a ≡ true → b ≡ true) → (t && a) ≡ true → (t && b) ≡ true
    joined true a b f h = f h
    joined false a b f h = h

none_push : {B : Type 0} (test : B → Bool) (xs : List B) (i : ℕ) (d : B) → i < length xs → test (get_or xs i d) ≡ false → list_all test xs ≡ false
none_push test [] i d low is = absurd (omega arith)
none_push test (x ∷ xs) zero d low is = rw is refl
none_push test (x ∷ xs) (suc i) d low is = rw (none_push test xs i d (omega arith) is) (and_false (test x))
  where
    and_false : (t : Bool) → (t && false) ≡ false
    and_false true = refl
    and_false false = refl

-- a loop over what is kept
pub all_more : {A B : Type 0} (test : B → Bool) (view : A → B) (xs : List A) (i : ℕ) (d : A) → i < length xs → list_all test (map view (take i xs)) ≡ true → test (view (get_or xs i d)) ≡ true → list_all test (map view (take (i + 1) xs)) ≡ true
all_more test view xs i d low all is = rw (map_more view xs i d low) (all_push test (map view (take i xs)) (view (get_or xs i d)) all is)

pub all_stop : {A B : Type 0} (test : B → Bool) (view : A → B) (xs : List A) (i : ℕ) (d : A) → i < length xs → test (view (get_or xs i d)) ≡ false → list_all test (map view xs) ≡ false
all_stop test view xs i d low is = all_mapped test view xs ∙ none_push (λ x. test (view x)) xs i d low is

-- ---- numbers of words

pub no_range : (words : List (Bor (List ℕ))) → length words ≢ 3 → read_range (map (λ (w : Bor (List ℕ)). w.now) words) ≡ None
no_range [] h = refl
no_range (a ∷ []) h = refl
no_range (a ∷ b ∷ []) h = refl
no_range (a ∷ b ∷ c ∷ []) h = absurd (h refl)
no_range (a ∷ b ∷ c ∷ d ∷ words) h = refl

pub no_stub : (words : List (Bor (List ℕ))) → length words ≢ 3 → read_stub (map (λ (w : Bor (List ℕ)). w.now) words) ≡ None
no_stub [] h = refl
no_stub (a ∷ []) h = refl
no_stub (a ∷ b ∷ []) h = refl
no_stub (a ∷ b ∷ c ∷ []) h = absurd (h refl)
no_stub (a ∷ b ∷ c ∷ d ∷ words) h = refl

pub no_set : (words : List (Bor (List ℕ))) → length words ≢ 2 → read_set (map (λ (w : Bor (List ℕ)). w.now) words) ≡ None
no_set [] h = refl
no_set (a ∷ []) h = refl
no_set (a ∷ b ∷ []) h = absurd (h refl)
no_set (a ∷ b ∷ c ∷ words) h = refl

pub no_point : (words : List (Bor (List ℕ))) → length words ≢ 2 → read_point (map (λ (w : Bor (List ℕ)). w.now) words) ≡ None
no_point [] h = refl
no_point (a ∷ []) h = refl
no_point (a ∷ b ∷ []) h = absurd (h refl)
no_point (a ∷ b ∷ c ∷ words) h = refl

pub no_term : (parts : List (Bor (List ℕ))) (word : List ℕ) → length parts ≢ 2 → term_from word (map (λ (w : Bor (List ℕ)). w.now) parts) ≡ option_map (λ p. record { factor = None; place = p }) (read_single word)
no_term [] word two = refl
no_term (a ∷ []) word two = refl
no_term (a ∷ b ∷ []) word two = absurd (two refl)
no_term (a ∷ b ∷ c ∷ parts) word two = refl

-- the parts of a term's word, as they are kept
parts_are : (word : List ℕ) (items parts : List (Bor (List ℕ))) → map (λ (w : Bor (List ℕ)). w.now) items ≡ parts_of_term word → parts ≡ items → read_term word ≡ term_from word (map (λ (w : Bor (List ℕ)). w.now) parts)
parts_are word items parts are same = ap (term_from word) (sym are ∙ ap (map (λ (w : Bor (List ℕ)). w.now)) (sym same))

pub term_alone : (word : List ℕ) (items parts : List (Bor (List ℕ))) → map (λ (w : Bor (List ℕ)). w.now) items ≡ parts_of_term word → parts ≡ items → length parts ≢ 2 → read_term word ≡ option_map (λ p. record { factor = None; place = p }) (read_single word)
term_alone word items parts are same two = parts_are word items parts are same ∙ no_term parts word two

-- ---- lines of which a part is none

no_relation : (o : Option Term) (p : Option (List Addend)) (q : Option Relation) (r : Option Numeral) → q ≡ None → require_from o p q r ≡ None
no_relation None p q r is = refl
no_relation (Some first) None q r is = refl
no_relation (Some first) (Some others) None r is = refl
no_relation (Some first) (Some others) (Some relation) r is = absurd (cc)

no_constant : (o : Option Term) (p : Option (List Addend)) (q : Option Relation) (r : Option Numeral) → r ≡ None → require_from o p q r ≡ None
no_constant None p q r is = refl
no_constant (Some first) None q r is = refl
no_constant (Some first) (Some others) None r is = refl
no_constant (Some first) (Some others) (Some relation) None is = refl
no_constant (Some first) (Some others) (Some relation) (Some constant) is = absurd (cc)

pub sum_no_relation : (sum others : List (Bor (List ℕ))) (first : Bor (List ℕ)) (relation constant : List ℕ) → sum ≡ first ∷ others → read_relation relation ≡ None → read_requirement (map (λ (w : Bor (List ℕ)). w.now) sum) relation constant ≡ None
sum_no_relation sum others first relation constant are is =
    ap (λ ws. read_requirement (map (λ (w : Bor (List ℕ)). w.now) ws) relation constant) are
    ∙ no_relation (read_term first.now) (read_addends (map (λ (w : Bor (List ℕ)). w.now) others)) (read_relation relation) (read_numeral constant) is

pub sum_no_constant : (sum others : List (Bor (List ℕ))) (first : Bor (List ℕ)) (relation constant : List ℕ) → sum ≡ first ∷ others → read_numeral constant ≡ None → read_requirement (map (λ (w : Bor (List ℕ)). w.now) sum) relation constant ≡ None
sum_no_constant sum others first relation constant are is =
    ap (λ ws. read_requirement (map (λ (w : Bor (List ℕ)). w.now) ws) relation constant) are
    ∙ no_constant (read_term first.now) (read_addends (map (λ (w : Bor (List ℕ)). w.now) others)) (read_relation relation) (read_numeral constant) is

-- an index that is no asterisk
pub index_none : (word : List ℕ) → bytes_eq word (codes "*") ≡ false → read_numeral word ≡ None → read_index word ≡ None
index_none word other bad = rw (other, bad) refl

pub index_some : (word : List ℕ) (n : Numeral) → bytes_eq word (codes "*") ≡ false → read_numeral word ≡ Some n → read_index word ≡ Some (at_index n)
index_some word n other has = rw (other, has) refl

-- words by their number
pub two_are : (words : List (Bor (List ℕ))) (d e : Bor (List ℕ)) → length words ≡ 2 → map (λ (w : Bor (List ℕ)). w.now) words ≡ (get_or words 0 d).now ∷ (get_or words 1 e).now ∷ []
two_are [] d e h = absurd (omega arith)
two_are (a ∷ []) d e h = absurd (omega arith)
two_are (a ∷ b ∷ []) d e h = refl
two_are (a ∷ b ∷ c ∷ words) d e h = absurd (omega arith)

pub three_are : (words : List (Bor (List ℕ))) (d e f : Bor (List ℕ)) → length words ≡ 3 → map (λ (w : Bor (List ℕ)). w.now) words ≡ (get_or words 0 d).now ∷ (get_or words 1 e).now ∷ (get_or words 2 f).now ∷ []
three_are [] d e f h = absurd (omega arith)
three_are (a ∷ []) d e f h = absurd (omega arith)
three_are (a ∷ b ∷ []) d e f h = absurd (omega arith)
three_are (a ∷ b ∷ c ∷ []) d e f h = refl
three_are (a ∷ b ∷ c ∷ x ∷ words) d e f h = absurd (omega arith)

-- ---- what is kept of an answer

pub mapped_none : {A B : Type 0} (f : A → B) (o : Option A) (x : Option B) → o ≡ None → option_map f o ≡ x → None ≡ x
mapped_none f None x is h = h
mapped_none f (Some a) x is h = cc

pub mapped_some : {A B : Type 0} (f : A → B) (o : Option A) (a : A) (x : Option B) → o ≡ Some a → option_map f o ≡ x → Some (f a) ≡ x
mapped_some f None a x is h = cc
mapped_some f (Some b) a x is h = ap (λ o. option_map f o) (sym is) ∙ h

-- ---- the ends of lines

pub last_is : (words : List (List ℕ)) (word : List ℕ) → last_word (words ++ word ∷ []) ≡ Some word
last_is [] word = refl
last_is (a ∷ []) word = refl
last_is (a ∷ b ∷ words) word = last_is (b ∷ words) word

pub before_last : (words : List (List ℕ)) (word : List ℕ) → all_but_last (words ++ word ∷ []) ≡ words
before_last [] word = refl
before_last (a ∷ []) word = refl
before_last (a ∷ b ∷ words) word = ap (λ ws. a ∷ ws) (before_last (b ∷ words) word)

mapped_end : (words front : List (Bor (List ℕ))) (word : Bor (List ℕ)) → words ≡ front ++ word ∷ [] → map (λ (w : Bor (List ℕ)). w.now) words ≡ map (λ (w : Bor (List ℕ)). w.now) front ++ word.now ∷ []
mapped_end words front word are = ap (map (λ (w : Bor (List ℕ)). w.now)) are ∙ map-append (λ (w : Bor (List ℕ)). w.now) front (word ∷ [])

pub block_is : (words behind type : List (Bor (List ℕ))) (name count : Bor (List ℕ)) → words ≡ name ∷ behind → behind ≡ type ++ count ∷ [] → read_block (map (λ (w : Bor (List ℕ)). w.now) words) ≡ block_from name.now (map (λ (w : Bor (List ℕ)). w.now) type) (read_numeral count.now)
block_is words behind type name count are end =
    let e = mapped_end behind type count end in
    ap (λ ws. read_block (map (λ (w : Bor (List ℕ)). w.now) ws)) are
    ∙ ap (λ ws. block_from name.now (all_but_last ws) (option_and_then read_numeral (last_word ws))) e
    ∙ rw (before_last (map (λ (w : Bor (List ℕ)). w.now) type) count.now, last_is (map (λ (w : Bor (List ℕ)). w.now) type) count.now) refl

pub block_uncounted : (words behind ty : List (Bor (List ℕ))) (name count : Bor (List ℕ)) → words ≡ name ∷ behind → behind ≡ ty ++ count ∷ [] → is_name name.now ≡ true → read_numeral count.now ≡ None → read_block (map (λ (w : Bor (List ℕ)). w.now) words) ≡ None
block_uncounted words behind ty name count are end is bad = block_is words behind ty name count are end ∙ rw (is, bad) refl

pub block_whole : (words behind ty : List (Bor (List ℕ))) (name count : Bor (List ℕ)) (n : Numeral) → words ≡ name ∷ behind → behind ≡ ty ++ count ∷ [] → is_name name.now ≡ true → read_numeral count.now ≡ Some n → read_block (map (λ (w : Bor (List ℕ)). w.now) words) ≡ Some (block_line name.now (map (λ (w : Bor (List ℕ)). w.now) ty) n)
block_whole words behind ty name count n are end is has = block_is words behind ty name count are end ∙ rw (is, has) refl

pub require_is : (words before sum : List (Bor (List ℕ))) (relation constant : Bor (List ℕ)) → words ≡ before ++ constant ∷ [] → before ≡ sum ++ relation ∷ [] → read_require (map (λ (w : Bor (List ℕ)). w.now) words) ≡ read_requirement (map (λ (w : Bor (List ℕ)). w.now) sum) relation.now constant.now
require_is words before sum relation constant are end =
    ap read_require (mapped_end words before constant are)
    ∙ rw (before_last (map (λ (w : Bor (List ℕ)). w.now) before) constant.now, last_is (map (λ (w : Bor (List ℕ)). w.now) before) constant.now, mapped_end before sum relation end, before_last (map (λ (w : Bor (List ℕ)). w.now) sum) relation.now, last_is (map (λ (w : Bor (List ℕ)). w.now) sum) relation.now) refl

pub no_require : (words before : List (Bor (List ℕ))) (constant : Bor (List ℕ)) → words ≡ before ++ constant ∷ [] → length before ≡ 0 → read_require (map (λ (w : Bor (List ℕ)). w.now) words) ≡ None
no_require words [] constant are h = ap (λ ws. read_require (map (λ (w : Bor (List ℕ)). w.now) ws)) are
no_require words (b ∷ before) constant are h = absurd (omega arith)

-- ---- the addends of a sum

-- addends, and those behind them
abbrev pub and_these : List Addend → Option (List Addend) → Option (List Addend)
and_these done more = option_map (λ rest. done ++ rest) more

and_one : (done : List Addend) (a : Addend) (more : Option (List Addend)) → and_these done (with_first (Some a) more) ≡ and_these (done ++ a ∷ []) more
and_one done a None = refl
and_one done a (Some rest) = ap Some (sym (append_assoc done (a ∷ []) rest))

pub addends_begin : (all : Option (List Addend)) → all ≡ and_these [] all
addends_begin None = refl
addends_begin (Some rest) = refl

addends_step : (words : List (Bor (List ℕ))) (done : List Addend) (a : Addend) (all : Option (List Addend)) → 2 ≤ length words → Some a ≡ first_addend (map (λ (w : Bor (List ℕ)). w.now) words) → all ≡ and_these done (read_addends (map (λ (w : Bor (List ℕ)). w.now) words)) → all ≡ and_these (done ++ a ∷ []) (read_addends (map (λ (w : Bor (List ℕ)). w.now) (drop 2 words)))
addends_step [] done a all h is are = absurd (omega arith)
addends_step (sign ∷ []) done a all h is are = absurd (omega arith)
addends_step (sign ∷ word ∷ words) done a all h is are =
    are ∙ ap (λ o. and_these done (with_first o (read_addends (map (λ (w : Bor (List ℕ)). w.now) words)))) (sym is) ∙ and_one done a (read_addends (map (λ (w : Bor (List ℕ)). w.now) words))

pub addends_more : (words rest : List (Bor (List ℕ))) (read : ℕ) (done : List Addend) (a : Addend) (all : Option (List Addend)) → rest ≡ drop read words → 2 ≤ length rest → Some a ≡ first_addend (map (λ (w : Bor (List ℕ)). w.now) rest) → all ≡ and_these done (read_addends (map (λ (w : Bor (List ℕ)). w.now) (drop read words))) → all ≡ and_these (done ++ a ∷ []) (read_addends (map (λ (w : Bor (List ℕ)). w.now) (drop (read + 2) words)))
addends_more words rest read done a all at room is are =
    let two : drop 2 (drop read words) ≡ drop (read + 2) words = drop-drop 2 read words in
    rw (← two) (addends_step (drop read words) done a all (rw at at room) (rw at at is) are)

addends_stop : (words : List (Bor (List ℕ))) (done : List Addend) (all : Option (List Addend)) → 0 < length words → None ≡ first_addend (map (λ (w : Bor (List ℕ)). w.now) words) → all ≡ and_these done (read_addends (map (λ (w : Bor (List ℕ)). w.now) words)) → all ≡ None
addends_stop [] done all h is are = absurd (omega arith)
addends_stop (sign ∷ []) done all h is are = are
addends_stop (sign ∷ word ∷ words) done all h is are =
    are ∙ ap (λ o. and_these done (with_first o (read_addends (map (λ (w : Bor (List ℕ)). w.now) words)))) (sym is)

pub addends_none : (words rest : List (Bor (List ℕ))) (read : ℕ) (done : List Addend) (all : Option (List Addend)) → read < length words → rest ≡ drop read words → None ≡ first_addend (map (λ (w : Bor (List ℕ)). w.now) rest) → all ≡ and_these done (read_addends (map (λ (w : Bor (List ℕ)). w.now) (drop read words))) → all ≡ None
addends_none words rest read done all low at is are =
    let some : 0 < length (drop read words) = rw length-drop (omega arith) in
    addends_stop (drop read words) done all some (rw at at is) are

pub addends_end : (words : List (Bor (List ℕ))) (read : ℕ) (done : List Addend) (all : Option (List Addend)) → length words ≤ read → all ≡ and_these done (read_addends (map (λ (w : Bor (List ℕ)). w.now) (drop read words))) → all ≡ Some done
addends_end words read done all past are = ended (drop read words) (rw length-drop (omega arith)) are
  where
    ended : (rest : List (Bor (List ℕ))) → length rest ≡ 0 → all ≡ and_these done (read_addends (map (λ (w : Bor (List ℕ)). w.now) rest)) → all ≡ Some done
    ended [] h are = are ∙ ap Some (append-nil done)
    ended (word ∷ words) h are = absurd (omega arith)
