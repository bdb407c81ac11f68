-- A sum that is read is the one that its words write, and every sum is read.
use Rattle.std.proofs.Common.{◌≡◌, ℕ, ◌==◌, Bool, true, false, List, [], ◌∷◌, ◌++◌, Option, Some, None, refl, sym, ◌∙◌, ap, subst, append_assoc}
use Rattle.std.specs.Prelude.{◌&&◌, if◌then◌else◌, codes, flat_map, option_map}
use Rattle.std.specs.List.{list_all, slice_split, join_with_byte}
use Rattle.std.specs.Str.{bytes_eq}
use Rattle.std.proofs.lemmas.List.Splits.{join_with_byte-slice_split}
use Rattle.std.proofs.lemmas.Slice.Eq.{bytes_eq-Decides}
use Rattle.lt_entry.specs.Written.{Numeral, numeral_word, PlaceWord, place_word, is_place, is_single}
use Rattle.lt_entry.specs.SpecificationLines.{Relation, at_most, at_least, equal_to, relation_word, Term, factor_bytes, term_word, is_factor, Addend, addend_words, is_addend}
use Rattle.lt_entry.specs.Reading.{read_numeral, with_first, read_single}
use Rattle.lt_entry.specs.ReadingLines.{parts_of_term, factor_and_place, term_from, read_term, read_sign, sign_and_term, read_addend, read_addends, read_relation}
use Rattle.lt_entry.proofs.NumeralLaws.{numeral_read, numeral_said}
use Rattle.lt_entry.proofs.PieceLaws.{both, not_true}
use Rattle.lt_entry.proofs.WrittenRead.{single_said, single_read, is_plain, numeral_plain, single_plain}

-- ---- asterisks

split_none : (bytes : List ℕ) → list_all is_plain bytes ≡ true → slice_split (λ b. b == 42) bytes ≡ bytes ∷ []
split_none [] h = refl
split_none (b ∷ bytes) h =
    let hs = both (is_plain b) (list_all is_plain bytes) h in
    rw (not_true (b == 42) hs.0, split_none bytes hs.1) refl

split_at : (bytes rest : List ℕ) → list_all is_plain bytes ≡ true → slice_split (λ b. b == 42) (bytes ++ 42 ∷ rest) ≡ bytes ∷ slice_split (λ b. b == 42) rest
split_at [] rest h = refl
split_at (b ∷ bytes) rest h =
    let hs = both (is_plain b) (list_all is_plain bytes) h in
    rw (not_true (b == 42) hs.0, split_at bytes rest hs.1) refl

-- ---- terms

-- the term's factor and place are of their forms
abbrev pub is_term_form : Term → Bool
is_term_form term = is_factor term.factor && is_place term.place && is_single term.place

term_parts : (factor : Option Numeral) (place : PlaceWord) → is_factor factor ≡ true → is_place place ≡ true → is_single place ≡ true → read_term (factor_bytes factor ++ place_word place) ≡ Some (record { factor = factor; place = place })
term_parts None place f h one =
    ap (term_from (place_word place)) (split_none (place_word place) (single_plain place h one)) ∙ rw (single_read place h one) refl
term_parts (Some n) place f h one =
    let word : (numeral_word n ++ codes "*") ++ place_word place ≡ numeral_word n ++ 42 ∷ place_word place = append_assoc (numeral_word n) (codes "*") (place_word place) in
    let cut : parts_of_term (numeral_word n ++ 42 ∷ place_word place) ≡ numeral_word n ∷ place_word place ∷ [] =
    split_at (numeral_word n) (place_word place) (numeral_plain n f) ∙ ap (λ parts. numeral_word n ∷ parts) (split_none (place_word place) (single_plain place h one)) in
    ap read_term word ∙ ap (term_from (numeral_word n ++ 42 ∷ place_word place)) cut ∙ rw (numeral_read n f, single_read place h one) refl

pub term_read : (term : Term) → is_term_form term ≡ true → read_term (term_word term) ≡ Some term
term_read term h =
    let hs = both (is_factor term.factor && is_place term.place) (is_single term.place) h in
    let gs = both (is_factor term.factor) (is_place term.place) hs.0 in
    term_parts term.factor term.place gs.0 gs.1 hs.1

-- the term is of its form, and this is its word
abbrev pub WritesTerm : Term → List ℕ → Type 0
WritesTerm term word = (is_term_form term ≡ true) × (term_word term ≡ word)

alone_said : (o : Option PlaceWord) (word : List ℕ) (term : Term) → read_single word ≡ o → option_map (λ p. record { factor = None; place = p }) o ≡ Some term → WritesTerm term word
alone_said None word term e h = absurd (cc)
alone_said (Some place) word term e h =
    let it : Term = record { factor = None; place = place } in
    let same : it ≡ term = cc in
    let w = single_said word place e in
    let writes : WritesTerm (record { factor = None; place = place }) word = (rw (w.0.0, w.1) refl, w.0.1) in
    subst (λ t. WritesTerm t word) same writes

times_said : (o : Option Numeral) (p : Option PlaceWord) (factor place : List ℕ) (term : Term) → read_numeral factor ≡ o → read_single place ≡ p → factor_and_place o p ≡ Some term → WritesTerm term (factor ++ 42 ∷ place)
times_said (Some n) (Some it) factor place term e f h =
    let made : Term = record { factor = Some n; place = it } in
    let same : made ≡ term = cc in
    let v = numeral_said factor n e in
    let w = single_said place it f in
    let word : (numeral_word n ++ codes "*") ++ place_word it ≡ factor ++ 42 ∷ place = append_assoc (numeral_word n) (codes "*") (place_word it) ∙ rw (v.1, w.0.1) refl in
    let writes : WritesTerm (record { factor = Some n; place = it }) (factor ++ 42 ∷ place) = (rw (v.0, w.0.0, w.1) refl, word) in
    subst (λ t. WritesTerm t (factor ++ 42 ∷ place)) same writes
times_said (Some n) None factor place term e f h = absurd (cc)
times_said None p factor place term e f h = absurd (cc)

parts_said : (word : List ℕ) (parts : List (List ℕ)) (term : Term) → join_with_byte 42 parts ≡ word → term_from word parts ≡ Some term → WritesTerm term word
parts_said word [] term joined h = alone_said (read_single word) word term refl h
parts_said word (a ∷ []) term joined h = alone_said (read_single word) word term refl h
parts_said word (a ∷ b ∷ []) term joined h =
    subst (WritesTerm term) joined (times_said (read_numeral a) (read_single b) a b term refl refl h)
parts_said word (a ∷ b ∷ c ∷ parts) term joined h = alone_said (read_single word) word term refl h

pub term_said : (word : List ℕ) (term : Term) → read_term word ≡ Some term → WritesTerm term word
term_said word term h = parts_said word (parts_of_term word) term (join_with_byte-slice_split 42 word) h

-- ---- terms behind signs

sign_read : (t : Bool) → read_sign (if t then codes "-" else codes "+") ≡ Some t
sign_read true = refl
sign_read false = refl

sign_by : (a b : Bool) (word : List ℕ) (t : Bool) → bytes_eq word (codes "+") ≡ a → bytes_eq word (codes "-") ≡ b → (if a then Some false else if b then Some true else None) ≡ Some t → (if t then codes "-" else codes "+") ≡ word
sign_by true b word t ea eb h =
    let is : false ≡ t = cc in
    subst (λ s. (if s then codes "-" else codes "+") ≡ word) is (sym ((bytes_eq-Decides word (codes "+")).0 ea))
sign_by false true word t ea eb h =
    let is : true ≡ t = cc in
    subst (λ s. (if s then codes "-" else codes "+") ≡ word) is (sym ((bytes_eq-Decides word (codes "-")).0 eb))
sign_by false false word t ea eb h = absurd (cc)

sign_said : (word : List ℕ) (t : Bool) → read_sign word ≡ Some t → (if t then codes "-" else codes "+") ≡ word
sign_said word t h = sign_by (bytes_eq word (codes "+")) (bytes_eq word (codes "-")) word t refl refl h

addend_read : (addend : Addend) → is_addend addend ≡ true → read_addend (if addend.is_minus then codes "-" else codes "+") (term_word addend.term) ≡ Some addend
addend_read addend h = rw (sign_read addend.is_minus, term_read addend.term h) refl

pub addends_read : (addends : List Addend) → list_all is_addend addends ≡ true → read_addends (flat_map addend_words addends) ≡ Some addends
addends_read [] h = refl
addends_read (addend ∷ addends) h =
    let hs = both (is_addend addend) (list_all is_addend addends) h in
    rw (addend_read addend hs.0, addends_read addends hs.1) refl

-- the addend is of its form, and these are its words
abbrev WritesAddend : Addend → (sign word : List ℕ) → Type 0
WritesAddend addend sign word = (is_addend addend ≡ true) × (addend_words addend ≡ sign ∷ word ∷ [])

addend_by : (s : Option Bool) (t : Option Term) (sign word : List ℕ) (addend : Addend) → read_sign sign ≡ s → read_term word ≡ t → sign_and_term s t ≡ Some addend → WritesAddend addend sign word
addend_by (Some minus) (Some term) sign word addend e f h =
    let made : Addend = record { is_minus = minus; term = term } in
    let same : made ≡ addend = cc in
    let w = term_said word term f in
    let writes : WritesAddend (record { is_minus = minus; term = term }) sign word = (w.0, rw (sign_said sign minus e, w.1) refl) in
    subst (λ a. WritesAddend a sign word) same writes
addend_by (Some minus) None sign word addend e f h = absurd (cc)
addend_by None t sign word addend e f h = absurd (cc)

abbrev pub WriteAddends : List Addend → List (List ℕ) → Type 0
WriteAddends addends words = (list_all is_addend addends ≡ true) × (flat_map addend_words addends ≡ words)

addends_first : (sign word : List ℕ) (words : List (List ℕ)) (o : Option Addend) (os : Option (List Addend)) (addends : List Addend) → ((a : Addend) → o ≡ Some a → WritesAddend a sign word) → ((rest : List Addend) → os ≡ Some rest → WriteAddends rest words) → with_first o os ≡ Some addends → WriteAddends addends (sign ∷ word ∷ words)
addends_first sign word words (Some a) (Some rest) addends one more h =
    let is : a ∷ rest ≡ addends = cc in
    let w = one a refl in
    let ws = more rest refl in
    let writes : WriteAddends (a ∷ rest) (sign ∷ word ∷ words) = (rw (w.0, ws.0) refl, ap (λ front. front ++ flat_map addend_words rest) w.1 ∙ ap (λ more. sign ∷ word ∷ more) ws.1) in
    subst (λ v. WriteAddends v (sign ∷ word ∷ words)) is writes
addends_first sign word words (Some a) None addends one more h = absurd (cc)
addends_first sign word words None os addends one more h = absurd (cc)

pub addends_said : (words : List (List ℕ)) (addends : List Addend) → read_addends words ≡ Some addends → WriteAddends addends words
addends_said [] addends h =
    let none : [] ≡ addends = cc in
    subst (λ v. WriteAddends v []) none (refl, refl)
addends_said (sign ∷ []) addends h = absurd (cc)
addends_said (sign ∷ word ∷ words) addends h =
    addends_first sign word words (read_addend sign word) (read_addends words) addends (λ a read. addend_by (read_sign sign) (read_term word) sign word a refl refl read) (addends_said words) h

-- ---- relations

pub relation_read : (relation : Relation) → read_relation (relation_word relation) ≡ Some relation
relation_read at_most = refl
relation_read at_least = refl
relation_read equal_to = refl

spelled : (word spelling : List ℕ) (it relation : Relation) → bytes_eq word spelling ≡ true → relation_word it ≡ spelling → it ≡ relation → relation_word relation ≡ word
spelled word spelling it relation e w is = ap relation_word (sym is) ∙ w ∙ sym ((bytes_eq-Decides word spelling).0 e)

relation_by : (a b c : Bool) (word : List ℕ) (relation : Relation) → bytes_eq word (codes "<=") ≡ a → bytes_eq word (codes ">=") ≡ b → bytes_eq word (codes "==") ≡ c → (if a then Some at_most else if b then Some at_least else if c then Some equal_to else None) ≡ Some relation → relation_word relation ≡ word
relation_by true b c word relation ea eb ec h = spelled word (codes "<=") at_most relation ea refl (cc)
relation_by false true c word relation ea eb ec h = spelled word (codes ">=") at_least relation eb refl (cc)
relation_by false false true word relation ea eb ec h = spelled word (codes "==") equal_to relation ec refl (cc)
relation_by false false false word relation ea eb ec h = absurd (cc)

pub relation_said : (word : List ℕ) (relation : Relation) → read_relation word ≡ Some relation → relation_word relation ≡ word
relation_said word relation h = relation_by (bytes_eq word (codes "<=")) (bytes_eq word (codes ">=")) (bytes_eq word (codes "==")) word relation refl refl refl h
