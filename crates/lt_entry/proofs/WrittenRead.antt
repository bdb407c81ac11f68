-- A place or a target that is read is the one that the word writes, and every one is read.
use Rattle.std.proofs.Common.{◌≡◌, ℕ, ◌<◌, ◌^◌, ◌==◌, Bool, true, false, List, [], ◌∷◌, ◌++◌, Option, Some, None, refl, sym, ◌∙◌, ap, subst, arith}
use Rattle.std.specs.Prelude.{◌&&◌, not, if◌then◌else◌, codes, decimal, flat_map, map, option_map, option_and_then}
use Rattle.std.specs.List.{list_all}
use Rattle.std.specs.Char.{is_ascii_digit}
use Rattle.std.specs.Str.{bytes_eq}
use Rattle.std.proofs.lemmas.List.{append-nil}
use Rattle.std.proofs.lemmas.Slice.Eq.{bytes_eq-Decides}
use Rattle.std.proofs.lemmas.Bool.Decides.{nat_tests}
use Rattle.std.proofs.lemmas.Fmt.{digits_decimal}
use Rattle.lt_entry.specs.Written.{Numeral, numeral_word, is_numeral, is_name_byte, is_name, is_object_name, Step, at_index, at_each, at_member, PlaceWord, step_bytes, place_word, is_step, is_one, is_place, is_single, TargetWord, to_null, to_place, target_word, is_target, is_single_target}
use Rattle.lt_entry.specs.Reading.{read_numeral, read_all, pieces, onto, inside, read_index, read_closed, read_step, place_from, read_place, read_target, if_single, read_single, read_single_target}
use Rattle.lt_entry.proofs.Numbers.{own}
use Rattle.lt_entry.proofs.NumeralLaws.{numeral_read, numeral_said}
use Rattle.lt_entry.proofs.Inside.{closed_some}
use Rattle.lt_entry.proofs.AllRead.{all_read, WriteAll, all_said}
use Rattle.lt_entry.proofs.PieceLaws.{is_inner, both, not_true, all_weaker, all_of_two, inner_pieces, step_pieces, pieces_joined, name_byte_inner, digit_inner}

-- ---- bytes of numbers and names

small : (n : ℕ) → (is_numeral (record { is_negative = false; size = n })) ≡ true → n < 2 ^ 64
small n h = grind (arith, nat_tests)

decimal_holds : (p : ℕ → Bool) → ((b : ℕ) → is_ascii_digit b ≡ true → p b ≡ true) → (n : ℕ) → n < 2 ^ 64 → list_all p (decimal n) ≡ true
decimal_holds p digit n h = all_weaker is_ascii_digit p digit (decimal n) (digits_decimal own n h)

signed_holds : (p : ℕ → Bool) → ((b : ℕ) → is_ascii_digit b ≡ true → p b ≡ true) → p 45 ≡ true → (negative : Bool) (size : ℕ) → size < 2 ^ 64 → list_all p (numeral_word (record { is_negative = negative; size = size })) ≡ true
signed_holds p digit minus true size h = rw (minus, decimal_holds p digit size h) refl
signed_holds p digit minus false size h = decimal_holds p digit size h

-- What holds of digits and the minus holds of each byte of a number.
numeral_holds : (p : ℕ → Bool) → ((b : ℕ) → is_ascii_digit b ≡ true → p b ≡ true) → p 45 ≡ true → (n : Numeral) → is_numeral n ≡ true → list_all p (numeral_word n) ≡ true
numeral_holds p digit minus n h = signed_holds p digit minus n.is_negative n.size (small n.size h)

name_bytes : (word : List ℕ) → is_name word ≡ true → list_all is_name_byte word ≡ true
name_bytes [] h = absurd (cc)
name_bytes (b ∷ bytes) h = (both (not (is_ascii_digit b)) (list_all is_name_byte (b ∷ bytes)) h).1

name_holds : (p : ℕ → Bool) → ((b : ℕ) → is_name_byte b ≡ true → p b ≡ true) → (word : List ℕ) → is_name word ≡ true → list_all p word ≡ true
name_holds p byte word h = all_weaker is_name_byte p byte word (name_bytes word h)

object_by : (p : ℕ → Bool) → ((b : ℕ) → is_name_byte b ≡ true → p b ≡ true) → p 64 ≡ true → (t : Bool) (b : ℕ) (bytes : List ℕ) → (b == 64) ≡ t → (if t then is_name bytes else is_name (b ∷ bytes)) ≡ true → list_all p (b ∷ bytes) ≡ true
object_by p byte at true b bytes e h =
    let is : 64 ≡ b = grind (arith, nat_tests) in
    let here : p b ≡ true = subst (λ x. p x ≡ true) is at in
    rw (here, name_holds p byte bytes h) refl
object_by p byte at false b bytes e h = name_holds p byte (b ∷ bytes) h

-- What holds of bytes of names and of `@` holds of each byte of an object's name.
object_holds : (p : ℕ → Bool) → ((b : ℕ) → is_name_byte b ≡ true → p b ≡ true) → p 64 ≡ true → (name : List ℕ) → is_object_name name ≡ true → list_all p name ≡ true
object_holds p byte at [] h = absurd (cc)
object_holds p byte at (b ∷ bytes) h = object_by p byte at (b == 64) b bytes refl h

-- ---- steps that are written

index_inner : (n : Numeral) → is_numeral n ≡ true → list_all is_inner (numeral_word n ++ 93 ∷ []) ≡ true
index_inner n h = all_of_two is_inner (numeral_word n) (93 ∷ []) (numeral_holds is_inner digit_inner refl n h) refl

cut_step : (step : Step) (rest : List ℕ) → is_step step ≡ true → pieces (step_bytes step ++ rest) ≡ [] ∷ onto (step_bytes step) (pieces rest)
cut_step (at_index n) rest h = step_pieces 91 (numeral_word n ++ 93 ∷ []) rest refl (index_inner n h)
cut_step at_each rest h = step_pieces 91 (42 ∷ 93 ∷ []) rest refl refl
cut_step (at_member name) rest h = step_pieces 46 name rest refl (name_holds is_inner name_byte_inner name h)

cut_steps : (steps : List Step) → list_all is_step steps ≡ true → pieces (flat_map step_bytes steps) ≡ [] ∷ map step_bytes steps
cut_steps [] h = refl
cut_steps (step ∷ steps) h =
    let hs = both (is_step step) (list_all is_step steps) h in
    cut_step step (flat_map step_bytes steps) hs.0
    ∙ ap (λ parts. [] ∷ onto (step_bytes step) parts) (cut_steps steps hs.1)
    ∙ ap (λ bytes. [] ∷ bytes ∷ map step_bytes steps) (append-nil (step_bytes step))

cut_place : (place : PlaceWord) → is_place place ≡ true → pieces (place_word place) ≡ place.name ∷ map step_bytes place.steps
cut_place place h =
    let hs = both (is_object_name place.name) (list_all is_step place.steps) h in
    inner_pieces place.name (flat_map step_bytes place.steps) (object_holds is_inner name_byte_inner refl place.name hs.0)
    ∙ ap (onto place.name) (cut_steps place.steps hs.1)
    ∙ ap (λ bytes. bytes ∷ map step_bytes place.steps) (append-nil place.name)

no_star : (t : Bool) (word : List ℕ) (n : Numeral) → bytes_eq word (codes "*") ≡ t → read_numeral word ≡ Some n → t ≡ false
no_star true word n e h =
    let is : word ≡ codes "*" = (bytes_eq-Decides word (codes "*")).0 e in
    let none : read_numeral word ≡ None = ap read_numeral is in
    absurd (cc)
no_star false word n e h = refl

index_read : (n : Numeral) → is_numeral n ≡ true → read_index (numeral_word n) ≡ Some (at_index n)
index_read n h =
    let read = numeral_read n h in
    rw (no_star (bytes_eq (numeral_word n) (codes "*")) (numeral_word n) n refl read, read) refl

step_read : (step : Step) → is_step step ≡ true → read_step (step_bytes step) ≡ Some step
step_read (at_index n) h = closed_some (numeral_word n ++ 93 ∷ []) (numeral_word n) 93 refl refl ∙ index_read n h
step_read at_each h = refl
step_read (at_member name) h = rw h refl

pub place_read : (place : PlaceWord) → is_place place ≡ true → read_place (place_word place) ≡ Some place
place_read place h =
    let hs = both (is_object_name place.name) (list_all is_step place.steps) h in
    ap place_from (cut_place place h) ∙ rw (hs.0, all_read read_step step_bytes is_step step_read place.steps hs.1) refl

-- ---- what is read

closed_by : (t : Bool) (b : ℕ) (body : List ℕ) → (b == 93) ≡ t → (if t then Some [] else None) ≡ Some body → b ∷ [] ≡ body ++ 93 ∷ []
closed_by true b body e h =
    let none : [] ≡ body = cc in
    let is : b ≡ 93 = grind (arith, nat_tests) in
    rw (is, ← none) refl
closed_by false b body e h = absurd (cc)

inside_more : (b : ℕ) (o : Option (List ℕ)) (bytes body : List ℕ) → ((rest : List ℕ) → o ≡ Some rest → bytes ≡ rest ++ 93 ∷ []) → option_map (λ rest. b ∷ rest) o ≡ Some body → b ∷ bytes ≡ body ++ 93 ∷ []
inside_more b None bytes body said h = absurd (cc)
inside_more b (Some rest) bytes body said h =
    let is : b ∷ rest ≡ body = cc in
    ap (λ x. b ∷ x) (said rest refl) ∙ ap (λ x. x ++ 93 ∷ []) is

inside_said : (bytes body : List ℕ) → inside bytes ≡ Some body → bytes ≡ body ++ 93 ∷ []
inside_said [] body h = absurd (cc)
inside_said (b ∷ []) body h = closed_by (b == 93) b body refl h
inside_said (b ∷ c ∷ bytes) body h = inside_more b (inside (c ∷ bytes)) (c ∷ bytes) body (inside_said (c ∷ bytes)) h

-- the step is of its form, and these are its bytes
abbrev Writes : Step → List ℕ → Type 0
Writes step bytes = (is_step step ≡ true) × (step_bytes step ≡ bytes)

index_from : (o : Option Numeral) (body : List ℕ) (step : Step) → ((n : Numeral) → o ≡ Some n → (is_numeral n ≡ true) × (numeral_word n ≡ body)) → option_map at_index o ≡ Some step → Writes step (91 ∷ body ++ 93 ∷ [])
index_from None body step said h = absurd (cc)
index_from (Some n) body step said h =
    let is : at_index n ≡ step = cc in
    let writes : Writes (at_index n) (91 ∷ body ++ 93 ∷ []) = ((said n refl).0, ap (λ x. 91 ∷ x ++ 93 ∷ []) (said n refl).1) in
    subst (λ s. Writes s (91 ∷ body ++ 93 ∷ [])) is writes

index_by : (t : Bool) (body : List ℕ) (step : Step) → bytes_eq body (codes "*") ≡ t → (if t then Some at_each else option_map at_index (read_numeral body)) ≡ Some step → Writes step (91 ∷ body ++ 93 ∷ [])
index_by true body step e h =
    let is : at_each ≡ step = cc in
    let star : body ≡ codes "*" = (bytes_eq-Decides body (codes "*")).0 e in
    let writes : Writes at_each (91 ∷ body ++ 93 ∷ []) = (refl, ap (λ x. 91 ∷ x ++ 93 ∷ []) (sym star)) in
    subst (λ s. Writes s (91 ∷ body ++ 93 ∷ [])) is writes
index_by false body step e h = index_from (read_numeral body) body step (λ n read. numeral_said body n read) h

closed_said : (o : Option (List ℕ)) (bytes : List ℕ) (step : Step) → inside bytes ≡ o → option_and_then read_index o ≡ Some step → Writes step (91 ∷ bytes)
closed_said None bytes step e h = absurd (cc)
closed_said (Some body) bytes step e h =
    subst (λ x. Writes step (91 ∷ x)) (sym (inside_said bytes body e)) (index_by (bytes_eq body (codes "*")) body step refl h)

member_by : (s t : Bool) (b : ℕ) (bytes : List ℕ) (step : Step) → (b == 46) ≡ s → is_name bytes ≡ t → (if s && t then Some (at_member bytes) else None) ≡ Some step → Writes step (b ∷ bytes)
member_by true true b bytes step e is h =
    let same : at_member bytes ≡ step = cc in
    let dot : 46 ≡ b = grind (arith, nat_tests) in
    let writes : Writes (at_member bytes) (b ∷ bytes) = (is, ap (λ x. x ∷ bytes) dot) in
    subst (λ s. Writes s (b ∷ bytes)) same writes
member_by true false b bytes step e is h = absurd (cc)
member_by false t b bytes step e is h = absurd (cc)

step_by : (t : Bool) (b : ℕ) (bytes : List ℕ) (step : Step) → (b == 91) ≡ t → (if t then read_closed bytes else if (b == 46) && is_name bytes then Some (at_member bytes) else None) ≡ Some step → Writes step (b ∷ bytes)
step_by true b bytes step e h =
    let bracket : 91 ≡ b = grind (arith, nat_tests) in
    subst (λ x. Writes step (x ∷ bytes)) bracket (closed_said (inside bytes) bytes step refl h)
step_by false b bytes step e h = member_by (b == 46) (is_name bytes) b bytes step refl refl h

step_said : (piece : List ℕ) (step : Step) → read_step piece ≡ Some step → Writes step piece
step_said [] step h = absurd (cc)
step_said (b ∷ bytes) step h = step_by (b == 91) b bytes step refl h

-- the place is of its form, and this is its word
abbrev pub WritesPlace : PlaceWord → List ℕ → Type 0
WritesPlace place word = (is_place place ≡ true) × (place_word place ≡ word)

flat_steps : (steps : List Step) → flat_map step_bytes steps ≡ flat_map (λ part. part) (map step_bytes steps)
flat_steps [] = refl
flat_steps (step ∷ steps) = ap (λ x. step_bytes step ++ x) (flat_steps steps)

place_made : (name : List ℕ) (others : List (List ℕ)) (steps : List Step) (word : List ℕ) → is_object_name name ≡ true → WriteAll step_bytes is_step steps others → flat_map (λ part. part) (name ∷ others) ≡ word → WritesPlace (record { name = name; steps = steps }) word
place_made name others steps word is all joined = (
  rw (is, all.0) refl,
  ap (λ x. name ++ x) (flat_steps steps ∙ ap (flat_map (λ part. part)) all.1) ∙ joined,
)

from_steps : (name : List ℕ) (others : List (List ℕ)) (o : Option (List Step)) (word : List ℕ) (place : PlaceWord) → is_object_name name ≡ true → ((steps : List Step) → o ≡ Some steps → WriteAll step_bytes is_step steps others) → flat_map (λ part. part) (name ∷ others) ≡ word → option_map (λ steps. record { name = name; steps = steps }) o ≡ Some place → WritesPlace place word
from_steps name others None word place is said joined h = absurd (cc)
from_steps name others (Some steps) word place is said joined h =
    let it : PlaceWord = record { name = name; steps = steps } in
    let same : it ≡ place = cc in
    subst (λ p. WritesPlace p word) same (place_made name others steps word is (said steps refl) joined)

from_name : (t : Bool) (name : List ℕ) (others : List (List ℕ)) (word : List ℕ) (place : PlaceWord) → is_object_name name ≡ t → flat_map (λ part. part) (name ∷ others) ≡ word → (if t then option_map (λ steps. record { name = name; steps = steps }) (read_all read_step others) else None) ≡ Some place → WritesPlace place word
from_name true name others word place is joined h = from_steps name others (read_all read_step others) word place is (all_said read_step step_bytes is_step step_said others) joined h
from_name false name others word place is joined h = absurd (cc)

from_pieces : (parts : List (List ℕ)) (word : List ℕ) (place : PlaceWord) → flat_map (λ part. part) parts ≡ word → place_from parts ≡ Some place → WritesPlace place word
from_pieces [] word place joined h = absurd (cc)
from_pieces (name ∷ others) word place joined h = from_name (is_object_name name) name others word place refl joined h

pub place_said : (word : List ℕ) (place : PlaceWord) → read_place word ≡ Some place → WritesPlace place word
place_said word place h = from_pieces (pieces word) word place (pieces_joined word) h

-- ---- places with one part

single_by : (t : Bool) (read : PlaceWord) (place : PlaceWord) → is_single read ≡ t → (if t then Some read else None) ≡ Some place → (read ≡ place) × (is_single place ≡ true)
single_by true read place e h =
    let same : read ≡ place = cc in
    (same, ap is_single (sym same) ∙ e)
single_by false read place e h = absurd (cc)

single_from : (o : Option PlaceWord) (word : List ℕ) (place : PlaceWord) → ((read : PlaceWord) → o ≡ Some read → WritesPlace read word) → if_single o ≡ Some place → WritesPlace place word × (is_single place ≡ true)
single_from None word place said h = absurd (cc)
single_from (Some read) word place said h =
    let is = single_by (is_single read) read place refl h in
    (subst (λ p. WritesPlace p word) is.0 (said read refl), is.1)

pub single_said : (word : List ℕ) (place : PlaceWord) → read_single word ≡ Some place → WritesPlace place word × (is_single place ≡ true)
single_said word place h = single_from (read_place word) word place (place_said word) h

pub single_read : (place : PlaceWord) → is_place place ≡ true → is_single place ≡ true → read_single (place_word place) ≡ Some place
single_read place h one = ap if_single (place_read place h) ∙ rw one refl

-- ---- targets

-- the target is of its form and goes to no each, and this is its word
abbrev pub WritesTarget : TargetWord → List ℕ → Type 0
WritesTarget target word = (is_target target ≡ true) × (is_single_target target ≡ true) × (target_word target ≡ word)

place_target : (o : Option PlaceWord) (word : List ℕ) (target : TargetWord) → bytes_eq word (codes "null") ≡ false → ((place : PlaceWord) → o ≡ Some place → WritesPlace place word × (is_single place ≡ true)) → option_map to_place o ≡ Some target → WritesTarget target word
place_target None word target other said h = absurd (cc)
place_target (Some place) word target other said h =
    let same : to_place place ≡ target = cc in
    let is = said place refl in
    let no_null : bytes_eq (place_word place) (codes "null") ≡ false = ap (λ w. bytes_eq w (codes "null")) is.0.1 ∙ other in
    let writes : WritesTarget (to_place place) word = (rw (is.0.0, no_null) refl, is.1, is.0.1) in
    subst (λ t. WritesTarget t word) same writes

target_by : (t : Bool) (word : List ℕ) (target : TargetWord) → bytes_eq word (codes "null") ≡ t → (if t then Some to_null else option_map to_place (read_single word)) ≡ Some target → WritesTarget target word
target_by true word target e h =
    let same : to_null ≡ target = cc in
    let writes : WritesTarget to_null word = (refl, refl, sym ((bytes_eq-Decides word (codes "null")).0 e)) in
    subst (λ t. WritesTarget t word) same writes
target_by false word target e h = place_target (read_single word) word target e (single_said word) h

pub target_said : (word : List ℕ) (target : TargetWord) → read_single_target word ≡ Some target → WritesTarget target word
target_said word target h = target_by (bytes_eq word (codes "null")) word target refl h

pub target_read : (target : TargetWord) → is_target target ≡ true → is_single_target target ≡ true → read_single_target (target_word target) ≡ Some target
target_read to_null h one = refl
target_read (to_place place) h one =
    let hs = both (is_place place) (not (bytes_eq (place_word place) (codes "null"))) h in
    rw (not_true (bytes_eq (place_word place) (codes "null")) hs.1, single_read place hs.0 one) refl

-- ---- targets with several parts

-- the target is of its form, and this is its word
abbrev pub WritesAny : TargetWord → List ℕ → Type 0
WritesAny target word = (is_target target ≡ true) × (target_word target ≡ word)

place_any : (o : Option PlaceWord) (word : List ℕ) (target : TargetWord) → bytes_eq word (codes "null") ≡ false → ((place : PlaceWord) → o ≡ Some place → WritesPlace place word) → option_map to_place o ≡ Some target → WritesAny target word
place_any None word target other said h = absurd (cc)
place_any (Some place) word target other said h =
    let same : to_place place ≡ target = cc in
    let is = said place refl in
    let no_null : bytes_eq (place_word place) (codes "null") ≡ false = ap (λ w. bytes_eq w (codes "null")) is.1 ∙ other in
    let writes : WritesAny (to_place place) word = (rw (is.0, no_null) refl, is.1) in
    subst (λ t. WritesAny t word) same writes

any_by : (t : Bool) (word : List ℕ) (target : TargetWord) → bytes_eq word (codes "null") ≡ t → (if t then Some to_null else option_map to_place (read_place word)) ≡ Some target → WritesAny target word
any_by true word target e h =
    let same : to_null ≡ target = cc in
    let writes : WritesAny to_null word = (refl, sym ((bytes_eq-Decides word (codes "null")).0 e)) in
    subst (λ t. WritesAny t word) same writes
any_by false word target e h = place_any (read_place word) word target e (place_said word) h

pub any_said : (word : List ℕ) (target : TargetWord) → read_target word ≡ Some target → WritesAny target word
any_said word target h = any_by (bytes_eq word (codes "null")) word target refl h

pub any_read : (target : TargetWord) → is_target target ≡ true → read_target (target_word target) ≡ Some target
any_read to_null h = refl
any_read (to_place place) h =
    let hs = both (is_place place) (not (bytes_eq (place_word place) (codes "null"))) h in
    rw (not_true (bytes_eq (place_word place) (codes "null")) hs.1, place_read place hs.0) refl

-- ---- places without asterisks

-- no asterisk
abbrev pub is_plain : ℕ → Bool
is_plain b = not (b == 42)

name_byte_plain : (b : ℕ) → is_name_byte b ≡ true → is_plain b ≡ true
name_byte_plain b h = grind (arith, nat_tests)

digit_plain : (b : ℕ) → is_ascii_digit b ≡ true → is_plain b ≡ true
digit_plain b h = grind (arith, nat_tests)

pub numeral_plain : (n : Numeral) → is_numeral n ≡ true → list_all is_plain (numeral_word n) ≡ true
numeral_plain n h = numeral_holds is_plain digit_plain refl n h

step_plain : (step : Step) → is_step step ≡ true → is_one step ≡ true → list_all is_plain (step_bytes step) ≡ true
step_plain (at_index n) h one = all_of_two is_plain (numeral_word n) (93 ∷ []) (numeral_plain n h) refl
step_plain at_each h one = absurd (cc)
step_plain (at_member name) h one = name_holds is_plain name_byte_plain name h

steps_plain : (steps : List Step) → list_all is_step steps ≡ true → list_all is_one steps ≡ true → list_all is_plain (flat_map step_bytes steps) ≡ true
steps_plain [] h one = refl
steps_plain (step ∷ steps) h one =
    let hs = both (is_step step) (list_all is_step steps) h in
    let os = both (is_one step) (list_all is_one steps) one in
    all_of_two is_plain (step_bytes step) (flat_map step_bytes steps) (step_plain step hs.0 os.0) (steps_plain steps hs.1 os.1)

pub single_plain : (place : PlaceWord) → is_place place ≡ true → is_single place ≡ true → list_all is_plain (place_word place) ≡ true
single_plain place h one =
    let hs = both (is_object_name place.name) (list_all is_step place.steps) h in
    all_of_two is_plain place.name (flat_map step_bytes place.steps) (object_holds is_plain name_byte_plain refl place.name hs.0) (steps_plain place.steps hs.1 one)
