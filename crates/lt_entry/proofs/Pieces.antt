-- Words, cut in front of each step.
use Rattle.std.proofs.Common.{◌≡◌, ℕ, ◌<◌, ◌≤◌, ◌-◌, ◌+◌, Bool, true, false, List, [], ◌∷◌, ◌++◌, length, get_or, take, drop, refl, sym, ◌∙◌, ap, arith, append_assoc, length-drop, get_or-drop}
use Rattle.std.specs.Bool.{if◌then◌else◌}
use Rattle.std.specs.List.{onto_first, slice_range}
use Rattle.std.proofs.lemmas.List.{append-nil, take_more, drop_more}
use Rattle.lt_entry.specs.Reading.{begins_step, pieces, onto}

-- One more byte stands behind the bytes so far.
onto_byte : (bytes : List ℕ) (b : ℕ) (parts : List (List ℕ)) → onto bytes (onto_first b parts) ≡ onto (bytes ++ b ∷ []) parts
onto_byte bytes b [] = refl
onto_byte bytes b (part ∷ parts) = ap (λ x. x ∷ parts) (sym (append_assoc bytes (b ∷ []) part))

onto_first_same : (b : ℕ) (parts : List (List ℕ)) → onto_first b parts ≡ onto (b ∷ []) parts
onto_first_same b [] = refl
onto_first_same b (part ∷ parts) = refl

onto_nil_first : (b : ℕ) (parts : List (List ℕ)) → onto [] (onto_first b parts) ≡ onto_first b parts
onto_nil_first b [] = refl
onto_nil_first b (part ∷ parts) = refl

onto_nil_cases : (t : Bool) (b : ℕ) (parts : List (List ℕ)) → onto [] (if t then [] ∷ onto_first b parts else onto_first b parts) ≡ (if t then [] ∷ onto_first b parts else onto_first b parts)
onto_nil_cases true b parts = refl
onto_nil_cases false b parts = onto_nil_first b parts

pub onto_nothing : (bytes : List ℕ) → onto [] (pieces bytes) ≡ pieces bytes
onto_nothing [] = refl
onto_nothing (b ∷ bytes) = onto_nil_cases (begins_step b) b (pieces bytes)

pub step_in_piece : (bytes : List ℕ) (b : ℕ) (behind : List ℕ) → begins_step b ≡ false → onto bytes (pieces (b ∷ behind)) ≡ onto (bytes ++ b ∷ []) (pieces behind)
step_in_piece bytes b behind is = rw is (onto_byte bytes b (pieces behind))

pub step_between : (bytes : List ℕ) (b : ℕ) (behind : List ℕ) → begins_step b ≡ true → onto bytes (pieces (b ∷ behind)) ≡ bytes ∷ onto (b ∷ []) (pieces behind)
step_between bytes b behind is = rw (is, append-nil) (ap (λ x. bytes ∷ x) (onto_first_same b (pieces behind)))

range_more : (bytes : List ℕ) (start i : ℕ) → start ≤ i → i < length bytes → slice_range bytes start (i + 1) ≡ slice_range bytes start i ++ get_or bytes i 0 ∷ []
range_more bytes start i before inside =
    let one : i + 1 - start ≡ (i - start) + 1 = omega arith in
    let low : i - start < length (drop start bytes) = rw length-drop (omega arith) in
    let at : start + (i - start) ≡ i = omega arith in
    let item : get_or (drop start bytes) (i - start) 0 ≡ get_or bytes i 0 = get_or-drop start bytes (i - start) 0 ∙ ap (λ k. get_or bytes k 0) at in
    rw (one, take_more (drop start bytes) (i - start) 0, item) refl

range_of_one : (bytes : List ℕ) (i : ℕ) → i < length bytes → slice_range bytes i (i + 1) ≡ get_or bytes i 0 ∷ []
range_of_one bytes i inside =
    let none : i - i ≡ 0 = omega arith in
    range_more bytes i i (omega arith) inside ∙ ap (λ n. take n (drop i bytes) ++ get_or bytes i 0 ∷ []) none

-- a byte inside a piece
pub more_in_piece : (bytes : List ℕ) (start i : ℕ) (done : List (List ℕ)) → start ≤ i → i < length bytes → begins_step (get_or bytes i 0) ≡ false → pieces bytes ≡ done ++ onto (slice_range bytes start i) (pieces (drop i bytes)) → pieces bytes ≡ done ++ onto (slice_range bytes start (i + 1)) (pieces (drop (i + 1) bytes))
more_in_piece bytes start i done before inside is so_far =
    so_far ∙ ap (λ x. done ++ x) (ap (λ x. onto (slice_range bytes start i) (pieces x)) (drop_more bytes i 0 inside) ∙ step_in_piece (slice_range bytes start i) (get_or bytes i 0) (drop (i + 1) bytes) is ∙ ap (λ x. onto x (pieces (drop (i + 1) bytes))) (sym (range_more bytes start i before inside)))

-- a byte at which the next piece begins
pub more_between : (bytes : List ℕ) (start i : ℕ) (done : List (List ℕ)) → i < length bytes → begins_step (get_or bytes i 0) ≡ true → pieces bytes ≡ done ++ onto (slice_range bytes start i) (pieces (drop i bytes)) → pieces bytes ≡ (done ++ slice_range bytes start i ∷ []) ++ onto (slice_range bytes i (i + 1)) (pieces (drop (i + 1) bytes))
more_between bytes start i done inside is so_far =
    so_far ∙ ap (λ x. done ++ x) (ap (λ x. onto (slice_range bytes start i) (pieces x)) (drop_more bytes i 0 inside) ∙ step_between (slice_range bytes start i) (get_or bytes i 0) (drop (i + 1) bytes) is ∙ ap (λ x. slice_range bytes start i ∷ onto x (pieces (drop (i + 1) bytes))) (sym (range_of_one bytes i inside))) ∙ sym (append_assoc done (slice_range bytes start i ∷ []) (onto (slice_range bytes i (i + 1)) (pieces (drop (i + 1) bytes))))
