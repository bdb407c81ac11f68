-- The tokens of type names, one by one.
use Rattle.std.proofs.Common.{◌≡◌, ℕ, ◌+◌, ◌<◌, Bool, true, false, List, [], ◌∷◌, ◌++◌, length, drop, get_or, Bor, refl, sym, ap, ◌∙◌, true≢false, append_assoc}
use Rattle.std.specs.Prelude.{map, filter, flat_map, codes, not, ◌||◌, ◌==◌}
use Rattle.std.specs.List.{slice_split}
use Rattle.std.specs.Str.{bytes_eq}
use Rattle.std.specs.Cmp.Lexicographic.{bytes_decides}
use Rattle.std.proofs.lemmas.List.{map-append}
use Rattle.std.proofs.lemmas.List.Elements.{filter-append}
use Rattle.lt_token.specs.Words.{is_among, keywords, respelled, skipped, word_of, spells_const, spells_volatile, spells_signed}
use Rattle.lt_entry.specs.Lines.{is_empty}
use Rattle.lt_entry.specs.TypeNames.{with_stars, tokens_in, tokens_of}
use Rattle.lt_input_blocks.specs.Tokens.{texts, kept, behind_stars}
use Rattle.lt_input_blocks.proofs.Lists.{drop_first}

-- ---- lists of tokens

abbrev spoken : List (List ℕ) → List (List ℕ)
spoken tokens = filter (λ token. not (is_among token skipped)) tokens

spoken_append : (xs ys : List (List ℕ)) → map word_of (spoken (xs ++ ys)) ≡ map word_of (spoken xs) ++ map word_of (spoken ys)
spoken_append xs ys = ap (map word_of) (filter-append (λ token. not (is_among token skipped)) xs ys) ∙ map-append word_of (spoken xs) (spoken ys)

pub kept_append : (xs ys : List (List ℕ)) → kept (xs ++ ys) ≡ kept xs ++ kept ys
kept_append xs ys =
    ap (λ l. map word_of (spoken l)) (filter-append (λ token. not (is_empty token)) xs ys)
    ∙ spoken_append (filter (λ token. not (is_empty token)) xs) (filter (λ token. not (is_empty token)) ys)

first_and_stars : (piece : List ℕ) (pieces : List (List ℕ)) → with_stars (piece ∷ pieces) ≡ piece ∷ behind_stars pieces
first_and_stars piece [] = refl
first_and_stars piece (next ∷ pieces) = ap (λ l. piece ∷ codes "*" ∷ l) (first_and_stars next pieces)

pub pieces_begin : (pieces : List (List ℕ)) (first : List ℕ) (others before after : List (List ℕ)) → pieces ≡ first ∷ others → after ≡ before ++ kept (first ∷ [])
    → after ++ kept (behind_stars others) ≡ before ++ kept (with_stars pieces)
pieces_begin pieces first others before after is put =
    ap (λ l. l ++ kept (behind_stars others)) put ∙ append_assoc before (kept (first ∷ [])) (kept (behind_stars others))
    ∙ ap (λ l. before ++ l) (sym (kept_append (first ∷ []) (behind_stars others)) ∙ ap kept (sym (first_and_stars first others) ∙ ap with_stars (sym is)))

pub pieces_step : (others : List (Bor (List ℕ))) (i : ℕ) (piece : Bor (List ℕ)) (before star after whole : List (List ℕ)) → i < length others → piece ≡ get_or others i piece
    → star ≡ before ++ kept (codes "*" ∷ []) → after ≡ star ++ kept (piece.now ∷ []) → before ++ kept (behind_stars (texts (drop i others))) ≡ whole
    → after ++ kept (behind_stars (texts (drop (i + 1) others))) ≡ whole
pieces_step others i piece before star after whole within is one two all =
    let rest = kept (behind_stars (texts (drop (i + 1) others))) in
    ap (λ l. l ++ rest) (two ∙ ap (λ l. l ++ kept (piece.now ∷ [])) one ∙ append_assoc before (kept (codes "*" ∷ [])) (kept (piece.now ∷ [])))
    ∙ append_assoc before (kept (codes "*" ∷ []) ++ kept (piece.now ∷ [])) rest
    ∙ ap (λ l. before ++ l)
    (ap (λ l. l ++ rest) (sym (kept_append (codes "*" ∷ []) (piece.now ∷ []))) ∙ sym (kept_append (codes "*" ∷ piece.now ∷ []) (behind_stars (texts (drop (i + 1) others)))))
    ∙ ap (λ l. before ++ kept (behind_stars (texts l))) (sym (drop_first others i piece within is)) ∙ all

pub word_step : (words : List (Bor (List ℕ))) (i : ℕ) (word : Bor (List ℕ)) (before after whole : List (List ℕ)) → i < length words → word ≡ get_or words i word
    → after ≡ before ++ kept (with_stars (slice_split (λ b. b == 42) word.now)) → before ++ tokens_of (texts (drop i words)) ≡ whole
    → after ++ tokens_of (texts (drop (i + 1) words)) ≡ whole
word_step words i word before after whole within is put all =
    let rest = texts (drop (i + 1) words) in
    let mine = with_stars (slice_split (λ b. b == 42) word.now) in
    ap (λ l. l ++ tokens_of rest) put ∙ append_assoc before (kept mine) (tokens_of rest)
    ∙ ap (λ l. before ++ l) (sym (spoken_append (tokens_in word.now) (flat_map tokens_in rest)))
    ∙ ap (λ l. before ++ tokens_of (texts l)) (sym (drop_first words i word within is)) ∙ all

-- ---- keywords

const_is_no_keyword : is_among spells_const keywords ≡ false
unfolding keywords spells_const
const_is_no_keyword = refl

volatile_is_no_keyword : is_among spells_volatile keywords ≡ false
unfolding keywords spells_volatile
volatile_is_no_keyword = refl

signed_is_no_keyword : is_among spells_signed keywords ≡ false
unfolding keywords spells_signed
signed_is_no_keyword = refl

other_spelling : (token spelling : List ℕ) → bytes_eq token spelling ≡ true → is_among spelling keywords ≡ false → is_among token keywords ≡ false
other_spelling token spelling same none = ap (λ w. is_among w keywords) ((bytes_decides token spelling).0 same) ∙ none

respelled_is_no_keyword : (token : List ℕ) → is_among token respelled ≡ true → is_among token keywords ≡ false
unfolding respelled
respelled_is_no_keyword token = by (bytes_eq token spells_const) (bytes_eq token spells_volatile) (bytes_eq token spells_signed) refl refl refl
  where
    by : (a b c : Bool) → bytes_eq token spells_const ≡ a → bytes_eq token spells_volatile ≡ b → bytes_eq token spells_signed ≡ c → (a || (b || (c || false))) ≡ true
        → is_among token keywords ≡ false
    by true b c p q r h = other_spelling token spells_const p const_is_no_keyword
    by false true c p q r h = other_spelling token spells_volatile q volatile_is_no_keyword
    by false false true p q r h = other_spelling token spells_signed r signed_is_no_keyword
    by false false false p q r h = absurd (true≢false (sym h))

pub plain_keyword : (token : List ℕ) (r : Bool) → r ≡ is_among token respelled → (is_among token keywords || is_among token respelled) ≡ true → not r ≡ is_among token keywords
plain_keyword token r is either = ap not is ∙ by (is_among token keywords) (is_among token respelled) refl refl either
  where
    by : (k s : Bool) → is_among token keywords ≡ k → is_among token respelled ≡ s → (k || s) ≡ true → not s ≡ k
    by true true p q h = absurd (true≢false (sym p ∙ respelled_is_no_keyword token q))
    by true false p q h = refl
    by false true p q h = refl
    by false false p q h = absurd (true≢false (sym h))
