-- Words behind others.
use Rattle.std.proofs.Common.{◌≡◌, Bool, true, false, ◌||◌, ◌+◌, ◌<◌, ◌≤◌, eqb, not, ltb, length, get_or, drop, map, arith, List, [], ◌∷◌, ◌++◌, ℕ, suc, refl, ap, sym, ◌∙◌, append_assoc}
use Rattle.std.proofs.lemmas.List.{append-nil, drop_more, drop_all}
use Rattle.std.proofs.lemmas.Bool.{lt-ltb, ne_eqb}
use Rattle.lt_tree.specs.declared.terminal.Terminal.{Terminal}
use Rattle.lt_tree.specs.Pieces.{text_of}
use Rattle.lt_tree.specs.Canon.{Pieces, sign, apart, gap_if, word_if, signs_apart}
use Rattle.lt_print.specs.Lists.{stands, behind}
use Rattle.lt_print.proofs.Lists.{behind_apart}
use Rattle.lt_print.proofs.Texts.{text_append}

-- one more part behind what was written
pub joined : (out mid now : List ℕ) (a b : Pieces) → mid ≡ out ++ text_of a → now ≡ mid ++ text_of b → now ≡ out ++ text_of (a ++ b)
joined out mid now a b e f = f ∙ ap (λ (x : List ℕ). x ++ text_of b) e ∙ append_assoc out (text_of a) (text_of b) ∙ ap (λ (x : List ℕ). out ++ x) (sym (text_append a b))

pub word_there : (out mid now : List ℕ) (before there : Bool) (k : Terminal) → there ≡ true → mid ≡ out ++ text_of (gap_if before) → now ≡ mid ++ text_of (sign k ∷ [])
    → now ≡ out ++ text_of (behind before (word_if there k))
word_there out mid now before false k e a b = absurd cc
word_there out mid now true true k e a b = joined out mid now (gap_if true) (sign k ∷ []) a b
word_there out mid now false true k e a b = joined out mid now (gap_if false) (sign k ∷ []) a b

pub word_absent : (out : List ℕ) (before there : Bool) (k : Terminal) → there ≡ false → out ≡ out ++ text_of (behind before (word_if there k))
unfolding text_of
word_absent out before true k e = absurd cc
word_absent out true false k e = sym (append-nil out)
word_absent out false false k e = sym (append-nil out)

-- two parts, each with a space before it where something stands before
pub behind_two : (out mid now : List ℕ) (before between : Bool) (a b : Pieces) → mid ≡ out ++ text_of (behind before a) → between ≡ (before || stands a) → now ≡ mid ++ text_of (behind between b)
    → now ≡ out ++ text_of (behind before (apart a b))
behind_two out mid now before between a b e f g =
    joined out mid now (behind before a) (behind between b) e g
    ∙ ap (λ (x : Bool). out ++ text_of (behind before a ++ behind x b)) f ∙ ap (λ (x : Pieces). out ++ text_of x) (sym (behind_apart before a b))

pub stands_word : (there : Bool) (k : Terminal) → stands (word_if there k) ≡ there
stands_word true k = refl
stands_word false k = refl

-- words with spaces between, after the first
abbrev pub led : Bool → List Terminal → Pieces
led later [] = []
led later (k ∷ ks) = gap_if later ++ (sign k ∷ led true ks)

signs_are : (k : Terminal) (ks : List Terminal) → signs_apart (k ∷ ks) ≡ sign k ∷ led true ks
signs_are k [] = refl
signs_are k (l ∷ ks) = ap (λ (x : Pieces). apart (sign k ∷ []) x) (signs_are l ks)

pub led_is : (ks : List Terminal) → led false ks ≡ signs_apart ks
led_is [] = refl
led_is (k ∷ ks) = sym (signs_are k ks)

-- one more word
pub one_word : {X : Type 0} (f : X → Terminal) (xs : List X) (i : ℕ) (d x : X) (out first now whole : List ℕ)
    → i < length xs → x ≡ get_or xs i d → first ≡ out ++ text_of (gap_if (ltb 0 i)) → now ≡ first ++ text_of (sign (f x) ∷ [])
    → out ++ text_of (led (ltb 0 i) (map f (drop i xs))) ≡ whole
    → now ++ text_of (led (ltb 0 (i + 1)) (map f (drop (i + 1) xs))) ≡ whole
one_word {X} f xs i d x out first now whole lt is a b e =
    let here : drop i xs ≡ x ∷ drop (i + 1) xs = drop_more xs i d lt ∙ ap (λ (y : X). y ∷ drop (i + 1) xs) (sym is) in
    let later : ltb 0 (i + 1) ≡ true = lt-ltb 0 (i + 1) (omega arith) in
    let rest = led true (map f (drop (i + 1) xs)) in
    let head = gap_if (ltb 0 i) in
    let all : out ++ text_of (head ++ (sign (f x) ∷ rest)) ≡ whole = rw here at e in
    let split : text_of (head ++ (sign (f x) ∷ rest)) ≡ text_of head ++ (text_of (sign (f x) ∷ []) ++ text_of rest) = text_append head (sign (f x) ∷ rest) ∙ ap (λ (y : List ℕ). text_of head ++ y) (text_append (sign (f x) ∷ []) rest) in
    rw (later, b, a, append_assoc, append_assoc, ← split) all

-- no word is left
pub words_end : {X : Type 0} (f : X → Terminal) (xs : List X) (i : ℕ) (out start : List ℕ) → length xs ≤ i
    → out ++ text_of (led (ltb 0 i) (map f (drop i xs))) ≡ start ++ text_of (led false (map f xs)) → out ≡ start ++ text_of (signs_apart (map f xs))
unfolding text_of
words_end f xs i out start le e =
    let none : drop i xs ≡ [] = drop_all i xs le in
    sym (append-nil out) ∙ (rw none at e) ∙ ap (λ (x : Pieces). start ++ text_of x) (led_is (map f xs))

pub signs_stand : {X : Type 0} (f : X → Terminal) (xs : List X) → not (eqb (length xs) 0) ≡ stands (signs_apart (map f xs))
signs_stand f [] = refl
signs_stand f (x ∷ xs) = rw (ne_eqb (suc (length xs)) 0 (λ k. omega arith), signs_are (f x) (map f xs)) refl

-- storage classes, two words and qualifiers
pub four_words : (out first second third now : List ℕ) (a : Pieces) (b d : Bool) (k l : Terminal) (e : Pieces) (one two three : Bool)
    → first ≡ out ++ text_of a → one ≡ stands a → second ≡ first ++ text_of (behind one (word_if b k)) → two ≡ (one || b)
    → third ≡ second ++ text_of (behind two (word_if d l)) → three ≡ (two || d) → now ≡ third ++ text_of (behind three e)
    → now ≡ out ++ text_of (apart a (apart (word_if b k) (apart (word_if d l) e)))
four_words out first second third now a b d k l e one two three f1 s1 f2 s2 f3 s3 f4 =
    let last = behind_two second third now two three (word_if d l) e f3 (s3 ∙ ap (λ (x : Bool). two || x) (sym (stands_word d l))) f4 in
    let more = behind_two first second now one two (word_if b k) (apart (word_if d l) e) f2 (s2 ∙ ap (λ (x : Bool). one || x) (sym (stands_word b k))) last in
    behind_two out first now false one a (apart (word_if b k) (apart (word_if d l) e)) f1 s1 more
