-- What loops have read of string literals, before what they still read.
use Rattle.std.proofs.lemmas.Bool.{ne_eqb, eqb-true}
use Rattle.std.proofs.lemmas.List.{append-nil}
use Rattle.std.proofs.Common.{◌≡◌, ℕ, zero, suc, Bool, true, false, cond, ◌==◌, List, [], ◌∷◌, ◌++◌, length, drop, Option, Some, None, refl, sym, ap, ◌∙◌, append_assoc, arith}
use Rattle.std.specs.Prelude.{option_map, option_and_then}
use Rattle.lt_tree.specs.Strings.{is_plain, escape}
use Rattle.lt_tree.specs.Symbols.{Symbol, name, constant, literal, sign}
use Rattle.lt_expr.specs.Front.{Rest, first_value}
use Rattle.lt_expr.specs.Literals.{closed, value_within, value_of, begins_literal, text_of}
use Rattle.lt_expr.specs.Texts.{character}

-- ---- characters

-- what was spelled, and then what is still spelled
abbrev pub spelled : List ℕ → Option (List ℕ) → Option (List ℕ)
spelled front value = option_map (λ v. front ++ v) value

spelled_more : (front : List ℕ) (b : ℕ) (value : Option (List ℕ)) → spelled (front ++ b ∷ []) value ≡ spelled front (option_map (λ v. b ∷ v) value)
spelled_more front b None = refl
spelled_more front b (Some v) = ap Some (append_assoc front (b ∷ []) v)

abbrev and_then : ℕ → Option (ℕ × List ℕ) → Option (List ℕ)
and_then n x = option_and_then (λ y. option_map (λ value. y.0 ∷ value) (value_within n y.1)) x

-- what is spelled where no quote stands
abbrev unquoted : ℕ → ℕ → List ℕ → Bool → Bool → Option (List ℕ)
unquoted n b bytes p q = cond p (option_map (λ value. b ∷ value) (value_within n bytes)) (cond q (and_then n (escape bytes)) None)

value_turn : (n b : ℕ) (bytes : List ℕ) → (b == 34) ≡ false → value_within (suc n) (b ∷ bytes) ≡ and_then n (character b bytes)
unfolding value_within
value_turn n b bytes e = ap (λ q. cond q (closed bytes) (unquoted n b bytes (is_plain b) (b == 92))) e ∙ step (is_plain b) (b == 92)
  where
    step : (p q : Bool) → unquoted n b bytes p q ≡ and_then n (cond p (Some (b, bytes)) (cond q (escape bytes) None))
    step true q = refl
    step false true = refl
    step false false = refl

pub at_end : (front rest : List ℕ) (n : ℕ) (all : Option (List ℕ)) → length rest ≡ 0 → spelled front (value_within n rest) ≡ all → all ≡ None
unfolding value_within
at_end front [] zero all none e = sym e
at_end front [] (suc n) all none e = sym e
at_end front (b ∷ rest) n all none e = absurd (omega arith)

pub at_limit : (front rest : List ℕ) (n : ℕ) (all : Option (List ℕ)) → n ≡ 0 → spelled front (value_within n rest) ≡ all → all ≡ None
unfolding value_within
at_limit front rest zero all none e = sym e
at_limit front rest (suc n) all none e = absurd (omega arith)

quoted : (front : List ℕ) (n b : ℕ) (behind : List ℕ) → b ≡ 34 → spelled front (value_within (suc n) (b ∷ behind)) ≡ spelled front (closed behind)
unfolding value_within
quoted front n b behind q = ap (λ z. spelled front (value_within (suc n) (z ∷ behind))) q

pub at_quote : (front rest behind : List ℕ) (n m b : ℕ) (all : Option (List ℕ)) → n ≡ suc m → rest ≡ b ∷ behind → b ≡ 34 → spelled front (value_within n rest) ≡ all → all ≡ spelled front (closed behind)
at_quote front rest behind n m b all some is q e =
    sym e ∙ ap (λ k. spelled front (value_within k rest)) some ∙ ap (λ xs. spelled front (value_within (suc m) xs)) is ∙ quoted front m b behind q

pub closed_here : (front behind : List ℕ) → true ≡ (length behind == 0) → spelled front (closed behind) ≡ Some front
closed_here front [] e = ap Some (append-nil front)
closed_here front (b ∷ behind) e = let none : suc (length behind) ≡ 0 = eqb-true (suc (length behind)) 0 (sym e) in absurd (omega arith)

pub not_closed : (front behind : List ℕ) → false ≡ (length behind == 0) → spelled front (closed behind) ≡ None
not_closed front [] e = absurd cc
not_closed front (b ∷ behind) e = refl

pub at_none : (front rest behind : List ℕ) (n m b : ℕ) (all : Option (List ℕ)) → n ≡ suc m → rest ≡ b ∷ behind → (b ≡ 34 → ⊥) → None ≡ character b behind → spelled front (value_within n rest) ≡ all → all ≡ None
at_none front rest behind n m b all some is q none e =
    sym e ∙ ap (λ k. spelled front (value_within k rest)) some ∙ ap (λ xs. spelled front (value_within (suc m) xs)) is
    ∙ ap (spelled front) (value_turn m b behind (ne_eqb b 34 q) ∙ ap (and_then m) (sym none))

pub at_character : (front rest behind after : List ℕ) (n m b v : ℕ) (all : Option (List ℕ)) → n ≡ suc m → rest ≡ b ∷ behind → (b ≡ 34 → ⊥) → Some (v, after) ≡ character b behind
    → spelled front (value_within n rest) ≡ all → spelled (front ++ v ∷ []) (value_within m after) ≡ all
at_character front rest behind after n m b v all some is q one e =
    spelled_more front v (value_within m after)
    ∙ sym (ap (λ k. spelled front (value_within k rest)) some ∙ ap (λ xs. spelled front (value_within (suc m) xs)) is ∙ ap (spelled front) (value_turn m b behind (ne_eqb b 34 q) ∙ ap (and_then m) (sym one)))
    ∙ e

-- ---- literals

abbrev Text : Type 0
Text = List ℕ × List Symbol

-- what was read, and then what is still read
abbrev pub text_behind : List ℕ → Option Text → Option Text
text_behind front text = option_map (λ x. (front ++ x.0, x.1)) text

more_before : (front w : List ℕ) (text : Option Text) → text_behind (front ++ w) text ≡ text_behind front (text_behind w text)
more_before front w None = refl
more_before front w (Some x) = ap (λ v. Some (v, x.1)) (append_assoc front w x.0)

-- a literal, and what is behind it
abbrev with_first : Option (List ℕ) → Bool → Option Text → List Symbol → Option Text
with_first first more text ts = option_and_then (λ front. cond more (text_behind front text) (Some (front, ts))) first

text_is : (ts : List Symbol) → text_of ts ≡ with_first (first_value ts) (begins_literal (drop 1 ts)) (text_of (drop 1 ts)) (drop 1 ts)
text_is [] = refl
text_is (name w at ∷ ts) = refl
text_is (constant w at ∷ ts) = refl
text_is (literal w at ∷ ts) = refl
text_is (sign k at ∷ ts) = refl

pub one_more : (front w : List ℕ) (ts : List Symbol) (all : Option Text) → first_value ts ≡ Some w → begins_literal (drop 1 ts) ≡ true
    → text_behind front (text_of ts) ≡ all → text_behind (front ++ w) (text_of (drop 1 ts)) ≡ all
one_more front w ts all first more e =
    more_before front w (text_of (drop 1 ts))
    ∙ ap (λ b. text_behind front (with_first (Some w) b (text_of (drop 1 ts)) (drop 1 ts))) (sym more)
    ∙ ap (λ x. text_behind front (with_first x (begins_literal (drop 1 ts)) (text_of (drop 1 ts)) (drop 1 ts))) (sym first)
    ∙ ap (text_behind front) (sym (text_is ts))
    ∙ e

pub last_one : (front w : List ℕ) (ts : List Symbol) (all : Option Text) → first_value ts ≡ Some w → begins_literal (drop 1 ts) ≡ false
    → text_behind front (text_of ts) ≡ all → all ≡ Some (front ++ w, drop 1 ts)
last_one front w ts all first none e =
    sym e
    ∙ ap (text_behind front) (text_is ts)
    ∙ ap (λ x. text_behind front (with_first x (begins_literal (drop 1 ts)) (text_of (drop 1 ts)) (drop 1 ts))) first
    ∙ ap (λ b. text_behind front (with_first (Some w) b (text_of (drop 1 ts)) (drop 1 ts))) none

pub none_here : (front : List ℕ) (ts : List Symbol) (all : Option Text) → first_value ts ≡ None → text_behind front (text_of ts) ≡ all → all ≡ None
none_here front ts all first e =
    sym e
    ∙ ap (text_behind front) (text_is ts)
    ∙ ap (λ x. text_behind front (with_first x (begins_literal (drop 1 ts)) (text_of (drop 1 ts)) (drop 1 ts))) first
