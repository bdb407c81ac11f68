-- A list of parameters that is `void` alone is so as a tree, and the other way round.
use Rattle.std.proofs.Common.{◌≡◌, ◌≤◌, ◌<◌, ℕ, ◌+◌, Bool, cond, true, false, not, List, [], ◌∷◌, Option, Some, None, refl, ap, ◌∙◌, inl, inr, arith}
use Rattle.std.specs.Prelude.{◌⊎◌, option_and_then, option_map, if◌then◌else◌, ◌==◌}
use Rattle.std.specs.List.{list_all, fold}
use Rattle.std.proofs.lemmas.Bool.{and_parts, eqb-true}
use Rattle.lt_tree.specs.declared.specifier.BasicType.{BasicType}
use Rattle.lt_tree.specs.declared.specifier.BasicType.TheVariants as basic
use Rattle.lt_tree.specs.declared.specifier.TypeWord.{TypeWord}
use Rattle.lt_tree.specs.declared.specifier.TypeWord.TheVariants as w
use Rattle.lt_tree.specs.Tree as c
use Rattle.lt_tree.specs.TypeWords.{Spelling, by, spellings, all_words, same_word, occurrences, same_words, named_among, basic_of, words_alone, or_as_they_stand, gathered}
use Rattle.lt_tree.specs.Grammar.{no_words}
use Rattle.lt_print.proofs.TypesAgain.{as_types}

abbrev pub void_specifiers : c.Specifiers
void_specifiers = c.specifiers no_words (c.a_type (c.Basic basic.Void) c.no_types)

abbrev pub void_only : c.ParameterList
void_only = c.a_parameter void_specifiers (c.declarator None c.no_parts) c.no_parameters

-- ---- the word `void` alone names the type

data Member (x : TypeWord) : (xs : List TypeWord) → Type 0 where
  here : {xs : List TypeWord} → Member x (x ∷ xs)
  there : {y : TypeWord} {xs : List TypeWord} → Member x xs → Member x (y ∷ xs)

member : (word : TypeWord) → Member word all_words
unfolding all_words
member w.Void = here
member w.Char = there here
member w.Short = there (there here)
member w.Int = there (there (there here))
member w.Long = there (there (there (there here)))
member w.Float = there (there (there (there (there here))))
member w.Double = there (there (there (there (there (there here)))))
member w.Signed = there (there (there (there (there (there (there here))))))
member w.Unsigned = there (there (there (there (there (there (there (there here)))))))
member w.Bool = there (there (there (there (there (there (there (there (there here))))))))

passes_at : (p : TypeWord → Bool) {x : TypeWord} {xs : List TypeWord} → Member x xs → list_all p xs ≡ true → p x ≡ true
passes_at p {x} (here {xs}) h = (and_parts (p x) (list_all p xs) h).0
passes_at p (there {y} {xs} m) h = passes_at p m (and_parts (p y) (list_all p xs) h).1

passes : (p : TypeWord → Bool) → list_all p all_words ≡ true → (word : TypeWord) → p word ≡ true
passes p h word = passes_at p (member word) h

counted : (words : List TypeWord) → same_words (w.Void ∷ []) words ≡ true → (word : TypeWord) → occurrences word (w.Void ∷ []) ≡ occurrences word words
counted words h word = eqb-true (occurrences word (w.Void ∷ [])) (occurrences word words) (passes (λ v. occurrences v (w.Void ∷ []) == occurrences v words) h word)

apart : (a b : ℕ) → a ≡ 1 → b ≡ 0 → a ≡ b → ⊥
apart a b e f same = absurd (omega (arith, e, f, same))

grows : (p : TypeWord → Bool) (n : ℕ) (xs : List TypeWord) → n ≤ fold (λ (a : ℕ) (x : TypeWord). a + cond (p x) 1 0) n xs
grows p n [] = omega arith
grows p n (x ∷ xs) = omega (arith, grows p (n + cond (p x) 1 0) xs)

over : (p : TypeWord → Bool) (m n : ℕ) (xs : List TypeWord) → m < n → m ≡ fold (λ (a : ℕ) (x : TypeWord). a + cond (p x) 1 0) n xs → ⊥
over p m n xs less e = absurd (omega (arith, e, less, grows p n xs))

only : (words : List TypeWord) → ((word : TypeWord) → occurrences word (w.Void ∷ []) ≡ occurrences word words) → words ≡ w.Void ∷ []
unfolding same_word
only [] h = absurd (apart 1 0 refl refl (h w.Void))
only (w.Void ∷ []) h = refl
only (w.Void ∷ w.Void ∷ more) h = absurd (over (same_word w.Void) 1 2 more (omega arith) (h w.Void))
only (w.Void ∷ w.Char ∷ more) h = absurd (over (same_word w.Char) 0 1 more (omega arith) (h w.Char))
only (w.Void ∷ w.Short ∷ more) h = absurd (over (same_word w.Short) 0 1 more (omega arith) (h w.Short))
only (w.Void ∷ w.Int ∷ more) h = absurd (over (same_word w.Int) 0 1 more (omega arith) (h w.Int))
only (w.Void ∷ w.Long ∷ more) h = absurd (over (same_word w.Long) 0 1 more (omega arith) (h w.Long))
only (w.Void ∷ w.Float ∷ more) h = absurd (over (same_word w.Float) 0 1 more (omega arith) (h w.Float))
only (w.Void ∷ w.Double ∷ more) h = absurd (over (same_word w.Double) 0 1 more (omega arith) (h w.Double))
only (w.Void ∷ w.Signed ∷ more) h = absurd (over (same_word w.Signed) 0 1 more (omega arith) (h w.Signed))
only (w.Void ∷ w.Unsigned ∷ more) h = absurd (over (same_word w.Unsigned) 0 1 more (omega arith) (h w.Unsigned))
only (w.Void ∷ w.Bool ∷ more) h = absurd (over (same_word w.Bool) 0 1 more (omega arith) (h w.Bool))
only (w.Char ∷ more) h = absurd (over (same_word w.Char) 0 1 more (omega arith) (h w.Char))
only (w.Short ∷ more) h = absurd (over (same_word w.Short) 0 1 more (omega arith) (h w.Short))
only (w.Int ∷ more) h = absurd (over (same_word w.Int) 0 1 more (omega arith) (h w.Int))
only (w.Long ∷ more) h = absurd (over (same_word w.Long) 0 1 more (omega arith) (h w.Long))
only (w.Float ∷ more) h = absurd (over (same_word w.Float) 0 1 more (omega arith) (h w.Float))
only (w.Double ∷ more) h = absurd (over (same_word w.Double) 0 1 more (omega arith) (h w.Double))
only (w.Signed ∷ more) h = absurd (over (same_word w.Signed) 0 1 more (omega arith) (h w.Signed))
only (w.Unsigned ∷ more) h = absurd (over (same_word w.Unsigned) 0 1 more (omega arith) (h w.Unsigned))
only (w.Bool ∷ more) h = absurd (over (same_word w.Bool) 0 1 more (omega arith) (h w.Bool))

abbrev is_void : BasicType → Bool
is_void basic.Void = true
is_void _ = false

-- no spelling of another type
never : (ss : List Spelling) → list_all (λ x. not (is_void x.type)) ss ≡ true → (words : List TypeWord) → named_among ss words ≡ Some basic.Void → ⊥
never [] all words e = cc
never (x ∷ ss) all words e = step (same_words x.words words) e (never ss both.1 words)
  where
    both : (not (is_void x.type) ≡ true) × (list_all (λ x. not (is_void x.type)) ss ≡ true)
    both = and_parts (not (is_void x.type)) (list_all (λ x. not (is_void x.type)) ss) all

    other : (type : BasicType) → not (is_void type) ≡ true → Some type ≡ Some basic.Void → ⊥
    other basic.Void h e = cc
    other type h e = cc

    step : (b : Bool) → (if b then Some x.type else named_among ss words) ≡ Some basic.Void → (named_among ss words ≡ Some basic.Void → ⊥) → ⊥
    step true e others = other x.type both.0 e
    step false e others = others e

first : (ss : List Spelling) → list_all (λ x. not (is_void x.type)) ss ≡ true → (words : List TypeWord) → named_among (by (w.Void ∷ []) basic.Void ∷ ss) words ≡ Some basic.Void
    → same_words (w.Void ∷ []) words ≡ true
first ss all words e = step (same_words (w.Void ∷ []) words) e
  where
    step : (b : Bool) → (if b then Some basic.Void else named_among ss words) ≡ Some basic.Void → b ≡ true
    step true e = refl
    step false e = absurd (never ss all words e)

abbrev behind_first : List Spelling → List Spelling
behind_first [] = []
behind_first (x ∷ ss) = ss

only_void : (words : List TypeWord) → basic_of words ≡ Some basic.Void → words ≡ w.Void ∷ []
unfolding spellings
only_void words e = only words (counted words (first (behind_first spellings) refl words e))

alone_are : (types : c.TypeSpecifiers) (words : List TypeWord) → words_alone types ≡ Some words → types ≡ as_types words
alone_are c.no_types words e = step words e
  where
    step : (words : List TypeWord) → Some [] ≡ Some words → c.no_types ≡ as_types words
    step [] e = refl
    step (x ∷ words) e = absurd cc
alone_are (c.a_type (c.Word word) rest) words e = step (words_alone rest) refl e (alone_are rest)
  where
    is_cons : (vs words : List TypeWord) → Some (word ∷ vs) ≡ Some words → word ∷ vs ≡ words
    is_cons vs words e = cc

    step : (o : Option (List TypeWord)) → words_alone rest ≡ o → option_map (λ ws. word ∷ ws) o ≡ Some words → ((words : List TypeWord) → words_alone rest ≡ Some words → rest ≡ as_types words)
        → c.a_type (c.Word word) rest ≡ as_types words
    step None is e others = absurd cc
    step (Some vs) is e others = ap (c.a_type (c.Word word)) (others vs is) ∙ ap as_types (is_cons vs words e)
alone_are (c.a_type (c.Basic type) rest) words e = absurd cc
alone_are (c.a_type (c.StructTag tag) rest) words e = absurd cc
alone_are (c.a_type (c.Struct tag inside) rest) words e = absurd cc
alone_are (c.a_type (c.EnumTag tag) rest) words e = absurd cc
alone_are (c.a_type (c.Enum tag inside) rest) words e = absurd cc
alone_are (c.a_type (c.Named name) rest) words e = absurd cc

-- specifiers that are gathered to `void`, as they stood
pub void_types : (types : c.TypeSpecifiers) → gathered types ≡ c.a_type (c.Basic basic.Void) c.no_types → (types ≡ c.a_type (c.Word w.Void) c.no_types) ⊎ (types ≡ c.a_type (c.Basic basic.Void) c.no_types)
void_types types e = step (words_alone types) refl e
  where
    one : (type : BasicType) → c.a_type (c.Basic type) c.no_types ≡ c.a_type (c.Basic basic.Void) c.no_types → type ≡ basic.Void
    one type e = cc

    named : (words : List TypeWord) → words_alone types ≡ Some words → (o : Option BasicType) → basic_of words ≡ o → or_as_they_stand types o ≡ c.a_type (c.Basic basic.Void) c.no_types
        → (types ≡ c.a_type (c.Word w.Void) c.no_types) ⊎ (types ≡ c.a_type (c.Basic basic.Void) c.no_types)
    named words is None other e = inr e
    named words is (Some type) some e = inl (alone_are types words is ∙ ap as_types (only_void words (some ∙ ap Some (one type e))))

    step : (o : Option (List TypeWord)) → words_alone types ≡ o → or_as_they_stand types (option_and_then basic_of o) ≡ c.a_type (c.Basic basic.Void) c.no_types
        → (types ≡ c.a_type (c.Word w.Void) c.no_types) ⊎ (types ≡ c.a_type (c.Basic basic.Void) c.no_types)
    step None is e = inr e
    step (Some words) is e = named words is (basic_of words) refl e
