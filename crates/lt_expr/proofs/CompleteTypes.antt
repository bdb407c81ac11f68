-- What is derived of specifiers, structs and enums is read, rule by rule, C11 6.7 and 6.7.2.
use Rattle.std.proofs.Common.{◌≡◌, ℕ, suc, ◌<◌, Bool, true, false, List, ◌∷◌, length, Some, refl, ap, ◌∙◌, arith}
use Rattle.std.specs.Prelude.{◌||◌}
use Rattle.std.proofs.lemmas.Bool.{or_right}
use Rattle.lt_tree.specs.declared.specifier.TypeWord.{TypeWord}
use Rattle.lt_tree.specs.declared.terminal.Terminal.{Terminal}
use Rattle.lt_tree.specs.Tree as c
use Rattle.lt_tree.specs.Symbols.{Symbol, name, sign}
use Rattle.lt_tree.specs.Scope.{Scope, is_type, after_type}
use Rattle.lt_tree.specs.TypeWords.{gathered}
use Rattle.lt_tree.specs.Ahead.{same_terminal, begins_specifier}
use Rattle.lt_tree.specs.Grammar.{no_words}
use Rattle.lt_expr.specs.Specifier.{Specifier, storage_class, inline_word, noreturn_word, const_word, volatile_word, of_type, Found, none_found, with_specifier, names_type, after_specifier, specifiers_of, one_specifier}
use Rattle.lt_expr.specs.Reading as r
use Rattle.lt_expr.specs.Reading.{by_tag, enumerators_by}
use Rattle.lt_expr.specs.Walk.{Walked, walk_specifiers, walk_types, walk_type}
use Rattle.lt_expr.proofs.CompleteFronts.{IsWord}
use Rattle.lt_expr.proofs.Walks.{gathered_walk}
use Rattle.lt_expr.proofs.CompleteForms.{Read, once, twice}

-- ---- specifiers

abbrev pub walk_found : Found → Walked → Walked
walk_found found v = walk_types found.types v

abbrev pub found_of : c.Words → c.TypeSpecifiers → Found
found_of words types = record { words = words; types = types }

abbrev pub Further : Scope → Bool → List Symbol → c.Words → c.TypeSpecifiers → List Symbol → List ℕ → List ℕ → List ℕ → Type 0
Further scope typed ts words types rest spots more ends = Read (λ n. r.further n scope typed) walk_found 2 ts (found_of words types) rest spots more ends

abbrev pub walk_specifier : Specifier → Walked → Walked
walk_specifier (of_type type) v = walk_type type v
walk_specifier s v = v

-- steps of reading specifiers
further_stops : (n : ℕ) (scope : Scope) (typed : Bool) (ts : List Symbol) (ends : List ℕ) → begins_specifier scope typed ts ≡ false
    → r.further (suc n) scope typed (ts, ends) ≡ Some (none_found, (ts, ends))
unfolding r.expression
further_stops n scope typed ts ends e = rw e refl

further_goes : (n : ℕ) (scope : Scope) (typed : Bool) (ts us rest : List Symbol) (s : Specifier) (found : Found) (ends middle now : List ℕ) → begins_specifier scope typed ts ≡ true
    → r.specifier n scope (ts, ends) ≡ Some (s, (us, middle)) → r.further n (after_specifier s scope) (typed || names_type s) (us, middle) ≡ Some (found, (rest, now))
    → r.further (suc n) scope typed (ts, ends) ≡ Some (with_specifier s found, (rest, now))
unfolding r.expression
further_goes n scope typed ts us rest s found ends middle now front first others = rw (front, first, others) refl

specifier_word : (n : ℕ) (scope : Scope) (k : Terminal) (at : ℕ) (ts : List Symbol) (s : Specifier) (ends : List ℕ) → IsWord k s
    → r.specifier (suc n) scope (sign k at ∷ ts, ends) ≡ Some (s, (ts, ends))
unfolding r.expression one_specifier
specifier_word n scope k at ts s ends w = rw (w.no_struct, w.no_enum, w.reads) refl

specifier_name : (n : ℕ) (scope : Scope) (w : List ℕ) (at : ℕ) (ts : List Symbol) (ends : List ℕ)
    → r.specifier (suc n) scope (name w at ∷ ts, ends) ≡ Some (of_type (c.Named w), (ts, ends))
unfolding r.expression one_specifier same_terminal
specifier_name n scope w at ts ends = refl

-- a word that is no type hides nothing
word_hidden : (s : Specifier) (scope : Scope) → names_type s ≡ false → after_specifier s scope ≡ scope
word_hidden (storage_class class) scope e = refl
word_hidden inline_word scope e = refl
word_hidden noreturn_word scope e = refl
word_hidden const_word scope e = refl
word_hidden volatile_word scope e = refl
word_hidden (of_type type) scope e = absurd cc

or_false : (typed : Bool) → (typed || false) ≡ typed
or_false true = refl
or_false false = refl

pub no_further_complete : (scope : Scope) (typed : Bool) (ts : List Symbol) (more ends : List ℕ) → begins_specifier scope typed ts ≡ false
    → Further scope typed ts no_words c.no_types ts more more ends
no_further_complete scope typed ts more ends e = once ends refl (omega arith) (λ n big. further_stops n scope typed ts ends e)

-- a word that is no type, before others
pub word_complete : (scope : Scope) (typed : Bool) (k : Terminal) (at : ℕ) (s : Specifier) (ts rest : List Symbol) (words all : c.Words) (types : c.TypeSpecifiers) (spots more ends : List ℕ)
    → IsWord k s → names_type s ≡ false → with_specifier s (found_of words types) ≡ found_of all types
    → Further scope typed ts words types rest spots more ends
    → Further scope typed (sign k at ∷ ts) all types rest spots more ends
word_complete scope typed k at s ts rest words all types spots more ends w no_type is x =
    twice x.now x.walked (omega arith)
    (λ n big. further_goes (suc n) scope typed (sign k at ∷ ts) ts rest s (found_of words types) ends ends x.now w.begins (specifier_word n scope k at ts s ends w)
    (ap (λ (names : Scope). r.further (suc n) names (typed || names_type s) (ts, ends)) (word_hidden s scope no_type)
    ∙ ap (λ (b : Bool). r.further (suc n) scope b (ts, ends)) (ap (λ (b : Bool). typed || b) no_type ∙ or_false typed) ∙ x.reads (suc n) (omega arith))
    ∙ ap (λ (f : Found). Some (f, (rest, x.now))) is)

-- a type, before others
pub type_complete : (scope : Scope) (typed : Bool) (ts us rest : List Symbol) (type : c.TypeSpecifier) (words : c.Words) (types : c.TypeSpecifiers) (spots between more ends : List ℕ)
    → begins_specifier scope typed ts ≡ true → length us < length ts
    → Read (λ n. r.specifier n scope) walk_specifier 1 ts (of_type type) us spots between ends
    → ((now : List ℕ) → Further (after_type type scope) true us words types rest between more now)
    → Further scope typed ts words (c.a_type type types) rest spots more ends
type_complete scope typed ts us rest type words types spots between more ends front short x cb =
    let y = cb x.now in
    once y.now (ap (walk_type type) y.walked ∙ x.walked) (omega arith)
    (λ n big. further_goes n scope typed ts us rest (of_type type) (found_of words types) ends x.now y.now front (x.reads n (omega arith))
    (ap (λ (b : Bool). r.further n (after_type type scope) b (us, x.now)) (or_right typed true refl) ∙ y.reads n (omega arith)))

pub type_word_complete : (scope : Scope) (typed : Bool) (k : Terminal) (at : ℕ) (word : TypeWord) (ts rest : List Symbol) (words : c.Words) (types : c.TypeSpecifiers) (spots more ends : List ℕ)
    → IsWord k (of_type (c.Word word)) → ((now : List ℕ) → Further scope true ts words types rest spots more now)
    → Further scope typed (sign k at ∷ ts) words (c.a_type (c.Word word) types) rest spots more ends
type_word_complete scope typed k at word ts rest words types spots more ends w cb =
    type_complete scope typed (sign k at ∷ ts) ts rest (c.Word word) words types spots spots more ends w.begins (omega arith)
    (once ends refl (omega arith) (λ n big. specifier_word n scope k at ts (of_type (c.Word word)) ends w)) cb

pub typedef_name_complete : (scope : Scope) (w : List ℕ) (at : ℕ) (ts rest : List Symbol) (words : c.Words) (types : c.TypeSpecifiers) (spots more ends : List ℕ)
    → is_type scope w ≡ true → ((now : List ℕ) → Further scope true ts words types rest spots more now)
    → Further scope false (name w at ∷ ts) words (c.a_type (c.Named w) types) rest spots more ends
typedef_name_complete scope w at ts rest words types spots more ends e cb =
    type_complete scope false (name w at ∷ ts) ts rest (c.Named w) words types spots spots more ends e (omega arith)
    (once ends refl (omega arith) (λ n big. specifier_name n scope w at ts ends)) cb

abbrev pub Specifiers : Scope → List Symbol → c.Specifiers → List Symbol → List ℕ → List ℕ → List ℕ → Type 0
Specifiers scope ts ss rest spots more ends = Read (λ n. r.specifiers n scope) walk_specifiers 3 ts ss rest spots more ends

specifiers_read : (n : ℕ) (scope : Scope) (ts rest : List Symbol) (found : Found) (ends now : List ℕ) → begins_specifier scope false ts ≡ true
    → r.further n scope false (ts, ends) ≡ Some (found, (rest, now)) → r.specifiers (suc n) scope (ts, ends) ≡ Some (specifiers_of found, (rest, now))
unfolding r.expression
specifiers_read n scope ts rest found ends now front is = rw (front, is) refl

pub specifiers_complete : (scope : Scope) (ts rest : List Symbol) (words : c.Words) (types : c.TypeSpecifiers) (spots more ends : List ℕ) → begins_specifier scope false ts ≡ true
    → Further scope false ts words types rest spots more ends → Specifiers scope ts (c.specifiers words (gathered types)) rest spots more ends
specifiers_complete scope ts rest words types spots more ends front x =
    once x.now (gathered_walk types (x.now, more) ∙ x.walked) (omega arith) (λ n big. specifiers_read n scope ts rest (found_of words types) ends x.now front (x.reads n (omega arith)))
