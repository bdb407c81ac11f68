-- The words of specifiers derive them again.
use Rattle.std.proofs.Common.{◌≡◌, ℕ, Bool, true, false, List, [], ◌∷◌, Option, Some, None, refl, sym, ap, subst, ◌∙◌, inl, inr}
use Rattle.std.specs.Prelude.{◌⊎◌, map, option_and_then, option_map}
use Rattle.lt_tree.specs.declared.specifier.Storage.{Storage}
use Rattle.lt_tree.specs.declared.specifier.BasicType.{BasicType}
use Rattle.lt_tree.specs.declared.specifier.TypeWord.{TypeWord}
use Rattle.lt_tree.specs.declared.specifier.TypeWord.TheVariants as w
use Rattle.lt_tree.specs.declared.terminal.Terminal.{Terminal}
use Rattle.lt_tree.specs.declared.terminal.Terminal.TheVariants as k
use Rattle.lt_tree.specs.Tree as c
use Rattle.lt_tree.specs.Symbols as s
use Rattle.lt_tree.specs.Symbols.{Symbol}
use Rattle.lt_tree.specs.TypeWords.{spellings, all_words, same_word, basic_of, words_alone, or_as_they_stand, gathered}
use Rattle.lt_tree.specs.Scope.{Scope, is_type, after_type, after_types}
use Rattle.lt_tree.specs.Operators.{storage_of, type_word_of}
use Rattle.lt_tree.specs.Ahead.{same_terminal, sees, begins_specifier, is_specifier_word}
use Rattle.lt_tree.specs.Grammar as g
use Rattle.lt_tree.specs.Grammar.{AreSpecifiers, AreFurther, IsTagged, no_words}
use Rattle.lt_tree.specs.Canon.{Pieces, sign, name, apart, word_if, signs_apart, qualifiers_pieces, words_pieces, sign_of_storage, sign_of_word, words_of, operand, type_specifiers, type_specifier}
use Rattle.lt_expr.proofs.HiddenNames.{type_first}
use Rattle.lt_print.proofs.ReadPieces.{Reads, done, a_name, a_sign, a_gap, parted_apart}
use Rattle.lt_print.proofs.SignsAgain.{storage_sign, word_sign, basic_again}
use Rattle.lt_print.proofs.Claims.{is_typed, TypeFits, TypesFit, TaggedAgain, SpecifiersAgain}

-- ---- words that are no types

qualified : (a b : Bool) {scope : Scope} {typed : Bool} {ts between rest : List Symbol} {types : c.TypeSpecifiers} {spots more : List ℕ}
    → Reads (apart (word_if a k.Const) (word_if b k.Volatile)) ts between → AreFurther scope typed between no_words types rest spots more
    → AreFurther scope typed ts (record { storage = []; inline = false; noreturn = false; qualifiers = record { constant = a; volatile = b } }) types rest spots more
qualified true true (a_sign (a_gap (a_sign done))) f = g.const_word (g.volatile_word f)
qualified true false (a_sign done) f = g.const_word f
qualified false true (a_sign done) f = g.volatile_word f
qualified false false done f = f

not_returning : (b : Bool) {scope : Scope} {typed : Bool} {ts between rest : List Symbol} {q : c.Qualifiers} {types : c.TypeSpecifiers} {spots more : List ℕ}
    → Reads (word_if b k.Noreturn) ts between → AreFurther scope typed between (record { storage = []; inline = false; noreturn = false; qualifiers = q }) types rest spots more
    → AreFurther scope typed ts (record { storage = []; inline = false; noreturn = b; qualifiers = q }) types rest spots more
not_returning true (a_sign done) f = g.noreturn_word f
not_returning false done f = f

inlined : (b : Bool) {scope : Scope} {typed : Bool} {ts between rest : List Symbol} {r : Bool} {q : c.Qualifiers} {types : c.TypeSpecifiers} {spots more : List ℕ}
    → Reads (word_if b k.Inline) ts between → AreFurther scope typed between (record { storage = []; inline = false; noreturn = r; qualifiers = q }) types rest spots more
    → AreFurther scope typed ts (record { storage = []; inline = b; noreturn = r; qualifiers = q }) types rest spots more
inlined true (a_sign done) f = g.inline_word f
inlined false done f = f

stored_first : (class : Storage) {scope : Scope} {typed : Bool} {ts between rest : List Symbol} {classes : List Storage} {i r : Bool} {q : c.Qualifiers} {types : c.TypeSpecifiers} {spots more : List ℕ}
    → Reads (sign (sign_of_storage class) ∷ []) ts between → AreFurther scope typed between (record { storage = classes; inline = i; noreturn = r; qualifiers = q }) types rest spots more
    → AreFurther scope typed ts (record { storage = class ∷ classes; inline = i; noreturn = r; qualifiers = q }) types rest spots more
stored_first class (a_sign done) f = g.storage (storage_sign class) f

stored : (classes : List Storage) {scope : Scope} {typed : Bool} {ts between rest : List Symbol} {i r : Bool} {q : c.Qualifiers} {types : c.TypeSpecifiers} {spots more : List ℕ}
    → Reads (signs_apart (map sign_of_storage classes)) ts between → AreFurther scope typed between (record { storage = []; inline = i; noreturn = r; qualifiers = q }) types rest spots more
    → AreFurther scope typed ts (record { storage = classes; inline = i; noreturn = r; qualifiers = q }) types rest spots more
stored [] done f = f
stored (class ∷ classes) reads f =
    let p = parted_apart (sign (sign_of_storage class) ∷ []) (signs_apart (map sign_of_storage classes)) reads in stored_first class p.front (stored classes p.back f)

pub words_again : (words : c.Words) {scope : Scope} {typed : Bool} {ts between rest : List Symbol} {types : c.TypeSpecifiers} {spots more : List ℕ}
    → Reads (words_pieces words) ts between → AreFurther scope typed between no_words types rest spots more → AreFurther scope typed ts words types rest spots more
words_again words reads f =
    let a = parted_apart (signs_apart (map sign_of_storage words.storage)) (apart (word_if words.inline k.Inline) (apart (word_if words.noreturn k.Noreturn) (qualifiers_pieces words.qualifiers))) reads in
    let b = parted_apart (word_if words.inline k.Inline) (apart (word_if words.noreturn k.Noreturn) (qualifiers_pieces words.qualifiers)) a.back in
    let d = parted_apart (word_if words.noreturn k.Noreturn) (qualifiers_pieces words.qualifiers) b.back in
    stored words.storage a.front (inlined words.inline b.front (not_returning words.noreturn d.front (qualified words.qualifiers.constant words.qualifiers.volatile d.back f)))

-- ---- types

-- whether a type is named, behind these
abbrev pub typed_behind : Bool → c.TypeSpecifiers → Bool
typed_behind typed c.no_types = typed
typed_behind typed (c.a_type first rest) = typed_behind true rest

pub still_typed : (types : c.TypeSpecifiers) → typed_behind true types ≡ true
still_typed c.no_types = refl
still_typed (c.a_type first rest) = still_typed rest

-- Behind a type no name is a specifier, whatever is in scope.
pub anywhere : (a b : Scope) (typed : Bool) → typed ≡ true → (ts : List Symbol) → begins_specifier a typed ts ≡ begins_specifier b typed ts
anywhere a b false e ts = absurd cc
anywhere a b true e [] = refl
anywhere a b true e (s.name w at ∷ ts) = refl
anywhere a b true e (s.constant w at ∷ ts) = refl
anywhere a b true e (s.literal w at ∷ ts) = refl
anywhere a b true e (s.sign x at ∷ ts) = refl

-- what is no specifier before the types is none behind them
pub ends_behind : (scope : Scope) (typed : Bool) (types : c.TypeSpecifiers) (ts : List Symbol)
    → begins_specifier (after_types types scope) (typed_behind typed types) ts ≡ begins_specifier scope (typed_behind typed types) ts
ends_behind scope typed c.no_types ts = refl
ends_behind scope typed (c.a_type first rest) ts = anywhere (after_types (c.a_type first rest) scope) scope (typed_behind true rest) (still_typed rest) ts

word_no_brace : (word : TypeWord) → same_terminal (sign_of_word word) k.OpenBrace ≡ false
unfolding same_terminal
word_no_brace w.Void = refl
word_no_brace w.Char = refl
word_no_brace w.Short = refl
word_no_brace w.Int = refl
word_no_brace w.Long = refl
word_no_brace w.Float = refl
word_no_brace w.Double = refl
word_no_brace w.Signed = refl
word_no_brace w.Unsigned = refl
word_no_brace w.Bool = refl

tagged_no_brace : {scope : Scope} {ts rest : List Symbol} {type : c.TypeSpecifier} {spots more : List ℕ} → IsTagged scope ts type rest spots more → sees k.OpenBrace ts ≡ false
unfolding same_terminal
tagged_no_brace (g.struct_tag x) = refl
tagged_no_brace (g.struct_with_tag x) = refl
tagged_no_brace (g.struct_without_tag x) = refl
tagged_no_brace (g.enum_tag x) = refl
tagged_no_brace (g.enum_with_tag x) = refl
tagged_no_brace (g.enum_without_tag x) = refl

record Typed (scope : Scope) (typed : Bool) (ts : List Symbol) (types : c.TypeSpecifiers) (rest : List Symbol) (more : List ℕ) : Type 0 where
  spots : List ℕ
  derived : AreFurther scope typed ts no_words types rest spots more
  no_brace : sees k.OpenBrace ts ≡ false

-- one more type before others
tagged_first : {scope : Scope} {typed : Bool} (n : ℕ) {ts between rest : List Symbol} {type : c.TypeSpecifier} {types : c.TypeSpecifiers} {more : List ℕ}
    → TaggedAgain scope type → Reads (type_specifier n type) ts between → Typed (after_type type scope) true between types rest more → Typed scope typed ts (c.a_type type types) rest more
tagged_first n {ts} {between} again r t =
    let got = again n ts between t.spots t.no_brace r in record { spots = got.0; derived = g.struct_or_enum got.1 t.derived; no_brace = tagged_no_brace got.1 }

typedef_first : {scope : Scope} (typed : Bool) {ts between rest : List Symbol} {w : List ℕ} {types : c.TypeSpecifiers} {more : List ℕ}
    → typed ≡ false → is_type scope w ≡ true → Reads (name w ∷ []) ts between → Typed scope true between types rest more → Typed scope typed ts (c.a_type (c.Named w) types) rest more
unfolding same_terminal
typedef_first true e is r t = absurd cc
typedef_first false e is (a_name done) t = record { spots = t.spots; derived = g.typedef_name is t.derived; no_brace = refl }

first_again : {scope : Scope} (typed : Bool) (n : ℕ) {ts between rest : List Symbol} (type : c.TypeSpecifier) {types : c.TypeSpecifiers} {more : List ℕ}
    → TypeFits scope typed type → Reads (type_specifier n type) ts between → Typed (after_type type scope) true between types rest more → Typed scope typed ts (c.a_type type types) rest more
unfolding operand
first_again typed n (c.Basic type) fits r t = absurd fits
first_again typed n (c.Word word) fits (a_sign done) t = record { spots = t.spots; derived = g.type_word (word_sign word) t.derived; no_brace = word_no_brace word }
first_again typed n (c.Named w) fits r t = typedef_first typed fits.0 fits.1 r t
first_again typed n (c.StructTag w) fits r t = tagged_first n fits r t
first_again typed n (c.Struct tag inside) fits r t = tagged_first n fits r t
first_again typed n (c.EnumTag w) fits r t = tagged_first n fits r t
first_again typed n (c.Enum tag inside) fits r t = tagged_first n fits r t

types_again : {scope : Scope} (typed : Bool) (n : ℕ) (types : c.TypeSpecifiers) → TypesFit scope typed types → (ts rest : List Symbol) (more : List ℕ)
    → begins_specifier (after_types types scope) (typed_behind typed types) rest ≡ false → sees k.OpenBrace rest ≡ false → Reads (type_specifiers n types) ts rest → Typed scope typed ts types rest more
unfolding operand
types_again typed n c.no_types fits ts rest more none brace done = record { spots = more; derived = g.no_further none; no_brace = brace }
types_again {scope} typed n (c.a_type first types) fits ts rest more none brace r =
    let p = parted_apart (type_specifier n first) (type_specifiers n types) r in
    first_again typed n first fits.0 p.front (types_again true n types fits.1 p.between rest more (ap (λ (names : Scope). begins_specifier names (typed_behind true types) rest) (sym (type_first first types scope)) ∙ none) brace p.back)

-- ---- types that words name together

abbrev pub as_types : List TypeWord → c.TypeSpecifiers
as_types [] = c.no_types
as_types (word ∷ words) = c.a_type (c.Word word) (as_types words)

words_fit : (scope : Scope) (typed : Bool) (words : List TypeWord) → TypesFit scope typed (as_types words)
words_fit scope typed [] = tt
words_fit scope typed (word ∷ words) = (tt, words_fit scope true words)

words_written : (n : ℕ) (words : List TypeWord) → signs_apart (map sign_of_word words) ≡ type_specifiers n (as_types words)
unfolding operand
words_written n [] = refl
words_written n (word ∷ words) = ap (apart (sign (sign_of_word word) ∷ [])) (words_written n words)

are_alone : (words : List TypeWord) → words_alone (as_types words) ≡ Some words
are_alone [] = refl
are_alone (word ∷ words) = ap (option_map (λ (ws : List TypeWord). word ∷ ws)) (are_alone words)

gathered_again : (type : BasicType) → gathered (as_types (words_of type)) ≡ c.a_type (c.Basic type) c.no_types
gathered_again type =
    ap (λ (o : Option (List TypeWord)). or_as_they_stand (as_types (words_of type)) (option_and_then basic_of o)) (are_alone (words_of type))
    ∙ ap (or_as_they_stand (as_types (words_of type))) (basic_again type)

no_words_no_type : (type : BasicType) → basic_of [] ≡ Some type → ⊥
unfolding spellings all_words same_word
no_words_no_type type e = cc

name_a_type : (words : List TypeWord) (type : BasicType) → basic_of words ≡ Some type → typed_behind false (as_types words) ≡ true
name_a_type [] type e = absurd (no_words_no_type type e)
name_a_type (word ∷ words) type e = still_typed (as_types words)

pub behind_basic : (type : BasicType) → typed_behind false (as_types (words_of type)) ≡ true
behind_basic type = name_a_type (words_of type) type (basic_again type)

-- ---- specifiers are one or more

storage_begins : (x : Terminal) (class : Storage) → storage_of x ≡ Some class → is_specifier_word x ≡ true
storage_begins k.Typedef class e = refl
storage_begins k.Extern class e = refl
storage_begins k.Static class e = refl
storage_begins k.Auto class e = refl
storage_begins k.Register class e = refl
storage_begins x class e = absurd cc

type_word_begins : (x : Terminal) (word : TypeWord) → type_word_of x ≡ Some word → is_specifier_word x ≡ true
type_word_begins k.Void word e = refl
type_word_begins k.Char word e = refl
type_word_begins k.Short word e = refl
type_word_begins k.Int word e = refl
type_word_begins k.Long word e = refl
type_word_begins k.Float word e = refl
type_word_begins k.Double word e = refl
type_word_begins k.Signed word e = refl
type_word_begins k.Unsigned word e = refl
type_word_begins k.Bool word e = refl
type_word_begins x word e = absurd cc

tagged_begins : {scope : Scope} (typed : Bool) {ts rest : List Symbol} {type : c.TypeSpecifier} {spots more : List ℕ} → IsTagged scope ts type rest spots more → begins_specifier scope typed ts ≡ true
tagged_begins typed (g.struct_tag x) = refl
tagged_begins typed (g.struct_with_tag x) = refl
tagged_begins typed (g.struct_without_tag x) = refl
tagged_begins typed (g.enum_tag x) = refl
tagged_begins typed (g.enum_with_tag x) = refl
tagged_begins typed (g.enum_without_tag x) = refl

further_begins : {scope : Scope} {typed : Bool} {ts rest : List Symbol} {words : c.Words} {types : c.TypeSpecifiers} {spots more : List ℕ}
    → AreFurther scope typed ts words types rest spots more → (begins_specifier scope typed ts ≡ true) ⊎ ((words ≡ no_words) × (types ≡ c.no_types))
further_begins (g.no_further x) = inr (refl, refl)
further_begins (g.storage {k = x} {class = class} e f) = inl (storage_begins x class e)
further_begins (g.inline_word f) = inl refl
further_begins (g.noreturn_word f) = inl refl
further_begins (g.const_word f) = inl refl
further_begins (g.volatile_word f) = inl refl
further_begins (g.type_word {k = x} {word = word} e f) = inl (type_word_begins x word e)
further_begins (g.typedef_name e f) = inl e
further_begins {typed} (g.struct_or_enum x f) = inl (tagged_begins typed x)

abbrev pub AreSome : c.Words → c.TypeSpecifiers → Type 0
AreSome words types = (words ≡ no_words) → (types ≡ c.no_types) → ⊥

pub are_some : {scope : Scope} {typed : Bool} {ts rest : List Symbol} {words : c.Words} {types : c.TypeSpecifiers} {spots more : List ℕ}
    → AreFurther scope typed ts words types rest spots more → begins_specifier scope typed ts ≡ true → AreSome words types
are_some (g.no_further x) b e f = cc
are_some (g.storage x y) b e f = let h = ap (λ (v : c.Words). v.storage) e in cc
are_some (g.inline_word y) b e f = let h = ap (λ (v : c.Words). v.inline) e in cc
are_some (g.noreturn_word y) b e f = let h = ap (λ (v : c.Words). v.noreturn) e in cc
are_some (g.const_word y) b e f = let h = ap (λ (v : c.Words). v.qualifiers.constant) e in cc
are_some (g.volatile_word y) b e f = let h = ap (λ (v : c.Words). v.qualifiers.volatile) e in cc
are_some (g.type_word x y) b e f = cc
are_some (g.typedef_name x y) b e f = cc
are_some (g.struct_or_enum x y) b e f = cc

derived_some : {scope : Scope} {ts rest : List Symbol} {words : c.Words} {types : c.TypeSpecifiers} {spots more : List ℕ}
    → AreSome words types → AreFurther scope false ts words types rest spots more → AreSpecifiers scope ts (c.specifiers words (gathered types)) rest spots more
derived_some {scope} {ts} some f = elim (further_begins f) [ inl b ↦ g.some_specifiers b f | inr e ↦ absurd (some e.0 e.1) ]

-- ---- specifiers as a tree holds them

same_typed : (types : c.TypeSpecifiers) → typed_behind false types ≡ is_typed types
same_typed c.no_types = refl
same_typed (c.a_type first rest) = still_typed rest

-- as they stand in the source
as_they_stand : (scope : Scope) (words : c.Words) (types : c.TypeSpecifiers) → TypesFit scope false types → AreSome words types → gathered types ≡ types
    → SpecifiersAgain scope (c.specifiers words types)
unfolding operand
as_they_stand scope words types fits some is n ts rest more none brace r =
    let p = parted_apart (words_pieces words) (type_specifiers n types) r in
    let got = types_again false n types fits p.between rest more (ends_behind scope false types rest ∙ ap (λ (b : Bool). begins_specifier scope b rest) (same_typed types) ∙ none) brace p.back in
    (got.spots, subst (λ (t : c.TypeSpecifiers). AreSpecifiers scope ts (c.specifiers words t) rest got.spots more) is (derived_some some (words_again words p.front got.derived)))

-- as one type
as_one : (scope : Scope) (words : c.Words) (type : BasicType) → SpecifiersAgain scope (c.specifiers words (c.a_type (c.Basic type) c.no_types))
unfolding operand
as_one scope words type n ts rest more none brace r =
    let p = parted_apart (words_pieces words) (signs_apart (map sign_of_word (words_of type))) r in
    let back = subst (λ (ps : Pieces). Reads ps p.between rest) (words_written n (words_of type)) p.back in
    let got = types_again false n (as_types (words_of type)) (words_fit scope false (words_of type)) p.between rest more
    (ends_behind scope false (as_types (words_of type)) rest ∙ ap (λ (b : Bool). begins_specifier scope b rest) (behind_basic type) ∙ none) brace back in
    let some : AreSome words (as_types (words_of type)) = λ e f. (let x = ap (typed_behind false) f in let y = behind_basic type in cc) in
    (got.spots, subst (λ (t : c.TypeSpecifiers). AreSpecifiers scope ts (c.specifiers words t) rest got.spots more) (gathered_again type) (derived_some some (words_again words p.front got.derived)))

pub specifiers_again : (scope : Scope) (words : c.Words) (types : c.TypeSpecifiers) → TypesFit scope false types → AreSome words types → SpecifiersAgain scope (c.specifiers words (gathered types))
specifiers_again scope words types fits some = step (option_and_then basic_of (words_alone types)) refl
  where
    step : (o : Option BasicType) → option_and_then basic_of (words_alone types) ≡ o → SpecifiersAgain scope (c.specifiers words (or_as_they_stand types o))
    step None e = as_they_stand scope words types fits some (ap (or_as_they_stand types) e)
    step (Some type) e = as_one scope words type
