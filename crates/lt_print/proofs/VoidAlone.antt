-- A list of parameters that is `void` alone is so in its symbols and as a tree.
use Rattle.std.proofs.Common.{◌≡◌, ℕ, Bool, true, false, List, ◌∷◌, Option, Some, None, refl, sym, ap, subst, ◌∙◌, inl, inr}
use Rattle.lt_tree.specs.declared.specifier.BasicType.{BasicType}
use Rattle.lt_tree.specs.declared.specifier.BasicType.TheVariants as basic
use Rattle.lt_tree.specs.declared.specifier.TypeWord.{TypeWord}
use Rattle.lt_tree.specs.declared.specifier.TypeWord.TheVariants as w
use Rattle.lt_tree.specs.declared.terminal.Terminal.{Terminal}
use Rattle.lt_tree.specs.declared.terminal.Terminal.TheVariants as k
use Rattle.lt_tree.specs.Tree as c
use Rattle.lt_tree.specs.Symbols as s
use Rattle.lt_tree.specs.Symbols.{Symbol}
use Rattle.lt_tree.specs.TypeWords.{spellings, all_words, same_word, gathered}
use Rattle.lt_tree.specs.Scope.{Scope, after_specifiers}
use Rattle.lt_tree.specs.Operators.{type_word_of}
use Rattle.lt_tree.specs.Ahead.{Naming, either, same_terminal, terminal_at, sees, is_void_alone}
use Rattle.lt_tree.specs.Grammar as g
use Rattle.lt_tree.specs.Grammar.{IsParameterList, AreSpecifiers, AreFurther, IsTagged, IsDeclarator, IsDirect, AreSuffixes, no_words, is_missing}
use Rattle.lt_print.proofs.Void.{void_specifiers, void_only, void_types}

-- ---- the symbols of a list that is `void` alone as a tree

void_sign : (x : Terminal) → type_word_of x ≡ Some w.Void → x ≡ k.Void
void_sign k.Void e = refl
void_sign x e = absurd cc

tagged_other : {scope : Scope} {ts rest : List Symbol} {type : c.TypeSpecifier} {spots more : List ℕ} → IsTagged scope ts type rest spots more
    → ((word : TypeWord) → type ≡ c.Word word → ⊥) × ((basic : BasicType) → type ≡ c.Basic basic → ⊥)
tagged_other (g.struct_tag x) = (λ word e. cc, λ type e. cc)
tagged_other (g.struct_with_tag x) = (λ word e. cc, λ type e. cc)
tagged_other (g.struct_without_tag x) = (λ word e. cc, λ type e. cc)
tagged_other (g.enum_tag x) = (λ word e. cc, λ type e. cc)
tagged_other (g.enum_with_tag x) = (λ word e. cc, λ type e. cc)
tagged_other (g.enum_without_tag x) = (λ word e. cc, λ type e. cc)

none_left : {scope : Scope} {typed : Bool} {ts rest : List Symbol} {words : c.Words} {types : c.TypeSpecifiers} {spots more : List ℕ}
    → AreFurther scope typed ts words types rest spots more → words ≡ no_words → types ≡ c.no_types → ts ≡ rest
none_left (g.no_further x) e f = refl
none_left (g.storage x y) e f = let h = ap (λ (v : c.Words). v.storage) e in absurd cc
none_left (g.inline_word y) e f = let h = ap (λ (v : c.Words). v.inline) e in absurd cc
none_left (g.noreturn_word y) e f = let h = ap (λ (v : c.Words). v.noreturn) e in absurd cc
none_left (g.const_word y) e f = let h = ap (λ (v : c.Words). v.qualifiers.constant) e in absurd cc
none_left (g.volatile_word y) e f = let h = ap (λ (v : c.Words). v.qualifiers.volatile) e in absurd cc
none_left (g.type_word x y) e f = absurd cc
none_left (g.typedef_name x y) e f = absurd cc
none_left (g.struct_or_enum x y) e f = absurd cc

never_basic : {scope : Scope} {typed : Bool} {ts rest : List Symbol} {words : c.Words} {types : c.TypeSpecifiers} {spots more : List ℕ}
    → AreFurther scope typed ts words types rest spots more → (type : BasicType) → types ≡ c.a_type (c.Basic type) c.no_types → ⊥
never_basic (g.no_further x) type e = cc
never_basic (g.storage x y) type e = never_basic y type e
never_basic (g.inline_word y) type e = never_basic y type e
never_basic (g.noreturn_word y) type e = never_basic y type e
never_basic (g.const_word y) type e = never_basic y type e
never_basic (g.volatile_word y) type e = never_basic y type e
never_basic (g.type_word x y) type e = cc
never_basic (g.typedef_name x y) type e = cc
never_basic (g.struct_or_enum {type = first} {types} x y) type e = (tagged_other x).1 type (same first types e)
  where
    same : (first : c.TypeSpecifier) (types : c.TypeSpecifiers) → c.a_type first types ≡ c.a_type (c.Basic type) c.no_types → first ≡ c.Basic type
    same first types e = cc

the_word : (word : TypeWord) (types : c.TypeSpecifiers) → c.a_type (c.Word word) types ≡ c.a_type (c.Word w.Void) c.no_types → (word ≡ w.Void) × (types ≡ c.no_types)
the_word word types e = (cc, cc)

one_word : {scope : Scope} {typed : Bool} {ts rest : List Symbol} {words : c.Words} {types : c.TypeSpecifiers} {spots more : List ℕ}
    → AreFurther scope typed ts words types rest spots more → words ≡ no_words → types ≡ c.a_type (c.Word w.Void) c.no_types → (at : ℕ) × (ts ≡ s.sign k.Void at ∷ rest)
one_word (g.no_further x) e f = absurd cc
one_word (g.storage x y) e f = let h = ap (λ (v : c.Words). v.storage) e in absurd cc
one_word (g.inline_word y) e f = let h = ap (λ (v : c.Words). v.inline) e in absurd cc
one_word (g.noreturn_word y) e f = let h = ap (λ (v : c.Words). v.noreturn) e in absurd cc
one_word (g.const_word y) e f = let h = ap (λ (v : c.Words). v.qualifiers.constant) e in absurd cc
one_word (g.volatile_word y) e f = let h = ap (λ (v : c.Words). v.qualifiers.volatile) e in absurd cc
one_word (g.type_word {k = x} {at} {word} {ts = us} {types} is y) e f =
    let parts = the_word word types f in
    let sign_is = void_sign x (is ∙ ap Some parts.0) in
    (at, ap (λ (t : Terminal). s.sign t at ∷ us) sign_is ∙ ap (λ (vs : List Symbol). s.sign k.Void at ∷ vs) (none_left y e parts.1))
one_word (g.typedef_name x y) e f = absurd cc
one_word (g.struct_or_enum {type} {types} x y) e f = absurd ((tagged_other x).0 w.Void (same type types f))
  where
    same : (first : c.TypeSpecifier) (types : c.TypeSpecifiers) → c.a_type first types ≡ c.a_type (c.Word w.Void) c.no_types → first ≡ c.Word w.Void
    same first types e = cc

specifier_parts : (words : c.Words) (types : c.TypeSpecifiers) → c.specifiers words types ≡ void_specifiers → (words ≡ no_words) × (types ≡ c.a_type (c.Basic basic.Void) c.no_types)
specifier_parts words types e = (cc, cc)

void_written : {scope : Scope} {ts rest : List Symbol} {ss : c.Specifiers} {spots more : List ℕ} → AreSpecifiers scope ts ss rest spots more → ss ≡ void_specifiers → (at : ℕ) × (ts ≡ s.sign k.Void at ∷ rest)
void_written (g.some_specifiers {words} {types} b f) e =
    let parts = specifier_parts words (gathered types) e in
    elim (void_types types parts.1) [ inl is ↦ one_word f parts.0 is | inr is ↦ absurd (never_basic f basic.Void is) ]

missing_written : {scope : Scope} {naming : Naming} {ts rest : List Symbol} {d : c.Declarator} {spots more : List ℕ} → IsDeclarator scope naming ts d rest spots more → d ≡ c.declarator None c.no_parts → ts ≡ rest
missing_written (g.written {name} {parts} x m) e = let h = ap missing e in absurd cc
  where
    missing : c.Declarator → Bool
    missing (c.declarator w parts) = is_missing w parts
missing_written (g.missing a b) e = refl

list_parts : (ss : c.Specifiers) (d : c.Declarator) (ps : c.ParameterList) → c.a_parameter ss d ps ≡ void_only → (ss ≡ void_specifiers) × (d ≡ c.declarator None c.no_parts) × (ps ≡ c.no_parameters)
list_parts ss d ps e = (cc, cc, cc)

not_empty : {scope : Scope} {ts rest : List Symbol} {ps : c.ParameterList} {spots more : List ℕ} → IsParameterList scope ts ps rest spots more → ps ≡ c.no_parameters → ⊥
not_empty (g.last_parameter x y) e = cc
not_empty (g.more_parameters x y z) e = cc

pub void_is_alone : {scope : Scope} {at : ℕ} {ts rest : List Symbol} {ps : c.ParameterList} {spots more : List ℕ}
    → IsParameterList scope ts ps (s.sign k.CloseParen at ∷ rest) spots more → ps ≡ void_only → is_void_alone ts ≡ true
unfolding same_terminal
void_is_alone {at} {ts} {rest} (g.last_parameter {us} {ss} {d} x y) e =
    let parts = list_parts ss d c.no_parameters e in
    let front = void_written x parts.0 in
    let back = missing_written y parts.1 in
    ap is_void_alone (front.1 ∙ ap (λ (vs : List Symbol). s.sign k.Void front.0 ∷ vs) back)
void_is_alone (g.more_parameters {ss} {d} {ps} x y z) e = absurd (not_empty z (list_parts ss d ps e).2)

-- ---- the tree of symbols that are `void` alone

abbrev is_tag : Terminal → Bool
is_tag k.Struct = true
is_tag k.Enum = true
is_tag _ = false

tagged_front : {scope : Scope} {ts rest : List Symbol} {type : c.TypeSpecifier} {spots more : List ℕ} → IsTagged scope ts type rest spots more → is_tag (terminal_at ts) ≡ true
tagged_front (g.struct_tag x) = refl
tagged_front (g.struct_with_tag x) = refl
tagged_front (g.struct_without_tag x) = refl
tagged_front (g.enum_tag x) = refl
tagged_front (g.enum_with_tag x) = refl
tagged_front (g.enum_without_tag x) = refl

none_behind : {scope : Scope} {typed : Bool} {b : ℕ} {us rest : List Symbol} {words : c.Words} {types : c.TypeSpecifiers} {spots more : List ℕ}
    → AreFurther scope typed (s.sign k.CloseParen b ∷ us) words types rest spots more → (words ≡ no_words) × (types ≡ c.no_types) × (s.sign k.CloseParen b ∷ us ≡ rest)
none_behind (g.no_further x) = (refl, refl, refl)
none_behind (g.storage x y) = absurd cc
none_behind (g.type_word x y) = absurd cc
none_behind (g.struct_or_enum x y) = let h = tagged_front x in absurd cc

is_void_word : (word : TypeWord) → type_word_of k.Void ≡ Some word → word ≡ w.Void
is_void_word word e = cc

void_read : {scope : Scope} {a b : ℕ} {us rest : List Symbol} {words : c.Words} {types : c.TypeSpecifiers} {spots more : List ℕ}
    → AreFurther scope false (s.sign k.Void a ∷ s.sign k.CloseParen b ∷ us) words types rest spots more
    → (words ≡ no_words) × (types ≡ c.a_type (c.Word w.Void) c.no_types) × (s.sign k.CloseParen b ∷ us ≡ rest)
void_read (g.no_further x) = absurd cc
void_read (g.storage x y) = absurd cc
void_read (g.type_word {word} {types} is y) =
    let n = none_behind y in (n.0, ap (λ (v : TypeWord). c.a_type (c.Word v) types) (is_void_word word is) ∙ ap (c.a_type (c.Word w.Void)) n.1, n.2)
void_read (g.struct_or_enum x y) = let h = tagged_front x in absurd cc

specifiers_read : {scope : Scope} {a b : ℕ} {us rest : List Symbol} {ss : c.Specifiers} {spots more : List ℕ} → AreSpecifiers scope (s.sign k.Void a ∷ s.sign k.CloseParen b ∷ us) ss rest spots more
    → (ss ≡ void_specifiers) × (s.sign k.CloseParen b ∷ us ≡ rest)
unfolding spellings all_words same_word
specifiers_read (g.some_specifiers {words} {types} x f) =
    let r = void_read f in
    (ap (λ (v : c.Words). c.specifiers v (gathered types)) r.0 ∙ ap (λ (t : c.TypeSpecifiers). c.specifiers no_words (gathered t)) r.1, r.2)

suffixes_read : {scope : Scope} {b : ℕ} {us rest : List Symbol} {outer parts : c.Parts} {spots more : List ℕ} → AreSuffixes scope (s.sign k.CloseParen b ∷ us) outer parts rest spots more → parts ≡ outer
suffixes_read (g.no_suffix x) = refl

direct_read : {scope : Scope} {naming : Naming} {b : ℕ} {us rest : List Symbol} {outer parts : c.Parts} {name : Option (List ℕ)} {spots more : List ℕ}
    → IsDirect scope naming (s.sign k.CloseParen b ∷ us) outer name parts rest spots more → (name ≡ None) × (parts ≡ outer)
direct_read (g.by_nothing x y z) = (refl, suffixes_read z)

declarator_read : {scope : Scope} {naming : Naming} {b : ℕ} {us rest : List Symbol} {d : c.Declarator} {spots more : List ℕ} → IsDeclarator scope naming (s.sign k.CloseParen b ∷ us) d rest spots more
    → (d ≡ c.declarator None c.no_parts) × (rest ≡ s.sign k.CloseParen b ∷ us)
declarator_read (g.written {name} {parts} (g.no_pointer a x) m) =
    let r = direct_read x in let h = ap (λ (v : Option (List ℕ)). is_missing v parts) r.0 in let i = ap (is_missing None) r.1 in absurd cc
declarator_read (g.missing a e) = (refl, refl)

no_comma : (a b : ℕ) (us vs : List Symbol) → s.sign k.Comma a ∷ vs ≡ s.sign k.CloseParen b ∷ us → ⊥
no_comma a b us vs e = cc

list_read : {scope : Scope} {a b : ℕ} {us rest : List Symbol} {ps : c.ParameterList} {spots more : List ℕ} → IsParameterList scope (s.sign k.Void a ∷ s.sign k.CloseParen b ∷ us) ps rest spots more → ps ≡ void_only
list_read {scope} (g.last_parameter {us = mid} {rest} {ss} {d} {between} {more} x y) =
    let r = specifiers_read x in
    let y' = subst (λ (ts : List Symbol). IsDeclarator (after_specifiers ss scope) either ts d rest between more) (sym r.1) y in
    let z = declarator_read y' in
    ap (λ (v : c.Specifiers). c.a_parameter v d c.no_parameters) r.0 ∙ ap (λ (v : c.Declarator). c.a_parameter void_specifiers v c.no_parameters) z.0
list_read {scope} (g.more_parameters {at} {us = mid} {vs} {ss} {d} {first} {second} x y z) =
    let r = specifiers_read x in
    let y' = subst (λ (ts : List Symbol). IsDeclarator (after_specifiers ss scope) either ts d (s.sign k.Comma at ∷ vs) first second) (sym r.1) y in
    absurd (no_comma _ _ _ _ (declarator_read y').1)

-- the symbols
record Alone (ts : List Symbol) : Type 0 where
  a : ℕ
  b : ℕ
  us : List Symbol
  is : ts ≡ s.sign k.Void a ∷ s.sign k.CloseParen b ∷ us

closing : (a : ℕ) (ts : List Symbol) → sees k.CloseParen ts ≡ true → Alone (s.sign k.Void a ∷ ts)
unfolding same_terminal
closing a (s.sign k.CloseParen b ∷ us) e = record { a = a; b = b; us = us; is = refl }
closing a ts e = absurd cc

alone : (ts : List Symbol) → is_void_alone ts ≡ true → Alone ts
alone (s.sign k.Void a ∷ ts) e = closing a ts e
alone ts e = absurd cc

pub alone_is_void : {scope : Scope} {ts rest : List Symbol} {ps : c.ParameterList} {spots more : List ℕ} → IsParameterList scope ts ps rest spots more → is_void_alone ts ≡ true → ps ≡ void_only
alone_is_void {scope} {ts} {rest} {ps} {spots} {more} x e =
    let f = alone ts e in list_read (subst (λ (vs : List Symbol). IsParameterList scope vs ps rest spots more) f.is x)
