-- What begins a declarator begins no specifier, so that specifiers end before it.
use Rattle.std.proofs.Common.{◌≡◌, ℕ, Bool, true, false, List, ◌∷◌, Option, Some, None, refl, sym, ap, subst, ◌∙◌}
use Rattle.std.specs.Prelude.{option_and_then}
use Rattle.std.proofs.lemmas.Bool.{not-true, or_parts}
use Rattle.lt_tree.specs.declared.specifier.BasicType.{BasicType}
use Rattle.lt_tree.specs.declared.terminal.Terminal.TheVariants as k
use Rattle.lt_tree.specs.Tree as c
use Rattle.lt_tree.specs.Symbols as s
use Rattle.lt_tree.specs.Symbols.{Symbol}
use Rattle.lt_tree.specs.TypeWords.{spellings, all_words, same_word, basic_of, words_alone, or_as_they_stand, gathered}
use Rattle.lt_tree.specs.Scope.{Scope, is_type, after_type, after_specifiers}
use Rattle.lt_tree.specs.Ahead.{Naming, untyped, nameless, either, naming_behind, takes_name, takes_none, same_terminal, sees, begins_specifier}
use Rattle.lt_tree.specs.Grammar as g
use Rattle.lt_tree.specs.Grammar.{AreSpecifiers, AreFurther, IsDeclarator, ArePointers, IsDirect, AreSuffixes}
use Rattle.lt_tree.specs.Canon.{apart, specifiers, declarator}
use Rattle.lt_print.proofs.ReadPieces.{Reads, parted_apart, Ends, by_parenthesis}
use Rattle.lt_print.proofs.Claims.{names_type, is_typed, SpecifiersAgain, DeclaratorFits, has_pointer, starred, IsClear, TypeNameAgain}
use Rattle.lt_print.proofs.Fronts.{ends_specifier}
use Rattle.lt_print.proofs.DeclaratorsAgain.{declarator_again}
use Rattle.lt_print.proofs.TypesAgain.{anywhere, typed_behind, still_typed}

-- ---- pointers among the parts

suffixes_keep : {scope : Scope} {ts rest : List Symbol} {outer parts : c.Parts} {spots more : List ℕ} → AreSuffixes scope ts outer parts rest spots more → has_pointer parts ≡ has_pointer outer
suffixes_keep (g.no_suffix x) = refl
suffixes_keep (g.unsized_array x) = suffixes_keep x
suffixes_keep (g.array e x) = suffixes_keep x
suffixes_keep (g.function ps x) = suffixes_keep x

mutual
  pub pointers_keep : {scope : Scope} {naming : Naming} {ts rest : List Symbol} {outer parts : c.Parts} {w : Option (List ℕ)} {spots more : List ℕ}
      → ArePointers scope naming ts outer w parts rest spots more → has_pointer outer ≡ true → has_pointer parts ≡ true
  pointers_keep (g.pointer q x) e = pointers_keep x refl
  pointers_keep (g.no_pointer a x) e = direct_keeps x e

  direct_keeps : {scope : Scope} {naming : Naming} {ts rest : List Symbol} {outer parts : c.Parts} {w : Option (List ℕ)} {spots more : List ℕ}
      → IsDirect scope naming ts outer w parts rest spots more → has_pointer outer ≡ true → has_pointer parts ≡ true
  direct_keeps (g.by_name a xs) e = suffixes_keep xs ∙ e
  direct_keeps (g.by_nothing a b xs) e = suffixes_keep xs ∙ e
  direct_keeps (g.nested inner a x i xs) e = pointers_keep x (suffixes_keep xs ∙ e)

-- ---- what begins a declarator

-- no specifier and no brace
pub record Clear (scope : Scope) (typed : Bool) (ts : List Symbol) : Type 0 where
  pub none : begins_specifier scope typed ts ≡ false
  pub brace : sees k.OpenBrace ts ≡ false

-- behind a declarator that may be missing
abbrev pub Bare : Naming → List Symbol → Type 0
Bare naming rest = takes_none naming ≡ true → Ends rest × (sees k.OpenBrace rest ≡ false)

suffixes_clear : {scope inner : Scope} (typed : Bool) {ts rest : List Symbol} {outer parts : c.Parts} {spots more : List ℕ}
    → AreSuffixes inner ts outer parts rest spots more → Ends rest × (sees k.OpenBrace rest ≡ false) → Clear scope typed ts
unfolding same_terminal
suffixes_clear {scope} typed (g.no_suffix x) bare = record { none = ends_specifier scope typed bare.0; brace = bare.1 }
suffixes_clear typed (g.unsized_array x) bare = record { none = refl; brace = refl }
suffixes_clear typed (g.array e x) bare = record { none = refl; brace = refl }
suffixes_clear typed (g.function ps x) bare = record { none = refl; brace = refl }

name_clear : {scope : Scope} (typed : Bool) (w : List ℕ) (at : ℕ) (ts : List Symbol) (parts : c.Parts) → has_pointer parts ≡ false → IsClear scope typed (c.declarator (Some w) parts) → Clear scope typed (s.name w at ∷ ts)
unfolding same_terminal
name_clear true w at ts parts e clear = record { none = refl; brace = refl }
name_clear false w at ts parts e clear = record { none = clear e; brace = refl }

direct_clear : {scope inner : Scope} {naming : Naming} (typed : Bool) {ts rest : List Symbol} {outer parts : c.Parts} {w : Option (List ℕ)} {spots more : List ℕ}
    → IsDirect inner naming ts outer w parts rest spots more → has_pointer outer ≡ false → Bare naming rest → IsClear scope typed (c.declarator w parts) → Clear scope typed ts
unfolding same_terminal
direct_clear typed {parts} (g.by_name {w} {at} {ts = us} a xs) e bare clear = name_clear typed w at us parts (suffixes_keep xs ∙ e) clear
direct_clear typed (g.by_nothing a b xs) e bare clear = suffixes_clear typed xs (bare a)
direct_clear typed (g.nested inner a x i xs) e bare clear = record { none = refl; brace = refl }

pub front_clear : {scope inner : Scope} {naming : Naming} (typed : Bool) {ts rest : List Symbol} {d : c.Declarator} {spots more : List ℕ}
    → IsDeclarator inner naming ts d rest spots more → Bare naming rest → IsClear scope typed d → Clear scope typed ts
unfolding same_terminal
front_clear typed (g.written (g.pointer q x) m) bare clear = record { none = refl; brace = refl }
front_clear typed (g.written (g.no_pointer a x) m) bare clear = direct_clear typed x refl bare clear
front_clear {scope} typed (g.missing a b) bare clear = let e = bare a in record { none = ends_specifier scope typed e.0; brace = e.1 }

-- ---- names that begin declarators

no_name : (scope : Scope) (w : List ℕ) (b : Bool) → takes_name (starred b nameless) scope w ≡ true → ⊥
no_name scope w true e = cc
no_name scope w false e = cc

pub nameless_clear : (scope inner : Scope) (typed : Bool) (d : c.Declarator) → DeclaratorFits nameless inner d → IsClear scope typed d
nameless_clear scope inner true d fits = tt
nameless_clear scope inner false (c.declarator None parts) fits = tt
nameless_clear scope inner false (c.declarator (Some w) parts) fits = absurd (no_name inner w (has_pointer parts) fits.0)

pub behind_clear : (scope : Scope) (ss : c.Specifiers) (d : c.Declarator) → DeclaratorFits (naming_behind ss) scope d → IsClear scope (names_type ss) d
behind_clear scope (c.specifiers words c.no_types) (c.declarator None parts) fits = tt
behind_clear scope (c.specifiers words c.no_types) (c.declarator (Some w) parts) fits =
    λ e. not-true (is_type scope w) (subst (λ (b : Bool). takes_name (starred b untyped) scope w ≡ true) e fits.0)
behind_clear scope (c.specifiers words (c.a_type first rest)) d fits = tt

-- and so behind the enumerators that the specifiers declare
pub behind_clear_after : (scope : Scope) (ss : c.Specifiers) (d : c.Declarator) → DeclaratorFits (naming_behind ss) (after_specifiers ss scope) d → IsClear scope (names_type ss) d
behind_clear_after scope (c.specifiers words c.no_types) d fits = behind_clear scope (c.specifiers words c.no_types) d fits
behind_clear_after scope (c.specifiers words (c.a_type first rest)) d fits = tt

pub behind_is_named : (ss : c.Specifiers) → takes_none (naming_behind ss) ≡ false
behind_is_named (c.specifiers words c.no_types) = refl
behind_is_named (c.specifiers words (c.a_type first rest)) = refl

pub behind_bare : (ss : c.Specifiers) (rest : List Symbol) → Bare (naming_behind ss) rest
behind_bare ss rest e = let f = behind_is_named ss in absurd cc

-- no typedef name
abbrev IsPlain : Scope → Option (List ℕ) → Type 0
IsPlain scope None = Unit {0}
IsPlain scope (Some w) = is_type scope w ≡ false

mutual
  plain_pointers : {scope : Scope} {ts rest : List Symbol} {outer parts : c.Parts} {w : Option (List ℕ)} {spots more : List ℕ}
      → ArePointers scope either ts outer w parts rest spots more → begins_specifier scope false ts ≡ false → has_pointer parts ≡ false → IsPlain scope w
  plain_pointers (g.pointer q x) n e = let f = pointers_keep x refl in absurd cc
  plain_pointers (g.no_pointer a x) n e = plain_direct x n e

  plain_direct : {scope : Scope} {ts rest : List Symbol} {outer parts : c.Parts} {w : Option (List ℕ)} {spots more : List ℕ}
      → IsDirect scope either ts outer w parts rest spots more → begins_specifier scope false ts ≡ false → has_pointer parts ≡ false → IsPlain scope w
  plain_direct (g.by_name a xs) n e = n
  plain_direct (g.by_nothing a b xs) n e = tt
  plain_direct {scope} (g.nested {ts = us} inner a x i xs) n e = plain_pointers x (or_parts (sees k.CloseParen us) (begins_specifier scope false us) a).1 e

plain_clear : (scope : Scope) (w : Option (List ℕ)) (parts : c.Parts) → (has_pointer parts ≡ false → IsPlain scope w) → IsClear scope false (c.declarator w parts)
plain_clear scope None parts h = tt
plain_clear scope (Some w) parts h = h

pub either_clear : (scope : Scope) (ss : c.Specifiers) {ts rest : List Symbol} {d : c.Declarator} {spots more : List ℕ}
    → begins_specifier scope (names_type ss) ts ≡ false → IsDeclarator (after_specifiers ss scope) either ts d rest spots more → IsClear scope (names_type ss) d
either_clear scope (c.specifiers words c.no_types) n (g.written {name = w} {parts = parts} x m) = plain_clear scope w parts (plain_pointers x n)
either_clear scope (c.specifiers words c.no_types) n (g.missing a b) = tt
either_clear scope (c.specifiers words (c.a_type first rest)) n x = tt

-- ---- where specifiers end

further_end : {scope : Scope} {typed : Bool} {ts rest : List Symbol} {words : c.Words} {types : c.TypeSpecifiers} {spots more : List ℕ}
    → AreFurther scope typed ts words types rest spots more → begins_specifier scope (typed_behind typed types) rest ≡ false
further_end (g.no_further x) = x
further_end (g.storage x f) = further_end f
further_end (g.inline_word f) = further_end f
further_end (g.noreturn_word f) = further_end f
further_end (g.const_word f) = further_end f
further_end (g.volatile_word f) = further_end f
further_end (g.type_word x f) = further_end f
further_end (g.typedef_name x f) = further_end f
further_end {scope} {rest = rest} (g.struct_or_enum {type = type} {types = types} x f) = anywhere scope (after_type type scope) (typed_behind true types) (still_typed types) rest ∙ further_end f

gathered_typed : (types : c.TypeSpecifiers) → is_typed (gathered types) ≡ typed_behind false types
unfolding spellings all_words same_word
gathered_typed c.no_types = refl
gathered_typed (c.a_type first rest) = step (option_and_then basic_of (words_alone (c.a_type first rest))) ∙ sym (still_typed rest)
  where
    step : (o : Option BasicType) → is_typed (or_as_they_stand (c.a_type first rest) o) ≡ true
    step None = refl
    step (Some type) = refl

pub specifiers_end : {scope : Scope} {ts rest : List Symbol} {ss : c.Specifiers} {spots more : List ℕ} → AreSpecifiers scope ts ss rest spots more → begins_specifier scope (names_type ss) rest ≡ false
specifiers_end {scope} {rest} (g.some_specifiers {types} b f) = ap (λ (v : Bool). begins_specifier scope v rest) (gathered_typed types) ∙ further_end f

-- ---- specifiers and a declarator

pub record Declared (scope inner : Scope) (naming : Naming) (ts : List Symbol) (ss : c.Specifiers) (d : c.Declarator) (rest : List Symbol) (more : List ℕ) : Type 0 where
  pub between : List Symbol
  pub middle : List ℕ
  pub spots : List ℕ
  pub first : AreSpecifiers scope ts ss between spots middle
  pub second : IsDeclarator inner naming between d rest middle more

pub declared_again : (scope inner : Scope) (naming : Naming) (ss : c.Specifiers) (d : c.Declarator) → SpecifiersAgain scope ss → DeclaratorFits naming inner d → IsClear scope (names_type ss) d
    → (n : ℕ) (ts rest : List Symbol) (more : List ℕ) → Ends rest → (takes_none naming ≡ true → sees k.OpenBrace rest ≡ false) → Reads (apart (specifiers n ss) (declarator n d)) ts rest
    → Declared scope inner naming ts ss d rest more
declared_again scope inner naming ss d again fits clear n ts rest more ends brace r =
    let p = parted_apart (specifiers n ss) (declarator n d) r in
    let second = declarator_again naming inner d fits n p.between rest more ends p.back in
    let front : Clear scope (names_type ss) p.between = front_clear (names_type ss) second.1 (λ a. (ends, brace a)) clear in
    let first = again n ts p.between second.0 front.none front.brace p.front in
    record { between = p.between; middle = second.0; spots = first.0; first = first.1; second = second.1 }

pub type_name_again : {scope : Scope} {ss : c.Specifiers} {d : c.Declarator} → SpecifiersAgain scope ss → DeclaratorFits nameless (after_specifiers ss scope) d → TypeNameAgain scope ss d
unfolding same_terminal
type_name_again {scope} {ss} {d} again fits n at ts rest more r =
    let got = declared_again scope (after_specifiers ss scope) nameless ss d again fits (nameless_clear scope (after_specifiers ss scope) (names_type ss) d fits) n ts (s.sign k.CloseParen at ∷ rest) more by_parenthesis (λ a. refl) r in
    (got.spots, g.type_name got.first got.second)
