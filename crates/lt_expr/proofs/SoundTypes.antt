-- The names of types and their specifiers that are read are derived: a step of each reading function.
use Rattle.std.proofs.Common.{◌≡◌, ℕ, suc, ◌||◌, ◌&&◌, not, Bool, true, false, List, [], ◌∷◌, drop, Option, Some, option_map, refl, subst}
use Rattle.std.proofs.Math.Bool.{or-false, or-true}
use Rattle.lt_tree.specs.declared.terminal.Terminal.{Terminal}
use Rattle.lt_tree.specs.declared.terminal.Terminal.TheVariants as t
use Rattle.lt_tree.specs.Tree as c
use Rattle.lt_tree.specs.Symbols.{Symbol, name, constant, literal, sign, start_of}
use Rattle.lt_tree.specs.Scope.{Scope, is_type, after_type, after_specifiers}
use Rattle.lt_tree.specs.Operators.{storage_of, type_word_of}
use Rattle.lt_tree.specs.Grammar as g
use Rattle.lt_tree.specs.Ahead.{nameless, begins_specifier}
use Rattle.lt_expr.specs.Front.{Rest, ◌>>=◌, if_some, behind, optional_name}
use Rattle.lt_expr.specs.Specifier.{Specifier, storage_class, inline_word, noreturn_word, const_word, volatile_word, of_type, Found, with_specifier, names_type, after_specifier, word_specifier, one_specifier}
use Rattle.lt_expr.specs.Walk.{Walked, walk_types}
use Rattle.lt_expr.specs.Reading as read
use Rattle.lt_expr.proofs.SoundSteps.{Yields, nothing, given, weaker, both, chosen, found, mapped}
use Rattle.lt_expr.proofs.Walks.{gathered_walk}
use Rattle.lt_expr.proofs.SoundFronts.{Sees, at_front, seeing}
use Rattle.lt_expr.proofs.SoundSpots.{Spotted, no_spot, by_rule, same_walk, two}
use Rattle.lt_expr.proofs.SoundStatements.{TypeNameSound, SpecifiersSound, FurtherSound, SpecifierSound, DeclaratorSound, TaggedSound, IsSpecifier, IsTagFront, with_tag, without_tag, IsTaggedBy, walk_one}

-- ---- a specifier before others

walk_with : (s : Specifier) (found : Found) (w : Walked) → walk_types (with_specifier s found).types w ≡ walk_one s (walk_types found.types w)
walk_with (storage_class class) found w = refl
walk_with inline_word found w = refl
walk_with noreturn_word found w = refl
walk_with const_word found w = refl
walk_with volatile_word found w = refl
walk_with (of_type type) found w = refl

-- a storage class or a type word
plain_word : (scope : Scope) (typed : Bool) (k : Terminal) (at : ℕ) (ts : List Symbol) (ends : List ℕ)
    → Yields (if_some (storage_of k) (λ class. Some (storage_class class)) (option_map (λ word. of_type (c.Word word)) (type_word_of k)))
    (λ s. Spotted (walk_one s) ends ends (IsSpecifier scope typed (sign k at ∷ ts) s ts))
plain_word scope typed k at ts ends =
    found (storage_of k)
    (λ class is. given (no_spot (λ middle. record {
      further = λ f end more h. g.storage is (subst (λ (b : Bool). g.AreFurther scope b ts f.words f.types end middle more) (or-false typed) h);
    })))
    (λ none. mapped _ (type_word_of k) (record { holds = λ word is. is }) (λ word is. no_spot (λ middle. record {
      further = λ f end more h. g.type_word is (subst (λ (b : Bool). g.AreFurther scope b ts f.words f.types end middle more) (or-true typed) h);
    })))

word_is : (scope : Scope) (typed : Bool) (k : Terminal) (at : ℕ) (ts : List Symbol) (ends : List ℕ)
    → Yields (word_specifier k) (λ s. Spotted (walk_one s) ends ends (IsSpecifier scope typed (sign k at ∷ ts) s ts))
word_is scope typed t.Inline at ts ends = given (no_spot (λ middle. record {
  further = λ f end more h. g.inline_word (subst (λ (b : Bool). g.AreFurther scope b ts f.words f.types end middle more) (or-false typed) h);
}))
word_is scope typed t.Noreturn at ts ends = given (no_spot (λ middle. record {
  further = λ f end more h. g.noreturn_word (subst (λ (b : Bool). g.AreFurther scope b ts f.words f.types end middle more) (or-false typed) h);
}))
word_is scope typed t.Const at ts ends = given (no_spot (λ middle. record {
  further = λ f end more h. g.const_word (subst (λ (b : Bool). g.AreFurther scope b ts f.words f.types end middle more) (or-false typed) h);
}))
word_is scope typed t.Volatile at ts ends = given (no_spot (λ middle. record {
  further = λ f end more h. g.volatile_word (subst (λ (b : Bool). g.AreFurther scope b ts f.words f.types end middle more) (or-false typed) h);
}))
word_is scope typed k at ts ends = plain_word scope typed k at ts ends

name_is : (scope : Scope) (typed : Bool) (w : List ℕ) (at : ℕ) (ts : List Symbol) (ends : List ℕ) → (not typed && is_type scope w) ≡ true
    → Spotted (λ v. v) ends ends (IsSpecifier scope typed (name w at ∷ ts) (of_type (c.Named w)) ts)
name_is scope true w at ts ends e = absurd cc
name_is scope false w at ts ends e = no_spot (λ middle. record { further = λ f end more h. g.typedef_name e h })

one_is : (scope : Scope) (typed : Bool) (r : Rest) → begins_specifier scope typed r.0 ≡ true
    → Yields (one_specifier r) (λ x. Spotted (walk_one x.0) x.1.1 r.1 (IsSpecifier scope typed r.0 x.0 x.1.0))
unfolding one_specifier
one_is scope typed ([], ends) b = nothing
one_is scope typed (name w at ∷ ts, ends) b = given (name_is scope typed w at ts ends b)
one_is scope typed (constant w at ∷ ts, ends) b = nothing
one_is scope typed (literal w at ∷ ts, ends) b = nothing
one_is scope typed (sign k at ∷ ts, ends) b = mapped _ (word_specifier k) (word_is scope typed k at ts ends) (λ s d. d)

-- ---- structs and enums

tag_is : (k : Terminal) (a : ℕ) (us : List Symbol) (ends : List ℕ)
    → Yields (optional_name (us, ends)) (λ x. IsTagFront k x.0 (sign k a ∷ us) x.1.0 × (x.1.1 ≡ ends))
tag_is k a [] ends = given (without_tag, refl)
tag_is k a (name w at ∷ us) ends = given (with_tag, refl)
tag_is k a (constant w at ∷ us) ends = given (without_tag, refl)
tag_is k a (literal w at ∷ us) ends = given (without_tag, refl)
tag_is k a (sign j at ∷ us) ends = given (without_tag, refl)

tagged_before : {scope : Scope} {ts rest : List Symbol} (typed : Bool) (s : Specifier) {spots middle : List ℕ}
    → IsTaggedBy scope ts s rest spots middle → IsSpecifier scope typed ts s rest spots middle
tagged_before {scope} {ts} {rest} typed (of_type type) {spots} {middle} d = record {
  further = λ f end more h. g.struct_or_enum d (subst (λ (b : Bool). g.AreFurther (after_type type scope) b rest f.words f.types end middle more) (or-true typed) h);
}
tagged_before typed s d = absurd d

tagged_sound : (k : Terminal) {f : Scope → Option (List ℕ) → Rest → Option (Specifier × Rest)} → TaggedSound k f → (scope : Scope) (typed : Bool) (r : Rest) → Sees k r.0
    → Yields (optional_name (behind r) >>= λ tag. f scope tag.0 tag.1) (λ x. Spotted (walk_one x.0) x.1.1 r.1 (IsSpecifier scope typed r.0 x.0 x.1.0))
tagged_sound k {f} tagged scope typed r s =
    both (optional_name (behind r)) (tag_is k (start_of r.0) (drop 1 r.0) r.1) (λ tag front.
    weaker (λ x d.
    by_rule (λ spots more h. at_front s (λ ts. IsSpecifier scope typed ts x.0 x.1.0 spots more) (tagged_before typed x.0 h))
    (subst (λ (ends : List ℕ). Spotted (walk_one x.0) x.1.1 ends (IsTaggedBy scope (sign k (start_of r.0) ∷ drop 1 r.0) x.0 x.1.0)) front.1 d))
    (tagged scope tag.0 (sign k (start_of r.0) ∷ drop 1 r.0) tag.1 front.0))

-- ---- a step of each

pub type_name_sound : (n : ℕ) → SpecifiersSound n → DeclaratorSound n → TypeNameSound (suc n)
unfolding read.expression
type_name_sound n specifiers declarator scope r =
    both (read.specifiers n scope r) (specifiers scope r) (λ s d.
    both (read.declarator n (after_specifiers s.0 scope) nameless s.1) (declarator (after_specifiers s.0 scope) nameless s.1) (λ x e.
    given (two (λ spots middle more h k. g.type_name h k) d e)))

pub specifiers_sound : (n : ℕ) → FurtherSound n → SpecifiersSound (suc n)
unfolding read.expression
specifiers_sound n further scope r =
    chosen (begins_specifier scope false r.0)
    (λ b.
    both (read.further n scope false r) (further scope false r) (λ f d.
    given (same_walk (gathered_walk f.0.types) (by_rule (λ spots more h. g.some_specifiers b h) d))))
    (λ b. nothing)

pub further_sound : (n : ℕ) → SpecifierSound n → FurtherSound n → FurtherSound (suc n)
unfolding read.expression
further_sound n specifier further scope typed r =
    chosen (begins_specifier scope typed r.0)
    (λ b.
    both (read.specifier n scope r) (specifier scope typed r b) (λ s d.
    both (read.further n (after_specifier s.0 scope) (typed || names_type s.0) s.1) (further (after_specifier s.0 scope) (typed || names_type s.0) s.1) (λ f e.
    given (same_walk (walk_with s.0 f.0) (two (λ spots middle more h k. h.further f.0 f.1.0 more k) d e)))))
    (λ b. given (no_spot (λ more. g.no_further b)))

pub specifier_sound : (n : ℕ) → TaggedSound t.Struct (read.structure n) → TaggedSound t.Enum (read.enumeration n) → SpecifierSound (suc n)
unfolding read.expression
specifier_sound n structure enumeration scope typed r b =
    seeing t.Struct r.0 (λ q. cc)
    (λ s. tagged_sound t.Struct {f = read.structure n} structure scope typed r s)
    (λ not_struct. seeing t.Enum r.0 (λ q. cc)
    (λ s. tagged_sound t.Enum {f = read.enumeration n} enumeration scope typed r s)
    (λ not_enum. one_is scope typed r b))
