-- Requirements and ranges, as they are made of lines.
use Rattle.std.proofs.Common.{◌≡◌, ℕ, zero, suc, ◌+◌, ◌<◌, Bool, true, false, List, [], ◌∷◌, ◌++◌, length, take, get_or, map, Option, Some, None, refl, sym, ap, ◌∙◌, ℤ}
use Rattle.std.specs.Prelude.{not, neg_ℤ, unwrap_or, option_to_list}
use Rattle.std.specs.List.{filter_map, cons_option}
use Rattle.std.specs.Borrow.{Bor}
use Rattle.std.specs.HashMap.{HashMap}
use Rattle.std.proofs.lemmas.List.Elements.{filter_map-append}
use Rattle.lt_model.specs.declared.input.NeedTerm.{NeedTerm}
use Rattle.lt_model.specs.declared.input.StubRange.{StubRange}
use Rattle.lt_tree.specs.Typing.Programs.{Program}
use Rattle.lt_entry.specs.Written.{value_of}
use Rattle.lt_entry.specs.Naming.{Named, named_by}
use Rattle.lt_entry.specs.SpecificationLines.{Addend, Line}
use Rattle.lt_entry.specs.Conditions as conditions
use Rattle.lt_entry.specs.Conditions.{stubs_of}
use Rattle.lt_entry.specs.Meaning.{factor_of, need_terms, stub_range}
use Rattle.lt_entry.specs.declared.specification_line.StubLine.{StubLine}
use Rattle.lt_input_names.specs.declared.names.Names.{Names}
use Rattle.lt_input_names.specs.declared.part.Part.{Part}
use Rattle.lt_input_names.specs.declared.stubs.Stub.{Stub}
use Rattle.lt_input_names.specs.Stubs.{stub_view}
use Rattle.lt_input_names.specs.Views.{scope_of, named_at}
use Rattle.lt_input_wants.specs.Stubs.{whole_range}
use Rattle.lt_spec_reader.specs.Said.{HasRanges, range_in, part_term}
use Rattle.lt_spec_reader.proofs.Loops.{mapped_more}

-- a numeral of the other sign
pub other_sign : (is_negative : Bool) (size : ℕ) → value_of (record { is_negative = not is_negative; size = size }) ≡ neg_ℤ (value_of (record { is_negative = is_negative; size = size }))
other_sign true zero = refl
other_sign true (suc n) = refl
other_sign false n = refl

-- ---- lists

twice_mapped : {A B C : Type 0} (f : B → C) (g : A → B) (xs : List A) → map f (map g xs) ≡ map (λ x. f (g x)) xs
twice_mapped f g [] = refl
twice_mapped f g (x ∷ xs) = ap (λ l. f (g x) ∷ l) (twice_mapped f g xs)

same_mapped : {A B : Type 0} (f g : A → B) (same : (a : A) → f a ≡ g a) (xs : List A) → map f xs ≡ map g xs
same_mapped f g same [] = refl
same_mapped f g same (x ∷ xs) = ap (λ y. y ∷ map f xs) (same x) ∙ ap (λ l. g x ∷ l) (same_mapped f g same xs)

one_option : {A : Type 0} (o : Option A) → cons_option o [] ≡ option_to_list o
one_option None = refl
one_option (Some a) = refl

-- those that are picked, with one more
pub picked_more : {A B C : Type 0} (pick : B → Option C) (f : A → B) (xs : List A) (i : ℕ) (x : A) (old new : List C) → i < length xs → x ≡ get_or xs i x → old ≡ filter_map pick (map f (take i xs)) → new ≡ old ++ option_to_list (pick (f x))
    → new ≡ filter_map pick (map f (take (i + 1) xs))
picked_more pick f xs i x old new h is before after =
    after ∙ ap (λ l. l ++ option_to_list (pick (f x))) before ∙ ap (λ l. filter_map pick (map f (take i xs)) ++ l) (sym (one_option (pick (f x))))
    ∙ sym (filter_map-append pick (map f (take i xs)) (f x ∷ [])) ∙ ap (filter_map pick) (sym (mapped_more f xs i x h is))

-- ---- terms

abbrev term_at : ℤ → Named → NeedTerm
term_at factor it = record { at = it.place; factor = factor }

pub terms_are : (names : Names) (addend : Addend) (slice parts : List Part) (old new : List NeedTerm) → slice ≡ parts → map (named_at names) parts ≡ named_by (scope_of names) addend.term.place → new ≡ old ++ map (part_term addend) slice
    → new ≡ old ++ need_terms (scope_of names) addend
terms_are names addend slice parts old new same are after =
    after ∙ ap (λ l. old ++ l) (ap (map (part_term addend)) same ∙ sym (twice_mapped (term_at (factor_of addend)) (named_at names) parts) ∙ ap (map (term_at (factor_of addend))) are)

-- ---- ranges

pub ranges_are : {S : Type 0} (program : Program) (lines : List Line) (ranges : HashMap (Bor (List ℕ)) StubLine S) (slice stubs : List Stub) (all : List StubRange) → HasRanges lines ranges → slice ≡ stubs → map stub_view stubs ≡ stubs_of program
    → all ≡ map (λ stub. range_in program.model ranges (stub_view stub)) slice → all ≡ map (stub_range program lines) (stubs_of program)
ranges_are program lines ranges slice stubs all has same are after =
    after ∙ ap (map (λ stub. range_in program.model ranges (stub_view stub))) same ∙ sym (twice_mapped (range_in program.model ranges) stub_view stubs) ∙ ap (map (range_in program.model ranges)) are
    ∙ same_mapped (range_in program.model ranges) (stub_range program lines) range_is (stubs_of program)
  where
    range_is : (stub : conditions.Stub) → range_in program.model ranges stub ≡ stub_range program lines stub
    range_is stub = ap (λ o. unwrap_or o (whole_range program.model stub)) (has stub.name)
