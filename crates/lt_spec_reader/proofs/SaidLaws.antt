-- What lines say of cells, as it is put to what others say.
use Rattle.std.proofs.Common.{◌≡◌, ℕ, Bool, true, false, cond, List, [], ◌∷◌, ◌++◌, length, map, Option, Some, None, refl, sym, ap, ◌∙◌}
use Rattle.std.specs.Prelude.{◌&&◌, ◌||◌, ◌==◌, not, is_some, is_none, option_map, nat_abs}
use Rattle.std.specs.List.{list_all, list_any, find}
use Rattle.std.specs.HashMap.{HashMap}
use Rattle.std.specs.Borrow.{Bor}
use Rattle.std.specs.Str.{bytes_eq}
use Rattle.lt_model.specs.declared.scalar.Scalar.{Scalar}
use Rattle.lt_model.specs.declared.input.Place.{Place}
use Rattle.lt_model.specs.declared.input.StubRange.{StubRange}
use Rattle.lt_model.specs.declared.input.Want.{Want}
use Rattle.lt_model.specs.declared.input.Want.TheVariants as want
use Rattle.lt_tree.specs.Typing.Types.{CType, scalar_of, target_of}
use Rattle.lt_tree.specs.Typing.Entities.{or_else}
use Rattle.lt_entry.specs.Written.{Numeral, value_of, PlaceWord, TargetWord}
use Rattle.lt_entry.specs.Naming.{Scope, Named, named_by}
use Rattle.lt_entry.specs.SpecificationLines.{Line, entry_line, block_line, range_line, points_line, stub_line, require_line}
use Rattle.lt_entry.specs.Conditions.{same_place, is_place_in, names_cell, names_stub, is_range, have_targets, each_named, fits_in, stub_among, stubs_of}
use Rattle.lt_entry.specs.Meaning.{first_some, want_by, want_said, stub_range_by, targets_for}
use Rattle.lt_entry.specs.declared.specification_line.StubLine.{StubLine}
use Rattle.lt_entry.specs.Views.{numeral_view}
use Rattle.lt_entry.specs.LineViews.{stub_view}
use Rattle.lt_input_names.specs.declared.names.Names.{Names}
use Rattle.lt_input_names.specs.declared.part.Part.{Part}
use Rattle.lt_input_names.specs.Found.{found_in}
use Rattle.lt_input_names.specs.Views.{scope_of, type_at, named_at}
use Rattle.lt_spec_reader.specs.Said.{Key, found_at, HasSaid, Says, IsSaid, may_range, may_point, range_by, HasRanges, IsRanged}
use Rattle.lt_spec_reader.proofs.Bools.{some_mapped, found_any, first_any, find-map}
use Rattle.lt_spec_reader.proofs.Growing.{said_any, found_by_name}

module _ (scope : Scope) (before : List Line) where
  -- nothing is said of a cell where no line names it
  said_is : (place : Place) (said : Bool) (w : Option Want) → said ≡ is_some w → w ≡ want_said scope before place → not said ≡ not (list_any (names_cell scope place) before)
  said_is place said w is of = ap not (is ∙ ap is_some of ∙ said_any scope place before)

  pub may_range_is : (low high : Numeral) (it : Named) (fits said : Bool) (o : Option Scalar) (w : Option Want) → fits ≡ is_range scope.program.model low high o → o ≡ scalar_of it.type → said ≡ is_some w → w ≡ want_said scope before it.place
      → (fits && not said) ≡ may_range scope before low high it
  may_range_is low high it fits said o w fit type is of =
      ap (λ b. b && not said) (fit ∙ ap (is_range scope.program.model low high) type) ∙ ap (λ b. is_range scope.program.model low high (scalar_of it.type) && b) (said_is it.place said w is of)

  pub may_point_is : (targets : List TargetWord) (it : Named) (have said : Bool) (w : Option Want) → have ≡ have_targets scope targets (target_of it.type) → said ≡ is_some w → w ≡ want_said scope before it.place
      → (have && not said) ≡ may_point scope before targets it
  may_point_is targets it have said w has is of =
      ap (λ b. b && not said) has ∙ ap (λ b. have_targets scope targets (target_of it.type) && b) (said_is it.place said w is of)

-- ---- what a line says of parts

module _ (names : Names) (word : PlaceWord) (parts : List Part) (are : map (named_at names) parts ≡ named_by (scope_of names) word) where
  -- the part at a place, by its name and its offset
  at_is : (place : Place) → find (λ it. same_place it.place place) (named_by (scope_of names) word) ≡ option_map (named_at names) (find (λ part. same_place (record { root = word.name; offset = part.place.offset }) place) parts)
  at_is place =
      found_by_name (scope_of names) word place ∙ ap (find (λ (it : Named). same_place (record { root = word.name; offset = it.place.offset }) place)) (sym are)
      ∙ find-map (named_at names) (λ (it : Named). same_place (record { root = word.name; offset = it.place.offset }) place) parts

  -- whether a part is at a place, by its name and its offset
  pub any_at : (place : Place) → is_place_in (named_by (scope_of names) word) place ≡ list_any (λ part. same_place (record { root = word.name; offset = part.place.offset }) place) parts
  any_at place =
      sym (found_any (λ it. same_place it.place place) (named_by (scope_of names) word)) ∙ ap is_some (at_is place)
      ∙ some_mapped (named_at names) (find (λ part. same_place (record { root = word.name; offset = part.place.offset }) place) parts)
      ∙ found_any (λ part. same_place (record { root = word.name; offset = part.place.offset }) place) parts

  mapped_twice : {A B C : Type 0} (f : B → C) (g : A → B) (o : Option A) → option_map f (option_map g o) ≡ option_map (λ a. f (g a)) o
  mapped_twice f g None = refl
  mapped_twice f g (Some a) = refl

  pub range_says : {S : Type 0} (low high : Numeral) (old new : HashMap Key Want S)
      → ((place : Place) → found_at new place ≡ or_else (found_at old place) (option_map (λ (part : Part). want.Between (value_of low) (value_of high)) (find (λ part. same_place (record { root = word.name; offset = part.place.offset }) place) parts)))
      → Says (scope_of names) (range_line word low high) old new
  range_says low high old new put place =
      put place ∙ ap (or_else (found_at old place)) (sym (ap (option_map (λ (it : Named). want.Between (value_of low) (value_of high))) (at_is place)
      ∙ mapped_twice (λ (it : Named). want.Between (value_of low) (value_of high)) (named_at names) (find (λ part. same_place (record { root = word.name; offset = part.place.offset }) place) parts)))

  pub points_says : {S : Type 0} (targets : List TargetWord) (old new : HashMap Key Want S)
      → ((place : Place) → found_at new place ≡ or_else (found_at old place) (option_map (λ part. want.OneOf (targets_for (scope_of names) targets (type_at names part.ty))) (find (λ part. same_place (record { root = word.name; offset = part.place.offset }) place) parts)))
      → Says (scope_of names) (points_line word targets) old new
  points_says targets old new put place =
      put place ∙ ap (or_else (found_at old place)) (sym (ap (option_map (λ it. want.OneOf (targets_for (scope_of names) targets it.type))) (at_is place)
      ∙ mapped_twice (λ it. want.OneOf (targets_for (scope_of names) targets it.type)) (named_at names) (find (λ part. same_place (record { root = word.name; offset = part.place.offset }) place) parts)))

  pub range_fits : {S : Type 0} (low high : Numeral) (old new : HashMap Key Want S) (it : Bool)
      → ((before : List Line) → HasSaid (scope_of names) before old → it ≡ each_named (may_range (scope_of names) before low high) (map (named_at names) parts))
      → (it ≡ true → Says (scope_of names) (range_line word low high) old new) → (it ≡ false → new ≡ old) → IsSaid (scope_of names) (range_line word low high) old new it
  range_fits low high old new it fit says stays = record {
    fits = λ before said. fit before said ∙ ap (each_named (may_range (scope_of names) before low high)) are;
    says = says;
    stays = stays;
  }

  pub points_fits : {S : Type 0} (targets : List TargetWord) (old new : HashMap Key Want S) (it : Bool)
      → ((before : List Line) → HasSaid (scope_of names) before old → it ≡ each_named (may_point (scope_of names) before targets) (map (named_at names) parts))
      → (it ≡ true → Says (scope_of names) (points_line word targets) old new) → (it ≡ false → new ≡ old) → IsSaid (scope_of names) (points_line word targets) old new it
  points_fits targets old new it fit says stays = record {
    fits = λ before said. fit before said ∙ ap (each_named (may_point (scope_of names) before targets)) are;
    says = says;
    stays = stays;
  }

-- ---- functions without a body

stub_any : (name : List ℕ) (line : Line) → is_some (stub_range_by name line) ≡ names_stub name line
stub_any name (entry_line n) = refl
stub_any name (block_line n type count) = refl
stub_any name (range_line place low high) = refl
stub_any name (points_line place targets) = refl
stub_any name (stub_line other low high) = by (bytes_eq other name)
  where
    by : (b : Bool) → is_some (cond b (Some (let r : StubRange = record { name = name; lo = value_of low; hi = value_of high } in r)) None) ≡ b
    by true = refl
    by false = refl
stub_any name (require_line sum relation constant) = refl

pub stub_fits : {S : Type 0} (scope : Scope) (line : StubLine) (old : HashMap (Bor (List ℕ)) StubLine S) (before : List Line) (fits there : Bool) (o : Option Scalar) → fits ≡ is_range scope.program.model (numeral_view line.low) (numeral_view line.high) o → o ≡ stub_among line.name.now (stubs_of scope.program)
    → there ≡ is_some (found_in old line.name.now) → HasRanges before old → (fits && not there) ≡ fits_in scope before (stub_view line)
stub_fits scope line old before fits there o fit type is has =
    let low = numeral_view line.low in
    let high = numeral_view line.high in
    let any : there ≡ list_any (names_stub line.name.now) before =
    is ∙ sym (some_mapped (range_by line.name.now) (found_in old line.name.now)) ∙ ap is_some (has line.name.now) ∙ first_any (stub_range_by line.name.now) (names_stub line.name.now) (stub_any line.name.now) before in
    ap (λ b. b && not there) (fit ∙ ap (is_range scope.program.model low high) type) ∙ ap (λ b. is_range scope.program.model low high (stub_among line.name.now (stubs_of scope.program)) && not b) any

mapped_or : {A B : Type 0} (f : A → B) (a b : Option A) → option_map f (or_else a b) ≡ or_else (option_map f a) (option_map f b)
mapped_or f None b = refl
mapped_or f (Some a) b = refl

cond_mapped : {A B : Type 0} (f : A → B) (b : Bool) (x : A) → option_map f (cond b (Some x) None) ≡ cond b (Some (f x)) None
cond_mapped f true x = refl
cond_mapped f false x = refl

pub stub_says : {S : Type 0} (line : StubLine) (old new : HashMap (Bor (List ℕ)) StubLine S) → ((w : List ℕ) → found_in new w ≡ or_else (found_in old w) (cond (bytes_eq line.name.now w) (Some line) None))
    → (name : List ℕ) → option_map (range_by name) (found_in new name) ≡ or_else (option_map (range_by name) (found_in old name)) (stub_range_by name (stub_view line))
stub_says line old new put name =
    ap (option_map (range_by name)) (put name) ∙ mapped_or (range_by name) (found_in old name) (cond (bytes_eq line.name.now name) (Some line) None)
    ∙ ap (or_else (option_map (range_by name) (found_in old name))) (cond_mapped (range_by name) (bytes_eq line.name.now name) line)
