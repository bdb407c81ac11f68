-- What lines say of cells stays the same where names stand for more.
use Rattle.std.proofs.Common.{◌≡◌, ℕ, Bool, true, false, cond, List, [], ◌∷◌, ◌++◌, length, map, Option, Some, None, refl, sym, ap, ◌∙◌, subst, append_assoc}
use Rattle.std.specs.Prelude.{◌&&◌, ◌==◌, not, is_some, option_map, unwrap_or}
use Rattle.std.specs.List.{list_all, list_any, find, flat_map}
use Rattle.std.specs.Str.{bytes_eq}
use Rattle.std.specs.Cmp.Lexicographic.{bytes_decides}
use Rattle.std.proofs.lemmas.List.{map-append}
use Rattle.lt_model.specs.declared.input.Place.{Place}
use Rattle.lt_model.specs.declared.input.Want.{Want}
use Rattle.lt_model.specs.declared.input.Want.TheVariants as want
use Rattle.lt_tree.specs.Typing.Types.{CType, target_of, scalar_of}
use Rattle.lt_tree.specs.Typing.Entities.{or_else}
use Rattle.lt_tree.specs.Typing.Programs.{Program}
use Rattle.lt_entry.specs.Written.{Step, PlaceWord, TargetWord, to_null, to_place, value_of}
use Rattle.lt_entry.specs.Naming.{Root, Block, block_root, file_objects, Scope, roots, root_among, Part, parts_at, whole, Named, named_part, named_in, named_by, if_all_pointed, past_end, place_targets, targets_of}
use Rattle.lt_entry.specs.SpecificationLines.{Line, entry_line, block_line, range_line, points_line, stub_line, require_line}
use Rattle.lt_entry.specs.Conditions.{same_place, names_cell, is_place_in, each_named, have_targets, is_range, fits_in}
use Rattle.lt_entry.specs.Meaning.{first_some, at_place, targets_for, want_by, want_said}
use Rattle.lt_spec_reader.specs.Growth.{Grows, has_root, is_settled_target, is_settled}
use Rattle.lt_spec_reader.proofs.Bools.{both, some_is, some_mapped, found_any, find-map, first_more, first_any, first_same, all_kept}

-- ---- a further block

-- an object of another name
among_others : (xs ys : List Root) (root : Root) (name : List ℕ) → bytes_eq root.name name ≡ false → root_among (xs ++ root ∷ ys) name ≡ root_among (xs ++ ys) name
among_others [] ys root name other = rw other refl
among_others (x ∷ xs) ys root name other = ap (cond (bytes_eq x.name name) (Some x)) (among_others xs ys root name other)

abbrev pub scope_with : Program → List Root → List Block → Scope
scope_with program parameters blocks = record { program = program; parameters = parameters; blocks = blocks }

roots_without : (program : Program) (ps : List Root) (front rest : List Block) → roots (scope_with program ps (front ++ rest)) ≡ (ps ++ map block_root front) ++ (map block_root rest ++ file_objects program)
roots_without program ps front rest =
    ap (λ l. (ps ++ l) ++ file_objects program) (map-append block_root front rest) ∙ ap (λ l. l ++ file_objects program) (sym (append_assoc ps (map block_root front) (map block_root rest)))
    ∙ append_assoc (ps ++ map block_root front) (map block_root rest) (file_objects program)

pub block_grows : (program : Program) (ps : List Root) (front rest : List Block) (block : Block) → root_among (roots (scope_with program ps (front ++ rest))) block.name ≡ None
    → Grows (scope_with program ps (front ++ rest)) (scope_with program ps ((front ++ block ∷ []) ++ rest))
block_grows program ps front rest block new = record {
  program = refl;
  roots = λ name root found. by name root found (bytes_eq block.name name) refl;
}
  where
    with_it : roots (scope_with program ps ((front ++ block ∷ []) ++ rest)) ≡ (ps ++ map block_root front) ++ block_root block ∷ (map block_root rest ++ file_objects program)
    with_it = ap (λ l. roots (scope_with program ps l)) (append_assoc front (block ∷ []) rest) ∙ roots_without program ps front (block ∷ rest)

    by : (name : List ℕ) (root : Root) → root_among (roots (scope_with program ps (front ++ rest))) name ≡ Some root → (b : Bool) → bytes_eq block.name name ≡ b
        → root_among (roots (scope_with program ps ((front ++ block ∷ []) ++ rest))) name ≡ Some root
    by name root found true is =
        let same : block.name ≡ name = (bytes_decides block.name name).0 is in
        let none : root_among (roots (scope_with program ps (front ++ rest))) name ≡ None = subst (λ n. root_among (roots (scope_with program ps (front ++ rest))) n ≡ None) same new in
        absurd (cc)
    by name root found false is =
        ap (λ l. root_among l name) with_it ∙ among_others (ps ++ map block_root front) (map block_root rest ++ file_objects program) (block_root block) name is
        ∙ ap (λ l. root_among l name) (sym (roots_without program ps front rest)) ∙ found

-- ---- what stays

module _ (old new : Scope) (grows : Grows old new) where
  root_stays : (name : List ℕ) → has_root old name ≡ true → root_among (roots new) name ≡ root_among (roots old) name
  root_stays name h =
      let found = some_is (root_among (roots old) name) h in
      grows.roots name found.0 found.1 ∙ sym found.1

  has_root_stays : (name : List ℕ) → has_root old name ≡ true → has_root new name ≡ true
  has_root_stays name h = ap is_some (root_stays name h) ∙ h

  named_stays : (word : PlaceWord) → has_root old word.name ≡ true → named_by new word ≡ named_by old word
  named_stays word h = ap (λ p. named_in p word.steps (root_among (roots new) word.name)) grows.program ∙ ap (named_in old.program word.steps) (root_stays word.name h)

  targets_stay : (pointed : CType) (target : TargetWord) → is_settled_target old target ≡ true → targets_of new pointed target ≡ targets_of old pointed target
  targets_stay pointed to_null h = refl
  targets_stay pointed (to_place word) h =
      ap (λ l. if_all_pointed pointed l ++ past_end new.program pointed word.steps (root_among (roots new) word.name)) (named_stays word h)
      ∙ ap (λ p. if_all_pointed pointed (named_by old word) ++ past_end p pointed word.steps (root_among (roots new) word.name)) grows.program
      ∙ ap (λ o. if_all_pointed pointed (named_by old word) ++ past_end old.program pointed word.steps o) (root_stays word.name h)

  all_targets_stay : (pointed : CType) (targets : List TargetWord) → list_all (is_settled_target old) targets ≡ true → flat_map (targets_of new pointed) targets ≡ flat_map (targets_of old pointed) targets
  all_targets_stay pointed [] h = refl
  all_targets_stay pointed (t ∷ ts) h =
      let hs = both (is_settled_target old t) (list_all (is_settled_target old) ts) h in
      ap (λ l. l ++ flat_map (targets_of new pointed) ts) (targets_stay pointed t hs.0) ∙ ap (λ l. targets_of old pointed t ++ l) (all_targets_stay pointed ts hs.1)

  targets_for_stay : (targets : List TargetWord) (t : CType) → list_all (is_settled_target old) targets ≡ true → targets_for new targets t ≡ targets_for old targets t
  targets_for_stay targets t h = by (target_of t)
    where
      by : (o : Option CType) → unwrap_or (option_map (λ pointed. flat_map (targets_of new pointed) targets) o) [] ≡ unwrap_or (option_map (λ pointed. flat_map (targets_of old pointed) targets) o) []
      by None = refl
      by (Some pointed) = all_targets_stay pointed targets h

  settled_target_stays : (target : TargetWord) → is_settled_target old target ≡ true → is_settled_target new target ≡ true
  settled_target_stays to_null h = refl
  settled_target_stays (to_place word) h = has_root_stays word.name h

  settled_stays : (line : Line) → is_settled old line ≡ true → is_settled new line ≡ true
  settled_stays (entry_line name) h = refl
  settled_stays (block_line name type count) h = refl
  settled_stays (range_line word low high) h = has_root_stays word.name h
  settled_stays (points_line word targets) h =
      let hs = both (has_root old word.name) (list_all (is_settled_target old) targets) h in
      rw (has_root_stays word.name hs.0, all_kept (is_settled_target old) (is_settled_target new) settled_target_stays targets hs.1) refl
  settled_stays (stub_line name low high) h = refl
  settled_stays (require_line sum relation constant) h = refl

  want_stays : (place : Place) (line : Line) → is_settled old line ≡ true → want_by new place line ≡ want_by old place line
  want_stays place (entry_line name) h = refl
  want_stays place (block_line name type count) h = refl
  want_stays place (range_line word low high) h =
      ap (λ its. option_map (λ (it : Named). want.Between (value_of low) (value_of high)) (at_place old place its)) (named_stays word h)
  want_stays place (points_line word targets) h =
      let hs = both (has_root old word.name) (list_all (is_settled_target old) targets) h in
      ap (λ its. option_map (λ it. want.OneOf (targets_for new targets it.type)) (at_place old place its)) (named_stays word hs.0)
      ∙ by (at_place old place (named_by old word)) hs.1
    where
      by : (o : Option Named) → list_all (is_settled_target old) targets ≡ true → option_map (λ it. want.OneOf (targets_for new targets it.type)) o ≡ option_map (λ it. want.OneOf (targets_for old targets it.type)) o
      by None h = refl
      by (Some it) h = ap (λ l. Some (want.OneOf l)) (targets_for_stay targets it.type h)
  want_stays place (stub_line name low high) h = refl
  want_stays place (require_line sum relation constant) h = refl

  -- what lines say of a cell stays
  pub said_stays : (place : Place) (lines : List Line) → list_all (is_settled old) lines ≡ true → want_said new lines place ≡ want_said old lines place
  said_stays place lines h = first_same (want_by new place) (want_by old place) (is_settled old) (want_stays place) lines h

  pub all_settled_stay : (lines : List Line) → list_all (is_settled old) lines ≡ true → list_all (is_settled new) lines ≡ true
  all_settled_stay lines h = all_kept (is_settled old) (is_settled new) settled_stays lines h

-- ---- lines that fit

module _ (scope : Scope) where
  named_has_root : (word : PlaceWord) (test : Named → Bool) → each_named test (named_by scope word) ≡ true → has_root scope word.name ≡ true
  named_has_root word test h = by (root_among (roots scope) word.name) h
    where
      by : (o : Option Root) → each_named test (named_in scope.program word.steps o) ≡ true → is_some o ≡ true
      by None h = absurd (cc)
      by (Some root) h = refl

  target_has_root : (pointed : CType) (target : TargetWord) → not (length (targets_of scope pointed target) == 0) ≡ true → is_settled_target scope target ≡ true
  target_has_root pointed to_null h = refl
  target_has_root pointed (to_place word) h = by (root_among (roots scope) word.name) h
    where
      by : (o : Option Root) → not (length (if_all_pointed pointed (named_in scope.program word.steps o) ++ past_end scope.program pointed word.steps o) == 0) ≡ true → is_some o ≡ true
      by None h = absurd (cc)
      by (Some root) h = refl

  targets_have_roots : (targets : List TargetWord) (o : Option CType) → have_targets scope targets o ≡ true → list_all (is_settled_target scope) targets ≡ true
  targets_have_roots [] o h = refl
  targets_have_roots (t ∷ ts) None h = absurd (cc)
  targets_have_roots (t ∷ ts) (Some pointed) h =
      all_kept (λ target. not (length (targets_of scope pointed target) == 0)) (is_settled_target scope) (target_has_root pointed) (t ∷ ts) h

  first_fits : (test : Named → Bool) (its : List Named) → each_named test its ≡ true → (it : Named) × (test it ≡ true)
  first_fits test [] h = absurd (cc)
  first_fits test (it ∷ its) h = (it, (both (test it) (list_all test its) h).0)

  pub fitting_settled : (before : List Line) (line : Line) → fits_in scope before line ≡ true → is_settled scope line ≡ true
  fitting_settled before (entry_line name) h = refl
  fitting_settled before (block_line name type count) h = refl
  fitting_settled before (range_line word low high) h = named_has_root word _ h
  fitting_settled before (points_line word targets) h =
      let one = first_fits _ (named_by scope word) h in
      let have : have_targets scope targets (target_of one.0.type) ≡ true = (both (have_targets scope targets (target_of one.0.type)) _ one.1).0 in
      rw (named_has_root word _ h, targets_have_roots targets (target_of one.0.type) have) refl
  fitting_settled before (stub_line name low high) h = refl
  fitting_settled before (require_line sum relation constant) h = refl

  -- ---- what is said, with one more line

  names_is : (place : Place) (line : Line) → is_some (want_by scope place line) ≡ names_cell scope place line
  names_is place (entry_line name) = refl
  names_is place (block_line name type count) = refl
  names_is place (range_line word low high) =
      some_mapped (λ (it : Named). want.Between (value_of low) (value_of high)) (at_place scope place (named_by scope word)) ∙ found_any (λ it. same_place it.place place) (named_by scope word)
  names_is place (points_line word targets) =
      some_mapped (λ it. want.OneOf (targets_for scope targets it.type)) (at_place scope place (named_by scope word)) ∙ found_any (λ it. same_place it.place place) (named_by scope word)
  names_is place (stub_line name low high) = refl
  names_is place (require_line sum relation constant) = refl

  pub said_any : (place : Place) (lines : List Line) → is_some (want_said scope lines place) ≡ list_any (names_cell scope place) lines
  said_any place lines = first_any (want_by scope place) (names_cell scope place) (names_is place) lines

  pub said_more : (place : Place) (lines : List Line) (line : Line) → want_said scope (lines ++ line ∷ []) place ≡ or_else (want_said scope lines place) (want_by scope place line)
  said_more place lines line = first_more (want_by scope place) lines line

  -- ---- the names of parts

  found_as : (name : List ℕ) (place : Place) (parts : List Part) → find (λ (it : Named). same_place it.place place) (map (named_part name) parts) ≡ find (λ (it : Named). same_place (record { root = name; offset = it.place.offset }) place) (map (named_part name) parts)
  found_as name place [] = refl
  found_as name place (part ∷ parts) = ap (cond (same_place (record { root = name; offset = part.offset }) place) (Some (named_part name part))) (found_as name place parts)

  root_name : (l : List Root) (name : List ℕ) (root : Root) → root_among l name ≡ Some root → root.name ≡ name
  root_name [] name root h = absurd (cc)
  root_name (r ∷ l) name root h = by (bytes_eq r.name name) refl (root_name l name root) h
    where
      by : (b : Bool) → bytes_eq r.name name ≡ b → (root_among l name ≡ Some root → root.name ≡ name) → cond b (Some r) (root_among l name) ≡ Some root → root.name ≡ name
      by true is next h = let same : r ≡ root = cc in ap (λ x. x.name) (sym same) ∙ (bytes_decides r.name name).0 is
      by false is next h = next h

  -- the parts that a place names have its name
  pub found_by_name : (word : PlaceWord) (place : Place) → find (λ it. same_place it.place place) (named_by scope word) ≡ find (λ it. same_place (record { root = word.name; offset = it.place.offset }) place) (named_by scope word)
  found_by_name word place = by (root_among (roots scope) word.name) refl
    where
      by : (o : Option Root) → root_among (roots scope) word.name ≡ o → find (λ (it : Named). same_place it.place place) (named_in scope.program word.steps o) ≡ find (λ (it : Named). same_place (record { root = word.name; offset = it.place.offset }) place) (named_in scope.program word.steps o)
      by None is = refl
      by (Some root) is =
          subst (λ name. find (λ (it : Named). same_place it.place place) (map (named_part root.name) (parts_at scope.program word.steps (whole root))) ≡ find (λ (it : Named). same_place (record { root = name; offset = it.place.offset }) place) (map (named_part root.name) (parts_at scope.program word.steps (whole root))))
          (root_name (roots scope) word.name root is) (found_as root.name place (parts_at scope.program word.steps (whole root)))
