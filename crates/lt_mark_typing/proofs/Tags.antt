-- Structs, enums and enumerators are declared alike in both texts.
use Rattle.std.proofs.Common.{◌≡◌, ℕ, ℤ, pos, List, [], ◌∷◌, Option, Some, None, Bool, true, false, refl, sym, ap, ◌∙◌, subst}
use Rattle.std.specs.Prelude.{◌++◌, ◌+ℤ◌, ◌==◌, if◌then◌else◌, slice_set, length, unwrap_or, option_map, is_some}
use Rattle.lt_tree.specs.Typing.Types.{Struct}
use Rattle.lt_tree.specs.Typing.Extents.{Member, Structs, has_too_many_cells}
use Rattle.lt_tree.specs.Typing.Rules.{Rule, broken_if, unless, bad_length, bad_case, declared_twice, incomplete_type}
use Rattle.lt_tree.specs.Typing.Entities.{Known, Entity, an_enumerator, Frame, Tagged, a_struct, an_enum, tag_here, declared_here, tagging, bind_tag}
use Rattle.lt_tree.specs.Typing.Steps.{Outcome, Goes, binds, gives, ◌>>◌}
use Rattle.lt_tree.specs.Typing.Specifying.{Naming, names, struct_tagged, OpenStruct, open_new, open_tagged, open_struct, is_complete_struct, with_members, close_struct, open_enum, close_enum, enumerator_faults, is_good_value}
use Rattle.lt_tree.specs.Typing.NodeEnds.{end_of_enumerator}
use Rattle.lt_object_laws.specs.Renamed.{renumbered}
use Rattle.lt_mark_typing.specs.Renumbered.{entity_with, frames_with}
use Rattle.lt_mark_typing.specs.Beside.{IsBeside, Follows}
use Rattle.lt_mark_typing.proofs.Numbers.{agrees_so_far}
use Rattle.lt_mark_typing.proofs.Going.{with_others, same_of, goes_here, settled}
use Rattle.lt_mark_typing.proofs.Ends.{structs_same}
use Rattle.lt_mark_typing.proofs.Names.{frames_known, declared_here_known, tag_here_known}
use Rattle.lt_mark_typing.proofs.Steps.{Same, frames_beside, bound_beside}

-- a struct that is closed, where it is known whether it was complete before
abbrev closing : ℕ → List Member → Bool → Known → Known
closing n list t it = (if t then (λ (known : Known). known) else with_members n list) it

abbrev closed_naming : OpenStruct → List Member → Structs → Structs → Naming
closed_naming opened list before structs = record {
  type = Some (Struct opened.number);
  faults = (opened.faults ++ broken_if declared_twice (is_complete_struct before opened.number) ++ broken_if incomplete_type (length list == 0)) ++ broken_if bad_length (has_too_many_cells structs (Struct opened.number));
}

abbrev closed : OpenStruct → List Member → Bool → Known → Outcome Naming
closed opened list t it = Goes (closed_naming opened list it.structs (closing opened.number list t it).structs) (closing opened.number list t it)

tagging_with : (r : ℕ → ℕ) (tag : List ℕ) (tagged : Tagged) (frames : List Frame) → tagging tag tagged (frames_with r frames) ≡ frames_with r (tagging tag tagged frames)
tagging_with r tag tagged [] = refl
tagging_with r tag tagged (frame ∷ frames) = refl

there_with : (r : ℕ → ℕ) (found : Option Entity) → is_some (option_map (entity_with r) found) ≡ is_some found
there_with r None = refl
there_with r (Some entity) = refl

module _ {new : ℕ → Bool} {used : List ℕ} {further : List Bool} where
  -- ---- what is known of tags and names of the place

  structs_beside : {k j : Known} (S T : Structs) → T ≡ S → IsBeside new used further k j → IsBeside new used further (record k { structs = S }) (record j { structs = T })
  structs_beside {k} {j} S T e b = record {
    same = λ r a. ap (λ (it : Known). record it { structs = T }) (b.same r a) ∙ ap (λ structs. record (with_others r k j.next j.objects j.functions j.labels j.facts) { structs = structs }) e;
    objects = b.objects;
    functions = b.functions;
    labels = b.labels;
  }

  tagged_beside : {k j : Known} (tag : List ℕ) (tagged other : Tagged) → other ≡ tagged → IsBeside new used further k j → IsBeside new used further (bind_tag tag tagged k) (bind_tag tag other j)
  tagged_beside {k} {j} tag tagged other e b = frames_beside (tagging tag tagged k.frames) (tagging tag other j.frames)
      (λ r a. ap (λ it. tagging tag it j.frames) e ∙ ap (tagging tag tagged) (frames_known b r a) ∙ tagging_with r tag tagged k.frames) b

  pub is_here_same : (name : List ℕ) {k j : Known} → IsBeside new used further k j → is_some (declared_here name j) ≡ is_some (declared_here name k)
  is_here_same name {k} b = ap is_some (declared_here_known b (renumbered further) (agrees_so_far further) name) ∙ there_with (renumbered further) (declared_here name k)

  -- ---- structs

  one_struct : {k j : Known} → IsBeside new used further k j
      → IsBeside new used further (record k { structs = k.structs ++ record { members = None } ∷ [] }) (record j { structs = j.structs ++ record { members = None } ∷ [] })
  one_struct {k} {j} b = structs_beside (k.structs ++ record { members = None } ∷ []) (j.structs ++ record { members = None } ∷ []) (ap (λ structs. structs ++ record { members = None } ∷ []) (structs_same b)) b

  a_tagged_struct : (tag : List ℕ) {k j : Known} → IsBeside new used further k j
      → IsBeside new used further (bind_tag tag (a_struct (length k.structs)) (record k { structs = k.structs ++ record { members = None } ∷ [] }))
      (bind_tag tag (a_struct (length j.structs)) (record j { structs = j.structs ++ record { members = None } ∷ [] }))
  a_tagged_struct tag {k} {j} b = tagged_beside tag (a_struct (length k.structs)) (a_struct (length j.structs)) (ap (λ (structs : Structs). a_struct (length structs)) (structs_same b)) (one_struct b)

  pub struct_found : (tag : List ℕ) (found : Option Tagged) {k j : Known} → IsBeside new used further k j → Follows new used further Same (struct_tagged tag found k) (struct_tagged tag found j)
  struct_found tag None b = goes_here (λ r a. ap (λ (structs : Structs). names (Struct (length structs))) (structs_same b)) (a_tagged_struct tag b)
  struct_found tag (Some (a_struct n)) b = goes_here (λ r a. refl) b
  struct_found tag (Some (an_enum is_complete)) b = goes_here (λ r a. refl) b

  opened_new : (tag : Option (List ℕ)) (faults : List Rule) {k j : Known} → IsBeside new used further k j → Follows new used further Same (open_new tag faults k) (open_new tag faults j)
  opened_new None faults b = goes_here (λ r a. ap (λ (structs : Structs). record { number = length structs; faults = faults }) (structs_same b)) (one_struct b)
  opened_new (Some tag) faults b = goes_here (λ r a. ap (λ (structs : Structs). record { number = length structs; faults = faults }) (structs_same b)) (a_tagged_struct tag b)

  opened_tagged : (tag : List ℕ) (found : Option Tagged) {k j : Known} → IsBeside new used further k j → Follows new used further Same (open_tagged tag found k) (open_tagged tag found j)
  opened_tagged tag None b = opened_new (Some tag) [] b
  opened_tagged tag (Some (a_struct n)) b = goes_here (λ r a. refl) b
  opened_tagged tag (Some (an_enum is_complete)) b = opened_new None (declared_twice ∷ []) b

  pub opened_struct : (tag : Option (List ℕ)) {k j : Known} → IsBeside new used further k j → Follows new used further Same (open_struct tag k) (open_struct tag j)
  opened_struct None b = opened_new None [] b
  opened_struct (Some tag) {k} {j} b = subst (λ found. Follows new used further Same (open_tagged tag (tag_here tag k) k) (open_tagged tag found j)) (sym (tag_here_known b (renumbered further) (agrees_so_far further) tag)) (opened_tagged tag (tag_here tag k) b)

  closed_beside : (n : ℕ) (list : List Member) (t : Bool) {k j : Known} → IsBeside new used further k j → IsBeside new used further (closing n list t k) (closing n list t j)
  closed_beside n list true b = b
  closed_beside n list false {k} {j} b =
      structs_beside (slice_set k.structs n (record { members = Some list })) (slice_set j.structs n (record { members = Some list })) (ap (λ structs. slice_set structs n (record { members = Some list })) (structs_same b)) b

  closed_by : (opened : OpenStruct) (list : List Member) (t : Bool) {k j : Known} → IsBeside new used further k j → Follows new used further Same (closed opened list t k) (closed opened list t j)
  closed_by opened list t {k} {j} b = goes_here
      (λ r a. ap (λ before. closed_naming opened list before (closing opened.number list t j).structs) (structs_same b) ∙ ap (closed_naming opened list k.structs) (structs_same (closed_beside opened.number list t b)))
      (closed_beside opened.number list t b)

  pub closed_struct : (opened : OpenStruct) (list : List Member) {k j : Known} → IsBeside new used further k j → Follows new used further Same (close_struct opened list k) (close_struct opened list j)
  closed_struct opened list {k} {j} b =
      subst (λ structs. Follows new used further Same (close_struct opened list k) (closed opened list (is_complete_struct structs opened.number) j)) (sym (structs_same b))
      (closed_by opened list (is_complete_struct k.structs opened.number) b)

  -- ---- enums

  pub opened_enum : (tag : Option (List ℕ)) {k j : Known} → IsBeside new used further k j → Follows new used further Same (open_enum tag k) (open_enum tag j)
  opened_enum None b = goes_here (λ r a. refl) b
  opened_enum (Some tag) b = goes_here (λ r a. ap (λ found. broken_if declared_twice (is_some found)) (tag_here_known b (renumbered further) (agrees_so_far further) tag)) (tagged_beside tag (an_enum false) (an_enum false) refl b)

  pub closed_enum : (tag : Option (List ℕ)) (faults : List Rule) {k j : Known} → IsBeside new used further k j → Follows new used further Same (close_enum tag faults k) (close_enum tag faults j)
  closed_enum None faults b = goes_here (λ r a. refl) b
  closed_enum (Some tag) faults b = goes_here (λ r a. refl) (tagged_beside tag (an_enum true) (an_enum true) refl b)

  enumerator_known : (name : List ℕ) (z : Option ℤ) {k j : Known} → IsBeside new used further k j → enumerator_faults j name z ≡ enumerator_faults k name z
  enumerator_known name z {k} {j} b = ap (λ t. broken_if declared_twice t ++ unless (is_good_value j z) bad_case) (is_here_same name b)
      ∙ same_of (λ (it : Known). broken_if declared_twice (is_some (declared_here name k)) ++ unless (is_good_value it z) bad_case) b (λ r n os fs ls facts h. refl)

  pub enumerator_ended : (n m : ℕ) (name : List ℕ) (z : Option ℤ) {k j : Known} → IsBeside new used further k j → Follows new used further Same (end_of_enumerator n name z k) (end_of_enumerator m name z j)
  enumerator_ended n m name z {k} {j} b =
      settled (λ u. binds name (an_enumerator (unwrap_or z (pos 0))) >> gives (unwrap_or z (pos 0) +ℤ pos 1)) (λ u. binds name (an_enumerator (unwrap_or z (pos 0))) >> gives (unwrap_or z (pos 0) +ℤ pos 1)) n m
      (enumerator_faults k name z) (enumerator_faults j name z) (λ r. enumerator_known name z b ∙ r)
      (goes_here (λ r a. refl) (bound_beside name (an_enumerator (unwrap_or z (pos 0))) (an_enumerator (unwrap_or z (pos 0))) (λ r a. refl) b))
