-- What names and tags stand for in both texts.
use Rattle.std.proofs.Common.{◌≡◌, ◌<◌, ℕ, zero, suc, List, [], ◌∷◌, map, length, Option, Some, None, option_map, Bool, true, false, refl, sym, ap, ◌∙◌, arith}
use Rattle.std.specs.Prelude.{◌++◌, ◌==◌, if◌then◌else◌}
use Rattle.std.specs.Str.{bytes_eq}
use Rattle.lt_tree.specs.Typing.Entities.{Known, Object, Entity, an_object, Bound, Frame, bound_among, tagged_among, or_else, bound_in, tagged_in, innermost, meaning_of, declared_here, tag_here, is_file_scope, binding}
use Rattle.lt_object_laws.specs.Renamed.{renumbered}
use Rattle.lt_mark_typing.specs.Renumbered.{entity_with, bound_with, frame_with, frames_with}
use Rattle.lt_mark_typing.specs.Further.{Agrees, HasObjects, no_objects, an_object as an_object_there, a_further_object}
use Rattle.lt_mark_typing.specs.Beside.{IsBeside}
use Rattle.lt_mark_typing.specs.Laws.{NamedObjectsAreKnown}
use Rattle.lt_mark_typing.proofs.Numbers.{extends_with, agrees_so_far}

-- ---- frames

module _ (r : ℕ → ℕ) where
  innermost_with : (frames : List Frame) → innermost (frames_with r frames) ≡ frame_with r (innermost frames)
  innermost_with [] = refl
  innermost_with (frame ∷ frames) = refl

  bound_among_with : (name : List ℕ) (bound : List Bound) → bound_among name (map (bound_with r) bound) ≡ option_map (entity_with r) (bound_among name bound)
  bound_among_with name [] = refl
  bound_among_with name (b ∷ bs) = by (bytes_eq b.name name) (bound_among_with name bs)
    where
      by : (t : Bool) → bound_among name (map (bound_with r) bs) ≡ option_map (entity_with r) (bound_among name bs)
          → (if t then Some (entity_with r b.entity) else bound_among name (map (bound_with r) bs)) ≡ option_map (entity_with r) (if t then Some b.entity else bound_among name bs)
      by true e = refl
      by false e = e

  either_with : (a b : Option Entity) → or_else (option_map (entity_with r) a) (option_map (entity_with r) b) ≡ option_map (entity_with r) (or_else a b)
  either_with None b = refl
  either_with (Some a) b = refl

  bound_in_with : (name : List ℕ) (frames : List Frame) → bound_in name (frames_with r frames) ≡ option_map (entity_with r) (bound_in name frames)
  bound_in_with name [] = refl
  bound_in_with name (frame ∷ frames) =
      ap (λ it. or_else it (bound_in name (frames_with r frames))) (bound_among_with name frame.names)
      ∙ ap (or_else (option_map (entity_with r) (bound_among name frame.names))) (bound_in_with name frames)
      ∙ either_with (bound_among name frame.names) (bound_in name frames)

  tagged_in_with : (tag : List ℕ) (frames : List Frame) → tagged_in tag (frames_with r frames) ≡ tagged_in tag frames
  tagged_in_with tag [] = refl
  tagged_in_with tag (frame ∷ frames) = ap (or_else (tagged_among tag frame.tags)) (tagged_in_with tag frames)

  pub binding_with : (name : List ℕ) (entity : Entity) (frames : List Frame) → binding name (entity_with r entity) (frames_with r frames) ≡ frames_with r (binding name entity frames)
  binding_with name entity [] = refl
  binding_with name entity (frame ∷ frames) = refl

  depth_with : (frames : List Frame) → length (frames_with r frames) ≡ length frames
  depth_with [] = refl
  depth_with (frame ∷ frames) = ap suc (depth_with frames)

-- ---- what is known of them

module _ {new : ℕ → Bool} {used : List ℕ} {further : List Bool} {k j : Known} (b : IsBeside new used further k j) (r : ℕ → ℕ) (a : Agrees r further) where
  pub frames_known : j.frames ≡ frames_with r k.frames
  frames_known = ap (λ (it : Known). it.frames) (b.same r a)

  pub innermost_known : innermost j.frames ≡ frame_with r (innermost k.frames)
  innermost_known = ap innermost frames_known ∙ innermost_with r k.frames

  pub meaning_known : (name : List ℕ) → meaning_of name j ≡ option_map (entity_with r) (meaning_of name k)
  meaning_known name = ap (bound_in name) frames_known ∙ bound_in_with r name k.frames

  pub declared_here_known : (name : List ℕ) → declared_here name j ≡ option_map (entity_with r) (declared_here name k)
  declared_here_known name = ap (λ (frame : Frame). bound_among name frame.names) innermost_known ∙ bound_among_with r name (innermost k.frames).names

  pub tagged_known : (tag : List ℕ) → tagged_in tag j.frames ≡ tagged_in tag k.frames
  tagged_known tag = ap (tagged_in tag) frames_known ∙ tagged_in_with r tag k.frames

  pub tag_here_known : (tag : List ℕ) → tag_here tag j ≡ tag_here tag k
  tag_here_known tag = ap (λ (frame : Frame). tagged_among tag frame.tags) innermost_known

  pub file_scope_known : is_file_scope j ≡ is_file_scope k
  file_scope_known = ap (λ frames. length frames == 1) frames_known ∙ ap (λ n. n == 1) (depth_with r k.frames)

-- ---- objects that names stand for

-- one that has the same number whatever is found later is there already
there_already : {r : ℕ → ℕ} {further : List Bool} {xs ys : List Object} (n : ℕ) → HasObjects r further xs ys → renumbered further n ≡ renumbered (further ++ true ∷ []) n → n < length xs
there_already n no_objects h = absurd (omega (arith, h))
there_already zero (an_object_there {objects = xs} x node d) h = omega arith
there_already (suc n) (an_object_there {further} {objects = xs} x node d) h = let it = there_already n d (omega (arith, h)) in omega (arith, it)
there_already n (a_further_object y f d) h = there_already n d (omega (arith, h))

same_number : {m n : ℕ} {s t : Bool} → Some (an_object m s) ≡ Some (an_object n t) → m ≡ n
same_number h = cc

pub named_objects_known : NamedObjectsAreKnown
named_objects_known new used further known other b name n is_register h =
    there_already n (b.objects (renumbered further) (agrees_so_far further)) (same_number (sym (stands (renumbered further) (agrees_so_far further)) ∙ stands (renumbered all) later))
  where
    all : List Bool
    all = further ++ true ∷ []

    later : Agrees (renumbered all) further
    later = record { all = all; extends = extends_with further (true ∷ []); is = refl }

    stands : (r : ℕ → ℕ) → Agrees r further → meaning_of name other ≡ Some (an_object (r n) is_register)
    stands r a = meaning_known b r a name ∙ ap (option_map (entity_with r)) h
