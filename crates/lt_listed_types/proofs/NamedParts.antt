-- The parts into which initialisers are spread have types that are named, if their objects and the members of structs have.
use Rattle.std.proofs.Common.{ℕ, zero, suc, ◌+◌, ◌-◌, Bool, true, false, List, [], ◌∷◌, ◌++◌, length, map, Option, Some, None}
use Rattle.std.specs.Prelude.{nat_le, if◌then◌else◌, unwrap_or}
use Rattle.std.specs.List.{AllByRecursion}
use Rattle.lt_model.specs.declared.sizes.Extent.{Extent}
use Rattle.lt_model.specs.Layout.{then_some, member_offset, with_member, no_members, extent_of}
use Rattle.lt_tree.specs.Typing.Types.{CType, Array, Struct, Qualified}
use Rattle.lt_tree.specs.Typing.Extents.{Structs, StructType, Member, members_in, size_of, Placed, placed_at, placed_behind, placed_members}
use Rattle.lt_tree.specs.Typing.Entities.{Known}
use Rattle.lt_tree.specs.Typing.Filling.{Run, one_object, length_left, behind_first, member_run, parts_of, first_within, first_in_members, first_in_struct, opened}
use Rattle.lt_type_laws.proofs.Lists.{all_both}
use Rattle.lt_listed_types.proofs.Named.{IsNamed}
use Rattle.lt_listed_types.proofs.Keeping.{lists_of, MembersNamed, Names}

abbrev pub RunNamed : List CType → Run → Type 0
RunNamed types run = IsNamed types run.type

abbrev pub RunsNamed : List CType → List Run → Type 0
RunsNamed types runs = AllByRecursion (RunNamed types) runs

abbrev PlacedNamed : List CType → Placed → Type 0
PlacedNamed types it = IsNamed types it.type

-- where there is something
unless_none : {A B : Type 0} (P : B → Type 0) (a : Option A) (f : A → Option (List B)) → ((a : A) → AllByRecursion P (unwrap_or (f a) [])) → AllByRecursion P (unwrap_or (then_some a f) [])
unless_none P None f h = tt
unless_none P (Some a) f h = h a

module _ (types : List CType) where
  -- ---- members of structs

  some_named : (members : Option (List Member)) → MembersNamed types members → AllByRecursion (λ (member : Member). IsNamed types member.type) (unwrap_or members [])
  some_named None h = tt
  some_named (Some members) h = h

  members_named : (structs : Structs) (k : ℕ) → AllByRecursion (λ (it : StructType). MembersNamed types it.members) structs → AllByRecursion (λ (member : Member). IsNamed types member.type) (members_in structs k)
  members_named [] k h = tt
  members_named (it ∷ structs) zero h = some_named it.members h.0
  members_named (it ∷ structs) (suc k) h = members_named structs k h.1

  placed_named : (of : CType → Option Extent) (before : Extent) (members : List Member) → AllByRecursion (λ (member : Member). IsNamed types member.type) members
      → AllByRecursion (PlacedNamed types) (placed_behind of before members)
  placed_named of before [] h = tt
  placed_named of before (member ∷ members) h =
      unless_none (PlacedNamed types) (of member.type) (λ e. then_some (member_offset before e) (λ offset. then_some (with_member before e) (λ after. Some (placed_at member offset ∷ placed_behind of after members))))
      (λ e. unless_none (PlacedNamed types) (member_offset before e) (λ offset. then_some (with_member before e) (λ after. Some (placed_at member offset ∷ placed_behind of after members)))
      (λ offset. unless_none (PlacedNamed types) (with_member before e) (λ after. Some (placed_at member offset ∷ placed_behind of after members)) (λ after. (h.0, placed_named of after members h.1))))

  struct_named : (known : Known) (k : ℕ) → Names types (lists_of known) → AllByRecursion (PlacedNamed types) (placed_members known.model known.structs k)
  struct_named known k named = placed_named (extent_of known.model known.structs) no_members (members_in known.structs k) (members_named known.structs k named.structs)

  -- ---- objects one behind the other

  pub behind_named : (known : Known) (run : Run) → RunNamed types run → RunsNamed types (behind_first known run)
  behind_named known run h = by run.left
    where
      next : Option ℕ → Run
      next left = record { offset = run.offset + size_of known.model known.structs run.type; type = run.type; left = left }

      more : (is_last : Bool) (n : ℕ) → RunsNamed types (if is_last then [] else next (Some (n - 1)) ∷ [])
      more true n = tt
      more false n = (h, tt)

      by : (left : Option ℕ) → RunsNamed types (elim left as (λ _. List Run) [ None ↦ next None ∷ [] | Some n ↦ (if nat_le n 1 then [] else next (Some (n - 1)) ∷ []) ])
      by None = (h, tt)
      by (Some n) = more (nat_le n 1) n

  members_runs : (offset : ℕ) (members : List Placed) → AllByRecursion (PlacedNamed types) members → RunsNamed types (map (member_run offset) members)
  members_runs offset [] h = tt
  members_runs offset (member ∷ members) h = (h.0, members_runs offset members h.1)

  pub parts_named : (known : Known) (offset : ℕ) (t : CType) → Names types (lists_of known) → IsNamed types t → RunsNamed types (parts_of known offset t)
  parts_named known offset (Array t n) named h = (h, tt)
  parts_named known offset (Struct k) named h = members_runs offset (placed_members known.model known.structs k) (struct_named known k named)
  parts_named known offset (Qualified q t) named h = parts_named known offset t named h
  parts_named known offset _ named h = (h, tt)

  -- ---- the first part that an initialiser is for

  abbrev OpensNamed : (ℕ → ℕ → List Run → List Run) → Type 0
  OpensNamed in_struct = (offset k : ℕ) (rest : List Run) → RunsNamed types rest → RunsNamed types (in_struct offset k rest)

  within_named : (known : Known) (whole : CType → Bool) (in_struct : ℕ → ℕ → List Run → List Run) → OpensNamed in_struct → (offset : ℕ) (t : CType) (rest : List Run) → IsNamed types t → RunsNamed types rest
      → RunsNamed types (first_within known whole in_struct offset t rest)
  within_named known whole in_struct f offset (Array t n) rest h all =
      elim (whole (Array t n)) as
      (λ b. RunsNamed types (if b then one_object offset (Array t n) ∷ rest else first_within known whole in_struct offset t (behind_first known (record { offset = offset; type = t; left = length_left n }) ++ rest))) [
        | true ↦ (h, all)
        | false ↦
            let run : Run = record { offset = offset; type = t; left = length_left n } in
            within_named known whole in_struct f offset t (behind_first known run ++ rest) h (all_both (RunNamed types) (behind_first known run) rest (behind_named known run h) all)
      ]
  within_named known whole in_struct f offset (Struct k) rest h all =
      elim (whole (Struct k)) as (λ b. RunsNamed types (if b then one_object offset (Struct k) ∷ rest else in_struct offset k rest)) [ true ↦ (h, all) | false ↦ f offset k rest all ]
  within_named known whole in_struct f offset (Qualified q t) rest h all = within_named known whole in_struct f offset t rest h all
  within_named known whole in_struct f offset _ rest h all = (h, all)

  in_members_named : (known : Known) (whole : CType → Bool) (in_struct : ℕ → ℕ → List Run → List Run) → OpensNamed in_struct → (offset : ℕ) (members : List Placed) (rest : List Run)
      → AllByRecursion (PlacedNamed types) members → RunsNamed types rest → RunsNamed types (first_in_members known whole in_struct offset members rest)
  in_members_named known whole in_struct f offset [] rest h all = all
  in_members_named known whole in_struct f offset (member ∷ members) rest h all =
      within_named known whole in_struct f (offset + member.offset) member.type (map (member_run offset) members ++ rest) h.0
      (all_both (RunNamed types) (map (member_run offset) members) rest (members_runs offset members h.1) all)

  in_struct_named : (known : Known) (whole : CType → Bool) → Names types (lists_of known) → (depth : ℕ) → OpensNamed (first_in_struct known whole depth)
  unfolding first_in_struct
  in_struct_named known whole named zero offset k rest all = all
  in_struct_named known whole named (suc depth) offset k rest all =
      in_members_named known whole (first_in_struct known whole depth) (in_struct_named known whole named depth) offset (placed_members known.model known.structs k) rest (struct_named known k named) all

  pub opened_named : (known : Known) (whole : CType → Bool) (runs : List Run) → Names types (lists_of known) → RunsNamed types runs → RunsNamed types (opened known whole runs)
  opened_named known whole [] named h = tt
  opened_named known whole (run ∷ runs) named h =
      within_named known whole (first_in_struct known whole (length known.structs)) (in_struct_named known whole named (length known.structs)) run.offset run.type (behind_first known run ++ runs) h.0
      (all_both (RunNamed types) (behind_first known run) runs (behind_named known run h.0) h.1)
