-- Members by their names, among those that have offsets.
use Rattle.std.proofs.Common.{◌≡◌, ℕ, zero, suc, ◌+◌, ◌≤◌, ◌==◌, Bool, true, false, cond, List, [], ◌∷◌, length, map, slice_get, Option, None, Some, refl, sym, ap, ◌∙◌, arith, true≢false}
use Rattle.std.specs.Prelude.{◌&&◌, option_map, nat_lt, not, unwrap_or}
use Rattle.std.specs.List.{prefix_len}
use Rattle.std.specs.Str.{bytes_eq}
use Rattle.std.specs.Global.{Vec}
use Rattle.std.proofs.lemmas.Bool.{eqb-true, ltb-false}
use Rattle.std.proofs.lemmas.List.{length-map}
use Rattle.lt_model.specs.declared.sizes.Extent.{Extent}
use Rattle.lt_model.specs.Layout.{then_some, no_members, member_offset, with_member}
use Rattle.lt_tree.specs.declared.typed.entity.Member as memory
use Rattle.lt_tree.specs.declared.typed.entity.StructType.{StructType}
use Rattle.lt_tree.specs.Typing.EntityView as view
use Rattle.lt_tree.specs.Typing.Types.{CType, same}
use Rattle.lt_tree.specs.Typing.Extents.{Member, members_in, Placed, placed_at, placed_behind, named_among}
use Rattle.lt_table.specs.declared.structs.PlacedMember.{PlacedMember}
use Rattle.lt_table.specs.StructTables.{pairs_in}
use Rattle.lt_table.proofs.TableSame.{same_exact}
use Rattle.lt_tables.specs.Layouts.{pairs_of, same_pairs}
use Rattle.lt_input_names.specs.Parts.{first_named, members_within, pair_at, placed_pair}
use Rattle.lt_input_names.proofs.Lists.{slice_get-map}

and_left : (a b : Bool) → (a && b) ≡ true → a ≡ true
and_left true b h = refl
and_left false b h = absurd (true≢false (sym h))

and_right : (a b : Bool) → (a && b) ≡ true → b ≡ true
and_right true b h = h
and_right false b h = absurd (true≢false (sym h))

-- lists of types and offsets that are the same are equal
pairs_exact : (ps qs : List (CType × ℕ)) → same_pairs ps qs ≡ true → ps ≡ qs
pairs_exact [] [] h = refl
pairs_exact [] (q ∷ qs) h = absurd (true≢false (sym h))
pairs_exact (p ∷ ps) [] h = absurd (true≢false (sym h))
pairs_exact (p ∷ ps) (q ∷ qs) h =
    let types : p.0 ≡ q.0 = same_exact p.0 q.0 (and_left (same p.0 q.0) ((p.1 == q.1) && same_pairs ps qs) h) in
    let behind = and_right (same p.0 q.0) ((p.1 == q.1) && same_pairs ps qs) h in
    let offsets : p.1 ≡ q.1 = eqb-true p.1 q.1 (and_left (p.1 == q.1) (same_pairs ps qs) behind) in
    let rest : ps ≡ qs = pairs_exact ps qs (and_right (p.1 == q.1) (same_pairs ps qs) behind) in
    ap (λ t. (t, p.1) ∷ ps) types ∙ ap (λ n. (q.0, n) ∷ ps) offsets ∙ ap (λ l. q ∷ l) rest

-- ---- members up to the first without an offset

module _ (of : CType → Option Extent) (member : Member) (members : List Member) (P : List Placed → Type 0) (none : P []) (more : (offset : ℕ) (after : Extent) → P (placed_at member offset ∷ placed_behind of after members)) where
  after_it : (offset : ℕ) (o : Option Extent) → P (unwrap_or (then_some o (λ after. Some (placed_at member offset ∷ placed_behind of after members))) [])
  after_it offset None = none
  after_it offset (Some after) = more offset after

  at_offset : (before e : Extent) (o : Option ℕ) → P (unwrap_or (then_some o (λ offset. then_some (with_member before e) (λ after. Some (placed_at member offset ∷ placed_behind of after members)))) [])
  at_offset before e None = none
  at_offset before e (Some offset) = after_it offset (with_member before e)

  of_extent : (before : Extent) (o : Option Extent)
      → P (unwrap_or (then_some o (λ e. then_some (member_offset before e) (λ offset. then_some (with_member before e) (λ after. Some (placed_at member offset ∷ placed_behind of after members))))) [])
  of_extent before None = none
  of_extent before (Some e) = at_offset before e (member_offset before e)

  -- there is none, or the first and those behind it
  first_or_none : (before : Extent) → P (placed_behind of before (member ∷ members))
  first_or_none before = of_extent before (of member.type)

no_longer : (of : CType → Option Extent) (before : Extent) (members : List Member) → length (placed_behind of before members) ≤ length members
no_longer of before [] = omega arith
no_longer of before (member ∷ members) =
    first_or_none of member members (λ l. length l ≤ length (member ∷ members)) (omega arith) (λ offset after. let rest : length (placed_behind of after members) ≤ length members = no_longer of after members in omega arith) before

abbrev pub is_other : List ℕ → Member → Bool
is_other name member = not (bytes_eq member.name name)

next_place : (x : Placed) (xs : List Placed) (n : ℕ) → slice_get (x ∷ xs) (1 + n) ≡ slice_get xs n
next_place x xs n = let e : 1 + n ≡ suc n = omega arith in ap (slice_get (x ∷ xs)) e

here_or_behind : (b : Bool) (x : Placed) (xs : List Placed) (found : Option Placed) (n : ℕ) → found ≡ slice_get xs n → cond b (Some x) found ≡ slice_get (x ∷ xs) (cond (not b) (1 + n) 0)
here_or_behind true x xs found n e = refl
here_or_behind false x xs found n e = e ∙ sym (next_place x xs n)

-- the member of a name stands where it stands among all members, if it has an offset
found_in_front : (of : CType → Option Extent) (name : List ℕ) (before : Extent) (members : List Member) → named_among name (placed_behind of before members) ≡ slice_get (placed_behind of before members) (prefix_len (is_other name) members)
found_in_front of name before [] = refl
found_in_front of name before (member ∷ members) =
    first_or_none of member members (λ l. named_among name l ≡ slice_get l (prefix_len (is_other name) (member ∷ members))) refl
    (λ offset after. here_or_behind (bytes_eq member.name name) (placed_at member offset) (placed_behind of after members) (named_among name (placed_behind of after members)) (prefix_len (is_other name) members) (found_in_front of name after members))
    before

past_all : (xs : List Placed) (n : ℕ) → length xs ≤ n → slice_get xs n ≡ None
past_all [] n past = refl
past_all (x ∷ xs) zero past = absurd (omega (arith, past))
past_all (x ∷ xs) (suc n) past = past_all xs n (omega (arith, past))

none_false : (b : Bool) (n : ℕ) → None ≡ cond b (Some n) None → b ≡ false
none_false true n h = absurd cc
none_false false n h = refl

some_place : (b : Bool) (n m : ℕ) → Some m ≡ cond b (Some n) None → m ≡ n
some_place true n m h = cc
some_place false n m h = absurd cc

-- ---- in memory

same_places : (types : List CType) (name : List ℕ) (members : List memory.Member) → prefix_len (λ member. not (bytes_eq member.name name)) members ≡ prefix_len (is_other name) (map (view.member_of types) members)
same_places types name [] = refl
same_places types name (member ∷ members) = ap (λ n. cond (not (bytes_eq member.name name)) (1 + n) 0) (same_places types name members)

module _ (of : CType → Option Extent) (types : List CType) (name : List ℕ) (members : List memory.Member) (all : List Member) (placed : List PlacedMember) (is : map (view.member_of types) members ≡ all)
    (same : same_pairs (pairs_of types placed) (pairs_in (placed_behind of no_members all)) ≡ true) where
  abbrev front : List Placed
  front = placed_behind of no_members all

  abbrev place : ℕ
  place = prefix_len (λ member. not (bytes_eq member.name name)) members

  found : named_among name (placed_behind of no_members all) ≡ slice_get (placed_behind of no_members all) (prefix_len (λ member. not (bytes_eq member.name name)) members)
  found = found_in_front of name no_members all ∙ ap (slice_get (placed_behind of no_members all)) (ap (prefix_len (is_other name)) (sym is) ∙ sym (same_places types name members))

  at_place : (n : ℕ) → option_map (pair_at types) (slice_get placed n) ≡ option_map placed_pair (slice_get (placed_behind of no_members all) n)
  at_place n =
      sym (slice_get-map (pair_at types) placed n) ∙ ap (λ l. slice_get l n) (pairs_exact (pairs_of types placed) (pairs_in (placed_behind of no_members all)) same)
      ∙ slice_get-map placed_pair (placed_behind of no_members all) n

  -- where no member has the name
  pub none_named : None ≡ first_named name members → None ≡ option_map placed_pair (named_among name (placed_behind of no_members all))
  none_named h =
      let past : length members ≤ place = ltb-false place (length members) (none_false (nat_lt place (length members)) place h) in
      let shorter : length front ≤ place = omega (arith, past, no_longer of no_members all, ap length is, length-map members (view.member_of types)) in
      ap (option_map placed_pair) (sym (past_all front place shorter) ∙ sym found)

  -- where one has it, at this place
  pub one_named : (n : ℕ) → Some n ≡ first_named name members → option_map (pair_at types) (slice_get placed n) ≡ option_map placed_pair (named_among name (placed_behind of no_members all))
  one_named n h = at_place n ∙ ap (option_map placed_pair) (ap (slice_get front) (some_place (nat_lt place (length members)) place n h) ∙ sym found)

-- the members of a struct that stands in a list
pub members_law : (types : List CType) (structs : List StructType) (k : ℕ) (o : Option StructType) → o ≡ slice_get structs k → (them : List memory.Member)
    → them ≡ elim o [ None ↦ [] | Some it ↦ members_within it.members ] → map (view.member_of types) them ≡ members_in (view.structs_of types structs) k
members_law types structs k o is them are =
    ap (map (view.member_of types)) are ∙ by o ∙ ap (λ x. unwrap_or (then_some x (λ it. it.members)) []) (ap (option_map (view.struct_of types)) is ∙ sym (slice_get-map (view.struct_of types) structs k))
  where
    within : (o : Option (Vec memory.Member)) → map (view.member_of types) (members_within o) ≡ unwrap_or (option_map (λ members. map (view.member_of types) members.items) o) []
    within None = refl
    within (Some members) = refl

    by : (o : Option StructType) → map (view.member_of types) (elim o [ None ↦ [] | Some it ↦ members_within it.members ]) ≡ unwrap_or (then_some (option_map (view.struct_of types) o) (λ it. it.members)) []
    by None = refl
    by (Some it) = within it.members
