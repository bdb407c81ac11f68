-- Members by their names.
use Rattle.std.proofs.Common.{◌≡◌, ◌⊎◌, inl, inr, arith, ℕ, zero, suc, Bool, true, false, cond, List, [], ◌∷◌, ◌++◌, length, map, slice_get, Option, Some, None, is_some, option_map, unwrap_or, bytes_eq, refl, sym, ap, ◌∙◌, true≢false, Vec, Global, Result, Ok, Err}
use Rattle.lt_model.specs.declared.scalar.DataModel.{DataModel}
use Rattle.lt_model.specs.Layout.{then_some, no_members}
use Rattle.std.specs.Result.{IfOk}
use Rattle.std.specs.declared.rc.Rc.{Rc}
use Rattle.lt_tree.specs.declared.typed.types.TypeRow.{TypeRow}
use Rattle.lt_tree.specs.Typing.TypeRows.{type_in}
use Rattle.lt_tree.specs.declared.typed.entity.Member as entity
use Rattle.lt_tree.specs.declared.typed.entity.StructType as listed
use Rattle.lt_tree.specs.Typing.Types.{CType}
use Rattle.lt_tree.specs.Typing.EntityView as view
use Rattle.lt_tree.specs.Typing.EntityView.{structs_of}
use Rattle.lt_tree.specs.Typing.Extents.{Structs, members_of, extent_of, placed_behind, placed_members, named_among, member_of}
use Rattle.lt_table.specs.declared.structs.PlacedMember.{PlacedMember}
use Rattle.lt_table.specs.declared.structs.StructFacts.{StructFacts}
use Rattle.lt_table.specs.declared.structs.StructTable.{StructTable}
use Rattle.lt_table.specs.TableRows.{Stays}
use Rattle.lt_table.specs.StructTables.{members_at, names_of, names_in, place_of, place_in, placed_in, placed_with, pairs_of, pairs_in, pairs_at, shared_in, structs_in, known_at, IsKnown, IsMember, IsShared, AreShared, Suits}
use Rattle.lt_table.proofs.StructPlaces.{names_same}

-- ---- what is found

pub members_at_is : (types : List CType) (list : List listed.StructType) (k : ℕ) → option_map (map (view.member_of types)) (members_at list k) ≡ members_of (structs_of types list) k
members_at_is types [] k = refl
members_at_is types (it ∷ list) zero = by it.members
  where
    by : (o : Option (Vec entity.Member Global)) → option_map (map (view.member_of types)) (option_map (λ l. l.items) o) ≡ option_map (λ l. map (view.member_of types) l.items) o
    by None = refl
    by (Some l) = refl
members_at_is types (it ∷ list) (suc k) = members_at_is types list k

nothing : {A B : Type 0} (o : Option A) → then_some {B = B} o (λ a. None) ≡ None
nothing None = refl
nothing (Some a) = refl

none_there : (members : List entity.Member) (o : Option ℕ) → then_some o (placed_in members []) ≡ None
none_there members None = refl
none_there members (Some place) = nothing (slice_get members place)

later : (member : entity.Member) (members : List entity.Member) (offset : ℕ) (offsets : List ℕ) (o : Option ℕ) → then_some (option_map suc o) (placed_in (member ∷ members) (offset ∷ offsets)) ≡ then_some o (placed_in members offsets)
later member members offset offsets None = refl
later member members offset offsets (Some place) = refl

placed_is : (types : List CType) (name : List ℕ) (members : List entity.Member) (offsets : List ℕ)
    → IsMember types (then_some (place_of name (names_in members)) (placed_in members offsets)) (named_among name (placed_with (map (view.member_of types) members) offsets))
placed_is types name [] offsets = refl
placed_is types name (member ∷ members) [] = ap (option_map {U = CType × ℕ} (λ m. (type_in types m.0, m.1))) (none_there (member ∷ members) (place_of name (names_in (member ∷ members))))
placed_is types name (member ∷ members) (offset ∷ offsets) =
    let P : Bool → Type 0 = λ same.
    IsMember types (then_some (cond same (Some 0) (option_map suc (place_of name (names_in members)))) (placed_in (member ∷ members) (offset ∷ offsets)))
    (cond same (Some (record { name = member.name; type = (view.member_of types member).type; offset = offset })) (named_among name (placed_with (map (view.member_of types) members) offsets))) in
    elim (bytes_eq member.name name) as P [
      | true ↦ refl
      | false ↦ ap (option_map {U = CType × ℕ} (λ m. (type_in types m.0, m.1))) (later member members offset offsets (place_of name (names_in members))) ∙ placed_is types name members offsets
    ]

pub member_is : (m : DataModel) (structs : Structs) (k : ℕ) (name : List ℕ) (types : List CType) (found : Option (List entity.Member)) (known : Option StructFacts)
    → option_map (map (view.member_of types)) found ≡ members_of structs k → IsKnown m structs k known
    → IsMember types (then_some found (λ members. then_some known (λ facts. then_some (place_in facts.places name) (placed_in members facts.offsets.items)))) (member_of m structs k name)
member_is m structs k name types None known at h = ap (λ o. option_map {U = CType × ℕ} (λ p. (p.type, p.offset)) (named_among name (placed_behind (extent_of m structs) no_members (unwrap_or o [])))) at
member_is m structs k name types (Some members) None at h = absurd (true≢false (ap is_some at ∙ h))
member_is m structs k name types (Some members) (Some facts) at h =
    ap (λ o. option_map {U = CType × ℕ} (λ m. (type_in types m.0, m.1)) (then_some o (placed_in members facts.offsets.items)))
    (h.places name ∙ ap (λ o. place_of name (names_of (unwrap_or o []))) (sym at) ∙ ap (place_of name) (names_same types members))
    ∙ placed_is types name members facts.offsets.items
    ∙ ap (λ l. option_map {U = CType × ℕ} (λ p. (p.type, p.offset)) (named_among name l)) (ap (λ o. placed_with (unwrap_or o []) facts.offsets.items) at ∙ h.placed)

-- ---- without their names

typed_pairs : (types : List CType) (members : List entity.Member) (offsets : List ℕ)
    → pairs_at types (Some (pairs_of members offsets)) ≡ pairs_in (placed_with (map (view.member_of types) members) offsets)
typed_pairs types [] offsets = refl
typed_pairs types (member ∷ members) [] = refl
typed_pairs types (member ∷ members) (offset ∷ offsets) = ap (λ l. (type_in types member.ty, offset) ∷ l) (typed_pairs types members offsets)

is_none : {A : Type 0} (o : Option A) → is_some o ≡ false → o ≡ None
is_none None e = refl
is_none (Some a) e = absurd (true≢false e)

pub shared_is : (m : DataModel) (structs : Structs) (k : ℕ) (types : List CType) (found : Option (List entity.Member)) (known : Option StructFacts)
    → option_map (map (view.member_of types)) found ≡ members_of structs k → IsKnown m structs k known → IsShared known found
    → pairs_at types (option_map (λ facts. facts.placed.value.items) known) ≡ pairs_in (placed_members m structs k)
shared_is m structs k types found None at h shared =
    sym (ap (λ o. pairs_in (placed_behind (extent_of m structs) no_members (unwrap_or o []))) (is_none (members_of structs k) h))
shared_is m structs k types None (Some facts) at h shared = absurd (true≢false (sym (ap is_some at ∙ h.complete)))
shared_is m structs k types (Some members) (Some facts) at h shared =
    ap (λ l. pairs_at types (Some l)) shared
    ∙ typed_pairs types members facts.offsets.items
    ∙ ap pairs_in (ap (λ o. placed_with (unwrap_or o []) facts.offsets.items) at ∙ h.placed)

pub shared_answer : {E : Type 0} (table : StructTable) (number : ℕ) (r : Result (Option (Rc (Vec PlacedMember Global) Global)) E)
    → IfOk r (λ them. option_map (λ l. l.value.items) them ≡ option_map (λ facts. facts.placed.value.items) (known_at table.known.items number))
    → IfOk r (λ them. (rows : List TypeRow) → Suits rows table → AreShared table → Stays rows (λ types. shared_in types them ≡ pairs_in (placed_members table.model (structs_in types table) number)))
shared_answer table number (Ok them) e = λ rows suits shared types more.
    ap (pairs_at types) e
    ∙ shared_is table.model (structs_in types table) number types (members_at table.structs.items number) (known_at table.known.items number) (members_at_is types table.structs.items number) ((suits types more).each number) (shared number)
shared_answer table number (Err e) h = tt

pub each_ok : {A E : Type 0} {P Q : A → Type 0} (r : Result A E) → IfOk r P → ((a : A) → P a → Q a) → IfOk r Q
each_ok (Ok a) p f = f a p
each_ok (Err e) p f = tt

nothing_behind : (placed : List PlacedMember) → placed ≡ placed ++ []
nothing_behind [] = refl
nothing_behind (member ∷ placed) = ap (λ l. member ∷ l) (nothing_behind placed)

-- all pairs are there once there is no member or no offset left
pub pairs_done : (placed whole : List PlacedMember) (members : List entity.Member) (offsets : List ℕ) → (length members ≡ 0) ⊎ (length offsets ≡ 0) → placed ++ pairs_of members offsets ≡ whole → placed ≡ whole
pairs_done placed whole [] offsets none e = nothing_behind placed ∙ e
pairs_done placed whole (member ∷ members) [] none e = nothing_behind placed ∙ e
pairs_done placed whole (member ∷ members) (offset ∷ offsets) (inl none) e = absurd (omega (arith, none))
pairs_done placed whole (member ∷ members) (offset ∷ offsets) (inr none) e = absurd (omega (arith, none))
