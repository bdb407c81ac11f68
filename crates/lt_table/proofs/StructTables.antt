-- Tables of structs: one is added, and one is completed.
use Rattle.std.proofs.Common.{◌≡◌, ℕ, zero, suc, ◌+◌, ◌<◌, ◌≤◌, min, true, false, List, [], ◌∷◌, ◌++◌, length, map, set, Option, Some, None, is_some, option_map, unwrap_or, refl, sym, ap, subst, ◌∙◌, arith, true≢false, inl, inr, length-append, Vec, Global, zero-add, Result, Ok, Err, OnOk, OnErr}
use Rattle.std.proofs.lemmas.Bool.{cases_eq}
use Rattle.std.proofs.lemmas.List.{length-set, length-map, map-set, map-append}
use Rattle.lt_model.specs.declared.scalar.DataModel.{DataModel}
use Rattle.lt_model.specs.Layout.{no_members}
use Rattle.lt_tree.specs.declared.typed.types.TypeRow.{TypeRow}
use Rattle.lt_tree.specs.declared.typed.entity.Member as entity
use Rattle.lt_tree.specs.declared.typed.entity.StructType as listed
use Rattle.lt_tree.specs.Typing.Types.{CType}
use Rattle.lt_tree.specs.Typing.TypeRows.{types_of_rows, Continues}
use Rattle.lt_tree.specs.Typing.EntityView.{member_of, struct_of, structs_of}
use Rattle.lt_tree.specs.Typing.Extents.{Member, Structs, members_of, most_cells, struct_cells, struct_extent, extent_of, placed_behind, placed_members}
use Rattle.lt_table.specs.declared.structs.StructFacts.{StructFacts}
use Rattle.lt_table.specs.declared.structs.StructTable.{StructTable}
use Rattle.lt_table.specs.StructNesting.{AllHoldOnly, Nests, completed, AreNested}
use Rattle.lt_table.specs.TableRows.{Grows}
use Rattle.lt_table.specs.StructTables.{structs_in, has_members, known_at, names_of, place_of, placed_with, whole_extent, AreStructFacts, IsKnown, AreKnown, AreDerived, IsPut, Suits, members_at, IsShared, AreShared}
use Rattle.lt_table.proofs.TableRows.{continues_through}
use Rattle.lt_table.proofs.StructNesting.{Keeps, IsComplete, incomplete, with_members, all_hold_map, keeps_added, members_added, completed_least, nested_added, keeps_set, members_set, members_set_other, nested_set}
use Rattle.lt_table.proofs.StructPlaces.{names_same}
use Rattle.lt_table.proofs.StructFound.{step_cells, StaysKnown, stays_known, IsFound, is_found, placed_stay}
use Rattle.lt_table.proofs.StructRows.{none_there, AreRowsOf, are_rows_of, hold_complete, cells_from_is, constant_from_is, extent_from_is, offsets_from_are}

-- ---- what is known stays

nests_is_complete : (a : Structs) (d k : ℕ) → Nests a d k → IsComplete a k
unfolding Nests
nests_is_complete a zero k h = absurd h
nests_is_complete a (suc d) k h = ap is_some h.1.0

some_is : {A : Type 0} {x y : A} → Some x ≡ Some y → x ≡ y
some_is {A} {x} e = ap (λ r. unwrap_or r x) e

held_complete : (a : Structs) (d k : ℕ) (members : List Member) → Nests a d k → members_of a k ≡ Some members → AllHoldOnly (IsComplete a) members
unfolding Nests
held_complete a zero k members h at = absurd h
held_complete a (suc d) k members h at =
    subst (AllHoldOnly (IsComplete a)) (some_is (sym h.1.0 ∙ at)) (all_hold_map (Nests a d) (IsComplete a) (λ j. nests_is_complete a d j) h.0 h.1.1)

module _ (a b : Structs) (keeps : Keeps a b) (nested : AreNested a) (less : completed a ≤ length b) where
  extents_stay : (m : DataModel) (k : ℕ) → IsComplete a k → struct_extent m b (length b) k ≡ struct_extent m a (length a) k
  extents_stay m k complete = by (members_of a k) refl complete
    where
      by : (o : Option (List Member)) → members_of a k ≡ o → is_some o ≡ true → struct_extent m b (length b) k ≡ struct_extent m a (length a) k
      by None at h = absurd (true≢false (sym h))
      by (Some members) at h = (stays_known a b keeps nested less k (keeps k members at ∙ sym at)).extent m

  placed_same : (m : DataModel) (k : ℕ) → members_of b k ≡ members_of a k → placed_members m b k ≡ placed_members m a k
  placed_same m k same =
      ap (λ o. placed_behind (extent_of m b) no_members (unwrap_or o [])) same ∙ by (members_of a k) refl
    where
      by : (o : Option (List Member)) → members_of a k ≡ o → placed_behind (extent_of m b) no_members (unwrap_or o []) ≡ placed_behind (extent_of m a) no_members (unwrap_or o [])
      by None at = refl
      by (Some members) at = placed_stay a b m members (extents_stay m) (held_complete a (completed a) k members (nested k members at) at)

  pub known_stays : (m : DataModel) (k : ℕ) (o : Option StructFacts) → members_of b k ≡ members_of a k → IsKnown m a k o → IsKnown m b k o
  known_stays m k None same none = ap is_some same ∙ none
  known_stays m k (Some facts) same h = record {
    complete = ap is_some same ∙ h.complete;
    cells = h.cells ∙ ap (λ n. min n (most_cells + 1)) (sym s.cells);
    extent = h.extent ∙ sym (s.extent m);
    constant = h.constant ∙ sym s.constant;
    placed = ap (λ o. placed_with (unwrap_or o []) facts.offsets.items) same ∙ h.placed ∙ sym (placed_same m k same);
    places = λ name. h.places name ∙ ap (λ o. place_of name (names_of (unwrap_or o []))) (sym same);
  }
    where
      s : StaysKnown a b k
      s = stays_known a b keeps nested less k same

-- ---- places

known_added : (known : List (Option StructFacts)) (k : ℕ) → known_at (known ++ None ∷ []) k ≡ known_at known k
known_added [] zero = refl
known_added [] (suc k) = refl
known_added (x ∷ known) zero = refl
known_added (x ∷ known) (suc k) = known_added known k

known_set : (known : List (Option StructFacts)) (n : ℕ) (facts : StructFacts) → n < length known → known_at (set known n (Some facts)) n ≡ Some facts
known_set [] n facts within = absurd (omega (arith, within))
known_set (x ∷ known) zero facts within = refl
known_set (x ∷ known) (suc n) facts within = known_set known n facts (omega (arith, within))

known_set_other : (known : List (Option StructFacts)) (n k : ℕ) (facts : StructFacts) → (k ≡ n → ⊥) → known_at (set known n (Some facts)) k ≡ known_at known k
known_set_other [] n k facts apart = refl
known_set_other (x ∷ known) zero zero facts apart = absurd (apart refl)
known_set_other (x ∷ known) zero (suc k) facts apart = refl
known_set_other (x ∷ known) (suc n) zero facts apart = refl
known_set_other (x ∷ known) (suc n) (suc k) facts apart = known_set_other known n k facts (λ e. apart (ap suc e))

some_map : {A B : Type 0} (f : A → B) (o : Option A) → is_some o ≡ is_some (option_map f o)
some_map f None = refl
some_map f (Some x) = refl

pub has_members_is : (types : List CType) (list : List listed.StructType) (k : ℕ) → has_members list k ≡ is_some (members_of (structs_of types list) k)
has_members_is types [] k = refl
has_members_is types (it ∷ list) zero = some_map (λ members. map (member_of types) members.items) it.members
has_members_is types (it ∷ list) (suc k) = has_members_is types list k

-- ---- a struct is added

pub are_known_added : (m : DataModel) (a : Structs) (known : List (Option StructFacts)) → AreKnown m a known → AreKnown m (a ++ incomplete ∷ []) (known ++ None ∷ [])
are_known_added m a known h = record {
  nested = nested_added a h.nested;
  each = λ k. subst (IsKnown m (a ++ incomplete ∷ []) k) (sym (known_added known k))
      (known_stays a (a ++ incomplete ∷ []) (keeps_added a) h.nested (omega (arith, completed_least a, length-append a (incomplete ∷ []))) m k (known_at known k) (members_added a k) (h.each k));
}

pub are_known_none : (m : DataModel) → AreKnown m [] []
are_known_none m = record { nested = λ k members at. absurd (true≢false (sym (ap is_some at))); each = λ k. refl }

-- a place more for what is known makes no difference
module _ (m : DataModel) (longer : List CType) (structs others : List listed.StructType) (known more : List (Option StructFacts)) (h : AreKnown m (structs_of longer structs) known) where
  pub known_same : others ≡ structs → more ≡ known → AreKnown m (structs_of longer others) more
  known_same s k = subst (λ l. AreKnown m (structs_of longer l) more) (sym s) (subst (AreKnown m (structs_of longer structs)) (sym k) h)

  pub known_wider : others ≡ structs → more ≡ known ++ None ∷ [] → AreKnown m (structs_of longer others) more
  known_wider s k =
      subst (λ l. AreKnown m (structs_of longer l) more) (sym s)
      (subst (AreKnown m (structs_of longer structs)) (sym k) (record { nested = h.nested; each = λ j. subst (IsKnown m (structs_of longer structs) j) (sym (known_added known j)) (h.each j) }))

  pub known_longer : others ≡ structs ++ (record { members = None }) ∷ [] → more ≡ known ++ None ∷ [] → AreKnown m (structs_of longer others) more
  known_longer s k =
      subst (λ l. AreKnown m (structs_of longer l) more) (sym s)
      (subst (λ l. AreKnown m l more) (sym (map-append (struct_of longer) structs ((record { members = None }) ∷ [])))
      (subst (AreKnown m (structs_of longer structs ++ incomplete ∷ [])) (sym k) (are_known_added m (structs_of longer structs) known h)))

-- ---- a struct is completed

module _ (rows : List TypeRow) (old new : StructTable) (number : ℕ) (members : List entity.Member) (it : listed.StructType) (facts : StructFacts)
    (suits : Suits rows old) (derived : AreDerived rows old members facts) (put : IsPut old new number it facts) (holds : option_map (λ l. l.items) it.members ≡ Some members) where
  module _ (longer : List CType) (more : Continues (types_of_rows rows) longer) where
    abbrev a : Structs
    a = structs_in longer old

    abbrev pure : List Member
    pure = map (member_of longer) members

    has : struct_of longer it ≡ with_members pure
    has = ap (λ o. record { members = o }) (through it.members ∙ ap (option_map (map (member_of longer))) holds)
      where
        through : (o : Option (Vec entity.Member Global)) → option_map (λ l. map (member_of longer) l.items) o ≡ option_map (map (member_of longer)) (option_map (λ l. l.items) o)
        through None = refl
        through (Some l) = refl

    pub structs_put : structs_in longer new ≡ set (structs_in longer old) number (with_members (map (member_of longer) members))
    structs_put =
        ap (structs_of longer) put.structs ∙ map-set (struct_of longer) old.structs.items number it ∙ ap (set (structs_in longer old) number) has

    abbrev b : Structs
    b = set a number (with_members pure)

    within : number < length a
    within = omega (arith, put.within, length-map old.structs.items (struct_of longer))

    none : members_of a number ≡ None
    none = none_there (members_of a number) (sym (has_members_is longer old.structs.items number) ∙ put.incomplete)

    known : AreKnown old.model a old.known.items
    known = suits longer more

    are_rows : AreRowsOf old.model a old.known.items known pure derived.member_rows
    are_rows = are_rows_of rows old longer members derived.member_rows known more derived.are_rows

    held : AllHoldOnly (IsComplete a) pure
    held = hold_complete old.model a old.known.items known pure derived.member_rows are_rows

    keeps : Keeps a b
    keeps = keeps_set a number (with_members pure) none

    less : completed a ≤ length b
    less = omega (arith, completed_least a, length-set a number (with_members pure))

    found : IsFound a b number pure
    found = is_found a number pure within none known.nested held

    at : members_of b number ≡ Some pure
    at = members_set a number (with_members pure) within

    new_facts : AreStructFacts old.model b number facts
    new_facts = record {
      complete = ap is_some at;
      cells = derived.cells ∙ cells_from_is old.model a old.known.items known pure derived.member_rows are_rows 0 (omega arith) ∙ ap (λ n. min n (most_cells + 1)) (zero-add (step_cells (struct_cells a (length a)) pure) ∙ sym found.cells);
      extent = derived.extent ∙ ap whole_extent (extent_from_is old.model a old.known.items known pure derived.member_rows are_rows no_members) ∙ sym (found.extent old.model);
      constant = derived.constant ∙ constant_from_is old.model a old.known.items known pure derived.member_rows are_rows false ∙ sym found.constant;
      placed =
          ap (λ o. placed_with (unwrap_or o []) facts.offsets.items) at ∙ ap (placed_with pure) derived.offsets
          ∙ offsets_from_are old.model a old.known.items known pure derived.member_rows are_rows no_members
          ∙ sym (placed_stay a b old.model pure (extents_stay a b keeps known.nested less old.model) held)
          ∙ sym (ap (λ o. placed_behind (extent_of old.model b) no_members (unwrap_or o [])) at);
      places = λ name. derived.places name ∙ ap (place_of name) (sym (names_same longer members)) ∙ sym (ap (λ o. place_of name (names_of (unwrap_or o []))) at);
    }

    each_known : (k : ℕ) → IsKnown old.model b k (known_at (set old.known.items number (Some facts)) k)
    each_known k = elim (cases_eq k number) [
      | inl same ↦ subst (λ j. IsKnown old.model b j (known_at (set old.known.items number (Some facts)) j)) (sym same)
          (subst (IsKnown old.model b number) (sym (known_set old.known.items number facts put.place)) new_facts)
      | inr apart ↦ subst (IsKnown old.model b k) (sym (known_set_other old.known.items number k facts apart))
          (known_stays a b keeps known.nested less old.model k (known_at old.known.items k) (members_set_other a number k (with_members pure) apart) (known.each k))
    ]

    pub known_put : AreKnown new.model (structs_in longer new) new.known.items
    known_put =
        subst (λ m. AreKnown m (structs_in longer new) new.known.items) (sym put.model)
        (subst (λ l. AreKnown old.model l new.known.items) (sym structs_put)
        (subst (AreKnown old.model b) (sym put.known) (record { nested = nested_set a number pure within none known.nested held; each = each_known })))

-- ---- what is shared

members_wider : (structs : List listed.StructType) (k : ℕ) → members_at (structs ++ (record { members = None }) ∷ []) k ≡ members_at structs k
members_wider [] zero = refl
members_wider [] (suc k) = refl
members_wider (it ∷ structs) zero = refl
members_wider (it ∷ structs) (suc k) = members_wider structs k

-- a place more for what is known makes no difference
module _ (structs others : List listed.StructType) (known more : List (Option StructFacts)) (h : (k : ℕ) → IsShared (known_at known k) (members_at structs k)) where
  pub shared_same : others ≡ structs → more ≡ known → (k : ℕ) → IsShared (known_at more k) (members_at others k)
  shared_same s m k = subst (λ l. IsShared (known_at l k) (members_at others k)) (sym m) (subst (λ l. IsShared (known_at known k) (members_at l k)) (sym s) (h k))

  pub shared_wider : others ≡ structs → more ≡ known ++ None ∷ [] → (k : ℕ) → IsShared (known_at more k) (members_at others k)
  shared_wider s m k =
      subst (λ l. IsShared (known_at l k) (members_at others k)) (sym m)
      (subst (λ l. IsShared (known_at (known ++ None ∷ []) k) (members_at l k)) (sym s)
      (subst (λ o. IsShared o (members_at structs k)) (sym (known_added known k)) (h k)))

  pub shared_longer : others ≡ structs ++ (record { members = None }) ∷ [] → more ≡ known ++ None ∷ [] → (k : ℕ) → IsShared (known_at more k) (members_at others k)
  shared_longer s m k =
      subst (λ l. IsShared (known_at l k) (members_at others k)) (sym m)
      (subst (λ l. IsShared (known_at (known ++ None ∷ []) k) (members_at l k)) (sym s)
      (subst (λ o. IsShared o (members_at (structs ++ (record { members = None }) ∷ []) k)) (sym (known_added known k))
      (subst (IsShared (known_at known k)) (sym (members_wider structs k)) (h k))))

members_put : (structs : List listed.StructType) (k : ℕ) (it : listed.StructType) → k < length structs → members_at (set structs k it) k ≡ option_map (λ l. l.items) it.members
members_put [] k it h = absurd (omega (arith, h))
members_put (x ∷ structs) zero it h = refl
members_put (x ∷ structs) (suc k) it h = members_put structs k it (omega (arith, h))

members_put_other : (structs : List listed.StructType) (n k : ℕ) (it : listed.StructType) → (k ≡ n → ⊥) → members_at (set structs n it) k ≡ members_at structs k
members_put_other [] n k it apart = refl
members_put_other (x ∷ structs) zero zero it apart = absurd (apart refl)
members_put_other (x ∷ structs) zero (suc k) it apart = refl
members_put_other (x ∷ structs) (suc n) zero it apart = refl
members_put_other (x ∷ structs) (suc n) (suc k) it apart = members_put_other structs n k it (λ e. apart (ap suc e))

pub shared_put : (rows : List TypeRow) (old new : StructTable) (number : ℕ) (members : List entity.Member) (it : listed.StructType) (facts : StructFacts)
    → AreDerived rows old members facts → IsPut old new number it facts → option_map (λ l. l.items) it.members ≡ Some members → AreShared old → AreShared new
shared_put rows old new number members it facts derived put holds shared k =
    subst (λ l. IsShared (known_at l k) (members_at new.structs.items k)) (sym put.known)
    (subst (λ l. IsShared (known_at (set old.known.items number (Some facts)) k) (members_at l k)) (sym put.structs)
    (elim (cases_eq k number) [
      | inl same ↦ subst (λ j. IsShared (known_at (set old.known.items number (Some facts)) j) (members_at (set old.structs.items number it) j)) (sym same)
          (subst (λ o. IsShared o (members_at (set old.structs.items number it) number)) (sym (known_set old.known.items number facts put.place))
          (subst (IsShared (Some facts)) (sym (members_put old.structs.items number it put.within ∙ holds)) derived.placed))
      | inr apart ↦ subst (λ o. IsShared o (members_at (set old.structs.items number it) k)) (sym (known_set_other old.known.items number k facts apart))
          (subst (IsShared (known_at old.known.items k)) (sym (members_put_other old.structs.items number k it apart)) (shared k))
    ]))

-- what suits rows suits any that go on from them
pub suits_longer : (rows longer : List TypeRow) (table : StructTable) → Grows rows longer → Suits rows table → Suits longer table
suits_longer rows longer table grows suits types more = suits types (continues_through (types_of_rows rows) (types_of_rows longer) types grows more)

-- ---- results

pub when_ok : {A E : Type 0} {P Q : Type 0} (r : Result A E) → OnOk r P → (P → Q) → OnOk r Q
when_ok (Ok x) h f = f h
when_ok (Err e) h f = tt

pub either_way : {A E : Type 0} {P Q S : Type 0} (r : Result A E) → OnOk r P → OnErr r Q → (P → S) → (Q → S) → S
either_way (Ok x) h k f g = f h
either_way (Err e) h k f g = g k
