-- What is known of the types of rows.
use Rattle.std.proofs.Common.{◌≡◌, ℕ, zero, suc, ◌+◌, ◌<◌, ◌≤◌, true, false, List, [], ◌∷◌, ◌++◌, length, get_or, slice_get, slice_index_or, Some, None, refl, sym, ap, ◌∙◌, subst, arith, ⊎_elim}
use Rattle.std.specs.Prelude.{is_some}
use Rattle.std.specs.List.{AllByRecursion}
use Rattle.std.proofs.lemmas.Bool.{cases_lt}
use Rattle.std.proofs.Math.ListN.{get_or-eq_default}
use Rattle.lt_tree.specs.declared.typed.types.TypeId.{TypeId}
use Rattle.lt_tree.specs.declared.typed.types.TypeRow.{TypeRow}
use Rattle.lt_tree.specs.declared.typed.entity.StructType.{StructType}
use Rattle.lt_tree.specs.Typing.EntityView.{structs_of}
use Rattle.lt_tree.specs.Typing.Types.{CType, Void}
use Rattle.lt_tree.specs.Typing.TypeRows.{type_in, type_of_row, types_of_rows}
use Rattle.lt_tree.specs.Typing.TypeIds.{ids_in_row, AreBelow, AreMadeOfRowsBefore}
use Rattle.lt_tree.specs.Typing.Extents.{Structs}
use Rattle.lt_input_names.specs.declared.facts.Facts.{Facts}
use Rattle.lt_input_names.specs.Kinds.{AreFacts, no_facts}
use Rattle.lt_input_names.proofs.Tables.{length-types_behind}
use Rattle.lt_input_names.proofs.RowTypes.{row_type}

pub void_facts : (structs : Structs) (types : List CType) → AreFacts structs types Void no_facts
void_facts structs types = record { scalar = refl; target = refl; number_or_pointer = refl; array = refl; bare_array = refl; number = refl; complete = refl; void = refl; floating = refl; elements = refl }

-- ---- a table

-- what is known of the types of the first rows
abbrev pub AreFactsBelow : Structs → List CType → ℕ → List Facts → Type 0
AreFactsBelow structs types n known = (t : TypeId) → t.place < n → AreFacts structs types (type_in types t) (slice_index_or known t.place no_facts)

pub all_below : (structs : Structs) (types : List CType) (n : ℕ) (known : List Facts) (ids : List TypeId) → AreFactsBelow structs types n known → AreBelow n ids
    → AllByRecursion (λ t. AreFacts structs types (type_in types t) (slice_index_or known t.place no_facts)) ids
all_below structs types n known [] are below = tt
all_below structs types n known (id ∷ ids) are below = (are id below.0, all_below structs types n known ids are below.1)

before_last : (known : List Facts) (it : Facts) (k : ℕ) → k < length known → slice_index_or (known ++ it ∷ []) k no_facts ≡ slice_index_or known k no_facts
before_last [] it k within = absurd (omega (arith, within))
before_last (x ∷ known) it zero within = refl
before_last (x ∷ known) it (suc k) within = before_last known it k (omega (arith, within))

at_last : (known : List Facts) (it : Facts) → slice_index_or (known ++ it ∷ []) (length known) no_facts ≡ it
at_last [] it = refl
at_last (x ∷ known) it = at_last known it

past_last : (known : List Facts) (k : ℕ) → length known ≤ k → slice_index_or known k no_facts ≡ no_facts
past_last [] k past = refl
past_last (x ∷ known) zero past = absurd (omega (arith, past))
past_last (x ∷ known) (suc k) past = past_last known k (omega (arith, past))

read_row : (rows : List TypeRow) (k : ℕ) (r : TypeRow) → k < length rows → r ≡ get_or rows k r → slice_get rows k ≡ Some r
read_row [] k r within is = absurd (omega (arith, within))
read_row (x ∷ rows) zero r within is = ap Some (sym is)
read_row (x ∷ rows) (suc k) r within is = read_row rows k r (omega (arith, within)) is

-- one row more
pub row_facts : (structs : Structs) (rows : List TypeRow) (k : ℕ) (r : TypeRow) (known new : List Facts) (it : Facts) → k < length rows → r ≡ get_or rows k r → length known ≡ k
    → AreFactsBelow structs (types_of_rows rows) k known → AreFacts structs (types_of_rows rows) (type_of_row (types_of_rows rows) r) it → AreMadeOfRowsBefore rows → new ≡ known ++ it ∷ []
    → AreFactsBelow structs (types_of_rows rows) (k + 1) new
row_facts structs rows k r known new it within is count before here made last t below =
    ⊎_elim
    (λ less.
    subst (λ l. AreFacts structs types (type_in types t) (slice_index_or l t.place no_facts)) (sym last)
    (subst (AreFacts structs types (type_in types t)) (sym (before_last known it t.place (omega (arith, less, count)))) (before t less)))
    (λ past.
    let at : t.place ≡ k = omega (arith, past, below) in
    let row : type_in types t ≡ type_of_row types r = row_type rows t r made (ap (slice_get rows) at ∙ read_row rows k r within is) in
    subst (λ l. AreFacts structs types (type_in types t) (slice_index_or l t.place no_facts)) (sym last)
    (subst (AreFacts structs types (type_in types t)) (sym (ap (λ n. slice_index_or (known ++ it ∷ []) n no_facts) (at ∙ sym count) ∙ at_last known it))
    (subst (λ u. AreFacts structs types u it) (sym row) here)))
    (cases_lt t.place k)
  where
    types : List CType
    types = types_of_rows rows

-- an id without a row is that of void
pub past_type : (rows : List TypeRow) (t : TypeId) → length rows ≤ t.place → type_in (types_of_rows rows) t ≡ Void
past_type rows t past = get_or-eq_default (types_of_rows rows) Void (omega (arith, past, length-types_behind [] rows))

-- all of them
pub all_facts : (structs : Structs) (rows : List TypeRow) (known : List Facts) → length known ≡ length rows → AreFactsBelow structs (types_of_rows rows) (length rows) known
    → (t : TypeId) → AreFacts structs (types_of_rows rows) (type_in (types_of_rows rows) t) (slice_index_or known t.place no_facts)
all_facts structs rows known count are t =
    ⊎_elim (λ below. are t below)
    (λ past.
    subst (λ u. AreFacts structs (types_of_rows rows) u (slice_index_or known t.place no_facts)) (sym (past_type rows t past))
    (subst (AreFacts structs (types_of_rows rows) Void) (sym (past_last known t.place (omega (arith, past, count)))) (void_facts structs (types_of_rows rows))))
    (cases_lt t.place (length rows))

-- one row more, of which this is made known
pub row_made : (structs s : List StructType) (rows l : List TypeRow) (k : ℕ) (r : TypeRow) (known f new : List Facts) (it : Facts) → l ≡ rows → s ≡ structs → f ≡ known → k < length l → r ≡ get_or l k r → length known ≡ k
    → AreFactsBelow (structs_of (types_of_rows rows) structs) (types_of_rows rows) k known
    → ((types : List CType) → AllByRecursion (λ t. AreFacts (structs_of types s) types (type_in types t) (slice_index_or f t.place no_facts)) (ids_in_row r) → AreFacts (structs_of types s) types (type_of_row types r) it)
    → AreMadeOfRowsBefore rows → new ≡ known ++ it ∷ [] → AreFactsBelow (structs_of (types_of_rows rows) structs) (types_of_rows rows) (k + 1) new
row_made structs s rows l k r known f new it a b c within is count before make made last =
    let types = types_of_rows rows in
    let within' : k < length rows = subst (λ (x : List TypeRow). k < length x) a within in
    let is' : r ≡ get_or rows k r = subst (λ (x : List TypeRow). r ≡ get_or x k r) a is in
    let parts = all_below (structs_of types structs) types k known (ids_in_row r) before (made k r (read_row rows k r within' is')) in
    let parts' = subst (λ (x : List StructType). AllByRecursion (λ t. AreFacts (structs_of types x) types (type_in types t) (slice_index_or f t.place no_facts)) (ids_in_row r)) (sym b)
    (subst (λ (x : List Facts). AllByRecursion (λ t. AreFacts (structs_of types structs) types (type_in types t) (slice_index_or x t.place no_facts)) (ids_in_row r)) (sym c) parts) in
    let here : AreFacts (structs_of types structs) types (type_of_row types r) it = subst (λ (x : List StructType). AreFacts (structs_of types x) types (type_of_row types r) it) b (make types parts') in
    row_facts (structs_of types structs) rows k r known new it within' is' count before here made last

-- an id without a row is that of void
pub none_type : (rows : List TypeRow) (t : TypeId) → slice_get rows t.place ≡ None → type_in (types_of_rows rows) t ≡ Void
none_type rows t none = past_type rows t (past rows t.place none)
  where
    past : (rows : List TypeRow) (k : ℕ) → slice_get rows k ≡ None → length rows ≤ k
    past [] k none = omega arith
    past (r ∷ rows) zero none = absurd (let e : true ≡ false = ap is_some none in cc)
    past (r ∷ rows) (suc k) none = omega (arith, past rows k none)

-- the type of an id is that of its row
pub some_type : (rows l : List TypeRow) (t : TypeId) (r : TypeRow) → l ≡ rows → AreMadeOfRowsBefore rows → Some r ≡ slice_get l t.place → type_in (types_of_rows rows) t ≡ type_of_row (types_of_rows rows) r
some_type rows l t r e made at = row_type rows t r made (subst (λ (x : List TypeRow). slice_get x t.place ≡ Some r) e (sym at))
