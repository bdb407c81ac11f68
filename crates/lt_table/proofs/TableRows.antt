-- Tables whose rows are made of rows before them: what a row says of the types, and what stays when one goes last.
use Rattle.std.proofs.Common.{◌≡◌, ℕ, ◌+◌, ◌^◌, min, ◌<◌, ◌≤◌, List, [], ◌∷◌, ◌++◌, length, slice_get, slice_index_or, Option, Some, None, IfSome, option_map, refl, sym, ap, subst, ◌∙◌, arith, length-append, suc, zero, is_some, true≢false}
use Rattle.std.proofs.lemmas.List.{append_assoc, append-nil, get_or_append_left}
use Rattle.std.proofs.Math.Seq.{get_or-append_seam}
use Rattle.std.specs.Map.{keys_of}
use Rattle.lt_tree.specs.declared.typed.types.TypeId.{TypeId}
use Rattle.lt_tree.specs.declared.typed.types.TypeRow.{TypeRow}
use Rattle.lt_tree.specs.declared.typed.types.TypeRow.TheVariants as row
use Rattle.lt_tree.specs.View as view
use Rattle.lt_tree.specs.Typing.Types.{CType, Void, Pointer, Array, Function, Qualified, a_type, element, qualifiers_of, target_of}
use Rattle.lt_tree.specs.Typing.TypeRows.{type_in, all_in, type_of_row, types_behind, types_of_rows, Continues, Lasts}
use Rattle.lt_table.specs.TableRows.{StandsIn, AllStandIn, TakesQualifiers, IsRowAt, CanFollow, with_type, AreFactsOf, AreFactsAt, AreRows, Grows, Stays}
use Rattle.lt_table.specs.declared.table.kind.Kind.{Kind}
use Rattle.lt_table.specs.declared.table.kind.Kind.TheVariants as kind
use Rattle.lt_table.specs.declared.table.kind.RowFacts.{RowFacts}
use Rattle.lt_tree.specs.Typing.Extents.{elements}
use Rattle.lt_table.specs.TableKinds.{kind_part, kind_target, HasElements, IsOfKind}
use Rattle.lt_table.specs.TableElements.{IsMadeOf}

-- ---- tables that go on from others

pub continues_same : (types : List CType) → Continues types types
continues_same types = ([], sym (append-nil types))

pub continues_through : (a b c : List CType) → Continues a b → Continues b c → Continues a c
continues_through a b c p q = (p.0 ++ q.0, q.1 ∙ ap (λ l. l ++ q.0) p.1 ∙ append_assoc a p.0 q.0)

pub continues_behind : (types : List CType) (rows : List TypeRow) → Continues types (types_behind types rows)
continues_behind types [] = continues_same types
continues_behind types (r ∷ rows) = continues_through types (with_type types r) _ (type_of_row types r ∷ [], refl) (continues_behind (with_type types r) rows)

pub types_behind-last : (types : List CType) (rows : List TypeRow) (row : TypeRow) → types_behind types (rows ++ row ∷ []) ≡ with_type (types_behind types rows) row
types_behind-last types [] row = refl
types_behind-last types (r ∷ rows) row = types_behind-last (with_type types r) rows row

pub length-with_type : (types : List CType) (row : TypeRow) → length (with_type types row) ≡ length types + 1
length-with_type types row = length-append types (type_of_row types row ∷ [])

pub length-types_behind : (types : List CType) (rows : List TypeRow) → length (types_behind types rows) ≡ length types + length rows
length-types_behind types [] = omega arith
length-types_behind types (r ∷ rows) = omega (arith, length-types_behind (with_type types r) rows, length-with_type types r)

-- ---- a type stays

pub type_in-longer : (types longer : List CType) (t : TypeId) → Continues types longer → t.place < length types → type_in longer t ≡ type_in types t
type_in-longer types longer t more within = ap (λ l. slice_index_or l t.place Void) more.1 ∙ get_or_append_left types more.0 Void t.place within

pub all_in-longer : (types longer : List CType) (ts : List TypeId) → Continues types longer → AllStandIn types ts → all_in longer ts ≡ all_in types ts
all_in-longer types longer [] more within = refl
all_in-longer types longer (t ∷ ts) more within =
    ap (λ a. a_type a (all_in longer ts)) (type_in-longer types longer t more within.0) ∙ ap (a_type (type_in types t)) (all_in-longer types longer ts more within.1)

pub row_longer : (types longer : List CType) (row : TypeRow) → Continues types longer → CanFollow types row → type_of_row longer row ≡ type_of_row types row
row_longer types longer row.Void more within = refl
row_longer types longer (row.Num s) more within = refl
row_longer types longer (row.Pointer t) more within = ap Pointer (type_in-longer types longer t more within)
row_longer types longer (row.Array t n) more within = ap (λ a. Array a n) (type_in-longer types longer t more within)
row_longer types longer (row.Struct k) more within = refl
row_longer types longer (row.Function f) more within =
    ap (λ a. Function a (all_in longer f.parameters.items) f.dots) (type_in-longer types longer f.result more within.0)
    ∙ ap (λ ts. Function (type_in types f.result) ts f.dots) (all_in-longer types longer f.parameters.items more within.1)
row_longer types longer row.Floating more within = refl
row_longer types longer (row.Qualified q t) more within = ap (Qualified (view.qualifiers_of q)) (type_in-longer types longer t more within.0)

kind_with : (types longer : List CType) (k : Kind) (t : CType) → IsOfKind types k t → target_of t ≡ option_map (type_in longer) (kind_target k) → HasElements longer k t
    → IsOfKind longer k t
kind_with types longer k t h target elements = record {
  scalar = h.scalar;
  target = target;
  struct_number = h.struct_number;
  void = h.void;
  integer = h.integer;
  pointer = h.pointer;
  struct_type = h.struct_type;
  array = h.array;
  function = h.function;
  floating = h.floating;
  elements = elements;
}

pub kind_longer : (types longer : List CType) (k : Kind) (t : CType) → Continues types longer → IfSome (kind_part k) (StandsIn types) → IsOfKind types k t → IsOfKind longer k t
kind_longer types longer (kind.Pointer u) t more within h = kind_with types longer (kind.Pointer u) t h (h.target ∙ ap Some (sym (type_in-longer types longer u more within))) tt
kind_longer types longer (kind.Array u n) t more within h =
    kind_with types longer (kind.Array u n) t h h.target (h.elements ∙ ap (λ a. Array a n) (sym (type_in-longer types longer u more within)))
kind_longer types longer kind.Void t more within h = kind_with types longer kind.Void t h h.target tt
kind_longer types longer (kind.Num s) t more within h = kind_with types longer (kind.Num s) t h h.target tt
kind_longer types longer (kind.Struct k) t more within h = kind_with types longer (kind.Struct k) t h h.target tt
kind_longer types longer kind.Function t more within h = kind_with types longer kind.Function t h h.target tt
kind_longer types longer kind.Floating t more within h = kind_with types longer kind.Floating t h h.target tt

-- the type that stands last
pub type_in-last : (types : List CType) (row : TypeRow) (t : TypeId) → t.place ≡ length types → type_in (with_type types row) t ≡ type_of_row types row
type_in-last types row t last = ap (λ k. slice_index_or (with_type types row) k Void) last ∙ get_or-append_seam types (type_of_row types row) [] Void

-- ---- a row of a table

pub record Stands (types : List CType) (k : ℕ) (e : TypeRow × RowFacts) : Type 0 where
  -- the types before it
  pub front : List CType
  pub place : length front ≡ k
  pub follows : CanFollow front e.0
  pub facts : AreFactsOf front e.0 e.1
  pub rest : Continues (with_type front e.0) types

pub stands : (front : List CType) (es : List (TypeRow × RowFacts)) (k : ℕ) (e : TypeRow × RowFacts) → AreRows front es → slice_get es k ≡ Some e
    → Stands (types_behind front (keys_of es)) (length front + k) e
stands front [] k e rows at = absurd (true≢false (sym (ap is_some at)))
stands front (x ∷ es) zero e rows at = subst (λ y. Stands (types_behind front (keys_of (x ∷ es))) (length front + 0) y) (some_is at) first
  where
    some_is : {a b : TypeRow × RowFacts} → Some a ≡ Some b → a ≡ b
    some_is p = cc

    first : Stands (types_behind front (keys_of (x ∷ es))) (length front + 0) x
    first = record { front = front; place = omega arith; follows = rows.0; facts = rows.1; rest = continues_behind (with_type front x.0) (keys_of es) }
stands front (x ∷ es) (suc k) e rows at =
    let s = stands (with_type front x.0) es k e rows.2 at in
    record { front = s.front; place = omega (arith, s.place, length-with_type front x.0); follows = s.follows; facts = s.facts; rest = s.rest }

module _ (types : List CType) (k : ℕ) (e : TypeRow × RowFacts) (s : Stands types k e) where
  pub continues_front : Continues s.front types
  continues_front = continues_through s.front (with_type s.front e.0) types (type_of_row s.front e.0 ∷ [], refl) s.rest

  -- it is the type of its row
  pub stands_type : (t : TypeId) → t.place ≡ k → Lasts types (λ longer. type_in longer t ≡ type_of_row longer e.0)
  stands_type t at longer more =
      let past = continues_through (with_type s.front e.0) types longer s.rest more in
      let before = continues_through s.front types longer continues_front more in
      let last : t.place ≡ length s.front = at ∙ sym s.place in
      let within : t.place < length (with_type s.front e.0) = omega (arith, last, length-with_type s.front e.0) in
      type_in-longer (with_type s.front e.0) longer t past within ∙ type_in-last s.front e.0 t last ∙ sym (row_longer s.front longer e.0 before s.follows)

  -- and what is known of it stays
  pub stands_element : (t : TypeId) → t.place ≡ k → Lasts types (λ longer. type_in longer e.1.element ≡ element (type_in longer t))
  stands_element t at longer more =
      let past = continues_through (with_type s.front e.0) types longer s.rest more in
      let before = continues_through s.front types longer continues_front more in
      type_in-longer (with_type s.front e.0) longer e.1.element past s.facts.element_stands ∙ s.facts.element
      ∙ ap element (sym (row_longer s.front longer e.0 before s.follows)) ∙ ap element (sym (stands_type t at longer more))

  pub stands_quals : (t : TypeId) → t.place ≡ k → Lasts types (λ longer. qualifiers_of (type_in longer t) ≡ view.qualifiers_of e.1.quals)
  stands_quals t at longer more =
      let before = continues_through s.front types longer continues_front more in
      ap qualifiers_of (stands_type t at longer more) ∙ ap qualifiers_of (row_longer s.front longer e.0 before s.follows) ∙ s.facts.quals

  pub stands_kind : (t : TypeId) → t.place ≡ k → Lasts types (λ longer. IsOfKind longer e.1.kind (type_in longer t))
  stands_kind t at longer more =
      let before = continues_through s.front types longer continues_front more in
      subst (IsOfKind longer e.1.kind) (sym (row_longer s.front longer e.0 before s.follows) ∙ sym (stands_type t at longer more))
      (kind_longer s.front longer e.1.kind (type_of_row s.front e.0) before s.facts.part_stands s.facts.kind)

  pub stands_count : (t : TypeId) → t.place ≡ k → Lasts types (λ longer. e.1.count ≡ min (elements (type_in longer t)) (2 ^ 64))
  stands_count t at longer more =
      let before = continues_through s.front types longer continues_front more in
      s.facts.count ∙ ap (λ x. min (elements x) (2 ^ 64)) (sym (row_longer s.front longer e.0 before s.follows) ∙ sym (stands_type t at longer more))

  pub stands_made : (t : TypeId) → t.place ≡ k → Lasts types (λ longer. IsMadeOf e.1.inner e.1.quals.constant (type_in longer t))
  stands_made t at longer more =
      let before = continues_through s.front types longer continues_front more in
      subst (IsMadeOf e.1.inner e.1.quals.constant) (sym (row_longer s.front longer e.0 before s.follows) ∙ sym (stands_type t at longer more)) s.facts.made

  pub length-stands : length types ≡ k + 1 + length s.rest.0
  length-stands = ap length s.rest.1 ∙ length-append (with_type s.front e.0) s.rest.0 ∙ ap (λ n. n + length s.rest.0) (length-with_type s.front e.0 ∙ ap (λ n. n + 1) s.place)

pub row_at : (es : List (TypeRow × RowFacts)) (rows : List TypeRow) (t : TypeId) (e : TypeRow × RowFacts) → keys_of es ≡ rows → AreRows [] es → slice_get es t.place ≡ Some e
    → Stands (types_of_rows rows) t.place e
row_at es rows t e same known at =
    let start : 0 + t.place ≡ t.place = omega arith in
    subst (λ r. Stands (types_of_rows r) t.place e) same (subst (λ k. Stands (types_of_rows (keys_of es)) k e) start (stands [] es t.place e known at))

some_within : (o : Option TypeId) (n m : ℕ) → n ≤ m → IfSome o (λ u. u.place < n) → IfSome o (λ u. u.place < m)
some_within None n m less h = tt
some_within (Some u) n m less h = omega (arith, h, less)

pub facts_at : (es : List (TypeRow × RowFacts)) (rows : List TypeRow) (t : TypeId) (e : TypeRow × RowFacts) → keys_of es ≡ rows → AreRows [] es → slice_get es t.place ≡ Some e
    → AreFactsAt rows t e.1
facts_at es rows t e same known at = record {
  element_within = omega (arith, s.facts.element_stands, length-with_type s.front e.0, s.place, long, length-types_behind [] rows);
  part_within = some_within (kind_part e.1.kind) (length s.front) (length rows) (omega (arith, s.place, long, length-types_behind [] rows)) s.facts.part_stands;
  part_before = some_within (kind_part e.1.kind) (length s.front) t.place (omega (arith, s.place)) s.facts.part_stands;
  element = stands_element (types_of_rows rows) t.place e s t refl;
  quals = stands_quals (types_of_rows rows) t.place e s t refl;
  kind = stands_kind (types_of_rows rows) t.place e s t refl;
  count = stands_count (types_of_rows rows) t.place e s t refl;
  made = stands_made (types_of_rows rows) t.place e s t refl;
}
  where
    s : Stands (types_of_rows rows) t.place e
    s = row_at es rows t e same known at

    long : length (types_of_rows rows) ≡ t.place + 1 + length s.rest.0
    long = length-stands (types_of_rows rows) t.place e s

-- ---- a row goes last

pub rows_last : (front : List CType) (es : List (TypeRow × RowFacts)) (row : TypeRow) (e : RowFacts) → AreRows front es
    → CanFollow (types_behind front (keys_of es)) row → AreFactsOf (types_behind front (keys_of es)) row e → AreRows front (es ++ (row, e) ∷ [])
rows_last front [] row e rows follows facts = (follows, facts, tt)
rows_last front (x ∷ es) row e rows follows facts = (rows.0, rows.1, rows_last (with_type front x.0) es row e rows.2 follows facts)

pub keys_last : (es : List (TypeRow × RowFacts)) (row : TypeRow) (e : RowFacts) → keys_of (es ++ (row, e) ∷ []) ≡ keys_of es ++ row ∷ []
keys_last [] row e = refl
keys_last (x ∷ es) row e = ap (λ ks. x.0 ∷ ks) (keys_last es row e)

-- the table grows by it
pub last_grows : (rows : List TypeRow) (row : TypeRow) → Grows rows (rows ++ row ∷ [])
last_grows rows row = (type_of_row (types_of_rows rows) row ∷ [], types_behind-last [] rows row)

-- and it has the type of its row
pub last_made : (rows : List TypeRow) (row : TypeRow) (t : TypeId) → CanFollow (types_of_rows rows) row → t.place ≡ length rows
    → Stays (rows ++ row ∷ []) (λ types. type_in types t ≡ type_of_row types row)
last_made rows row t follows last longer more =
    let front = types_of_rows rows in
    let long : t.place ≡ length front = omega (arith, last, length-types_behind [] rows) in
    let past : Continues (with_type front row) longer = subst (λ l. Continues l longer) (types_behind-last [] rows row) more in
    let before = continues_through front (with_type front row) longer (type_of_row front row ∷ [], refl) past in
    let within : t.place < length (with_type front row) = omega (arith, long, length-with_type front row) in
    type_in-longer (with_type front row) longer t past within ∙ type_in-last front row t long ∙ sym (row_longer front longer row before follows)

-- ---- a row as it is read

all_stand-longer : (types longer : List CType) (ts : List TypeId) → length types ≤ length longer → AllStandIn types ts → AllStandIn longer ts
all_stand-longer types longer [] less h = tt
all_stand-longer types longer (t ∷ ts) less h = (omega (arith, h.0, less), all_stand-longer types longer ts less h.1)

pub length-continues : (types longer : List CType) → Continues types longer → length types ≤ length longer
length-continues types longer more = omega (arith, ap length more.1, length-append types more.0)

pub follows_longer : (types longer : List CType) (r : TypeRow) → Continues types longer → CanFollow types r → CanFollow longer r
follows_longer types longer row.Void more h = tt
follows_longer types longer (row.Num s) more h = tt
follows_longer types longer (row.Pointer t) more h = omega (arith, h, length-continues types longer more)
follows_longer types longer (row.Array t n) more h = omega (arith, h, length-continues types longer more)
follows_longer types longer (row.Struct k) more h = tt
follows_longer types longer (row.Function f) more h =
    (omega (arith, h.0, length-continues types longer more), all_stand-longer types longer f.parameters.items (length-continues types longer more) h.1)
follows_longer types longer row.Floating more h = tt
follows_longer types longer (row.Qualified q t) more h =
    (omega (arith, h.0, length-continues types longer more), subst TakesQualifiers (sym (type_in-longer types longer t more h.0)) h.1)

pub is_row_at : (es : List (TypeRow × RowFacts)) (rows : List TypeRow) (t : TypeId) (e : TypeRow × RowFacts) → keys_of es ≡ rows → AreRows [] es → slice_get es t.place ≡ Some e
    → IsRowAt rows t e.0
is_row_at es rows t e same known at =
    let s = row_at es rows t e same known at in
    record {
      is = stands_type (types_of_rows rows) t.place e s t refl;
      follows = follows_longer s.front (types_of_rows rows) e.0 (continues_front (types_of_rows rows) t.place e s) s.follows;
    }
