-- Rows that are made of rows before them, and of which none stands twice: their types are apart. So are the rows of a table.
use Rattle.std.proofs.Common.{◌≡◌, ℕ, zero, suc, ◌+◌, ◌<◌, ◌==◌, Bool, true, false, ◌&&◌, List, [], ◌∷◌, length, slice_get, get_or, Some, is_some, unwrap_or, refl, sym, ap, subst, ◌∙◌, arith, true≢false}
use Rattle.std.specs.List.{IsDistinct}
use Rattle.std.specs.Map.{keys_of}
use Rattle.std.specs.Cmp.Lexicographic.{pointwise}
use Rattle.std.proofs.lemmas.Map.Keys.{apart_from_distinct}
use Rattle.std.proofs.lemmas.Option.{slice_get-get_or, get_or_from_slice_get, slice_get_within}
use Rattle.std.proofs.lemmas.Bool.{eqb-true}
use Rattle.lt_tree.specs.declared.typed.types.TypeId.{TypeId}
use Rattle.lt_tree.specs.declared.typed.types.TypeRow.{TypeRow}
use Rattle.lt_tree.specs.declared.typed.types.TypeRow.TheVariants as row
use Rattle.lt_tree.specs.contracts.typed.types.TypeIdPartialEq.TheImpl as equal_id
use Rattle.lt_tree.specs.contracts.typed.types.TypeRowPartialEq.TheImpl as equal
use Rattle.lt_tree.specs.View.{qualifiers_of}
use Rattle.lt_tree.specs.Typing.Types.{CType, Void, Pointer, Array, Function, Qualified, same, all_same, same_qualifiers, same_bool, qualifiers_of as own_qualifiers}
use Rattle.lt_tree.specs.Typing.TypeRows.{type_in, all_in, type_of_row, types_behind, types_of_rows, Continues}
use Rattle.lt_table.specs.declared.table.kind.RowFacts.{RowFacts}
use Rattle.lt_table.specs.TableRows.{AllStandIn, CanFollow, AreRows, with_type}
use Rattle.lt_table.proofs.TableRows.{continues_through, continues_behind, type_in-longer, all_in-longer, type_in-last, length-with_type}
use Rattle.lt_table.proofs.TableSame.{same_exact, same_self}
use Rattle.lt_table.specs.RowsOnce.{AllBefore, IsMadeBefore, AreOnce}

-- ---- the type of a row

all_stand : (types : List CType) (n : ℕ) (ts : List TypeId) → n ≡ length types → AllBefore n ts → AllStandIn types ts
all_stand types n [] e h = tt
all_stand types n (t ∷ ts) e h = (omega (arith, e, h.0), all_stand types n ts e h.1)

row_still : (types longer : List CType) (n : ℕ) (r : TypeRow) → n ≡ length types → Continues types longer → IsMadeBefore n r → type_of_row types r ≡ type_of_row longer r
row_still types longer n row.Void e more h = refl
row_still types longer n (row.Num s) e more h = refl
row_still types longer n (row.Pointer t) e more h = ap Pointer (sym (type_in-longer types longer t more (omega (arith, e, h))))
row_still types longer n (row.Array t k) e more h = ap (λ u. Array u k) (sym (type_in-longer types longer t more (omega (arith, e, h))))
row_still types longer n (row.Struct k) e more h = refl
row_still types longer n (row.Function f) e more h =
    ap (λ u. Function u (all_in types f.parameters.items) f.dots) (sym (type_in-longer types longer f.result more (omega (arith, e, h.0))))
    ∙ ap (λ us. Function (type_in longer f.result) us f.dots) (sym (all_in-longer types longer f.parameters.items more (all_stand types n f.parameters.items e h.1)))
row_still types longer n row.Floating e more h = refl
row_still types longer n (row.Qualified q t) e more h = ap (Qualified (qualifiers_of q)) (sym (type_in-longer types longer t more (omega (arith, e, h))))

some_is : {A : Type 0} {x y : A} → Some x ≡ Some y → x ≡ y
some_is {A} {x} e = ap (λ r. unwrap_or r x) e

type_behind : (front : List CType) (rows : List TypeRow) (k : ℕ) (t : TypeId) (r : TypeRow) → t.place ≡ length front + k → slice_get rows k ≡ Some r → IsMadeBefore t.place r
    → type_in (types_behind front rows) t ≡ type_of_row (types_behind front rows) r
type_behind front [] k t r e at h = absurd (true≢false (sym (ap is_some at)))
type_behind front (x ∷ rows) zero t r e at h =
    let is : x ≡ r = some_is at in
    let place : t.place ≡ length front = omega (arith, e) in
    let more = continues_behind (with_type front x) rows in
    type_in-longer (with_type front x) (types_behind (with_type front x) rows) t more (omega (arith, place, length-with_type front x))
    ∙ type_in-last front x t place ∙ ap (type_of_row front) is
    ∙ row_still front (types_behind (with_type front x) rows) t.place r place (continues_through front (with_type front x) _ (type_of_row front x ∷ [], refl) more) h
type_behind front (x ∷ rows) (suc k) t r e at h = type_behind (with_type front x) rows k t r (omega (arith, e, length-with_type front x)) at h

-- the type of a row that is made of rows before it
pub type_at : (rows : List TypeRow) (t : TypeId) (r : TypeRow) → slice_get rows t.place ≡ Some r → IsMadeBefore t.place r → type_in (types_of_rows rows) t ≡ type_of_row (types_of_rows rows) r
type_at rows t r at h = type_behind [] rows t.place t r (omega arith) at h

-- ---- rows whose types are the same

and_left : (a b : Bool) → (a && b) ≡ true → a ≡ true
and_left true b h = refl
and_left false b h = absurd (true≢false (sym h))

and_right : (a b : Bool) → (a && b) ≡ true → b ≡ true
and_right true b h = h
and_right false b h = absurd (true≢false (sym h))

bool_exact : (a b : Bool) → same_bool a b ≡ true → a ≡ b
bool_exact true b h = sym h
bool_exact false true h = absurd (true≢false (sym h))
bool_exact false false h = refl

quals_exact : (a b c d : Bool) → same_qualifiers (record { constant = a; volatile = b }) (record { constant = c; volatile = d }) ≡ true → (a ≡ c) × (b ≡ d)
quals_exact a b c d h = let e = same_exact (Qualified (record { constant = a; volatile = b }) Void) (Qualified (record { constant = c; volatile = d }) Void) (ap (λ x. x && true) h) in
    (ap (λ t. (own_qualifiers t).constant) e, ap (λ t. (own_qualifiers t).volatile) e)

module _ (types : List CType) (n m : ℕ) (known : (t u : TypeId) → t.place < n → u.place < m → type_in types t ≡ type_in types u → t.place ≡ u.place) where
  same_parts : (ts us : List TypeId) → AllBefore n ts → AllBefore m us → all_same (all_in types ts) (all_in types us) ≡ true → pointwise (equal_id.eq-value).it ts us ≡ true
  same_parts [] [] a b h = refl
  same_parts (t ∷ ts) (u ∷ us) a b h =
      let e : t.place ≡ u.place = known t u a.0 b.0 (same_exact (type_in types t) (type_in types u) (and_left (same (type_in types t) (type_in types u)) (all_same (all_in types ts) (all_in types us)) h)) in
      let rest : pointwise (equal_id.eq-value).it ts us ≡ true = same_parts ts us a.1 b.1 (and_right (same (type_in types t) (type_in types u)) (all_same (all_in types ts) (all_in types us)) h) in
      grind arith
  same_parts ts us a b h = absurd (true≢false (sym h))

  same_rows : (a b : TypeRow) → IsMadeBefore n a → IsMadeBefore m b → same (type_of_row types a) (type_of_row types b) ≡ true → (equal.eq-value).it a b ≡ true
  same_rows row.Void row.Void p q h = refl
  same_rows (row.Num s) (row.Num r) p q h = h
  same_rows (row.Pointer t) (row.Pointer u) p q h = let e : t.place ≡ u.place = known t u p q (same_exact (type_in types t) (type_in types u) h) in grind arith
  same_rows (row.Array t j) (row.Array u k) p q h =
      let e : t.place ≡ u.place = known t u p q (same_exact (type_in types t) (type_in types u) (and_right (j == k) (same (type_in types t) (type_in types u)) h)) in
      let f : j ≡ k = eqb-true j k (and_left (j == k) (same (type_in types t) (type_in types u)) h) in grind arith
  same_rows (row.Struct j) (row.Struct k) p q h = let e : j ≡ k = eqb-true j k h in grind arith
  same_rows (row.Function f) (row.Function g) p q h =
      let rest = same (type_in types f.result) (type_in types g.result) && all_same (all_in types f.parameters.items) (all_in types g.parameters.items) in
      let first : (same (type_in types f.result) (type_in types g.result) && all_same (all_in types f.parameters.items) (all_in types g.parameters.items)) ≡ true = and_left rest (same_bool f.dots g.dots) h in
      let e : f.result.place ≡ g.result.place = known f.result g.result p.0 q.0 (same_exact (type_in types f.result) (type_in types g.result) (and_left (same (type_in types f.result) (type_in types g.result)) (all_same (all_in types f.parameters.items) (all_in types g.parameters.items)) first)) in
      let l : pointwise (equal_id.eq-value).it f.parameters.items g.parameters.items ≡ true = same_parts f.parameters.items g.parameters.items p.1 q.1 (and_right (same (type_in types f.result) (type_in types g.result)) (all_same (all_in types f.parameters.items) (all_in types g.parameters.items)) first) in
      let d : f.dots ≡ g.dots = bool_exact f.dots g.dots (and_right rest (same_bool f.dots g.dots) h) in
      grind arith
  same_rows row.Floating row.Floating p q h = refl
  same_rows (row.Qualified a t) (row.Qualified b u) p q h =
      let e : t.place ≡ u.place = known t u p q (same_exact (type_in types t) (type_in types u) (and_right (same_qualifiers (record { constant = a.constant; volatile = a.volatile }) (record { constant = b.constant; volatile = b.volatile })) (same (type_in types t) (type_in types u)) h)) in
      let k = quals_exact a.constant a.volatile b.constant b.volatile (and_left (same_qualifiers (record { constant = a.constant; volatile = a.volatile }) (record { constant = b.constant; volatile = b.volatile })) (same (type_in types t) (type_in types u)) h) in
      let c : a.constant ≡ b.constant = k.0 in let v : a.volatile ≡ b.volatile = k.1 in grind arith
  same_rows a b p q h = absurd (true≢false (sym h))

-- ---- places

module _ (rows : List TypeRow) (before : (k : ℕ) (r : TypeRow) → slice_get rows k ≡ Some r → IsMadeBefore k r) (apart : IsDistinct (equal.eq-value).it rows) where
  rows_apart : (j k : ℕ) (a b : TypeRow) → slice_get rows j ≡ Some a → slice_get rows k ≡ Some b → j < k → (equal.eq-value).it a b ≡ true → ⊥
  rows_apart j k a b at past less equals =
      true≢false
      (sym equals
      ∙ ap (λ x. (equal.eq-value).it x b) (sym (get_or_from_slice_get rows j a row.Void at))
      ∙ ap ((equal.eq-value).it (get_or rows j row.Void)) (sym (get_or_from_slice_get rows k b row.Void past))
      ∙ apart_from_distinct (equal.eq-value).it rows j k row.Void apart less (slice_get_within rows k b past))

  apart_or_same : (j k : ℕ) → (j < k → ⊥) → (k < j → ⊥) → j ≡ k
  apart_or_same j k p q = omega arith

  one_place : (n : ℕ) (t u : TypeId) → t.place < n → t.place < length rows → u.place < length rows → type_in (types_of_rows rows) t ≡ type_in (types_of_rows rows) u → t.place ≡ u.place
  one_place zero t u less within past equals = absurd (omega arith)
  one_place (suc n) t u less within past equals =
      let types : List CType = types_of_rows rows in
      let a : TypeRow = get_or rows t.place row.Void in
      let b : TypeRow = get_or rows u.place row.Void in
      let at : slice_get rows t.place ≡ Some a = slice_get-get_or rows t.place row.Void within in
      let bt : slice_get rows u.place ≡ Some b = slice_get-get_or rows u.place row.Void past in
      let p : IsMadeBefore t.place a = before t.place a at in
      let q : IsMadeBefore u.place b = before u.place b bt in
      let is : type_of_row types a ≡ type_of_row types b = sym (type_at rows t a at p) ∙ equals ∙ type_at rows u b bt q in
      let parts : (x y : TypeId) → x.place < t.place → y.place < u.place → type_in types x ≡ type_in types y → x.place ≡ y.place
      = λ x y l m e. one_place n x y (omega (arith, l, less)) (omega (arith, l, within)) (omega (arith, m, past)) e in
      let forth : (equal.eq-value).it a b ≡ true = same_rows types t.place u.place parts a b p q (ap (same (type_of_row types a)) (sym is) ∙ same_self (type_of_row types a)) in
      let back : (equal.eq-value).it b a ≡ true = same_rows types u.place t.place (λ x y l m e. sym (parts y x m l (sym e))) b a q p (ap (same (type_of_row types b)) is ∙ same_self (type_of_row types b)) in
      apart_or_same t.place u.place (λ l. rows_apart t.place u.place a b at bt l forth) (λ l. rows_apart u.place t.place b a bt at l back)

  are_once : AreOnce rows
  are_once = record { before = before; apart = λ t u within past equals. one_place (t.place + 1) t u (omega arith) within past equals }

-- ---- the rows of a table

all_before : (types : List CType) (n : ℕ) (ts : List TypeId) → length types ≡ n → AllStandIn types ts → AllBefore n ts
all_before types n [] e h = tt
all_before types n (t ∷ ts) e h = (omega (arith, e, h.0), all_before types n ts e h.1)

follows_before : (types : List CType) (n : ℕ) (r : TypeRow) → length types ≡ n → CanFollow types r → IsMadeBefore n r
follows_before types n row.Void e h = tt
follows_before types n (row.Num s) e h = tt
follows_before types n (row.Pointer t) e h = omega (arith, e, h)
follows_before types n (row.Array t k) e h = omega (arith, e, h)
follows_before types n (row.Struct k) e h = tt
follows_before types n (row.Function f) e h = (omega (arith, e, h.0), all_before types n f.parameters.items e h.1)
follows_before types n row.Floating e h = tt
follows_before types n (row.Qualified q t) e h = omega (arith, e, h.0)

made_before : (types : List CType) (es : List (TypeRow × RowFacts)) → AreRows types es → (n k : ℕ) (r : TypeRow) → n ≡ length types + k → slice_get (keys_of es) k ≡ Some r → IsMadeBefore n r
made_before types [] h n k r e at = absurd (true≢false (sym (ap is_some at)))
made_before types (x ∷ es) h n zero r e at = subst (IsMadeBefore n) (some_is at) (follows_before types n x.0 (omega (arith, e)) h.0)
made_before types (x ∷ es) h n (suc k) r e at = made_before (with_type types x.0) es h.2 n k r (omega (arith, e, length-with_type types x.0)) at

-- the rows of a table, each of which is there once
pub table_once : (es : List (TypeRow × RowFacts)) (rows : List TypeRow) → keys_of es ≡ rows → AreRows [] es → IsDistinct (equal.eq-value).it (keys_of es) → AreOnce rows
table_once es rows same known apart = subst AreOnce same (are_once (keys_of es) (λ k r at. made_before [] es known k k r (omega arith) at) apart)
