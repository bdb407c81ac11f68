-- Rows that stand once, with a row that wasn't there.
use Rattle.std.proofs.Common.{◌≡◌, ℕ, zero, suc, ◌+◌, ◌<◌, ◌≤◌, ◌^◌, Bool, true, false, cond, ◌||◌, List, [], ◌∷◌, ◌++◌, length, slice_get, Some, None, is_some, unwrap_or, refl, sym, ap, subst, ◌∙◌, arith, true≢false, ◌⊎◌, inl, inr, append_assoc}
use Rattle.std.specs.List.{list_any}
use Rattle.std.proofs.lemmas.Bool.{eqb-true}
use Rattle.std.proofs.lemmas.List.{length-append}
use Rattle.indexmap.specs.IndexSet.{insert_key}
use Rattle.lt_tree.specs.declared.typed.types.TypeId.{TypeId}
use Rattle.lt_tree.specs.declared.typed.types.TypeRow.{TypeRow}
use Rattle.lt_tree.specs.declared.typed.types.TypeRow.TheVariants as row
use Rattle.lt_tree.specs.contracts.typed.types.TypeRowPartialEq.TheImpl as equal
use Rattle.lt_tree.specs.Typing.Types.{CType, same}
use Rattle.lt_tree.specs.Typing.TypeRows.{type_in, type_of_row, types_of_rows}
use Rattle.lt_table.specs.TableRows.{CanFollow, Grows, Stays}
use Rattle.lt_table.specs.RowsOnce.{AllBefore, IsMadeBefore, AreOnce}
use Rattle.lt_table.proofs.RowsOnce.{type_at}
use Rattle.lt_table.proofs.TableEqual.{equal_types}
use Rattle.lt_table.proofs.TableRows.{continues_same, type_in-longer, type_in-last, types_behind-last, length-types_behind, last_grows, row_longer, length-continues}
use Rattle.lt_table.proofs.TableSame.{same_exact, same_self}
use Rattle.lt_tables.specs.SimpleRows.{IsSimple, CanBeFound}

abbrev equals : TypeRow → TypeRow → Bool
equals = (equal.eq-value).it

none_some : {A : Type 0} {a : A} → None ≡ Some a → ⊥
none_some p = true≢false (sym (ap is_some p))

some_is : {A : Type 0} {x y : A} → Some x ≡ Some y → x ≡ y
some_is {A} {x} e = ap (λ r. unwrap_or r x) e

size_of_types : (rows : List TypeRow) → length (types_of_rows rows) ≡ length rows
size_of_types rows = let e : length (types_of_rows rows) ≡ 0 + length rows = length-types_behind [] rows in omega (arith, e)

-- ---- rows by their places

first_at : (ks rest : List TypeRow) (j : ℕ) (k : TypeRow) → slice_get ks j ≡ Some k → slice_get (ks ++ rest) j ≡ Some k
first_at [] rest zero k at = absurd (none_some at)
first_at [] rest (suc j) k at = absurd (none_some at)
first_at (x ∷ ks) rest zero k at = at
first_at (x ∷ ks) rest (suc j) k at = first_at ks rest j k at

middle_at : (ks rest : List TypeRow) (r : TypeRow) → slice_get (ks ++ r ∷ rest) (length ks) ≡ Some r
middle_at [] rest r = refl
middle_at (x ∷ ks) rest r = middle_at ks rest r

first_back : (ks rest : List TypeRow) (j : ℕ) (k : TypeRow) → j < length ks → slice_get (ks ++ rest) j ≡ Some k → slice_get ks j ≡ Some k
first_back [] rest j k less at = absurd (omega (arith, less))
first_back (x ∷ ks) rest zero k less at = at
first_back (x ∷ ks) rest (suc j) k less at = first_back ks rest j k (omega (arith, less)) at

there : (ks : List TypeRow) (j : ℕ) → j < length ks → (k : TypeRow) × (slice_get ks j ≡ Some k)
there [] j less = absurd (omega (arith, less))
there (x ∷ ks) zero less = (x, refl)
there (x ∷ ks) (suc j) less = there ks j (omega (arith, less))

within_of : (ks : List TypeRow) (j : ℕ) (k : TypeRow) → slice_get ks j ≡ Some k → j < length ks
within_of [] zero k at = absurd (none_some at)
within_of [] (suc j) k at = absurd (none_some at)
within_of (x ∷ ks) zero k at = omega arith
within_of (x ∷ ks) (suc j) k at = let h = within_of ks j k at in omega (arith, h)

or_true : (a : Bool) → (a || true) ≡ true
or_true true = refl
or_true false = refl

any_at : (test : TypeRow → Bool) (ks : List TypeRow) (j : ℕ) (k : TypeRow) → slice_get ks j ≡ Some k → test k ≡ true → list_any test ks ≡ true
any_at test [] zero k at h = absurd (none_some at)
any_at test [] (suc j) k at h = absurd (none_some at)
any_at test (x ∷ ks) zero k at h = ap (λ y. test y || list_any test ks) (some_is at) ∙ ap (λ b. b || list_any test ks) h
any_at test (x ∷ ks) (suc j) k at h = ap (λ b. test x || b) (any_at test ks j k at h) ∙ or_true (test x)

at_any : (test : TypeRow → Bool) (ks : List TypeRow) → list_any test ks ≡ true → (j : ℕ) × (k : TypeRow) × (slice_get ks j ≡ Some k) × (test k ≡ true)
at_any test [] h = absurd (true≢false (sym h))
at_any test (x ∷ ks) h = by (test x) refl (λ e. at_any test ks (sym (ap (λ b. b || list_any test ks) e) ∙ h))
  where
    by : (b : Bool) → test x ≡ b → (test x ≡ false → (j : ℕ) × (k : TypeRow) × (slice_get ks j ≡ Some k) × (test k ≡ true))
        → (j : ℕ) × (k : TypeRow) × (slice_get (x ∷ ks) j ≡ Some k) × (test k ≡ true)
    by true e rest = (0, x, refl, e)
    by false e rest = let it = rest e in (suc it.0, it.1, it.2, it.3)

-- ---- a simple row that has the type of another is equal to it

module _ (types : List CType) (n : ℕ) (known : (t u : TypeId) → t.place < n → u.place < n → type_in types t ≡ type_in types u → t.place ≡ u.place) where
  equal_rows : (a b : TypeRow) → IsSimple n a → IsMadeBefore n b → same (type_of_row types a) (type_of_row types b) ≡ true → equals a b ≡ true
  equal_rows (row.Num s) (row.Num r) p q h = h
  equal_rows (row.Pointer t) (row.Pointer u) p q h = let e : t.place ≡ u.place = known t u p q (same_exact (type_in types t) (type_in types u) h) in grind arith
  equal_rows (row.Struct j) (row.Struct k) p q h = let e : j ≡ k = eqb-true j k h in grind arith
  equal_rows row.Floating row.Floating p q h = refl
  equal_rows row.Void b p q h = absurd p
  equal_rows (row.Array t k) b p q h = absurd p
  equal_rows (row.Function f) b p q h = absurd p
  equal_rows (row.Qualified k t) b p q h = absurd p
  equal_rows a b p q h = absurd (true≢false (sym h))

before_more : (n m : ℕ) (r : TypeRow) → n ≤ m → IsSimple n r → IsSimple m r
before_more n m (row.Num s) le h = tt
before_more n m (row.Pointer t) le h = omega (arith, le, h)
before_more n m (row.Struct k) le h = tt
before_more n m row.Floating le h = tt
before_more n m row.Void le h = absurd h
before_more n m (row.Array t k) le h = absurd h
before_more n m (row.Function f) le h = absurd h
before_more n m (row.Qualified k t) le h = absurd h

made_before : (n : ℕ) (r : TypeRow) → IsSimple n r → IsMadeBefore n r
made_before n (row.Num s) h = tt
made_before n (row.Pointer t) h = h
made_before n (row.Struct k) h = tt
made_before n row.Floating h = tt
made_before n row.Void h = absurd h
made_before n (row.Array t k) h = absurd h
made_before n (row.Function f) h = absurd h
made_before n (row.Qualified k t) h = absurd h

can_follow : (types : List CType) (n : ℕ) (r : TypeRow) → n ≡ length types → IsSimple n r → CanFollow types r
can_follow types n (row.Num s) e h = tt
can_follow types n (row.Pointer t) e h = omega (arith, e, h)
can_follow types n (row.Struct k) e h = tt
can_follow types n row.Floating e h = tt
can_follow types n row.Void e h = absurd h
can_follow types n (row.Array t k) e h = absurd h
can_follow types n (row.Function f) e h = absurd h
can_follow types n (row.Qualified k t) e h = absurd h

-- ---- with one more row

module _ (rows : List TypeRow) (once : AreOnce rows) (r : TypeRow) (simple : IsSimple (length rows) r) (new : list_any (equals r) rows ≡ false) where
  abbrev longer : List TypeRow
  longer = rows ++ r ∷ []

  abbrev old_types : List CType
  old_types = types_of_rows rows

  size_longer : length longer ≡ length rows + 1
  size_longer = length-append rows (r ∷ [])

  old_type : (t : TypeId) → t.place < length rows → type_in (types_of_rows longer) t ≡ type_in old_types t
  old_type t less = let e = size_of_types rows in type_in-longer old_types (types_of_rows longer) t (last_grows rows r) (omega (arith, e, less))

  new_type : (t : TypeId) → t.place ≡ length rows → type_in (types_of_rows longer) t ≡ type_of_row old_types r
  new_type t is = let e = size_of_types rows in ap (λ ts. type_in ts t) (types_behind-last [] rows r) ∙ type_in-last old_types r t (omega (arith, e, is))

  never : (t : TypeId) → t.place < length rows → type_in old_types t ≡ type_of_row old_types r → ⊥
  never t less is =
      let it = there rows t.place less in
      let made = once.before t.place it.0 it.1 in
      let types_same : type_of_row old_types r ≡ type_of_row old_types it.0 = sym is ∙ type_at rows t it.0 it.1 made in
      let known : (a b : TypeId) → a.place < length rows → b.place < length rows → type_in old_types a ≡ type_in old_types b → a.place ≡ b.place = once.apart in
      let found = equal_rows old_types (length rows) known r it.0 simple (before_all it.0 t.place less made) (ap (same (type_of_row old_types r)) (sym types_same) ∙ same_self (type_of_row old_types r)) in
      true≢false (sym (any_at (equals r) rows t.place it.0 it.1 found) ∙ new)
    where
      before_ids : (ids : List TypeId) (n m : ℕ) → n ≤ m → AllBefore n ids → AllBefore m ids
      before_ids [] n m le h = tt
      before_ids (t ∷ ids) n m le h = (omega (arith, le, h.0), before_ids ids n m le h.1)

      before_all : (b : TypeRow) (n : ℕ) → n < length rows → IsMadeBefore n b → IsMadeBefore (length rows) b
      before_all row.Void n less h = tt
      before_all (row.Num s) n less h = tt
      before_all (row.Pointer u) n less h = omega (arith, less, h)
      before_all (row.Array u k) n less h = omega (arith, less, h)
      before_all (row.Struct k) n less h = tt
      before_all (row.Function f) n less h = (omega (arith, less, h.0), before_ids f.parameters.items n (length rows) (omega (arith, less)) h.1)
      before_all row.Floating n less h = tt
      before_all (row.Qualified q u) n less h = omega (arith, less, h)

  less_or_last : (k : ℕ) → k < length longer → (k < length rows) ⊎ (k ≡ length rows)
  less_or_last k less = let e = size_longer in grind arith

  before_last : (k : ℕ) (s : TypeRow) → slice_get longer k ≡ Some s → IsMadeBefore k s
  before_last k s at = elim (less_or_last k (within_of longer k s at)) [
    | inl less ↦ once.before k s (first_back rows (r ∷ []) k s less at)
    | inr last ↦
        let is : r ≡ s = some_is (sym (middle_at rows [] r) ∙ ap (slice_get longer) (sym last) ∙ at) in
        subst (λ n. IsMadeBefore n s) (sym last) (subst (IsMadeBefore (length rows)) is (made_before (length rows) r simple))
  ]

  apart_last : (t u : TypeId) → t.place < length longer → u.place < length longer → type_in (types_of_rows longer) t ≡ type_in (types_of_rows longer) u → t.place ≡ u.place
  apart_last t u a b is = elim (less_or_last t.place a) [
    | inl t_less ↦ elim (less_or_last u.place b) [
      | inl u_less ↦ once.apart t u t_less u_less (sym (old_type t t_less) ∙ is ∙ old_type u u_less)
      | inr u_last ↦ absurd (never t t_less (sym (old_type t t_less) ∙ is ∙ new_type u u_last))
    ]
    | inr t_last ↦ elim (less_or_last u.place b) [
      | inl u_less ↦ absurd (never u u_less (sym (old_type u u_less) ∙ sym is ∙ new_type t t_last))
      | inr u_last ↦ t_last ∙ sym u_last
    ]
  ]

  once_more : AreOnce longer
  once_more = record { before = before_last; apart = apart_last }

-- ---- a row that goes last where it isn't there yet

module _ (rows : List TypeRow) (known : CanBeFound rows) (r : TypeRow) (simple : IsSimple (length rows) r) (fits : length rows + 1 < 2 ^ 32) where
  put_by : (b : Bool) → list_any (equals r) rows ≡ b → CanBeFound (cond b rows (rows ++ r ∷ [])) × Grows rows (cond b rows (rows ++ r ∷ []))
  put_by true e = (known, continues_same (types_of_rows rows))
  put_by false e = let size : length (rows ++ r ∷ []) ≡ length rows + 1 = length-append rows (r ∷ []) in
      (record { once = once_more rows known.once r simple e; few = omega (arith, size, fits) }, last_grows rows r)

  put_both : (new : List TypeRow) → new ≡ insert_key equals rows r → CanBeFound new × Grows rows new
  put_both new is = subst (λ l. CanBeFound l × Grows rows l) (sym is) (put_by (list_any (equals r) rows) refl)

  pub put_found : (new : List TypeRow) → new ≡ insert_key equals rows r → CanBeFound new
  put_found new is = (put_both new is).0

  pub put_grows : (new : List TypeRow) → new ≡ insert_key equals rows r → Grows rows new
  put_grows new is = (put_both new is).1

  pub put_made : (new : List TypeRow) (id : TypeId) (k : TypeRow) → new ≡ insert_key equals rows r → slice_get new id.place ≡ Some k → equals r k ≡ true
      → Stays new (λ types. type_in types id ≡ type_of_row types r)
  put_made new id k is at e longer more =
      let types = types_of_rows new in
      let size = size_of_types new in
      let old_size = size_of_types rows in
      let grown : length (types_of_rows rows) ≤ length types = length-continues (types_of_rows rows) types (put_grows new is) in
      let here : id.place < length types = let h = within_of new id.place k at in omega (arith, size, h) in
      let follows = can_follow types (length types) r refl (before_more (length rows) (length types) r (omega (arith, old_size, grown)) simple) in
      type_in-longer types longer id more here ∙ type_at new id k at ((put_found new is).once.before id.place k at) ∙ sym (equal_types r k e types) ∙ sym (row_longer types longer r more follows)

-- ---- rows that stand once, taken over one by one

pub row_taken : (all keys rest new : List TypeRow) (r : TypeRow) → AreOnce all → keys ++ r ∷ rest ≡ all → new ≡ insert_key equals keys r → new ++ rest ≡ all
row_taken all keys rest new r once is put = ap (λ l. l ++ rest) put ∙ by (list_any (equals r) keys) refl
  where
    at_key : (j : ℕ) (k : TypeRow) → slice_get keys j ≡ Some k → slice_get all j ≡ Some k
    at_key j k at = ap (λ l. slice_get l j) (sym is) ∙ first_at keys (r ∷ rest) j k at

    at_row : slice_get all (length keys) ≡ Some r
    at_row = ap (λ l. slice_get l (length keys)) (sym is) ∙ middle_at keys rest r

    twice : (j : ℕ) (k : TypeRow) → slice_get keys j ≡ Some k → equals r k ≡ true → ⊥
    twice j k at e =
        let types = types_of_rows all in
        let t : TypeId = record { place = j } in
        let u : TypeId = record { place = length keys } in
        let same_type : type_in types t ≡ type_in types u =
        type_at all t k (at_key j k at) (once.before j k (at_key j k at)) ∙ sym (equal_types r k e types) ∙ sym (type_at all u r at_row (once.before (length keys) r at_row)) in
        let place : j ≡ length keys = once.apart t u (within_of all j k (at_key j k at)) (within_of all (length keys) r at_row) same_type in
        let less = within_of keys j k at in
        absurd (omega (arith, place, less))

    by : (b : Bool) → list_any (equals r) keys ≡ b → cond b keys (keys ++ r ∷ []) ++ rest ≡ all
    by true e = let found = at_any (equals r) keys e in absurd (twice found.0 found.1 found.2 found.3)
    by false e = append_assoc keys (r ∷ []) rest ∙ is
