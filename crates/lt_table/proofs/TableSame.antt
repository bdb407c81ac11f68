-- Types are the same exactly where they are equal, and in a table exactly where they stand at one place.
use Rattle.std.proofs.Common.{◌≡◌, ℕ, zero, suc, ◌+◌, ◌<◌, ◌==◌, Bool, true, false, ◌&&◌, List, [], ◌∷◌, length, slice_get, get_or, Some, refl, sym, ap, ◌∙◌, arith, true≢false, rules, slice_index_or}
use Rattle.std.specs.Map.{keys_of}
use Rattle.std.specs.List.{IsDistinct}
use Rattle.std.specs.Cmp.Lexicographic.{pointwise}
use Rattle.std.specs.Option.{option_map}
use Rattle.std.proofs.lemmas.List.{length-map}
use Rattle.std.proofs.lemmas.Map.Keys.{apart_from_distinct}
use Rattle.std.proofs.lemmas.Option.{slice_get-get_or, slice_get-map, get_or_from_slice_get, slice_get_within}
use Rattle.std.proofs.lemmas.Bool.{eqb-true, eq-eqb}
use denote.Enum.Bare.{same_true, true_same}
use Rattle.lt_model.specs.contracts.scalar.Scalar.{the_type}
use Rattle.lt_tree.specs.declared.typed.types.TypeId.{TypeId}
use Rattle.lt_tree.specs.declared.typed.types.TypeRow.{TypeRow}
use Rattle.lt_tree.specs.declared.typed.types.TypeRow.TheVariants as row
use Rattle.lt_tree.specs.contracts.typed.types.TypeIdPartialEq.TheImpl as equal_id
use Rattle.lt_tree.specs.contracts.typed.types.TypeRowPartialEq.TheImpl as equal
use Rattle.lt_tree.specs.Typing.Types.{CType, CTypes, Void, Num, Pointer, Array, Struct, Function, Floating, Qualified, no_types, a_type, same, all_same, same_qualifiers, same_bool}
use Rattle.lt_tree.specs.Typing.TypeRows.{type_in, all_in, type_of_row, types_of_rows}
use Rattle.lt_table.specs.declared.table.kind.Kind.TheVariants as kind
use Rattle.lt_table.specs.declared.table.kind.RowFacts.{RowFacts}
use Rattle.lt_table.specs.TableRows.{StandsIn, AllStandIn, CanFollow, AreRows, Stays}
use Rattle.lt_table.proofs.TableMade.{stands_in}
use Rattle.lt_table.proofs.TableRows.{Stands, row_at, stands_type, continues_same, type_in-longer}

-- ---- types

and_left : (a b : Bool) → (a && b) ≡ true → a ≡ true
and_left true b h = refl
and_left false b h = absurd (true≢false (sym h))

and_right : (a b : Bool) → (a && b) ≡ true → b ≡ true
and_right true b h = h
and_right false b h = absurd (true≢false (sym h))

and_both : (a b : Bool) → a ≡ true → b ≡ true → (a && b) ≡ true
and_both a b p q = ap (λ x. x && b) p ∙ q

bool_exact : (a b : Bool) → same_bool a b ≡ true → a ≡ b
bool_exact true b h = sym h
bool_exact false true h = absurd (true≢false (sym h))
bool_exact false false h = refl

bool_self : (a : Bool) → same_bool a a ≡ true
bool_self true = refl
bool_self false = refl

quals_exact : (a b c d : Bool) → same_qualifiers (record { constant = a; volatile = b }) (record { constant = c; volatile = d }) ≡ true → (a ≡ c) × (b ≡ d)
quals_exact true true true true h = (refl, refl)
quals_exact true true true false h = absurd (true≢false (sym h))
quals_exact true true false true h = absurd (true≢false (sym h))
quals_exact true true false false h = absurd (true≢false (sym h))
quals_exact true false true true h = absurd (true≢false (sym h))
quals_exact true false true false h = (refl, refl)
quals_exact true false false true h = absurd (true≢false (sym h))
quals_exact true false false false h = absurd (true≢false (sym h))
quals_exact false true true true h = absurd (true≢false (sym h))
quals_exact false true true false h = absurd (true≢false (sym h))
quals_exact false true false true h = (refl, refl)
quals_exact false true false false h = absurd (true≢false (sym h))
quals_exact false false true true h = absurd (true≢false (sym h))
quals_exact false false true false h = absurd (true≢false (sym h))
quals_exact false false false true h = absurd (true≢false (sym h))
quals_exact false false false false h = (refl, refl)

quals_self : (a b : Bool) → same_qualifiers (record { constant = a; volatile = b }) (record { constant = a; volatile = b }) ≡ true
quals_self true true = refl
quals_self true false = refl
quals_self false true = refl
quals_self false false = refl

mutual
  pub same_exact : (x y : CType) → same x y ≡ true → x ≡ y
  same_exact Void Void h = refl
  same_exact (Num s) (Num r) h = ap Num (same_true the_type (search rules) s r h)
  same_exact (Pointer x) (Pointer y) h = ap Pointer (same_exact x y h)
  same_exact (Array x n) (Array y k) h =
      ap (λ a. Array a n) (same_exact x y (and_right (n == k) (same x y) h)) ∙ ap (Array y) (eqb-true n k (and_left (n == k) (same x y) h))
  same_exact (Struct j) (Struct k) h = ap Struct (eqb-true j k h)
  same_exact (Function x xs a) (Function y ys b) h =
      let first = and_left (same x y && all_same xs ys) (same_bool a b) h in
      ap (λ z. Function z xs a) (same_exact x y (and_left (same x y) (all_same xs ys) first))
      ∙ ap (λ zs. Function y zs a) (all_exact xs ys (and_right (same x y) (all_same xs ys) first))
      ∙ ap (Function y ys) (bool_exact a b (and_right (same x y && all_same xs ys) (same_bool a b) h))
  same_exact Floating Floating h = refl
  same_exact (Qualified p x) (Qualified q y) h =
      let e = quals_exact p.constant p.volatile q.constant q.volatile (and_left (same_qualifiers p q) (same x y) h) in
      ap (Qualified p) (same_exact x y (and_right (same_qualifiers p q) (same x y) h))
      ∙ ap (λ c. Qualified (record { constant = c; volatile = p.volatile }) y) e.0 ∙ ap (λ v. Qualified (record { constant = q.constant; volatile = v }) y) e.1
  same_exact x y h = absurd (true≢false (sym h))

  all_exact : (xs ys : CTypes) → all_same xs ys ≡ true → xs ≡ ys
  all_exact no_types no_types h = refl
  all_exact (a_type x xs) (a_type y ys) h =
      ap (λ z. a_type z xs) (same_exact x y (and_left (same x y) (all_same xs ys) h)) ∙ ap (a_type y) (all_exact xs ys (and_right (same x y) (all_same xs ys) h))
  all_exact xs ys h = absurd (true≢false (sym h))

mutual
  pub same_self : (x : CType) → same x x ≡ true
  same_self Void = refl
  same_self (Num s) = true_same the_type s s refl
  same_self (Pointer x) = same_self x
  same_self (Array x n) = and_both (n == n) (same x x) (eq-eqb n n refl) (same_self x)
  same_self (Struct k) = eq-eqb k k refl
  same_self (Function x xs a) = and_both (same x x && all_same xs xs) (same_bool a a) (and_both (same x x) (all_same xs xs) (same_self x) (all_self xs)) (bool_self a)
  same_self Floating = refl
  same_self (Qualified q x) = and_both (same_qualifiers q q) (same x x) (quals_self q.constant q.volatile) (same_self x)

  all_self : (xs : CTypes) → all_same xs xs ≡ true
  all_self no_types = refl
  all_self (a_type x xs) = and_both (same x x) (all_same xs xs) (same_self x) (all_self xs)

-- ---- rows

-- rows whose types are equal are equal, where that is known of the rows that they are made of
module _ (types front past : List CType) (known : (t u : TypeId) → StandsIn front t → StandsIn past u → type_in types t ≡ type_in types u → t.place ≡ u.place) where
  same_parts : (ts us : List TypeId) → AllStandIn front ts → AllStandIn past us → all_same (all_in types ts) (all_in types us) ≡ true
      → pointwise (equal_id.eq-value).it ts us ≡ true
  same_parts [] [] a b h = refl
  same_parts (t ∷ ts) (u ∷ us) a b h =
      let e : t.place ≡ u.place = known t u a.0 b.0 (same_exact (type_in types t) (type_in types u) (and_left (same (type_in types t) (type_in types u)) (all_same (all_in types ts) (all_in types us)) h)) in
      let rest : pointwise (equal_id.eq-value).it ts us ≡ true = same_parts ts us a.1 b.1 (and_right (same (type_in types t) (type_in types u)) (all_same (all_in types ts) (all_in types us)) h) in
      grind arith
  same_parts ts us a b h = absurd (true≢false (sym h))

  same_rows : (a b : TypeRow) → CanFollow front a → CanFollow past b → same (type_of_row types a) (type_of_row types b) ≡ true → (equal.eq-value).it a b ≡ true
  same_rows row.Void row.Void p q h = refl
  same_rows (row.Num s) (row.Num r) p q h = h
  same_rows (row.Pointer t) (row.Pointer u) p q h = let e : t.place ≡ u.place = known t u p q (same_exact (type_in types t) (type_in types u) h) in grind arith
  same_rows (row.Array t n) (row.Array u k) p q h =
      let e : t.place ≡ u.place = known t u p q (same_exact (type_in types t) (type_in types u) (and_right (n == k) (same (type_in types t) (type_in types u)) h)) in
      let f : n ≡ k = eqb-true n k (and_left (n == k) (same (type_in types t) (type_in types u)) h) in grind arith
  same_rows (row.Struct j) (row.Struct k) p q h = let e : j ≡ k = eqb-true j k h in grind arith
  same_rows (row.Function f) (row.Function g) p q h =
      let rest = same (type_in types f.result) (type_in types g.result) && all_same (all_in types f.parameters.items) (all_in types g.parameters.items) in
      let first : (same (type_in types f.result) (type_in types g.result) && all_same (all_in types f.parameters.items) (all_in types g.parameters.items)) ≡ true = and_left rest (same_bool f.dots g.dots) h in
      let e : f.result.place ≡ g.result.place = known f.result g.result p.0 q.0 (same_exact (type_in types f.result) (type_in types g.result) (and_left (same (type_in types f.result) (type_in types g.result)) (all_same (all_in types f.parameters.items) (all_in types g.parameters.items)) first)) in
      let l : pointwise (equal_id.eq-value).it f.parameters.items g.parameters.items ≡ true = same_parts f.parameters.items g.parameters.items p.1 q.1 (and_right (same (type_in types f.result) (type_in types g.result)) (all_same (all_in types f.parameters.items) (all_in types g.parameters.items)) first) in
      let d : f.dots ≡ g.dots = bool_exact f.dots g.dots (and_right rest (same_bool f.dots g.dots) h) in
      grind arith
  same_rows row.Floating row.Floating p q h = refl
  same_rows (row.Qualified a t) (row.Qualified b u) p q h =
      let e : t.place ≡ u.place = known t u p.0 q.0 (same_exact (type_in types t) (type_in types u) (and_right (same_qualifiers (record { constant = a.constant; volatile = a.volatile }) (record { constant = b.constant; volatile = b.volatile })) (same (type_in types t) (type_in types u)) h)) in
      let k = quals_exact a.constant a.volatile b.constant b.volatile (and_left (same_qualifiers (record { constant = a.constant; volatile = a.volatile }) (record { constant = b.constant; volatile = b.volatile })) (same (type_in types t) (type_in types u)) h) in
      let c : a.constant ≡ b.constant = k.0 in let v : a.volatile ≡ b.volatile = k.1 in grind arith
  same_rows a b p q h = absurd (true≢false (sym h))

-- ---- places

module _ (es : List (TypeRow × RowFacts)) (rows : List TypeRow) (is_rows : keys_of es ≡ rows) (known : AreRows [] es) (apart : IsDistinct (equal.eq-value).it (keys_of es)) where
  abbrev types : List CType
  types = types_of_rows rows

  abbrev spare : RowFacts
  spare = record { kind = kind.Void; element = record { place = 0 }; quals = record { constant = false; volatile = false }; count = 1; inner = kind.Void }

  there : (t : TypeId) → t.place < length rows → (e : TypeRow × RowFacts) × (slice_get es t.place ≡ Some e) × Stands types t.place e
  there t within =
      let inside : t.place < length es = omega (arith, within, sym (length-map es (λ x. x.0)), ap length is_rows) in
      let at = slice_get-get_or es t.place (row.Void, spare) inside in
      (get_or es t.place (row.Void, spare), at, row_at es rows t (get_or es t.place (row.Void, spare)) is_rows known at)

  key_at : (t : TypeId) (e : TypeRow × RowFacts) → slice_get es t.place ≡ Some e → get_or (keys_of es) t.place row.Void ≡ e.0
  key_at t e at = get_or_from_slice_get (keys_of es) t.place e.0 row.Void (slice_get-map (λ x. x.0) es t.place ∙ ap (option_map (λ x. x.0)) at)

  keys_apart : (t u : TypeId) (a b : TypeRow × RowFacts) → slice_get es t.place ≡ Some a → slice_get es u.place ≡ Some b → t.place < u.place → (equal.eq-value).it a.0 b.0 ≡ true → ⊥
  keys_apart t u a b at past less equals =
      let inside : u.place < length (keys_of es) = omega (arith, slice_get_within es u.place b past, length-map es (λ x. x.0)) in
      true≢false
      (sym equals ∙ ap (λ x. (equal.eq-value).it x b.0) (sym (key_at t a at)) ∙ ap ((equal.eq-value).it (get_or (keys_of es) t.place row.Void)) (sym (key_at u b past))
      ∙ apart_from_distinct (equal.eq-value).it (keys_of es) t.place u.place row.Void apart less inside)

  apart_or_same : (i j : ℕ) → (i < j → ⊥) → (j < i → ⊥) → i ≡ j
  apart_or_same i j p q = omega arith

  one_place : (n : ℕ) (t u : TypeId) → t.place < n → t.place < length rows → u.place < length rows → type_in types t ≡ type_in types u → t.place ≡ u.place
  one_place zero t u less within past equals = absurd (omega arith)
  one_place (suc n) t u less within past equals =
      let a = there t within in let b = there u past in
      let at = stands_type types t.place a.0 a.2 t refl types (continues_same types) in
      let bt = stands_type types u.place b.0 b.2 u refl types (continues_same types) in
      let rows_equal : type_of_row types a.0.0 ≡ type_of_row types b.0.0 = sym at ∙ equals ∙ bt in
      let parts : (x y : TypeId) → StandsIn a.2.front x → StandsIn b.2.front y → type_in types x ≡ type_in types y → x.place ≡ y.place
      = λ x y p q e. one_place n x y (omega (arith, p, a.2.place, less)) (omega (arith, p, a.2.place, within)) (omega (arith, q, b.2.place, past)) e in
      let forth = same_rows types a.2.front b.2.front parts a.0.0 b.0.0 a.2.follows b.2.follows (ap (same (type_of_row types a.0.0)) (sym rows_equal) ∙ same_self (type_of_row types a.0.0)) in
      let back = same_rows types b.2.front a.2.front (λ x y p q e. sym (parts y x q p (sym e))) b.0.0 a.0.0 b.2.follows a.2.follows (ap (same (type_of_row types b.0.0)) rows_equal ∙ same_self (type_of_row types b.0.0)) in
      apart_or_same t.place u.place (λ l. keys_apart t u a.0 b.0 a.1 b.1 l forth) (λ l. keys_apart u t b.0 a.0 b.1 a.1 l back)

  pub same_places : (t u : TypeId) → t.place < length rows → u.place < length rows → Stays rows (λ longer. (equal_id.eq-value).it t u ≡ same (type_in longer t) (type_in longer u))
  same_places t u within past longer more =
      sym (by ((equal_id.eq-value).it t u) refl)
      ∙ ap (λ x. same x (type_in types u)) (sym (type_in-longer types longer t more first)) ∙ ap (same (type_in longer t)) (sym (type_in-longer types longer u more second))
    where
      first : StandsIn types t
      first = stands_in rows t within

      second : StandsIn types u
      second = stands_in rows u past

      other : (c : Bool) → same (type_in types t) (type_in types u) ≡ c → (equal_id.eq-value).it t u ≡ false → same (type_in types t) (type_in types u) ≡ false
      other false h e = h
      other true h e =
          let place : t.place ≡ u.place = one_place (t.place + 1) t u (omega arith) within past (same_exact (type_in types t) (type_in types u) h) in
          let yes : (equal_id.eq-value).it t u ≡ true = grind arith in absurd (true≢false (sym yes ∙ e))

      by : (b : Bool) → (equal_id.eq-value).it t u ≡ b → same (type_in types t) (type_in types u) ≡ (equal_id.eq-value).it t u
      by true e =
          let place : t.place ≡ u.place = grind arith in
          ap (same (type_in types t)) (ap (λ k. slice_index_or types k Void) (sym place)) ∙ same_self (type_in types t) ∙ sym e
      by false e = other (same (type_in types t) (type_in types u)) refl e ∙ sym e
