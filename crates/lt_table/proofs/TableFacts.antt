-- What is known of a row that goes last.
use Rattle.std.proofs.Common.{◌≡◌, ℕ, ◌*◌, ◌^◌, min, ◌<◌, false, List, [], ◌∷◌, length, IfSome, Option, Some, None, refl, sym, ap, subst, ◌∙◌, arith, true≢false}
use Rattle.lt_model.specs.declared.ctype.Quals.{Quals}
use Rattle.lt_tree.specs.declared.typed.types.TypeId.{TypeId}
use Rattle.lt_tree.specs.declared.typed.types.TypeRow.{TypeRow}
use Rattle.lt_tree.specs.declared.typed.types.TypeRow.TheVariants as row
use Rattle.lt_tree.specs.View as view
use Rattle.lt_tree.specs.Typing.Types.{CType, Array, Function, Qualified, element, qualifiers_of, is_array, is_function}
use Rattle.lt_tree.specs.Typing.TypeRows.{type_in, type_of_row, types_of_rows, Continues}
use Rattle.lt_table.specs.declared.table.kind.Kind.{Kind}
use Rattle.lt_table.specs.declared.table.kind.Kind.TheVariants as kind
use Rattle.lt_table.specs.declared.table.kind.RowFacts.{RowFacts}
use Rattle.lt_tree.specs.Typing.Extents.{elements}
use Rattle.lt_table.specs.TableElements.{IsMadeOf}
use Rattle.lt_table.specs.TableKinds.{kind_part, kind_is_array, HasElements, IsOfKind}
use Rattle.lt_table.specs.TableRows.{StandsIn, TakesQualifiers, CanFollow, with_type, AreFactsOf, AreFactsAt}
use Rattle.lt_table.proofs.TableElements.{one-mul, count_array, made_array, made_qualified}
use Rattle.lt_table.proofs.TableRows.{continues_same, type_in-longer, type_in-last, length-with_type, length-types_behind}

-- the kind of a row without qualifiers
abbrev pub plain_kind : TypeRow → Kind
plain_kind (row.Num s) = kind.Num s
plain_kind (row.Pointer t) = kind.Pointer t
plain_kind (row.Array t n) = kind.Array t n
plain_kind (row.Struct k) = kind.Struct k
plain_kind (row.Function f) = kind.Function
plain_kind row.Floating = kind.Floating
plain_kind _ = kind.Void

-- neither an array nor a type with qualifiers
abbrev pub IsPlain : TypeRow → Type 0
IsPlain (row.Array t n) = ⊥
IsPlain (row.Qualified q t) = ⊥
IsPlain _ = Unit {0}

abbrev pub own : Kind → TypeId → RowFacts
own k t = record { kind = k; element = t; quals = record { constant = false; volatile = false }; count = 1; inner = k }

of_kind : (types : List CType) (r : TypeRow) → IsPlain r → IsOfKind types (plain_kind r) (type_of_row types r)
of_kind types row.Void plain = record { scalar = refl; target = refl; struct_number = refl; void = refl; integer = refl; pointer = refl; struct_type = refl; array = refl; function = refl; floating = refl; elements = tt }
of_kind types (row.Num s) plain = record { scalar = refl; target = refl; struct_number = refl; void = refl; integer = refl; pointer = refl; struct_type = refl; array = refl; function = refl; floating = refl; elements = tt }
of_kind types (row.Pointer t) plain = record { scalar = refl; target = refl; struct_number = refl; void = refl; integer = refl; pointer = refl; struct_type = refl; array = refl; function = refl; floating = refl; elements = tt }
of_kind types (row.Struct k) plain = record { scalar = refl; target = refl; struct_number = refl; void = refl; integer = refl; pointer = refl; struct_type = refl; array = refl; function = refl; floating = refl; elements = tt }
of_kind types (row.Function f) plain = record { scalar = refl; target = refl; struct_number = refl; void = refl; integer = refl; pointer = refl; struct_type = refl; array = refl; function = refl; floating = refl; elements = tt }
of_kind types row.Floating plain = record { scalar = refl; target = refl; struct_number = refl; void = refl; integer = refl; pointer = refl; struct_type = refl; array = refl; function = refl; floating = refl; elements = tt }
of_kind types (row.Array t n) plain = absurd plain
of_kind types (row.Qualified q t) plain = absurd plain

own_element : (types : List CType) (r : TypeRow) → IsPlain r → element (type_of_row types r) ≡ type_of_row types r
own_element types row.Void plain = refl
own_element types (row.Num s) plain = refl
own_element types (row.Pointer t) plain = refl
own_element types (row.Struct k) plain = refl
own_element types (row.Function f) plain = refl
own_element types row.Floating plain = refl
own_element types (row.Array t n) plain = absurd plain
own_element types (row.Qualified q t) plain = absurd plain

own_quals : (types : List CType) (r : TypeRow) → IsPlain r → qualifiers_of (type_of_row types r) ≡ record { constant = false; volatile = false }
own_quals types row.Void plain = refl
own_quals types (row.Num s) plain = refl
own_quals types (row.Pointer t) plain = refl
own_quals types (row.Struct k) plain = refl
own_quals types (row.Function f) plain = refl
own_quals types row.Floating plain = refl
own_quals types (row.Array t n) plain = absurd plain
own_quals types (row.Qualified q t) plain = absurd plain

own_part : (types : List CType) (r : TypeRow) → IsPlain r → CanFollow types r → IfSome (kind_part (plain_kind r)) (StandsIn types)
own_part types row.Void plain follows = tt
own_part types (row.Num s) plain follows = tt
own_part types (row.Struct k) plain follows = tt
own_part types (row.Function f) plain follows = tt
own_part types row.Floating plain follows = tt
own_part types (row.Pointer t) plain follows = follows
own_part types (row.Array t n) plain follows = absurd plain
own_part types (row.Qualified q t) plain follows = absurd plain

own_count : (types : List CType) (r : TypeRow) → IsPlain r → 1 ≡ min (elements (type_of_row types r)) (2 ^ 64)
own_count types row.Void plain = refl
own_count types (row.Num s) plain = refl
own_count types (row.Pointer t) plain = refl
own_count types (row.Struct k) plain = refl
own_count types (row.Function f) plain = refl
own_count types row.Floating plain = refl
own_count types (row.Array t n) plain = absurd plain
own_count types (row.Qualified q t) plain = absurd plain

own_made : (types : List CType) (r : TypeRow) → IsPlain r → IsMadeOf (plain_kind r) false (type_of_row types r)
own_made types row.Void plain = record { complete = λ structs. refl; incomplete = λ structs. refl; floating = refl; cells = λ known. refl; extent = λ m known. refl; parts = λ known. refl }
own_made types (row.Num s) plain = record { complete = λ structs. refl; incomplete = λ structs. refl; floating = refl; cells = λ known. refl; extent = λ m known. refl; parts = λ known. refl }
own_made types (row.Pointer t) plain = record { complete = λ structs. refl; incomplete = λ structs. refl; floating = refl; cells = λ known. refl; extent = λ m known. refl; parts = λ known. refl }
own_made types (row.Struct k) plain = record { complete = λ structs. refl; incomplete = λ structs. refl; floating = refl; cells = λ known. sym (one-mul (known k)); extent = λ m known. refl; parts = λ known. refl }
own_made types (row.Function f) plain = record { complete = λ structs. refl; incomplete = λ structs. refl; floating = refl; cells = λ known. refl; extent = λ m known. refl; parts = λ known. refl }
own_made types row.Floating plain = record { complete = λ structs. refl; incomplete = λ structs. refl; floating = refl; cells = λ known. refl; extent = λ m known. refl; parts = λ known. refl }
own_made types (row.Array t n) plain = absurd plain
own_made types (row.Qualified q t) plain = absurd plain

module _ (rows : List TypeRow) (r : TypeRow) (t : TypeId) (last : t.place ≡ length rows) (follows : CanFollow (types_of_rows rows) r) where
  last_place : t.place ≡ length (types_of_rows rows)
  last_place = omega (arith, last, length-types_behind [] rows)

  last_stands : (s : TypeRow) → StandsIn (with_type (types_of_rows rows) s) t
  last_stands s = omega (arith, last_place, length-with_type (types_of_rows rows) s)

  pub facts_own : (s : TypeRow) → r ≡ s → IsPlain s → (facts : RowFacts) → facts ≡ own (plain_kind s) t → AreFactsOf (types_of_rows rows) r facts
  facts_own s is plain facts are =
      subst (λ x. AreFactsOf (types_of_rows rows) x facts) (sym is) (subst (AreFactsOf (types_of_rows rows) s) (sym are) (record {
        element_stands = last_stands s;
        element = type_in-last (types_of_rows rows) s t last_place ∙ sym (own_element (types_of_rows rows) s plain);
        quals = own_quals (types_of_rows rows) s plain;
        part_stands = own_part (types_of_rows rows) s plain (subst (CanFollow (types_of_rows rows)) is follows);
        kind = of_kind (types_of_rows rows) s plain;
        count = own_count (types_of_rows rows) s plain;
        made = own_made (types_of_rows rows) s plain;
      }))

  pub facts_array : (u : TypeId) (n : ℕ) (f : RowFacts) → r ≡ row.Array u n → AreFactsAt rows u f
      → (count : ℕ) → count ≡ min (min f.count (2 ^ 64) * n) (2 ^ 64)
      → AreFactsOf (types_of_rows rows) r (record { kind = kind.Array u n; element = f.element; quals = f.quals; count = count; inner = f.inner })
  facts_array u n f is known count counted =
      let types = types_of_rows rows in
      let more : Continues types (with_type types (row.Array u n)) = (type_of_row types (row.Array u n) ∷ [], refl) in
      let stands : StandsIn types u = subst (CanFollow types) is follows in
      subst (λ x. AreFactsOf types x (record { kind = kind.Array u n; element = f.element; quals = f.quals; count = count; inner = f.inner })) (sym is) (record {
        element_stands = omega (arith, known.element_within, length-types_behind [] rows, length-with_type types (row.Array u n));
        element = known.element (with_type types (row.Array u n)) more ∙ ap element (type_in-longer types (with_type types (row.Array u n)) u more stands);
        quals = known.quals types (continues_same types);
        part_stands = stands;
        kind = record { scalar = refl; target = refl; struct_number = refl; void = refl; integer = refl; pointer = refl; struct_type = refl; array = refl; function = refl; floating = refl; elements = refl };
        count = counted ∙ count_array f.count n (elements (type_in types u)) (known.count types (continues_same types));
        made = made_array f.inner f.quals.constant (type_in types u) n (known.made types (continues_same types));
      })

pub array_within : (rows : List TypeRow) (r : TypeRow) (t : TypeId) (n : ℕ) → r ≡ row.Array t n → CanFollow (types_of_rows rows) r → t.place < length rows
array_within rows r t n is follows =
    let within : StandsIn (types_of_rows rows) t = subst (CanFollow (types_of_rows rows)) is follows in
    omega (arith, within, length-types_behind [] rows)

pub qualified_within : (rows : List TypeRow) (r : TypeRow) (q : Quals) (t : TypeId) → r ≡ row.Qualified q t → CanFollow (types_of_rows rows) r → t.place < length rows
qualified_within rows r q t is follows =
    let kept : CanFollow (types_of_rows rows) (row.Qualified q t) = subst (CanFollow (types_of_rows rows)) is follows in
    omega (arith, kept.0, length-types_behind [] rows)

no_array : (x : CType) → TakesQualifiers x → is_array x ≡ false
no_array (Array x n) takes = absurd takes
no_array x takes = refl

no_function : (x : CType) → TakesQualifiers x → is_function x ≡ false
no_function (Function x xs dots) takes = absurd takes
no_function x takes = refl

no_elements : (types : List CType) (k : Kind) (x : CType) → kind_is_array k ≡ false → HasElements types k x
no_elements types (kind.Array e n) x not = absurd (true≢false not)
no_elements types k x not = tt

part_stands : (rows : List TypeRow) (o : Option TypeId) → IfSome o (λ u. u.place < length rows) → IfSome o (StandsIn (types_of_rows rows))
part_stands rows None h = tt
part_stands rows (Some u) h = omega (arith, h, length-types_behind [] rows)

pub facts_qualified : (rows : List TypeRow) (r : TypeRow) (t : TypeId) → t.place ≡ length rows → CanFollow (types_of_rows rows) r
    → (q : Quals) (u : TypeId) (f : RowFacts) → r ≡ row.Qualified q u → AreFactsAt rows u f
    → AreFactsOf (types_of_rows rows) r (record { kind = f.kind; element = t; quals = q; count = 1; inner = f.inner })
facts_qualified rows r t last follows q u f is known =
    subst (λ x. AreFactsOf types x (record { kind = f.kind; element = t; quals = q; count = 1; inner = f.inner })) (sym is) (record {
      element_stands = last_stands rows (row.Qualified q u) t last kept (row.Qualified q u);
      element = type_in-last types (row.Qualified q u) t (last_place rows (row.Qualified q u) t last kept);
      quals = refl;
      part_stands = part_stands rows (kind_part f.kind) known.part_within;
      kind = record {
        scalar = h.scalar;
        target = h.target;
        struct_number = h.struct_number;
        void = h.void;
        integer = h.integer;
        pointer = h.pointer;
        struct_type = h.struct_type;
        array = sym not_array ∙ h.array;
        function = sym (no_function (type_in types u) kept.1) ∙ h.function;
        floating = h.floating;
        elements = no_elements types f.kind (Qualified (view.qualifiers_of q) (type_in types u)) (sym h.array ∙ not_array);
      };
      count = refl;
      made = made_qualified f.inner f.quals.constant (view.qualifiers_of q) (type_in types u) kept.1 (ap (λ x. x.constant) (known.quals types (continues_same types))) (known.made types (continues_same types));
    })
  where
    types : List CType
    types = types_of_rows rows

    kept : CanFollow types (row.Qualified q u)
    kept = subst (CanFollow types) is follows

    h : IsOfKind types f.kind (type_in types u)
    h = known.kind types (continues_same types)

    not_array : is_array (type_in types u) ≡ false
    not_array = no_array (type_in types u) kept.1
