-- Tables of types that go on from others.
use Rattle.std.proofs.Common.{◌≡◌, ◌+◌, ◌<◌, List, [], ◌∷◌, ◌++◌, length, slice_index_or, refl, sym, ap, ◌∙◌, arith, length-append}
use Rattle.std.proofs.lemmas.List.{append_assoc, append-nil, get_or_append_left}
use Rattle.std.proofs.Math.Seq.{get_or-append_seam}
use Rattle.lt_tree.specs.declared.typed.types.TypeId.{TypeId}
use Rattle.lt_tree.specs.declared.typed.types.TypeRow.{TypeRow}
use Rattle.lt_tree.specs.Typing.Types.{CType, Void}
use Rattle.lt_tree.specs.Typing.TypeRows.{type_in, type_of_row, types_behind, Continues}

abbrev pub with_type : List CType → TypeRow → List CType
with_type types row = types ++ type_of_row types row ∷ []

pub continues_same : (types : List CType) → Continues types types
continues_same types = ([], sym (append-nil types))

pub continues_through : (a b c : List CType) → Continues a b → Continues b c → Continues a c
continues_through a b c p q = (p.0 ++ q.0, q.1 ∙ ap (λ l. l ++ q.0) p.1 ∙ append_assoc a p.0 q.0)

pub continues_behind : (types : List CType) (rows : List TypeRow) → Continues types (types_behind types rows)
continues_behind types [] = continues_same types
continues_behind types (r ∷ rows) = continues_through types (with_type types r) _ (type_of_row types r ∷ [], refl) (continues_behind (with_type types r) rows)

pub types_behind-last : (types : List CType) (rows : List TypeRow) (row : TypeRow) → types_behind types (rows ++ row ∷ []) ≡ with_type (types_behind types rows) row
types_behind-last types [] row = refl
types_behind-last types (r ∷ rows) row = types_behind-last (with_type types r) rows row

pub length-with_type : (types : List CType) (row : TypeRow) → length (with_type types row) ≡ length types + 1
length-with_type types row = length-append types (type_of_row types row ∷ [])

pub length-types_behind : (types : List CType) (rows : List TypeRow) → length (types_behind types rows) ≡ length types + length rows
length-types_behind types [] = omega arith
length-types_behind types (r ∷ rows) = omega (arith, length-types_behind (with_type types r) rows, length-with_type types r)

-- ---- a type stays

pub type_in-longer : (types longer : List CType) (t : TypeId) → Continues types longer → t.place < length types → type_in longer t ≡ type_in types t
type_in-longer types longer t more within = ap (λ l. slice_index_or l t.place Void) more.1 ∙ get_or_append_left types more.0 Void t.place within

-- the type that stands last
pub type_in-last : (types : List CType) (row : TypeRow) (t : TypeId) → t.place ≡ length types → type_in (with_type types row) t ≡ type_of_row types row
type_in-last types row t last = ap (λ k. slice_index_or (with_type types row) k Void) last ∙ get_or-append_seam types (type_of_row types row) [] Void
