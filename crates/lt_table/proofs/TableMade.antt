-- The types that are made of others.
use Rattle.std.proofs.Common.{◌≡◌, ℕ, ◌+◌, ◌<◌, true, zero, suc, List, [], ◌∷◌, ◌++◌, length, take, get_or, refl, sym, ap, subst, arith, true≢false}
use Rattle.lt_tree.specs.Tree.{Qualifiers}
use Rattle.lt_tree.specs.declared.typed.types.TypeId.{TypeId}
use Rattle.lt_tree.specs.declared.typed.types.TypeRow.{TypeRow}
use Rattle.lt_tree.specs.Typing.Types.{CType, Pointer, Array, Function, qualified, adjusted, is_function}
use Rattle.lt_tree.specs.Typing.TypeRows.{types_of_rows}
use Rattle.lt_table.specs.TableRows.{StandsIn, AllStandIn, Grows, arrays}
use Rattle.lt_table.proofs.TableRows.{continues_through, length-types_behind}

pub stands_in : (rows : List TypeRow) (t : TypeId) → t.place < length rows → StandsIn (types_of_rows rows) t
stands_in rows t within = omega (arith, within, length-types_behind [] rows)

pub within_rows : (rows : List TypeRow) (t : TypeId) → StandsIn (types_of_rows rows) t → t.place < length rows
within_rows rows t stands = omega (arith, stands, length-types_behind [] rows)

all_stand_suc : (types : List CType) (ts : List TypeId) (k : ℕ) (d : TypeId) → AllStandIn types (take k ts) → StandsIn types (get_or ts k d) → AllStandIn types (take (suc k) ts)
all_stand_suc types [] k d all stands = tt
all_stand_suc types (t ∷ ts) zero d all stands = (stands, tt)
all_stand_suc types (t ∷ ts) (suc k) d all stands = (all.0, all_stand_suc types ts k d all.1 stands)

pub all_stand_more : (types : List CType) (ts : List TypeId) (k : ℕ) (d : TypeId) → AllStandIn types (take k ts) → StandsIn types (get_or ts k d) → AllStandIn types (take (k + 1) ts)
all_stand_more types ts k d all stands = let e : suc k ≡ k + 1 = omega arith in subst (λ n. AllStandIn types (take n ts)) e (all_stand_suc types ts k d all stands)

-- ---- qualifiers

pub arrays-last : (ns : List ℕ) (n : ℕ) (x : CType) → arrays (ns ++ n ∷ []) x ≡ arrays ns (Array x n)
arrays-last [] n x = refl
arrays-last (m ∷ ns) n x = ap (λ a. Array a m) (arrays-last ns n x)

pub qualified_arrays : (q : Qualifiers) (ns : List ℕ) (x : CType) → qualified q (arrays ns x) ≡ arrays ns (qualified q x)
qualified_arrays q [] x = refl
qualified_arrays q (n ∷ ns) x = ap (λ a. Array a n) (qualified_arrays q ns x)

pub grows_through : (a b c : List TypeRow) → Grows a b → Grows b c → Grows a c
grows_through a b c p q = continues_through (types_of_rows a) (types_of_rows b) (types_of_rows c) p q

-- ---- parameters

pub adjusted_function : (x : CType) → is_function x ≡ true → adjusted x ≡ Pointer x
adjusted_function (Function x xs dots) is = refl
adjusted_function x is = absurd (true≢false (sym is))
