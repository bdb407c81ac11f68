-- Lists of what is left to be filled.
use Rattle.std.proofs.Common.{◌≡◌, ℕ, zero, suc, ◌+◌, List, [], ◌∷◌, ◌++◌, length, map, drop, slice_get, Some, None, refl, sym, ap, ◌∙◌, append_assoc, arith}
use Rattle.lt_tree.specs.Typing.Types.{CType}
use Rattle.lt_tree.specs.Typing.TypeRows.{type_in}
use Rattle.lt_tree.specs.Typing.Extents.{Placed, placed_members}
use Rattle.lt_tree.specs.Typing.Entities.{Known}
use Rattle.lt_tree.specs.Typing.Filling.{Run, one_object}
use Rattle.lt_tree.specs.Typing.Filling as typing
use Rattle.lt_table.specs.declared.structs.PlacedMember.{PlacedMember}
use Rattle.lt_table.specs.StructTables.{pairs_in}
use Rattle.lt_table.specs.TypesValue.{TypesValue, structs_at}
use Rattle.lt_unit.specs.declared.initialiser.left.Left.{Left}
use Rattle.lt_unit.specs.LeftParts.{Knows, member_run, runs_in, runs_of, begins_with_characters}

-- ---- the elements from one on

none_from : {X : Type 0} (xs : List X) (n : ℕ) → slice_get xs n ≡ None → drop n xs ≡ []
none_from [] zero e = refl
none_from [] (suc n) e = refl
none_from (x ∷ xs) zero e = absurd cc
none_from (x ∷ xs) (suc n) e = none_from xs n e

some_from : {X : Type 0} (xs : List X) (n : ℕ) (x : X) → slice_get xs n ≡ Some x → drop n xs ≡ x ∷ drop (n + 1) xs
some_from [] n x e = absurd cc
some_from (y ∷ xs) zero x e = cc
some_from (y ∷ xs) (suc n) x e =
    let more : suc (n + 1) ≡ suc n + 1 = omega arith in
    some_from xs n x e ∙ ap (λ k. x ∷ drop k (y ∷ xs)) more

pub no_members : (types : List CType) (offset : ℕ) (members : List PlacedMember) (n : ℕ) → slice_get members n ≡ None → [] ≡ map (member_run types offset) (drop n members)
no_members types offset members n e = ap (map (member_run types offset)) (sym (none_from members n e))

pub its_members : (types : List CType) (offset : ℕ) (members : List PlacedMember) (n : ℕ) (m : PlacedMember) (begin next : ℕ) → slice_get members n ≡ Some m → begin ≡ offset + m.offset → next ≡ n + 1
    → one_object begin (type_in types m.ty) ∷ map (member_run types offset) (drop next members) ≡ map (member_run types offset) (drop n members)
its_members types offset members n m begin next e b f =
    ap (λ o. one_object o (type_in types m.ty) ∷ map (member_run types offset) (drop next members)) b
    ∙ ap (λ k. member_run types offset m ∷ map (member_run types offset) (drop k members)) f
    ∙ ap (map (member_run types offset)) (sym (some_from members n m e))

-- ---- the last first

pushed : (types : List CType) (ls : List Left) (l : Left) → runs_of types (ls ++ l ∷ []) ≡ runs_in types l ++ runs_of types ls
pushed types [] l = sym (all_of (runs_in types l))
  where
    all_of : (runs : List Run) → runs ++ [] ≡ runs
    all_of [] = refl
    all_of (r ∷ runs) = ap (λ x. r ∷ x) (all_of runs)
pushed types (m ∷ ls) l = ap (λ runs. runs ++ runs_in types m) (pushed types ls l) ∙ append_assoc (runs_in types l) (runs_of types ls) (runs_in types m)

pub one_more : (types : List CType) (old new : List Left) (l : Left) → new ≡ old ++ l ∷ [] → runs_of types new ≡ runs_in types l ++ runs_of types old
one_more types old new l e = ap (runs_of types) e ∙ pushed types old l

-- ---- members of structs

abbrev paired : ℕ → CType × ℕ → Run
paired offset pair = one_object (offset + pair.1) pair.0

placed_runs : (offset : ℕ) (placed : List Placed) → map (typing.member_run offset) placed ≡ map (paired offset) (pairs_in placed)
placed_runs offset [] = refl
placed_runs offset (p ∷ placed) = ap (λ l. typing.member_run offset p ∷ l) (placed_runs offset placed)

held_runs : (types : List CType) (offset : ℕ) (members : List PlacedMember) → map (member_run types offset) members ≡ map (paired offset) (map (λ m. (type_in types m.ty, m.offset)) members)
held_runs types offset [] = refl
held_runs types offset (m ∷ members) = ap (λ l. member_run types offset m ∷ l) (held_runs types offset members)

pub none_placed : (offset : ℕ) (placed : List Placed) → [] ≡ pairs_in placed → [] ≡ map (typing.member_run offset) placed
none_placed offset placed e = ap (map (paired offset)) e ∙ sym (placed_runs offset placed)

pub same_placed : (types : List CType) (offset : ℕ) (members : List PlacedMember) (placed : List Placed) → map (λ m. (type_in types m.ty, m.offset)) members ≡ pairs_in placed
    → map (member_run types offset) members ≡ map (typing.member_run offset) placed
same_placed types offset members placed e = held_runs types offset members ∙ ap (map (paired offset)) e ∙ sym (placed_runs offset placed)

-- the same members of a struct, of whatever is known
pub known_placed : (offset number : ℕ) {known : Known} {types : List CType} {value : TypesValue} → Knows known types value
    → map (typing.member_run offset) (placed_members value.model (structs_at types value) number) ≡ map (typing.member_run offset) (placed_members known.model known.structs number)
known_placed offset number {known} {types} {value} k =
    ap (λ m. map (typing.member_run offset) (placed_members m (structs_at types value) number)) (sym k.model)
    ∙ ap (λ s. map (typing.member_run offset) (placed_members known.model s number)) (sym k.structs)

-- ---- the part in front

some_before : (xs : List Run) (r : Run) (rs : List Run) → xs ++ r ∷ rs ≡ [] → ⊥
some_before [] r rs e = absurd cc
some_before (x ∷ xs) r rs e = absurd cc

front_kept : (xs ys : List Run) → (xs ≡ [] → ⊥) → begins_with_characters (xs ++ ys) ≡ begins_with_characters xs
front_kept [] ys n = absurd (n refl)
front_kept (x ∷ xs) ys n = refl

not_nothing : (types : List CType) (ls : List Left) → (length ls ≡ 0 → ⊥) → runs_of types ls ≡ [] → ⊥
not_nothing types [] n e = n refl
not_nothing types (l ∷ ls) n e = some_before (runs_of types ls) _ _ e

-- it isn't changed by what stands behind
pub front_alone : (types : List CType) (ls : List Left) (runs : List Run) → (length ls ≡ 0 → ⊥) → begins_with_characters (runs_of types ls ++ runs) ≡ begins_with_characters (runs_of types ls)
front_alone types ls runs n = front_kept (runs_of types ls) runs (not_nothing types ls n)

pub nothing : (types : List CType) (ls : List Left) → length ls ≡ 0 → runs_of types ls ≡ []
nothing types [] e = refl
nothing types (l ∷ ls) e = absurd cc

pub all_runs : (runs : List Run) → runs ++ [] ≡ runs
all_runs [] = refl
all_runs (r ∷ runs) = ap (λ l. r ∷ l) (all_runs runs)
