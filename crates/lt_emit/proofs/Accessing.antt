-- Pieces of code at accesses of a type, by whether it is a struct and whether footprints are tracked.
use Rattle.std.proofs.Common.{◌≡◌, ℕ, ◌≤◌, Bool, true, false, refl, sym, subst, List, [], length, get_or, Some, slice_get, arith, inl, inr}
use Rattle.std.proofs.lemmas.Option.{slice_get-get_or, slice_get_within}
use Rattle.lt_model.specs.declared.cell.Shape.{Shape}
use Rattle.lt_model.specs.declared.cell.CellType.{CellType}
use Rattle.lt_tree.specs.Typing.Types.{CType, is_struct}
use Rattle.lt_ir.specs.declared.node.Access.{Access}
use Rattle.lt_ir.specs.declared.node.Access.TheVariants as access
use Rattle.lt_ir.specs.declared.node.Parts.{Parts}
use Rattle.lt_ir.specs.declared.node.Parts.TheVariants.{Read, Target}
use Rattle.lt_ir.specs.declared.node.Node.TheVariants as node
use Rattle.lt_code.specs.Pieces.{when, either, one}
use Rattle.lt_code.specs.Code.{Site, clash, with_access, target, reads, assigned, struct_copied, scalar_stored}
use Rattle.lt_code.specs.Code.{IsAccessTo}
use Rattle.lt_emit.specs.declared.builder.Builder.{Builder}
use Rattle.lt_emit.specs.Emission.{Grows, counts_at}
use Rattle.lt_emit.specs.Accesses.{IsThere}
use Rattle.lt_emit.proofs.Sound.{access_more}
use Rattle.lt_emit.proofs.Emitted.{below_or_not, are_more}

-- something that is done with an access, where footprints are tracked
accessed :
    (s : Site) (t : CType) (it : Access) (parts : Access → Parts) (tracks : Bool) (from to : ℕ)
    → IsAccessTo (is_struct t) s t it
    → when tracks (one s.stands (node.Clash (parts it))) from to
    → when tracks (with_access s t parts) from to
accessed s t it parts true from to is code = (it, is, code)
accessed s t it parts false from to is code = code

pub target_is :
    (s : Site) (t : CType) (it : Access) (r from to : ℕ) → IsAccessTo (is_struct t) s t it
    → clash s (Target r it) from to → target s t r from to
target_is s t it r from to is code = accessed s t it (Target r) s.tracks from to is code

-- the kind of a type's access
struct_reads :
    (s : Site) (t : CType) (k r from to : ℕ) (is_a_struct : Bool) → is_struct t ≡ is_a_struct
    → IsAccessTo is_a_struct s t (access.Struct k)
    → clash s (Read r (access.Struct k)) from to
    → when is_a_struct (when s.tracks (with_access s t (Read r))) from to
struct_reads s t k r from to true known is code =
    let Is : Bool → Type 0 = λ b. IsAccessTo b s t (access.Struct k) in
    accessed s t (access.Struct k) (Read r) s.tracks from to (subst Is (sym known) is) code
struct_reads s t k r from to false known is code = absurd (cc)

pub struct_is_read :
    (s : Site) (t : CType) (k r from to : ℕ) → IsAccessTo (is_struct t) s t (access.Struct k)
    → clash s (Read r (access.Struct k)) from to → reads s t r from to
struct_is_read s t k r from to is code = struct_reads s t k r from to (is_struct t) refl is code

scalar_reads :
    (s : Site) (t : CType) (ty : CellType) (r at : ℕ) (is_a_struct : Bool) → IsAccessTo is_a_struct s t (access.Scalar ty)
    → when is_a_struct (when s.tracks (with_access s t (Read r))) at at
scalar_reads s t ty r at true is = absurd (is)
scalar_reads s t ty r at false is = refl

pub scalar_is_read :
    (s : Site) (t : CType) (ty : CellType) (r at : ℕ) → IsAccessTo (is_struct t) s t (access.Scalar ty)
    → reads s t r at at
scalar_is_read s t ty r at is = scalar_reads s t ty r at (is_struct t) is

struct_goes :
    (s : Site) (t : CType) (k place value from to : ℕ) (is_a_struct : Bool)
    → IsAccessTo is_a_struct s t (access.Struct k)
    → s.stands from (node.Copy place value k s.tracks to)
    → either is_a_struct (struct_copied s t place value) (scalar_stored s t place value value) from to
struct_goes s t k place value from to true is code = (k, is, code)
struct_goes s t k place value from to false is code = absurd (cc)

pub struct_is_assigned :
    (s : Site) (t : CType) (k place value from to : ℕ) → IsAccessTo (is_struct t) s t (access.Struct k)
    → s.stands from (node.Copy place value k s.tracks to) → assigned s t place value from to
struct_is_assigned s t k place value from to is code = struct_goes s t k place value from to (is_struct t) is code

scalar_goes :
    (s : Site) (t : CType) (ty : CellType) (place value from to : ℕ) (is_a_struct : Bool)
    → IsAccessTo is_a_struct s t (access.Scalar ty)
    → s.stands from (node.Store place value value ty s.tracks to)
    → either is_a_struct (struct_copied s t place value) (scalar_stored s t place value value) from to
scalar_goes s t ty place value from to true is code = absurd (is)
scalar_goes s t ty place value from to false is code =
    let Is : Access → Type 0 = λ it. stored_as it in subst Is is code
  where
    stored_as : Access → Type 0
    stored_as (access.Scalar ty) = s.stands from (node.Store place value value ty s.tracks to)
    stored_as (access.Struct k) = ⊥

pub scalar_is_assigned :
    (s : Site) (t : CType) (ty : CellType) (place value from to : ℕ) → IsAccessTo (is_struct t) s t (access.Scalar ty)
    → s.stands from (node.Store place value value ty s.tracks to) → assigned s t place value from to
scalar_is_assigned s t ty place value from to is code = scalar_goes s t ty place value from to (is_struct t) is code

-- no fewer shapes are there
structs_longer : (xs ys : List Shape) → ((k : ℕ) (it : Shape) → slice_get xs k ≡ Some it → slice_get ys k ≡ Some it)
    → length xs ≤ length ys
structs_longer xs ys kept = elim (below_or_not (length ys) (length xs)) [
  | inr le ↦ le
  | inl lt ↦
      let none : Shape = record { cells = []; size = 0 } in
      let there = kept (length ys) (get_or xs (length ys) none) (slice_get-get_or xs (length ys) none lt) in
      absurd (omega (arith, slice_get_within ys (length ys) _ there))
]

-- what is there stays
pub there_still : {a b : Builder} (it : Access) → Grows a b → IsThere a it → IsThere b it
there_still {a} {b} it g there =
    access_more (counts_at a) (counts_at b)
    (are_more a b g.same g.longer (structs_longer a.structs.items b.structs.items g.structs) g.registers) it there
