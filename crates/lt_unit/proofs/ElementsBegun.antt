-- Which of the parts that are left say how many elements were begun.
use Rattle.std.proofs.Common.{◌≡◌, ℕ, ◌/◌, List, [], ◌∷◌, ◌++◌, map, drop, Option, Some, None, refl, sym, ap, ◌∙◌}
use Rattle.lt_tree.specs.Typing.Types.{CType}
use Rattle.lt_tree.specs.Typing.TypeRows.{type_in}
use Rattle.lt_tree.specs.Typing.Extents.{size_of}
use Rattle.lt_tree.specs.Typing.Entities.{Known}
use Rattle.lt_tree.specs.Typing.Filling.{Run, elements_begun}
use Rattle.lt_table.specs.declared.structs.PlacedMember.{PlacedMember}
use Rattle.lt_unit.specs.declared.initialiser.left.Part.{Part}
use Rattle.lt_unit.specs.declared.initialiser.left.Behind.{Behind}
use Rattle.lt_unit.specs.declared.initialiser.left.Behind.TheVariants as behind
use Rattle.lt_unit.specs.declared.initialiser.left.Left.{Left}
use Rattle.lt_unit.specs.LeftParts.{run_of, member_run, count_of, runs_behind, endless, runs_of}
use Rattle.lt_unit.proofs.LeftLists.{one_more}

past_members : (types : List CType) (known : Known) (offset : ℕ) (members : List PlacedMember) (rest : List Run) → elements_begun known (map (member_run types offset) members ++ rest) ≡ elements_begun known rest
past_members types known offset [] rest = refl
past_members types known offset (m ∷ members) rest = past_members types known offset members rest

past : (types : List CType) (known : Known) (first : Part) (b : Behind) (rest : List Run) → endless (record { first = first; behind = b }) ≡ None
    → elements_begun known (run_of types first (count_of b) ∷ (runs_behind types b ++ rest)) ≡ elements_begun known rest
past types known first (behind.Alike None) rest e = absurd cc
past types known first (behind.Alike (Some n)) rest e = refl
past types known first (behind.Members offset members next) rest e = past_members types known offset (drop next members.value.items) rest

abbrev in_front : List CType → Known → Option Part → ℕ
in_front types known None = 0
in_front types known (Some p) = p.offset / size_of known.model known.structs (type_in types p.ty)

at : (types : List CType) (known : Known) (first begun : Part) (b : Behind) (rest : List Run) → endless (record { first = first; behind = b }) ≡ Some begun
    → begun.offset / size_of known.model known.structs (type_in types begun.ty) ≡ elements_begun known (run_of types first (count_of b) ∷ (runs_behind types b ++ rest))
at types known first begun (behind.Alike None) rest e = sym (ap (in_front types known) e)
at types known first begun (behind.Alike (Some n)) rest e = absurd cc
at types known first begun (behind.Members offset members next) rest e = absurd cc

-- objects that have an end say nothing
pub begun_behind : (types : List CType) (known : Known) (top : Left) (below all : List Left) → all ≡ below ++ top ∷ [] → endless top ≡ None
    → elements_begun known (runs_of types below) ≡ elements_begun known (runs_of types all)
begun_behind types known top below all is e =
    sym (past types known top.first top.behind (runs_of types below) e) ∙ ap (elements_begun known) (sym (one_more types below all top is))

-- objects without an end do
pub begun_here : (types : List CType) (known : Known) (top : Left) (below all : List Left) (first : Part) → all ≡ below ++ top ∷ [] → endless top ≡ Some first
    → first.offset / size_of known.model known.structs (type_in types first.ty) ≡ elements_begun known (runs_of types all)
begun_here types known top below all first is e =
    at types known top.first first top.behind (runs_of types below) e ∙ ap (elements_begun known) (sym (one_more types below all top is))
