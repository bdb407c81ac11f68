-- The objects that places and targets name have names, where these words are of their forms.
use Rattle.std.proofs.Common.{◌≡◌, refl, sym, subst, ℕ, Bool, true, false, List, [], ◌∷◌, Option, Some, None}
use Rattle.std.specs.Prelude.{◌*◌, ◌&&◌, if◌then◌else◌, map, IfSome}
use Rattle.std.specs.List.{AllByRecursion, list_all}
use Rattle.std.specs.Str.{bytes_eq}
use Rattle.std.proofs.lemmas.Slice.Eq.{bytes_eq-Decides}
use Rattle.lt_model.specs.declared.input.Place.{Place}
use Rattle.lt_tree.specs.Typing.Types.{CType, Array}
use Rattle.lt_tree.specs.Typing.Extents.{size_of}
use Rattle.lt_tree.specs.Typing.Programs.{Program}
use Rattle.lt_entry.specs.Written.{Numeral, value_of, is_object_name, Step, at_index, PlaceWord, is_place, is_step, TargetWord, to_null, to_place, is_target}
use Rattle.lt_entry.specs.Naming.{Root, whole, parts_at, Scope, roots, root_among, Named, named_part, named_in, named_by, is_pointed, is_past_end, if_all_pointed, past_elements, past_root, past_end, targets_of}
use Rattle.lt_entry.proofs.PieceLaws.{both}
use Rattle.lt_object_laws.specs.Laws.{HasName}
use Rattle.lt_named_inputs.proofs.Lists.{all_both, all_mapped, each_mapped}

-- the object has a name
abbrev pub RootNamed : Root → Type 0
RootNamed root = HasName root.name

-- so has that of the part
abbrev pub PartNamed : Named → Type 0
PartNamed it = HasName it.place.root

-- null, or in an object that has a name
abbrev pub TargetNamed : Option Place → Type 0
TargetNamed None = Unit {0}
TargetNamed (Some place) = HasName place.root

-- ---- names

name_there : (name : List ℕ) → is_object_name name ≡ true → HasName name
name_there [] h = absurd (cc)
name_there (b ∷ name) h = tt

place_there : (place : PlaceWord) → is_place place ≡ true → HasName place.name
place_there place h = name_there place.name (both (is_object_name place.name) (list_all is_step place.steps) h).0

-- ---- objects

root_named : (its : List Root) (name : List ℕ) → HasName name → IfSome (root_among its name) RootNamed
root_named [] name h = tt
root_named (root ∷ its) name h = by (bytes_eq root.name name) refl (root_named its name h)
  where
    by : (t : Bool) → bytes_eq root.name name ≡ t → IfSome (root_among its name) RootNamed → IfSome (if t then Some root else root_among its name) RootNamed
    by true e rest = subst HasName (sym ((bytes_eq-Decides root.name name).0 e)) h
    by false e rest = rest

-- ---- places

in_named : (program : Program) (steps : List Step) (root : Option Root) → IfSome root RootNamed → AllByRecursion PartNamed (named_in program steps root)
in_named program steps None h = tt
in_named program steps (Some root) h = each_mapped PartNamed (named_part root.name) (λ part. h) (parts_at program steps (whole root))

pub parts_named : (scope : Scope) (place : PlaceWord) → is_place place ≡ true → AllByRecursion PartNamed (named_by scope place)
parts_named scope place h = in_named scope.program place.steps (root_among (roots scope) place.name) (root_named (roots scope) place.name (place_there place h))

-- ---- targets

pointed_named : (pointed : CType) (its : List Named) → AllByRecursion PartNamed its → AllByRecursion TargetNamed (if_all_pointed pointed its)
pointed_named pointed its h = elim (list_all (λ (it : Named). is_pointed pointed it.type) its) as (λ b. AllByRecursion TargetNamed (if b then map (λ (it : Named). Some it.place) its else [])) [
  | true ↦ all_mapped PartNamed TargetNamed (λ (it : Named). Some it.place) (λ it one. one) its h
  | false ↦ tt
]

elements_named : (program : Program) (pointed : CType) (name : List ℕ) (index : Numeral) (t : CType) → HasName name → AllByRecursion TargetNamed (past_elements program pointed name index t)
elements_named program pointed name index (Array t count) h =
    let at : Place = record { root = name; offset = count * size_of program.model program.structs t } in
    elim (is_past_end count (value_of index) && is_pointed pointed t) as (λ b. AllByRecursion TargetNamed (if b then Some at ∷ [] else [])) [ true ↦ (h, tt) | false ↦ tt ]
elements_named program pointed name index _ h = tt

past_named : (program : Program) (pointed : CType) (root : Root) (steps : List Step) → RootNamed root → AllByRecursion TargetNamed (past_root program pointed root steps)
past_named program pointed root (at_index index ∷ []) h =
    let past = past_elements program pointed root.name index root.type in
    elim root.is_block as (λ b. AllByRecursion TargetNamed (if b then past else [])) [ true ↦ elements_named program pointed root.name index root.type h | false ↦ tt ]
past_named program pointed root _ h = tt

end_named : (program : Program) (pointed : CType) (steps : List Step) (root : Option Root) → IfSome root RootNamed → AllByRecursion TargetNamed (past_end program pointed steps root)
end_named program pointed steps None h = tt
end_named program pointed steps (Some root) h = past_named program pointed root steps h

pub targets_named : (scope : Scope) (pointed : CType) (target : TargetWord) → is_target target ≡ true → AllByRecursion TargetNamed (targets_of scope pointed target)
targets_named scope pointed to_null h = (tt, tt)
targets_named scope pointed (to_place place) h =
    let is = (both (is_place place) _ h).0 in
    all_both TargetNamed (if_all_pointed pointed (named_by scope place)) (past_end scope.program pointed place.steps (root_among (roots scope) place.name))
    (pointed_named pointed (named_by scope place) (parts_named scope place is))
    (end_named scope.program pointed place.steps (root_among (roots scope) place.name) (root_named (roots scope) place.name (place_there place is)))
