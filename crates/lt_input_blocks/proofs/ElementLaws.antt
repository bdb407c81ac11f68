-- What is asked of types behind pointers, and the types that lines name.
use Rattle.std.proofs.Common.{◌≡◌, ℕ, zero, suc, true, false, nat_eq, List, Option, Some, Bor, refl, sym, ap, ◌∙◌, subst, arith}
use Rattle.std.proofs.lemmas.Bool.Decides.{nat_tests}
use Rattle.std.specs.Prelude.{option_map}
use Rattle.lt_tree.specs.declared.typed.program.Program.{Program}
use Rattle.lt_tree.specs.Typing.Types.{CType}
use Rattle.lt_tree.specs.Typing.Extents.{Structs}
use Rattle.lt_tree.specs.Typing.ProgramView.{program_of}
use Rattle.lt_entry.specs.TypeNames.{type_named}
use Rattle.lt_input_names.specs.declared.block.ElementType.{ElementType}
use Rattle.lt_input_names.specs.Blocks.{pointers, element_of, program_types}
use Rattle.lt_input_blocks.specs.Elements.{IsAsked}

not_one : (n : ℕ) → nat_eq (suc (suc n)) 1 ≡ false
not_one n = grind (arith, nat_tests)

pub deep_asked : (structs : Structs) (n : ℕ) (t : CType) → (n ≡ 0 → ⊥) → (n ≡ 1 → ⊥) → IsAsked structs (pointers n t) (record { has_size = true; is_pointer_to_function = nat_eq n 1; cells = 1 })
deep_asked structs zero t p q = absurd (p refl)
deep_asked structs (suc zero) t p q = absurd (q refl)
deep_asked structs (suc (suc n)) t p q = record { sized = refl; pointer = not_one n; cells = refl }

pub named_law : (p q : Bor Program) (o : Option ElementType) (e : ElementType) (words : List (List ℕ)) → q ≡ p → o ≡ Some e → option_map (element_of (program_types q.now)) o ≡ type_named (program_of q.now).file words
    → type_named (program_of p.now).file words ≡ Some (element_of (program_types p.now) e)
named_law p q o e words same is named =
    subst (λ (x : Bor Program). type_named (program_of x.now).file words ≡ Some (element_of (program_types x.now) e)) same (sym named ∙ ap (option_map (element_of (program_types q.now))) is)
