-- What loops over marks and over the names that they bind have found.
use Rattle.std.proofs.Common.{◌≡◌, ℕ, ◌<◌, List, [], ◌∷◌, ◌++◌, length, get_or, refl, sym, ap, ◌∙◌, arith}
use Rattle.std.specs.Global.{Box}
use Rattle.lt_tree.specs.declared.mark.Binding.{Binding}
use Rattle.lt_tree.specs.declared.typed.tree.Mark.{Mark}
use Rattle.lt_tree.specs.View.{expression_of}
use Rattle.lt_tree.specs.Typing.Types.{CType}
use Rattle.lt_tree.specs.Typing.TypedTree as e
use Rattle.lt_tree.specs.Typing.ValueView.{mark_of, marks_in}
use Rattle.lt_tree.specs.Typing.MarkRules.{TypedBinding}
use Rattle.lt_env.specs.declared.typed.Typed.{Typed}
use Rattle.lt_env.specs.Views.{typed_in, bindings_with}
use Rattle.lt_type.proofs.Turns.{before}

pub nothing_bound : (types : List CType) (list : List Binding) → bindings_with types list [] ≡ []
nothing_bound types [] = refl
nothing_bound types (b ∷ list) = refl

abbrev pub bound_to : List CType → Binding → Box Typed → TypedBinding
bound_to types b x = record { name = b.name; written = expression_of b.value; typed = typed_in types x }

bound_next : (types : List CType) (list : List Binding) (all : List (Box Typed)) (x : Box Typed) (b : Binding) (rest : List TypedBinding) → length all < length list → b ≡ get_or list (length all) b
    → bindings_with types list (all ++ x ∷ []) ++ rest ≡ bindings_with types list all ++ bound_to types b x ∷ rest
bound_next types [] all x b rest within is = absurd (omega arith)
bound_next types (c ∷ list) [] x b rest within is = ap (λ l. bound_to types c x ∷ (l ++ rest)) (nothing_bound types list) ∙ ap (λ d. bound_to types d x ∷ rest) (sym is)
bound_next types (c ∷ list) (y ∷ all) x b rest within is = ap (λ l. bound_to types c y ∷ l) (bound_next types list all x b rest (omega arith) is)

pub bound_more : (types : List CType) (list : List Binding) (old new : List (Box Typed)) (x : Box Typed) (i : ℕ) (b : Binding) (rest : List TypedBinding)
    → new ≡ old ++ x ∷ [] → length old ≡ i → i < length list → b ≡ get_or list i b
    → bindings_with types list new ++ rest ≡ bindings_with types list old ++ bound_to types b x ∷ rest
bound_more types list old new x i b rest e f within is =
    ap (λ l. bindings_with types list l ++ rest) e ∙ bound_next types list old x b rest (omega arith) (is ∙ ap (λ n. get_or list n b) (sym f))

all_names : {A : Type 0} (xs : List A) → xs ++ [] ≡ xs
all_names [] = refl
all_names (x ∷ xs) = ap (λ l. x ∷ l) (all_names xs)

pub all_bound : (types : List CType) (list : List Binding) (all : List (Box Typed)) → bindings_with types list all ++ [] ≡ bindings_with types list all
all_bound types list all = all_names (bindings_with types list all)

abbrev pub mark_before : List CType → Mark → e.Marks → e.Marks
mark_before types m rest = e.a_mark (mark_of types m) rest

pub all_marks : (types : List CType) (all : List Mark) → before (mark_before types) all e.no_marks ≡ marks_in types all
all_marks types [] = refl
all_marks types (m ∷ all) = ap (e.a_mark (mark_of types m)) (all_marks types all)
