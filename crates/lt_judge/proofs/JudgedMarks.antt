-- What marks make of their parts.
use Rattle.std.proofs.Common.{◌≡◌, ℕ, suc, ◌+◌, ◌<◌, Bool, List, [], ◌∷◌, ◌++◌, length, get_or, drop, refl, sym, ap, ◌∙◌, arith}
use Rattle.std.specs.Prelude.{◌&&◌, ◌||◌, map}
use Rattle.std.specs.Global.{Box}
use Rattle.std.specs.List.{zip, list_all}
use Rattle.std.specs.Str.{bytes_eq}
use Rattle.std.proofs.Math.Seq.{drop-cons}
use Rattle.std.proofs.Math.Bool.{and_assoc, and-true, or-false, or_comm}
use Rattle.std.proofs.lemmas.List.Folds.{list_any-append}
use Rattle.lt_tree.specs.View.{expression_of}
use Rattle.lt_tree.specs.declared.mark.Binding.{Binding}
use Rattle.lt_tree.specs.declared.typed.tree.Binding.{Binding as Held}
use Rattle.lt_tree.specs.Typing.Types.{CType}
use Rattle.lt_tree.specs.Typing.ValueView.{value_of, bindings_in}
use Rattle.lt_tree.specs.Typing.TypedTree as e
use Rattle.lt_tree.specs.Typing.TypedTree.{Value, Bindings}
use Rattle.lt_tree.specs.Typing.Expressions.{value_in}
use Rattle.lt_tree.specs.Typing.Operations.{is_among}
use Rattle.lt_tree.specs.Typing.MarkRules.{TypedBinding, bindings_of, names_of}
use Rattle.lt_env.specs.declared.typed.Typed.{Typed}
use Rattle.lt_env.specs.Views.{typed_in, bindings_with}

pub all_are : (a b c d a' b' c' d' r : Bool) → r ≡ (a && b && c && d) → a ≡ a' → b ≡ b' → c ≡ c' → d ≡ d' → r ≡ (a' && b' && c' && d')
all_are a b c d a' b' c' d' r e e1 e2 e3 e4 = rw (e, e1, e2, e3, e4)

-- ---- the names that a mark binds, with their expressions

abbrev pub bound_with : List CType → Binding × Box Typed → TypedBinding
bound_with types p = record { name = p.0.name; written = expression_of p.0.value; typed = typed_in types p.1 }

pub zipped : (types : List CType) (bs : List Binding) (xs : List (Box Typed)) → bindings_with types bs xs ≡ map (bound_with types) (zip bs xs)
zipped types [] xs = refl
zipped types (b ∷ bs) [] = refl
zipped types (b ∷ bs) (x ∷ xs) = ap (λ l. bound_with types (b, x) ∷ l) (zipped types bs xs)

map_both : {A B C : Type 0} (g : B → C) (f : A → B) (ps : List A) → map g (map f ps) ≡ map (λ p. g (f p)) ps
map_both g f [] = refl
map_both g f (p ∷ ps) = ap (λ l. g (f p) ∷ l) (map_both g f ps)

-- once all pairs were gone over
pub all_bound : {A : Type 0} (types : List CType) (pair : A → Binding × Box Typed) (ps : List A) (bs : List Binding) (xs : List (Box Typed)) → map pair ps ≡ zip bs xs
    → map (λ p. bound_with types (pair p)) ps ≡ bindings_with types bs xs
all_bound types pair ps bs xs e = sym (map_both (bound_with types) pair ps) ∙ ap (map (bound_with types)) e ∙ sym (zipped types bs xs)

pub all_names : {A : Type 0} (types : List CType) (pair : A → Binding × Box Typed) (ps : List A) (bs : List Binding) (xs : List (Box Typed)) → map pair ps ≡ zip bs xs
    → map (λ p. (pair p).0.name) ps ≡ names_of (bindings_with types bs xs)
all_names types pair ps bs xs e = sym (map_both (λ b. b.name) (λ p. bound_with types (pair p)) ps) ∙ ap names_of (all_bound types pair ps bs xs e)

-- each of those before is good, and this one
pub all_more : {A : Type 0} (test : TypedBinding → Bool) (f : A → TypedBinding) (ps : List A) (a : A) (before this after : Bool)
    → before ≡ list_all test (map f ps) → this ≡ test (f a) → after ≡ (before && this) → after ≡ list_all test (map f (ps ++ a ∷ []))
all_more test f [] a before this after e1 e2 e3 = rw (e3, e1, e2) (sym (and-true (test (f a))))
all_more test f (b ∷ ps) a before this after e1 e2 e3 =
    e3 ∙ rw (e1, e2) (and_assoc (test (f b)) (list_all test (map f ps)) (test (f a)))
    ∙ ap (λ rest. test (f b) && rest) (all_more test f ps a (list_all test (map f ps)) (test (f a)) (list_all test (map f ps) && test (f a)) refl refl refl)

pub map_more : {A B : Type 0} (f : A → B) (ps : List A) (a : A) → map f (ps ++ a ∷ []) ≡ map f ps ++ f a ∷ []
map_more f [] a = refl
map_more f (b ∷ ps) a = ap (λ l. f b ∷ l) (map_more f ps a)

-- ---- one binding behind others

abbrev pub with_binding : Bindings → List ℕ → Value → Bindings
with_binding e.no_bindings name v = e.a_binding name v e.no_bindings
with_binding (e.a_binding n w rest) name v = e.a_binding n w (with_binding rest name v)

bound_more : (bs : List TypedBinding) (b : TypedBinding) → bindings_of (bs ++ b ∷ []) ≡ with_binding (bindings_of bs) b.name (value_in b.typed)
bound_more [] b = refl
bound_more (c ∷ bs) b = ap (e.a_binding c.name (value_in c.typed)) (bound_more bs b)

held_more : (types : List CType) (hs : List Held) (h : Held) → bindings_in types (hs ++ h ∷ []) ≡ with_binding (bindings_in types hs) h.name (value_of types h.value.value)
held_more types [] h = refl
held_more types (g ∷ hs) h = ap (e.a_binding g.name (value_of types g.value.value)) (held_more types hs h)

pub one_more_bound : {A : Type 0} (types : List CType) (f : A → TypedBinding) (hs : List Held) (h : Held) (ps : List A) (a : A)
    → bindings_in types hs ≡ bindings_of (map f ps) → h.name ≡ (f a).name → value_of types h.value.value ≡ value_in (f a).typed
    → bindings_in types (hs ++ h ∷ []) ≡ bindings_of (map f (ps ++ a ∷ []))
one_more_bound types f hs h ps a before name value =
    held_more types hs h ∙ ap (λ l. with_binding l h.name (value_of types h.value.value)) before
    ∙ ap (λ n. with_binding (bindings_of (map f ps)) n (value_of types h.value.value)) name ∙ ap (with_binding (bindings_of (map f ps)) (f a).name) value
    ∙ sym (bound_more (map f ps) (f a)) ∙ ap bindings_of (sym (map_more f ps a))

-- ---- new names

among_more : (n : List ℕ) (names : List (List ℕ)) (name : List ℕ) → is_among n (names ++ name ∷ []) ≡ (is_among n names || bytes_eq n name)
among_more n names name = list_any-append (bytes_eq n) names (name ∷ []) ∙ ap (λ b. is_among n names || b) (or-false (bytes_eq n name))

-- the names that were seen are those that come later
pub among_later : (n : List ℕ) (seen rest : List (List ℕ)) (name : List ℕ) → is_among n seen ≡ is_among n rest → is_among n (seen ++ name ∷ []) ≡ is_among n (name ∷ rest)
among_later n seen rest name same = among_more n seen name ∙ ap (λ b. b || bytes_eq n name) same ∙ or_comm (is_among n rest) (bytes_eq n name)

pub dropped : (names : List (List ℕ)) (left : ℕ) (name d : List ℕ) → left < length names → name ≡ get_or names left d → drop left names ≡ name ∷ drop (left + 1) names
dropped names left name d within is =
    let next : suc left ≡ left + 1 = omega arith in
    drop-cons names left d within ∙ ap (λ n. n ∷ drop (suc left) names) (sym is) ∙ ap (λ k. name ∷ drop k names) next
