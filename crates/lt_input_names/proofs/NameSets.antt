-- Sets of names, and whether functions have a name.
use Rattle.std.proofs.Common.{◌≡◌, ℕ, ◌+◌, ◌<◌, Bool, true, false, cond, List, [], ◌∷◌, length, take, get_or, map, Option, Some, None, refl, ap, ◌∙◌}
use Rattle.std.specs.Prelude.{◌||◌, is_some, option_map}
use Rattle.std.specs.List.{list_any}
use Rattle.std.specs.Borrow.{Bor}
use Rattle.std.specs.HashSet.{HashSet, contains_by}
use Rattle.std.specs.Str.{bytes_eq}
use Rattle.std.proofs.lemmas.List.Folds.{list_any-append}
use Rattle.lt_tree.specs.declared.typed.entity.Function as memory
use Rattle.lt_model.specs.declared.scalar.Scalar.{Scalar}
use Rattle.lt_tree.specs.Typing.Entities as k
use Rattle.lt_tree.specs.Typing.Programs.{Program}
use Rattle.lt_tree.specs.Typing.Types.{CType}
use Rattle.lt_tree.specs.Typing.EntityView.{function_of}
use Rattle.lt_meaning.specs.Runs.{function_among, stops}
use Rattle.lt_entry.specs.Conditions.{stub_of, integer_result}
use Rattle.lt_input_names.specs.Stubs.{has_name}
use Rattle.lt_input_names.proofs.Lists.{one_more}

or_false : (a : Bool) → (a || false) ≡ a
or_false true = refl
or_false false = refl

or_true : (a : Bool) → (a || true) ≡ true
or_true true = refl
or_true false = refl

or_comm : (a b : Bool) → (a || b) ≡ (b || a)
or_comm true b = rw (or_true b) refl
or_comm false b = rw (or_false b) refl

-- whether any does so far
pub any_more : {A : Type 0} (p : A → Bool) (xs : List A) (i : ℕ) (x : A) → i < length xs → x ≡ get_or xs i x → list_any p (take (i + 1) xs) ≡ (p x || list_any p (take i xs))
any_more p xs i x h is =
    ap (list_any p) (one_more xs i x h is) ∙ list_any-append p (take i xs) (x ∷ []) ∙ ap (λ t. list_any p (take i xs) || t) (or_false (p x)) ∙ or_comm (list_any p (take i xs)) (p x)

or_cond : (t u : Bool) → cond t true u ≡ (t || u)
or_cond true u = refl
or_cond false u = refl

abbrev pub same_name : Bor (List ℕ) → Bor (List ℕ) → Bool
same_name q key = bytes_eq q.now key.now

pub has_name_more : {S : Type 0} (old new : HashSet (Bor (List ℕ)) S) (name : Bor (List ℕ)) (bytes : List ℕ) → name.now ≡ bytes → ((q : Bor (List ℕ)) → contains_by (same_name q) new ≡ cond (bytes_eq name.now q.now) true (contains_by (same_name q) old)) → (other : List ℕ) → has_name new other ≡ (bytes_eq bytes other || has_name old other)
has_name_more old new name bytes e updates other = updates (record name { now = other }) ∙ rw e (or_cond (bytes_eq bytes other) (has_name old other))

-- A function of this name is among them where one has it.
pub among_any : (types : List CType) (name : List ℕ) (functions : List memory.Function) → is_some (function_among name (map (function_of types) functions)) ≡ list_any (λ f. bytes_eq f.name name) functions
among_any types name [] = refl
among_any types name (f ∷ functions) = one (bytes_eq f.name name) (function_of types f) (function_among name (map (function_of types) functions)) ∙ ap (λ b. bytes_eq f.name name || b) (among_any types name functions)
  where
    one : (b : Bool) (g : k.Function) (o : Option k.Function) → is_some (cond b (Some g) o) ≡ (b || is_some o)
    one true g o = refl
    one false g o = refl

-- a function that is declared, where this is known of it
pub stub_law : (program : Program) (f : k.Declared) (body stop : Bool) (o : Option Scalar) → body ≡ is_some (function_among f.name program.functions) → stop ≡ stops f.name → o ≡ integer_result f.type
    → stub_of program f ≡ cond (body || stop) None (option_map (λ s. record { name = f.name; type = s }) o)
stub_law program f body stop o a b c = rw (a, b, c) refl
