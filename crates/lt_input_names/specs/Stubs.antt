-- The functions without a body, as they lie in memory.
use Rattle.std.specs.Prelude.{◌≡◌, ℕ, Bool, List}
use Rattle.std.specs.List.{list_any}
use Rattle.std.specs.Borrow.{Bor}
use Rattle.std.specs.HashSet.{HashSet, contains_by}
use Rattle.std.specs.Str.{bytes_eq}
use Rattle.lt_tree.specs.declared.typed.entity.Function.{Function}
use Rattle.lt_entry.specs.Conditions as conditions
use Rattle.lt_input_names.specs.declared.stubs.Stub.{Stub}

abbrev pub stub_view : Stub → conditions.Stub
stub_view stub = record { name = stub.name.now; type = stub.ty }

-- whether a set has a name
abbrev pub has_name : {S : Type 0} → HashSet (Bor (List ℕ)) S → List ℕ → Bool
has_name names name = contains_by (λ key. bytes_eq name key.now) names

-- The names are those of the functions.
abbrev pub HasNames : {S : Type 0} → List Function → HashSet (Bor (List ℕ)) S → Type 0
HasNames functions names = (name : List ℕ) → has_name names name ≡ list_any (λ f. bytes_eq f.name name) functions
