-- What a program's tables have, as the program in memory gives it.
use Rattle.std.proofs.Common.{◌≡◌, ℕ, List, [], ◌∷◌, map, Option, Bool, cond, refl, sym, ap, ◌∙◌}
use Rattle.std.specs.List.{filter}
use Rattle.lt_tree.specs.declared.typed.entity.LabelInfo.{LabelInfo}
use Rattle.lt_tree.specs.declared.typed.entity.Function.{Function}
use Rattle.lt_tree.specs.declared.typed.entity.Declared.{Declared}
use Rattle.lt_tree.specs.Typing.Types.{CType}
use Rattle.lt_tree.specs.Typing.EntityView.{label_of, function_of, declared_of}
use Rattle.lt_meaning.specs.Runs.{place_among}
use Rattle.lt_tables.specs.Lookups.{name_among}

label_ids : (labels : List LabelInfo) → map (λ label. label.id) (map label_of labels) ≡ map (λ label. label.id) labels
label_ids [] = refl
label_ids (label ∷ labels) = ap (λ ids. label.id ∷ ids) (label_ids labels)

pub label_found : (labels list : List LabelInfo) (all ids : List ℕ) (id : ℕ) (found : Option ℕ) → found ≡ place_among 0 id all → all ≡ ids → ids ≡ map (λ label. label.id) labels → labels ≡ list
    → found ≡ place_among 0 id (map (λ label. label.id) (map label_of list))
label_found labels list all ids id found is same are rows =
    is ∙ ap (place_among 0 id) (same ∙ are ∙ ap (λ ls. map {A = LabelInfo} {B = ℕ} (λ label. label.id) ls) rows ∙ sym (label_ids list))

module _ (types : List CType) where
  function_names : (functions : List Function) → map (λ f. f.name) (map (function_of types) functions) ≡ map (λ f. f.name) functions
  function_names [] = refl
  function_names (f ∷ functions) = ap (λ names. f.name ∷ names) (function_names functions)

  pub function_found : (functions list : List Function) (all names : List (List ℕ)) (name : List ℕ) (found : Option ℕ) → found ≡ name_among 0 name all → all ≡ names → names ≡ map (λ f. f.name) functions
      → functions ≡ list → found ≡ name_among 0 name (map (λ f. f.name) (map (function_of types) list))
  function_found functions list all names name found is same are rows =
      is ∙ ap (name_among 0 name) (same ∙ are ∙ ap (λ fs. map {A = Function} {B = List ℕ} (λ f. f.name) fs) rows ∙ sym (function_names list))

  declared_names : (declared : List Declared) → map (λ f. f.name) (map (declared_of types) declared) ≡ map (λ f. f.name) declared
  declared_names [] = refl
  declared_names (f ∷ declared) = ap (λ names. f.name ∷ names) (declared_names declared)

  -- tests that agree keep the same
  same_kept : (keeps others : List ℕ → Bool) → ((name : List ℕ) → keeps name ≡ others name) → (names : List (List ℕ)) → filter keeps names ≡ filter others names
  same_kept keeps others h [] = refl
  same_kept keeps others h (name ∷ names) =
      ap (λ b. cond b (name ∷ filter keeps names) (filter keeps names)) (h name) ∙ ap (λ rest. cond (others name) (name ∷ rest) rest) (same_kept keeps others h names)

  pub stubs_are : (keeps others : List ℕ → Bool) → ((name : List ℕ) → keeps name ≡ others name) → (declared list : List Declared) (stubs : List (List ℕ)) → stubs ≡ filter keeps (map (λ f. f.name) declared)
      → declared ≡ list → stubs ≡ filter others (map (λ f. f.name) (map (declared_of types) list))
  stubs_are keeps others h declared list stubs are rows =
      are ∙ same_kept keeps others h (map (λ f. f.name) declared)
      ∙ ap (filter others) (ap (λ ds. map {A = Declared} {B = List ℕ} (λ f. f.name) ds) rows ∙ sym (declared_names list))
