-- What is read behind parts.
use Rattle.std.proofs.Common.{◌≡◌, ℕ, ◌++◌, List, [], ◌∷◌, length, Bool, true, false, Option, Some, None, refl, ap, ap₂, sym, append_assoc, arith, subst, lit<, ◌<◌}
use Rattle.std.specs.Prelude.{option_map, MatchOption}
use Rattle.std.specs.Borrow.{Bor}
use Rattle.std.specs.List.{list_any, before_first, after_first, position_or_len}
use Rattle.std.proofs.lemmas.List.{append-nil}
use Rattle.lt_command.specs.Parts.{Parts, Setting, add_option, add_positional, is_equals, is_joined, is_value, parts_behind}
use Rattle.lt_command.specs.Views.{before, joined, parts_with}
use Rattle.lt_command.specs.declared.parts.Reader.{Reader}
use Rattle.std.proofs.lemmas.Str.Pattern.{IsSplitOnceResult, split_once_first}

pub one_more_option : (p : Parts) (name value : List ℕ) (rest : Option Parts)
    → option_map (joined p) (option_map (add_option name value) rest)
    ≡ option_map (joined (record p { options = p.options ++ record { name = name; value = value } ∷ [] })) rest
one_more_option p name value None = refl
one_more_option p name value (Some q) =
    ap (λ (os : List Setting). Some (record { positionals = p.positionals ++ q.positionals; options = os }))
    (sym (append_assoc p.options (record { name = name; value = value } ∷ []) q.options))

pub one_more_positional : (p : Parts) (word : List ℕ) (rest : Option Parts)
    → option_map (joined p) (option_map (add_positional word) rest)
    ≡ option_map (joined (record p { positionals = p.positionals ++ word ∷ [] })) rest
one_more_positional p word None = refl
one_more_positional p word (Some q) =
    ap (λ (ws : List (List ℕ)). Some (record { positionals = ws; options = p.options ++ q.options }))
    (sym (append_assoc p.positionals (word ∷ []) q.positionals))

pub joined_none : (p : Parts) → joined p (record { positionals = []; options = [] }) ≡ p
joined_none p = ap₂ (λ (ws : List (List ℕ)) (os : List Setting). let r : Parts = record { positionals = ws; options = os } in r)
    (append-nil p.positionals) (append-nil p.options)

-- nothing passes before the end, so nothing passes
none_passes : (xs : List ℕ) → position_or_len is_equals xs ≡ length xs → list_any is_equals xs ≡ false
none_passes [] h = refl
none_passes (x ∷ xs) h = go (is_equals x) refl h (none_passes xs)
  where
    go : (t : Bool) → is_equals x ≡ t → position_or_len is_equals (x ∷ xs) ≡ length (x ∷ xs)
        → (position_or_len is_equals xs ≡ length xs → list_any is_equals xs ≡ false) → list_any is_equals (x ∷ xs) ≡ false
    go true t at below = let no = rw t at at in absurd (omega arith)
    go false t at below = rw t (below (let e = rw t at at in omega arith))

pub no_equals : (word : List ℕ) (r : Option (Bor (List ℕ) × Bor (List ℕ))) → IsSplitOnceResult 61 word r → r ≡ None → is_joined word ≡ false
no_equals word r split none =
    none_passes word (subst (λ (o : Option (Bor (List ℕ) × Bor (List ℕ))). MatchOption o (position_or_len is_equals word ≡ length word) (λ x. (position_or_len is_equals word < length word) × (x.0.now ≡ before_first is_equals word) × (x.1.now ≡ after_first is_equals word))) none
    (split_once_first 61 word r split (lit< tt)))

pub waits : (reader : Reader) (word : List ℕ) (rest : List (List ℕ)) → reader.waiting ≡ None → is_value word ≡ false → is_joined word ≡ false
    → parts_with reader (word ∷ rest) ≡ before reader.parts (parts_behind word rest)
waits reader word rest none no_value apart = rw (none, no_value, apart) refl
