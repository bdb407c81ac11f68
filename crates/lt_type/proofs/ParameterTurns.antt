-- Lists of parameters: what is made from the first to the last is what is made from the last to the first.
use Rattle.std.proofs.Common.{◌≡◌, ℕ, Bool, List, [], ◌∷◌, ◌++◌, append_assoc, refl, sym, ap, ◌∙◌}
use Rattle.std.proofs.lemmas.List.{append-nil}
use Rattle.std.proofs.Math.Bool.{and-true, and_assoc}
use Rattle.std.specs.Prelude.{is_some}
use Rattle.lt_tree.specs.Typing.Types.{CTypes}
use Rattle.lt_tree.specs.Typing.Rules.{Rule}
use Rattle.lt_tree.specs.Typing.Entities.{Known}
use Rattle.lt_tree.specs.Typing.Declarators.{Parameters}
use Rattle.lt_declare.specs.Declaring.{parameter_behind}
use Rattle.lt_type.specs.Ends.{without_any}
use Rattle.lt_type.specs.Found.{Found, with_found, with_all_found}

-- parameters with the same parts, of which these may be said in another way
pub same_parts : (p : Parameters) {t u : CTypes} {objects others : List ℕ} {b c : Bool} {faults rules : List Rule} → t ≡ u → objects ≡ others → b ≡ c → faults ≡ rules
    → record p { types = t; objects = objects; are_named = b; faults = faults } ≡ record p { types = u; objects = others; are_named = c; faults = rules }
same_parts p {t} {u} {objects} {others} {b} {c} {faults} {rules} same_types same_objects same_names same_faults =
    ap (λ l. record p { types = l; objects = objects; are_named = b; faults = faults }) same_types
    ∙ ap (λ l. record p { types = u; objects = l; are_named = b; faults = faults }) same_objects
    ∙ ap (λ l. record p { types = u; objects = others; are_named = l; faults = faults }) same_names
    ∙ ap (λ l. record p { types = u; objects = others; are_named = c; faults = l }) same_faults

-- ---- parameters that were gone over

abbrev found_behind : Parameters → Found → Parameters
found_behind others p = parameter_behind others p.declared p.objects

-- a parameter alone stands before none as behind none
found_alone : (known : Known) (p : Found) → with_found p (without_any known) ≡ found_behind (without_any known) p
found_alone known p = same_parts (found_behind (without_any known) p) refl (append-nil p.objects) (and-true (is_some p.declared.name)) (append-nil p.declared.faults)

-- one before others and one behind them
found_around : (first last : Found) (others : Parameters) → with_found first (found_behind others last) ≡ found_behind (with_found first others) last
found_around first last others =
    same_parts (found_behind (with_found first others) last) refl
    (sym (append_assoc first.objects others.objects last.objects))
    (sym (and_assoc (is_some first.declared.name) others.are_named (is_some last.declared.name)))
    (sym (append_assoc first.declared.faults others.faults last.declared.faults))

-- the last parameter stands behind those before it
last_behind : (known : Known) (front : List Found) (last : Found) → with_all_found (front ++ last ∷ []) (without_any known) ≡ found_behind (with_all_found front (without_any known)) last
last_behind known [] last = found_alone known last
last_behind known (first ∷ front) last = ap (with_found first) (last_behind known front last) ∙ found_around first last (with_all_found front (without_any known))

-- parameters behind others, from the first to the last
abbrev pub all_behind : Parameters → List Found → Parameters
all_behind made [] = made
all_behind made (p ∷ ps) = all_behind (found_behind made p) ps

rest_behind : (known : Known) (front rest : List Found) → with_all_found (front ++ rest) (without_any known) ≡ all_behind (with_all_found front (without_any known)) rest
rest_behind known front [] = ap (λ l. with_all_found l (without_any known)) (append-nil front)
rest_behind known front (p ∷ rest) =
    ap (λ l. with_all_found l (without_any known)) (sym (append_assoc front (p ∷ []) rest))
    ∙ rest_behind known (front ++ p ∷ []) rest
    ∙ ap (λ made. all_behind made rest) (last_behind known front p)

-- from the first to the last as from the last to the first
pub forwards : (known : Known) (all : List Found) → with_all_found all (without_any known) ≡ all_behind (without_any known) all
forwards known all = rest_behind known [] all
