-- The least of the rules of a list, gone over from its end.
use Rattle.std.proofs.Common.{◌≡◌, ◌-◌, ℕ, ◌+◌, ◌<◌, ◌≤◌, List, ◌∷◌, map, drop, length, get_or, Option, Some, None, sym, ap, ◌∙◌, arith}
use Rattle.std.specs.Prelude.{option_map}
use Rattle.std.proofs.Math.Seq.{drop-length}
use Rattle.lt_tree.specs.declared.typed.rule.Rule.{Rule}
use Rattle.lt_tree.specs.Typing.EntityView.{rule_of}
use Rattle.lt_tree.specs.Typing.Rules.{least, lesser}
use Rattle.std.proofs.lemmas.List.{drop_more}

-- one more rule before those behind it
pub one_before : (rules : List Rule) (left : ℕ) (r result : Rule) (before : Option Rule) → 0 < left → left ≤ length rules → r ≡ get_or rules (left - 1) r
    → option_map rule_of before ≡ least (map rule_of (drop left rules)) → rule_of result ≡ lesser (rule_of r) (option_map rule_of before)
    → option_map rule_of (Some result) ≡ least (map rule_of (drop (left - 1) rules))
one_before rules left r result before more within is had adds =
    let back : left - 1 + 1 ≡ left = omega arith in
    let here : drop (left - 1) rules ≡ r ∷ drop left rules = drop_more rules (left - 1) r (omega arith) ∙ ap (λ x. x ∷ drop (left - 1 + 1) rules) (sym is) ∙ ap (λ n. r ∷ drop n rules) back in
    ap Some (adds ∙ ap (lesser (rule_of r)) had) ∙ sym (ap (λ xs. least (map rule_of xs)) here)

pub none_yet : (rules : List Rule) → None ≡ least (map rule_of (drop (length rules) rules))
none_yet rules = sym (ap (λ xs. least (map rule_of xs)) (drop-length rules))
