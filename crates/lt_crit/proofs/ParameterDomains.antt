-- The domains of parameters, one after the other.
use Rattle.std.proofs.Common.{◌≡◌, ◌≤◌, ℕ, List, ◌++◌, length, map, drop, sym, ap, ◌∙◌}
use Rattle.std.specs.List.{flat_map}
use Rattle.std.proofs.lemmas.List.{append-nil, drop_all}
use Rattle.lt_tree.specs.Tree as c
use Rattle.lt_facts.specs.declared.functions.Parameter.{Parameter}
use Rattle.lt_facts.specs.Parameters.{known_in, known_domains}

pub domains_of_all : (made : List c.Expression) (items : List Parameter) (k : ℕ) → length items ≤ k
    → made ++ flat_map known_domains (map known_in (drop k items)) ≡ flat_map known_domains (map known_in items) → made ≡ flat_map known_domains (map known_in items)
domains_of_all made items k past whole =
    sym (append-nil made) ∙ ap (λ rest. made ++ flat_map known_domains (map known_in rest)) (sym (drop_all k items past)) ∙ whole
