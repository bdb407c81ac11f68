-- The labels of functions stand at the starts of bodies, and their predicates are constants.
use Rattle.std.proofs.Common.{◌≡◌, ℕ, suc, ◌+◌, Bool, true, false, eqb, List, [], ◌∷◌, ◌++◌, refl, sym, ap, ◌∙◌, subst}
use Rattle.std.specs.Prelude.{if◌then◌else◌, ◌&&◌, codes}
use Rattle.std.specs.List.{flat_map}
use Rattle.std.specs.Fmt.{decimal}
use Rattle.lt_tree.specs.Tree as c
use Rattle.lt_tree.specs.Nodes.{Node, an_external, an_expression, nodes}
use Rattle.lt_tree.specs.Typing.Programs.{Program}
use Rattle.lt_objectives.specs.declared.criteria.Criterion.TheVariants as C
use Rattle.lt_objectives.specs.Places.{sites_from, is_open, is_value_position}
use Rattle.lt_objectives.specs.Decisions.{one}
use Rattle.lt_objectives.specs.Copies.{is_core, can_be_copied}
use Rattle.lt_objectives.specs.Objectives.{Form, at_start, in_front, around, Objective, objectives, differences, at_node}
use Rattle.lt_objectives.specs.Marked.{ids_of, numbered, same_form, label, labels, decided}
use Rattle.lt_marked_texts.proofs.Unchanged.{OnlyAtStarts}
use Rattle.lt_marked_texts.proofs.Inserted.{Plain, no_more, one_more}

-- labels of 1 at starts
abbrev AllOnes : List Objective → Type 0
AllOnes [] = Unit {0}
AllOnes (it ∷ rest) = ((it.form ≡ at_start) × (it.predicate ≡ one)) × AllOnes rest

both_ones : (xs ys : List Objective) → AllOnes xs → AllOnes ys → AllOnes (xs ++ ys)
both_ones [] ys a b = b
both_ones (x ∷ xs) ys a b = (a.0, both_ones xs ys a.1 b)

ones_if : (b : Bool) (xs : List Objective) → AllOnes xs → AllOnes (if b then xs else [])
ones_if true xs a = a
ones_if false xs a = tt

module _ (unit : c.Unit) (program : Program) where
  differences_ones : (k : ℕ) (e : c.Expression) → AllOnes (differences unit program C.Function k e)
  differences_ones k e = ones_if (can_be_copied unit k e && is_value_position unit k) [] tt

  node_ones : (k : ℕ) (node : Node) → AllOnes (at_node unit program C.Function (record { number = k; node = node }))
  node_ones k (an_external (c.Defines s d body)) = ((refl, refl), tt)
  node_ones k (an_external (c.Declared d)) = tt
  node_ones k (an_expression e) = ones_if (is_core e && is_open unit program k) (differences unit program C.Function k e) (differences_ones k e)
  node_ones k _ = tt

  sites_ones : (rest : List Node) (i : ℕ) → AllOnes (flat_map (at_node unit program C.Function) (sites_from i rest))
  sites_ones [] i = tt
  sites_ones (node ∷ rest) i =
      both_ones (at_node unit program C.Function (record { number = i; node = node })) (flat_map (at_node unit program C.Function) (sites_from (i + 1) rest)) (node_ones i node) (sites_ones rest (i + 1))

  all_ones : AllOnes (objectives unit program C.Function)
  all_ones = sites_ones (nodes unit) 0

-- ---- marks

not_there : (form : Form) (it : Objective) (k : ℕ) → it.form ≡ at_start → same_form form at_start ≡ false → (same_form form it.form && eqb it.place k) ≡ false
not_there form it k e other = ap (λ (f : Form). same_form form f && eqb it.place k) e ∙ ap (λ b. b && eqb it.place k) other

skipped : (b : Bool) (m : c.Mark) (ms : c.Marks) → b ≡ false → ms ≡ c.no_marks → (if b then c.a_mark m ms else ms) ≡ c.no_marks
skipped true m ms e h = absurd cc
skipped false m ms e h = h

undecided : (b : Bool) (x y e : c.Expression) → b ≡ false → y ≡ e → (if b then x else y) ≡ e
undecided true x y e h f = absurd cc
undecided false x y e h f = f

none_in_front : (os : List Objective) (id k : ℕ) → AllOnes os → labels in_front (numbered id os) k ≡ c.no_marks
none_in_front [] id k all = refl
none_in_front (it ∷ rest) id k all =
    skipped (same_form in_front it.form && eqb it.place k) (label (record { objective = it; id = id })) (labels in_front (numbered (id + ids_of it.form) rest) k) (not_there in_front it k all.0.0 refl)
    (none_in_front rest (id + ids_of it.form) k all.1)

none_around : (os : List Objective) (id k : ℕ) (e : c.Expression) → AllOnes os → decided (numbered id os) k e ≡ e
none_around [] id k e all = refl
none_around (it ∷ rest) id k e all =
    undecided (same_form around it.form && eqb it.place k) (c.Decide (decided (numbered (id + ids_of it.form) rest) k e) (decimal id) (decimal (suc id)) it.tag) (decided (numbered (id + ids_of it.form) rest) k e) e
    (not_there around it k all.0.0 refl) (none_around rest (id + ids_of it.form) k e all.1)

plain_if : (b : Bool) (p : c.Expression) (id tag : List ℕ) (ms : c.Marks) → p ≡ one → Plain ms → Plain (if b then c.a_mark (c.mark p id tag c.no_bindings) ms else ms)
plain_if true p id tag ms e h = subst (λ (x : c.Expression). Plain (c.a_mark (c.mark x id tag c.no_bindings) ms)) (sym e) (one_more (codes "1") id tag h)
plain_if false p id tag ms e h = h

all_plain : (os : List Objective) (id k : ℕ) → AllOnes os → Plain (labels at_start (numbered id os) k)
all_plain [] id k all = no_more
all_plain (it ∷ rest) id k all =
    plain_if (same_form at_start it.form && eqb it.place k) it.predicate (decimal id) it.tag (labels at_start (numbered (id + ids_of it.form) rest) k) all.0.1 (all_plain rest (id + ids_of it.form) k all.1)

pub only_at_starts : (unit : c.Unit) (program : Program) (id : ℕ) → OnlyAtStarts (numbered id (objectives unit program C.Function))
only_at_starts unit program id = record {
  none_before = λ k. none_in_front (objectives unit program C.Function) id k (all_ones unit program);
  none_around = λ k e. none_around (objectives unit program C.Function) id k e (all_ones unit program);
}

pub are_plain : (unit : c.Unit) (program : Program) (id k : ℕ) → Plain (labels at_start (numbered id (objectives unit program C.Function)) k)
are_plain unit program id k = all_plain (objectives unit program C.Function) id k (all_ones unit program)
