-- Where the nodes of a part of a unit stand in the list of all, and which tags are in scope there.
use Rattle.std.proofs.Common.{◌≡◌, sym, subst, ap, ◌∙◌, ℕ, ◌+◌, ◌≤◌, Bool, List, [], ◌∷◌, ◌++◌, length, drop, append_assoc, arith}
use Rattle.std.proofs.lemmas.List.{length-append, map-append, drop-drop}
use Rattle.std.proofs.Math.Seq.{drop-append_seam}
use Rattle.lt_tree.specs.Nodes.{Node}
use Rattle.lt_tree.specs.Typing.Entities.{Known, Frame}
use Rattle.lt_tree.specs.Typing.Steps.{Outcome, Goes}
use Rattle.lt_objectives.specs.Tags.{Tags, fits, fitting}
use Rattle.lt_typed_nodes.specs.Coming.{entered, in_new_block}
use Rattle.lt_simple_copies.specs.Scopes.{IsInScope, AreInScope, Keeps, KeepsBehind}
use Rattle.lt_simple_copies.proofs.ReachedSteps.{Covers, number_behind}
use Rattle.lt_simple_copies.proofs.FittingLists.{as_many_as}

-- Of all nodes these are the next, and these tags are in scope.
pub record Stands (all : List Bool) (tags : Tags) (known : Known) (own : List Bool) : Type 0 where
  pub depth : 1 ≤ length known.frames
  pub scope : AreInScope known.frames tags
  pub behind : List Bool
  pub is : drop known.next all ≡ own ++ behind

-- what lies behind a part that is gone over: so many nodes, and these tags
pub record Steps (named : Tags) (nodes : List Node) (known next : Known) : Type 0 where
  pub keeps : Keeps named known next
  pub number : next.next ≡ known.next + length nodes

pub steps : {A : Type 0} {named : Tags} {nodes : List Node} (known : Known) (o : Outcome A) {a : A} {next : Known}
    → KeepsBehind named known o → Covers known.next nodes o → o ≡ Goes a next → Steps named nodes known next
steps {A} {named} {nodes} known o {a} {next} keeps covers is = record {
  keeps = subst (λ it. KeepsBehind named known it) is keeps;
  number = number_behind (subst (λ it. Covers known.next nodes it) is covers);
}

-- ---- tags in scope

pub both_in_scope : (frames : List Frame) (xs ys : Tags) → AreInScope frames xs → AreInScope frames ys → AreInScope frames (xs ++ ys)
both_in_scope frames [] ys first rest = rest
both_in_scope frames (x ∷ xs) ys first rest = (first.0, both_in_scope frames xs ys first.1 rest)

pub all_stay : (frames inner : List Frame) → ((tag : List ℕ) → IsInScope frames tag → IsInScope inner tag) → (tags : Tags) → AreInScope frames tags → AreInScope inner tags
all_stay frames inner stays [] there = tt
all_stay frames inner stays (tag ∷ tags) there = (stays tag there.0, all_stay frames inner stays tags there.1)

scope_behind : {named : Tags} {known next : Known} (tags : Tags) → 1 ≤ length known.frames → Keeps named known next → AreInScope known.frames tags → AreInScope next.frames (named ++ tags)
scope_behind {named} {known} {next} tags depth keeps there = both_in_scope next.frames named tags (keeps.comes depth) (all_stay known.frames next.frames keeps.stays tags there)

-- as many scopes are open behind
pub as_deep : {named : Tags} {nodes : List Node} {known k : Known} → Steps named nodes known k → 1 ≤ length known.frames → 1 ≤ length k.frames
as_deep {named} {nodes} {known} {k} step deep = let same : length k.frames ≡ length known.frames = step.keeps.depth in omega arith

-- one part behind another
pub one_more : {named : Tags} {xs ys : List Node} {known k j : Known} → Steps named xs known k → Steps [] ys k j → Steps named (xs ++ ys) known j
one_more {named} {xs} {ys} {known} {k} {j} step more = record {
  keeps = record {
    depth = more.keeps.depth ∙ step.keeps.depth;
    stays = λ tag there. more.keeps.stays tag (step.keeps.stays tag there);
    comes = λ depth. all_stay k.frames j.frames more.keeps.stays named (step.keeps.comes depth);
  };
  number =
      let two : length (xs ++ ys) ≡ length xs + length ys = length-append xs ys in
      let left : k.next ≡ known.next + length xs = step.number in
      let right : j.next ≡ k.next + length ys = more.number in
      omega arith;
}

-- where its tags are set aside
pub without_tags : {named : Tags} {nodes : List Node} {known next : Known} → Steps named nodes known next → Steps [] nodes known next
without_tags step = record { keeps = record { depth = step.keeps.depth; stays = step.keeps.stays; comes = λ depth. tt }; number = step.number }

-- ---- places

-- where other tags are in scope, and where known is something else with the same number
pub there_with : {all : List Bool} {tags : Tags} {known : Known} {own : List Bool} (others : Tags) (k : Known)
    → 1 ≤ length k.frames → AreInScope k.frames others → k.next ≡ known.next → Stands all tags known own → Stands all others k own
there_with {all} others k depth scope same stands = record { depth = depth; scope = scope; behind = stands.behind; is = ap (λ n. drop n all) same ∙ stands.is }

-- behind a node that begins
pub inside : {all : List Bool} {tags : Tags} {known : Known} {b : Bool} {own : List Bool} → Stands all tags known (b ∷ own) → Stands all tags (entered known) own
inside {all} {tags} {known} {b} {own} stands = record {
  depth = stands.depth;
  scope = stands.scope;
  behind = stands.behind;
  is = sym (drop-drop 1 known.next all) ∙ ap (drop 1) stands.is;
}

-- in a new block
pub in_block_of : {all : List Bool} {tags : Tags} {known : Known} {own : List Bool} → Stands all tags known own → Stands all tags (in_new_block known) own
in_block_of {all} {tags} {known} {own} stands = record { depth = omega arith; scope = stands.scope; behind = stands.behind; is = stands.is }

-- the first part
pub first : {all : List Bool} {tags : Tags} {known : Known} (xs ys : List Bool) → Stands all tags known (xs ++ ys) → Stands all tags known xs
first {all} {tags} {known} xs ys stands = record { depth = stands.depth; scope = stands.scope; behind = ys ++ stands.behind; is = stands.is ∙ append_assoc xs ys stands.behind }

-- and what stands behind it
pub next : {bools : List Bool} {named tags : Tags} {known k : Known} {nodes : List Node} (xs ys : List Bool)
    → length xs ≡ length nodes → Steps named nodes known k → Stands bools tags known (xs ++ ys) → Stands bools (named ++ tags) k ys
next {bools} {named} {tags} {known} {k} {nodes} xs ys many step stands = record {
  depth = as_deep step stands.depth;
  scope = scope_behind tags stands.depth step.keeps stands.scope;
  behind = stands.behind;
  is = ap (λ n. drop n bools) (step.number ∙ ap (λ n. known.next + n) (sym many)) ∙ sym (drop-drop (length xs) known.next bools) ∙ ap (drop (length xs)) (stands.is ∙ append_assoc xs ys stands.behind)
      ∙ drop-append_seam xs (ys ++ stands.behind);
}

-- three parts
pub regrouped : {all : List Bool} {tags : Tags} {known : Known} (xs ys zs : List Bool) → Stands all tags known (xs ++ ys ++ zs) → Stands all tags known (xs ++ (ys ++ zs))
regrouped {all} {tags} {known} xs ys zs stands = subst (Stands all tags known) (append_assoc xs ys zs) stands

-- ---- parts that are lists of nodes, of which each is judged where the tags `judged` are in scope

-- two lists of nodes, one behind the other
pub apart : {all : List Bool} {tags : Tags} {known : Known} (judged : Tags) (xs ys : List Node)
    → Stands all tags known (fitting judged (xs ++ ys)) → Stands all tags known (fitting judged xs ++ fitting judged ys)
apart {all} {tags} {known} judged xs ys stands = subst (Stands all tags known) (map-append (fits judged) xs ys) stands

pub first_nodes : {all : List Bool} {tags : Tags} {known : Known} (judged : Tags) (xs ys : List Node)
    → Stands all tags known (fitting judged (xs ++ ys)) → Stands all tags known (fitting judged xs)
first_nodes judged xs ys stands = first (fitting judged xs) (fitting judged ys) (apart judged xs ys stands)

pub next_nodes : {all : List Bool} {named tags : Tags} {known k : Known} (judged : Tags) (xs ys : List Node)
    → Steps named xs known k → Stands all tags known (fitting judged (xs ++ ys)) → Stands all (named ++ tags) k (fitting judged ys)
next_nodes {all} judged xs ys step stands = next (fitting judged xs) (fitting judged ys) (as_many_as judged xs) step (apart judged xs ys stands)

pub regrouped_nodes : {all : List Bool} {tags : Tags} {known : Known} (judged : Tags) (xs ys zs : List Node)
    → Stands all tags known (fitting judged (xs ++ ys ++ zs)) → Stands all tags known (fitting judged (xs ++ (ys ++ zs)))
regrouped_nodes {all} {tags} {known} judged xs ys zs stands = subst (λ nodes. Stands all tags known (fitting judged nodes)) (append_assoc xs ys zs) stands
