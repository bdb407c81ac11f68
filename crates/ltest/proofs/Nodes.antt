-- Where the node begins that breaks a rule.
use Rattle.std.proofs.Common.{◌≡◌, ◌<◌, ℕ, List, [], length, get_or, refl, subst, sym, ap, ◌∙◌}
use Rattle.std.proofs.lemmas.List.{append-nil}
use Rattle.std.proofs.lemmas.Option.{slice_get_read}
use Rattle.lt_model.specs.declared.scalar.DataModel.{DataModel}
use Rattle.lt_tree.specs.Tree.{Unit as SourceUnit}
use Rattle.lt_tree.specs.Nodes.{nodes}
use Rattle.lt_tree.specs.Symbols.{symbols}
use Rattle.lt_tree.specs.Typing.Rules.{Rule, number_of}
use Rattle.lt_tree.specs.Typing.UnitTyping.{BreaksFirst}
use Rattle.lt_tree_laws.specs.Laws.{NodesHaveSpots}
use Rattle.lt_tree_laws.specs.Typing.NodeNumbers.{BrokenNodesAreThere}
use Rattle.lt_answers.specs.Programs.{Spells, HasNoProgram, breaks_rule}
use Rattle.lt_answers.specs.declared.status.Refusal.TheVariants.{Typing}

-- Each node of a unit has a spot.
all_spots : NodesHaveSpots → (text : List ℕ) (unit : SourceUnit) (spots : List ℕ) → Spells text unit spots → length spots ≡ length (nodes unit)
all_spots law text unit spots it =
    let places = law [] (symbols it.tokens) unit spots [] it.derives in
    ap length (places.1 ∙ append-nil places.0) ∙ places.2

-- So the node that breaks a rule has one, and its text has no program.
pub broken_at : NodesHaveSpots → BrokenNodesAreThere → (model : DataModel) (text : List ℕ) (unit : SourceUnit) (spots : List ℕ) (rule : Rule) (node number at : ℕ) → Spells text unit spots → BreaksFirst model unit rule node → number ≡ number_of rule → at ≡ get_or spots node at → HasNoProgram model text (Typing number at)
broken_at spots_law broken_law model text unit spots rule node number at spells breaks is read =
    let there : node < length spots = subst (λ n. node < n) (sym (all_spots spots_law text unit spots spells)) (broken_law model unit rule node breaks) in
    subst (λ n. HasNoProgram model text (Typing n at)) (sym is) (breaks_rule spells breaks (slice_get_read spots (length spots) node at refl there read))
