-- What the programs of units note.
use Rattle.std.proofs.Common.{◌≡◌, refl, sym, ap, ◌∙◌, ℕ, Bool, List, [], ◌++◌}
use Rattle.std.specs.Prelude.{filter_map}
use Rattle.lt_model.specs.declared.scalar.DataModel.{DataModel}
use Rattle.lt_tree.specs.Tree as c
use Rattle.lt_tree.specs.Nodes.{in_mark, nodes}
use Rattle.lt_tree.specs.Typing.Entities.{Known, Fact, greatest_label_id, starting}
use Rattle.lt_tree.specs.Typing.Steps.{Outcome, Goes, Breaks}
use Rattle.lt_tree.specs.Typing.ExpressionTyping.{mark}
use Rattle.lt_tree.specs.Typing.UnitTyping.{externals, defined_in, answer, typing_to}
use Rattle.lt_tree.specs.Typing.Programs.{Program, typed, program_of}
use Rattle.lt_objectives.specs.Places.{fact_among}
use Rattle.lt_tree_laws.specs.Typing.NodeNumbers.{GoesOver}
use Rattle.lt_typed_nodes.specs.Laws.{NotesItsNodes}
use Rattle.lt_mark_typing.specs.Further.{no_objects}
use Rattle.lt_mark_typing.specs.Beside.{IsBeside, no_labels}
use Rattle.lt_mark_typing.specs.Laws.{ExpressionsAreTypedAgain}
use Rattle.lt_kept_facts.specs.Asked.{seen}
use Rattle.lt_kept_facts.specs.Laws.{UnitsNoteTheSame}
use Rattle.lt_kept_facts.proofs.KeptPieces.{OldDeclarationsKeep, DeclarationsKeep}
use Rattle.lt_kept_facts.proofs.KeptSteps.{went, Piece}
use Rattle.lt_kept_facts.proofs.KeptExternals.{of_externals}

facts_of : (unit : c.Unit) (k : Known) (program : Program) → typed (program_of unit k) ≡ typed program → program.facts ≡ k.facts
facts_of unit k program h = sym (ap (λ (it : Program). it.facts) (program_is h))
  where
    program_is : typed (program_of unit k) ≡ typed program → program_of unit k ≡ program
    program_is h = cc

-- both texts begin alike
pub starts_beside : {new : ℕ → Bool} (greatest : ℕ) (model : DataModel) (unit marked : c.Unit) → filter_map defined_in marked ≡ filter_map defined_in unit
    → IsBeside new [] [] (starting greatest model (filter_map defined_in unit)) (starting greatest_label_id model (filter_map defined_in marked))
starts_beside greatest model unit marked e = record { same = λ r a. ap (λ names. starting greatest_label_id model names) e; objects = λ r a. no_objects; functions = λ r a. tt; labels = no_labels }

-- what is asked of the nodes of both, where nothing was noted before
answers_keep : {new : ℕ → Bool} {ids : List ℕ} {further : List Bool} (k l : Known) (unit marked : c.Unit) (program other : Program) (o r : Outcome (Unit {0}))
    → Piece program.facts other.facts new ids further (λ (u v : Unit {0}). Unit {0}) k (nodes unit) l (nodes marked) o r → k.next ≡ 0 → l.next ≡ 0 → k.facts ≡ [] → l.facts ≡ []
    → answer unit o ≡ typed program → answer marked r ≡ typed other → seen program.facts 0 (nodes unit) ≡ seen other.facts 0 (nodes marked)
answers_keep k l unit marked program other (Goes a m) (Goes b n) (went e s t v w h) i j f g p q =
    ap (λ at. seen program.facts at (nodes unit)) (sym i) ∙ h (λ at low high. ap (λ facts. fact_among facts at) (facts_of unit m program p ∙ v.noted ∙ ap (λ facts. facts ++ v.more) f))
    (λ at low high. ap (λ facts. fact_among facts at) (facts_of marked n other q ∙ w.noted ∙ ap (λ facts. facts ++ w.more) g)) ∙ ap (λ at. seen other.facts at (nodes marked)) j
answers_keep k l unit marked program other (Breaks rule node) r d i j f g p q = absurd cc
answers_keep k l unit marked program other (Goes a m) (Breaks rule node) d i j f g p q = absurd cc

-- units note the same, where declarations do
pub units_note : ((it : c.Mark) (known : Known) → GoesOver (in_mark it) known (mark it known)) → ((it : c.Mark) (known : Known) → NotesItsNodes known (mark it known))
    → ExpressionsAreTypedAgain → ((F G : List Fact) (new : ℕ → Bool) → OldDeclarationsKeep F G new) → ((F G : List Fact) (new : ℕ → Bool) → DeclarationsKeep F G new) → UnitsNoteTheSame
unfolding typing_to
units_note numbered noting again old declared new greatest model unit marked after program other d e h g =
    answers_keep (starting greatest model (filter_map defined_in unit)) (starting greatest_label_id model (filter_map defined_in marked)) unit marked program other (externals unit (starting greatest model (filter_map defined_in unit))) (externals marked (starting greatest_label_id model (filter_map defined_in marked)))
    (of_externals numbered noting again (old program.facts other.facts new) (declared program.facts other.facts new) d (starting greatest_label_id model (filter_map defined_in marked))
    (starts_beside greatest model unit marked e)) refl refl refl refl h g
