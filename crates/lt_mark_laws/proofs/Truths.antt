-- What a label notes, and that it is the same with marks added.
use Rattle.std.proofs.Common.{◌≡◌, ℕ, List, [], Option, Some, None, Bool, true, false, refl, ap, subst}
use Rattle.lt_model.specs.State.{Made}
use Rattle.lt_tree.specs.Tree.{Unit as SourceUnit}
use Rattle.lt_tree.specs.Typing.TypedTree.{Value, Items}
use Rattle.lt_tree.specs.Typing.Entities.{Function, Label, Fact, Declared, Frame, Object}
use Rattle.lt_tree.specs.Typing.Programs.{Program}
use Rattle.lt_ir.specs.Running.{At, ◌>>=◌, quietly, marked_with}
use Rattle.lt_ir.specs.Running as running
use Rattle.lt_ir.specs.Evaluation.{truth_in}
use Rattle.lt_meaning.specs.Expressions.{wanted, tracking, is_pure, pure_only, eval}
use Rattle.lt_meaning.specs.Runs.{inside_of, invoke, variable_of}
use Rattle.lt_mark_laws.specs.Laws.{without_new, is_quietly_true, LabelsNoteTheirPredicates, TruthsAreTheSame}
use Rattle.lt_mark_laws.specs.Added.{AddsItems, AddsFunction, AddsFunctions, AreSameObjects}
use Rattle.lt_mark_laws.proofs.Alike.{then_same, quietly_same}
use Rattle.lt_mark_laws.proofs.Machine.{truth_same}
use Rattle.lt_mark_laws.proofs.Expressions.{value_same}
use Rattle.lt_mark_laws.proofs.Itself.{itself}
use Rattle.lt_mark_laws.proofs.Runs.{variable_same, renamed, invoke_same, with_marks}

noted : (b : Option Bool) (id : ℕ) (at : At) → marked_with id b (Some []) at ≡ running.marks id (elim (b) as (λ _. Bool) [ None ↦ false | Some b ↦ b ]) [] at
noted None id at = refl
noted (Some b) id at = refl

pub notes : LabelsNoteTheirPredicates
notes here predicate id at = noted (pure_only (is_pure predicate) (quietly (eval (tracking false here) wanted predicate >>= (λ x. truth_in x.value)) at)) id at

module _ (new : ℕ → Bool) (P : Program) (u : SourceUnit) (ds : List Declared) (fs : List Function) (fr : Frame) (ls : List Label) (xs : List Fact) (os : List Object) (objects_same : AreSameObjects P.objects os) where
  abbrev Q : Program
  Q = record P { unit = u; declared = ds; functions = fs; file = fr; labels = ls; facts = xs; objects = os }

  truth_here : AddsFunctions new P.functions fs → (f : Function) (body : Items) (node n : ℕ) (predicate : Value) (at : At) (made : List Made) → AddsItems new f.body body → without_new new at.marks ≡ without_new new made → is_quietly_true (inside_of P (invoke P n) f) predicate at ≡ is_quietly_true (inside_of Q (invoke Q n) (record f { node = node; body = body })) predicate (record at { marks = made })
  truth_here h f body node n predicate at made d same =
      subst (λ variable. is_quietly_true (inside_of P (invoke P n) f) predicate at ≡ is_quietly_true (record { program = Q; variable = variable; calls = invoke Q n; tracks = true }) predicate (record at { marks = made })) (variable_same new P u ds fs fr ls xs os objects_same f body node d)
      (ap (λ it. elim (pure_only {A = Bool} (is_pure predicate) it) as (λ _. Bool) [ None ↦ false | Some b ↦ b ])
      (quietly_same new (eval (record { program = P; variable = variable_of P f; calls = invoke P n; tracks = false }) wanted predicate >>= (λ x. truth_in x.value)) (eval (record { program = Q; variable = variable_of P f; calls = invoke Q n; tracks = false }) wanted predicate >>= (λ x. truth_in x.value))
      (then_same new _ _ _ _ (value_same new P u ds fs fr ls xs os (variable_of P f) (invoke P n) (invoke Q n) (invoke_same new P u ds fs fr ls xs os objects_same h n) false (itself new predicate) wanted) (λ x. truth_same new x.value)) at (record at { marks = made }) (refl, same)))

  truth_there : AddsFunctions new P.functions fs → (f g : Function) (n : ℕ) (predicate : Value) (at : At) (made : List Made) → AddsFunction new f g → without_new new at.marks ≡ without_new new made → is_quietly_true (inside_of P (invoke P n) f) predicate at ≡ is_quietly_true (inside_of Q (invoke Q n) g) predicate (record at { marks = made })
  truth_there h f g n predicate at made d same = subst (λ g. is_quietly_true (inside_of P (invoke P n) f) predicate at ≡ is_quietly_true (inside_of Q (invoke Q n) g) predicate (record at { marks = made })) (renamed new P u ds fs fr ls xs os objects_same f g d) (truth_here h f g.body g.node n predicate at made d.body same)

pub same_truths : TruthsAreTheSame
same_truths new p q f g n predicate at made h d same = subst (λ q. is_quietly_true (inside_of p (invoke p n) f) predicate at ≡ is_quietly_true (inside_of q (invoke q n) g) predicate (record at { marks = made })) (with_marks p q h) (truth_there new p q.unit q.declared q.functions q.file q.labels q.facts q.objects h.objects h.functions f g n predicate at made d same)
