-- What a truth is used for, and marks that are made.
use Rattle.std.proofs.Common.{◌≡◌, ℕ, List, [], Option, Some, None, Bool, true, false, refl, ap, subst}
use Rattle.std.proofs.lemmas.Bool.{false≢true}
use Rattle.std.specs.Prelude.{not, if◌then◌else◌}
use Rattle.lt_model.specs.declared.cell.Content.{Content}
use Rattle.lt_model.specs.declared.cell.Content.TheVariants as content
use Rattle.lt_model.specs.declared.run.End.{End}
use Rattle.lt_model.specs.State.{Binding, Footprint, Valued, untouched, Gives, Ends}
use Rattle.lt_tree.specs.Typing.TypedTree as e
use Rattle.lt_tree.specs.Typing.TypedTree.{Value, Values, Place, Marks, Mark, Bindings, Conversion, When, type_of}
use Rattle.lt_tree.specs.Typing.Programs.{Program}
use Rattle.lt_ir.specs.Running.{At, Answer, Step, ◌>>=◌, gives, marks, marked_with, quietly}
use Rattle.lt_ir.specs.Evaluation.{valued, truth_in, of_truth, settled_in, grown}
use Rattle.lt_meaning.specs.Expressions.{is_pure, pure_only, Around, Fate, wanted, unconverted, dropped, dropped_branch, untaken, of_branch, of_last, tracking, late, eval, parts_of, bound_at, marked, marked_all}
use Rattle.lt_mark_laws.specs.Added as a
use Rattle.lt_mark_laws.specs.Added.{AreNew, can_be_marked, Adds, AddsAll, AddsPlace, AddsTruth, AddsMarks, Keeps, KeepsBound}
use Rattle.lt_mark_laws.proofs.Alike.{remarked, AlikeAt, Alike, Same, same_at, one_more_alike, a_new_alike}

-- the parts of a comma expression, behind others
abbrev pub parts_behind : Option (Footprint → Step (Valued Content)) → Footprint → Step (Valued Content)
parts_behind parts before = elim (parts) [ None ↦ gives (valued content.Unset untouched) | Some step ↦ step before ]

-- the truth of a value
abbrev pub truth_of : Step (Valued Content) → Step (Valued Bool)
truth_of s = s >>= (λ x. truth_in x.value >>= (λ b. gives (valued b x.footprint)))

-- the type of an expression with marks is that without
pub same_type : {new : ℕ → Bool} {v w : Value} → Adds new v w → type_of v ≡ type_of w
same_type (a.in_front is_new free t d) = t
same_type d = refl

-- ---- what fates and late conversions do where a label may stand

branch_alone : (fate : Fate) → of_branch (of_last fate) ≡ of_branch fate
branch_alone wanted = refl
branch_alone unconverted = refl
branch_alone dropped = refl
branch_alone dropped_branch = refl
branch_alone untaken = refl

pub last_alone : (fate : Fate) → of_last (of_last fate) ≡ of_last fate
last_alone wanted = refl
last_alone unconverted = refl
last_alone dropped = refl
last_alone dropped_branch = refl
last_alone untaken = refl

pub fate_alone : (here : Around) (v : Value) (fate : Fate) → can_be_marked v ≡ true → eval here (of_last fate) v ≡ eval here fate v
fate_alone here (e.Convert how t v) fate h = absurd (false≢true h)
fate_alone here (e.Call t f vs) fate h = absurd (false≢true h)
fate_alone here (e.Conditional t test x y) fate h = ap (λ f. eval here wanted test >>= (λ p. truth_in p.value >>= (λ b. (if b then eval here f x else eval here f y) >>= (λ q. gives (valued q.value (grown here.tracks (settled_in here.tracks p.footprint) q.footprint)))))) (branch_alone fate)
fate_alone here (e.Comma t vs) fate h = ap (λ f. parts_behind (parts_of here f vs) untouched) (last_alone fate)
fate_alone here (e.Marked t ms v) fate h = ap (λ f at. eval here f v (marked_all here ms at)) (last_alone fate)
fate_alone here (e.After t v id) fate h = ap (λ f. eval here f v >>= (λ x at. Gives x (marks id true [] at))) (last_alone fate)
fate_alone here v fate h = refl

pub late_alone : (program : Program) (v : Value) (c : Content) → can_be_marked v ≡ true → late program v c ≡ gives c
late_alone program (e.Convert how t v) c h = absurd (false≢true h)
late_alone program v c h = refl

-- ---- truths

module _ (new : ℕ → Bool) where
  abbrev S : {A : Type 0} → Step A → Step A → Type 0
  S s r = Same new s r

  truths_then : {B : Type 0} (p q : Footprint) (m n : Answer Bool) (k l : Bool → Footprint → Step B) → Alike new {A = Valued Bool} (elim (m) [ Gives b at ↦ Gives (valued b p) at | Ends end at ↦ Ends end at ]) (elim (n) [ Gives b at ↦ Gives (valued b q) at | Ends end at ↦ Ends end at ]) → ((b : Bool) (f : Footprint) → S (k b f) (l b f)) → Alike new (elim (m) [ Gives b at ↦ k b p at | Ends end at ↦ Ends end at ]) (elim (n) [ Gives b at ↦ l b q at | Ends end at ↦ Ends end at ])
  truths_then p q (Gives b at1) (Gives c at2) k l h go = subst (λ x. Alike new (k b p at1) (l x.value x.footprint at2)) h.0 (same_at new (k b p) (l b p) at1 at2 (go b p) h.1)
  truths_then p q (Ends x at1) (Ends y at2) k l h go = h
  truths_then p q (Gives b at1) (Ends y at2) k l h go = absurd h
  truths_then p q (Ends x at1) (Gives c at2) k l h go = absurd h

  truths_end : {B : Type 0} (p : Footprint) (m : Answer Bool) (x : End) (at1 : At) (k : Bool → Footprint → Step B) → Alike new {A = Valued Bool} (elim (m) [ Gives b at ↦ Gives (valued b p) at | Ends end at ↦ Ends end at ]) (Ends x at1) → Alike new {A = B} (elim (m) [ Gives b at ↦ k b p at | Ends end at ↦ Ends end at ]) (Ends x at1)
  truths_end p (Gives b at) x at1 k h = absurd h
  truths_end p (Ends y at) x at1 k h = h

  end_truths : {B : Type 0} (q : Footprint) (n : Answer Bool) (x : End) (at1 : At) (l : Bool → Footprint → Step B) → Alike new {A = Valued Bool} (Ends x at1) (elim (n) [ Gives b at ↦ Gives (valued b q) at | Ends end at ↦ Ends end at ]) → Alike new {A = B} (Ends x at1) (elim (n) [ Gives b at ↦ l b q at | Ends end at ↦ Ends end at ])
  end_truths q (Gives b at) x at1 l h = absurd h
  end_truths q (Ends y at) x at1 l h = h

  -- what follows sees the truth alone
  pub truth_then : {B : Type 0} (s r : Step (Valued Content)) (k l : Bool → Footprint → Step B) → S (truth_of s) (truth_of r) → ((b : Bool) (f : Footprint) → S (k b f) (l b f)) → S (s >>= (λ x. truth_in x.value >>= (λ b. k b x.footprint))) (r >>= (λ x. truth_in x.value >>= (λ b. l b x.footprint)))
  truth_then {B} s r k l h go = record { alike = λ at ms e. by (s at) (r (remarked ms at)) (h.alike at ms e) }
    where
      by : (m n : Answer (Valued Content)) → Alike new {A = Valued Bool} (elim (m) [ Gives x at1 ↦ (truth_in x.value >>= (λ b. gives (valued b x.footprint))) at1 | Ends end at1 ↦ Ends end at1 ]) (elim (n) [ Gives x at1 ↦ (truth_in x.value >>= (λ b. gives (valued b x.footprint))) at1 | Ends end at1 ↦ Ends end at1 ]) → Alike new {A = B} (elim (m) [ Gives x at1 ↦ (truth_in x.value >>= (λ b. k b x.footprint)) at1 | Ends end at1 ↦ Ends end at1 ]) (elim (n) [ Gives x at1 ↦ (truth_in x.value >>= (λ b. l b x.footprint)) at1 | Ends end at1 ↦ Ends end at1 ])
      by (Gives x at1) (Gives y at2) h = truths_then x.footprint y.footprint (truth_in x.value at1) (truth_in y.value at2) k l h go
      by (Ends x at1) (Ends y at2) h = h
      by (Gives x at1) (Ends y at2) h = truths_end x.footprint (truth_in x.value at1) y at2 k h
      by (Ends x at1) (Gives y at2) h = end_truths y.footprint (truth_in y.value at2) x at1 l h

  truths_alone : (p q : Footprint) (m n : Answer Bool) → Alike new {A = Valued Bool} (elim (m) [ Gives b at ↦ Gives (valued b p) at | Ends end at ↦ Ends end at ]) (elim (n) [ Gives b at ↦ Gives (valued b q) at | Ends end at ↦ Ends end at ]) → Alike new m n
  truths_alone p q (Gives b at1) (Gives c at2) h = (ap (λ x. x.value) h.0, h.1)
  truths_alone p q (Ends x at1) (Ends y at2) h = h
  truths_alone p q (Gives b at1) (Ends y at2) h = absurd h
  truths_alone p q (Ends x at1) (Gives c at2) h = absurd h

  truths_alone_end : (p : Footprint) (m : Answer Bool) (x : End) (at1 : At) → Alike new {A = Valued Bool} (elim (m) [ Gives b at ↦ Gives (valued b p) at | Ends end at ↦ Ends end at ]) (Ends x at1) → Alike new m (Ends x at1)
  truths_alone_end p (Gives b at) x at1 h = absurd h
  truths_alone_end p (Ends y at) x at1 h = h

  end_truths_alone : (q : Footprint) (n : Answer Bool) (x : End) (at1 : At) → Alike new {A = Valued Bool} (Ends x at1) (elim (n) [ Gives b at ↦ Gives (valued b q) at | Ends end at ↦ Ends end at ]) → Alike new (Ends x at1) n
  end_truths_alone q (Gives b at) x at1 h = absurd h
  end_truths_alone q (Ends y at) x at1 h = h

  pub truth_alone : (s r : Step (Valued Content)) → S (truth_of s) (truth_of r) → S (s >>= (λ x. truth_in x.value)) (r >>= (λ x. truth_in x.value))
  truth_alone s r h = record { alike = λ at ms e. by (s at) (r (remarked ms at)) (h.alike at ms e) }
    where
      by : (m n : Answer (Valued Content)) → Alike new {A = Valued Bool} (elim (m) [ Gives x at1 ↦ (truth_in x.value >>= (λ b. gives (valued b x.footprint))) at1 | Ends end at1 ↦ Ends end at1 ]) (elim (n) [ Gives x at1 ↦ (truth_in x.value >>= (λ b. gives (valued b x.footprint))) at1 | Ends end at1 ↦ Ends end at1 ]) → Alike new {A = Bool} (elim (m) [ Gives x at1 ↦ truth_in x.value at1 | Ends end at1 ↦ Ends end at1 ]) (elim (n) [ Gives x at1 ↦ truth_in x.value at1 | Ends end at1 ↦ Ends end at1 ])
      by (Gives x at1) (Gives y at2) h = truths_alone x.footprint y.footprint (truth_in x.value at1) (truth_in y.value at2) h
      by (Ends x at1) (Ends y at2) h = h
      by (Gives x at1) (Ends y at2) h = truths_alone_end x.footprint (truth_in x.value at1) y at2 h
      by (Ends x at1) (Gives y at2) h = end_truths_alone y.footprint (truth_in y.value at2) x at1 h

  -- ---- marks that are made

  new_mark_at : (at1 at2 : At) (id : ℕ) (b : Bool) (bound : List Binding) → new id ≡ true → AlikeAt new at1 at2 → AlikeAt new at1 (marks id b bound at2)
  new_mark_at at1 at2 id b bound is_new h = (ap (marks id b bound) h.0, a_new_alike new (record { id = id; truth = b; bound = bound }) at1.marks at2.marks is_new h.1)

  pub old_mark_at : (at1 at2 : At) (id : ℕ) (b : Bool) (bound : List Binding) → AlikeAt new at1 at2 → AlikeAt new (marks id b bound at1) (marks id b bound at2)
  old_mark_at at1 at2 id b bound h = (ap (marks id b bound) h.0, one_more_alike new (record { id = id; truth = b; bound = bound }) at1.marks at2.marks h.1)

  new_mark_then : {A : Type 0} (m : Answer A) (y : A) (at2 : At) (id : ℕ) (b : Bool) → new id ≡ true → Alike new m (Gives y at2) → Alike new m (Gives y (marks id b [] at2))
  new_mark_then (Gives x at1) y at2 id b is_new h = (h.0, new_mark_at at1 at2 id b [] is_new h.1)
  new_mark_then (Ends x at1) y at2 id b is_new h = absurd h

  -- `pc_decide` round a truth
  decided_by : (m : Answer (Valued Bool)) (f : Footprint) (t : Answer Bool) (p q : ℕ) → new p ≡ true → new q ≡ true → Alike new m (elim (t) [ Gives b at ↦ Gives (valued b f) at | Ends end at ↦ Ends end at ]) → Alike new m (elim (elim (t) as (λ _. Answer (Valued Content)) [ Gives b at ↦ Gives (valued (of_truth b) f) (marks q (not b) [] (marks p b [] at)) | Ends end at ↦ Ends end at ]) [ Gives y at ↦ (truth_in y.value >>= (λ b. gives (valued b y.footprint))) at | Ends end at ↦ Ends end at ])
  decided_by m f (Gives true at) p q np nq h = new_mark_then m (valued true f) (marks p true [] at) q false nq (new_mark_then m (valued true f) at p true np h)
  decided_by m f (Gives false at) p q np nq h = new_mark_then m (valued false f) (marks p false [] at) q true nq (new_mark_then m (valued false f) at p false np h)
  decided_by m f (Ends x at) p q np nq h = h

  pub decided_same : (s : Step (Valued Bool)) (r : Step (Valued Content)) (p q : ℕ) → new p ≡ true → new q ≡ true → S s (truth_of r) → S s (truth_of (r >>= (λ x. truth_in x.value >>= (λ b at. Gives (valued (of_truth b) x.footprint) (marks q (not b) [] (marks p b [] at))))))
  decided_same s r p q np nq h = record { alike = λ at ms e. by (s at) (r (remarked ms at)) (h.alike at ms e) }
    where
      by : (m : Answer (Valued Bool)) (n : Answer (Valued Content)) → Alike new m (elim (n) [ Gives x at1 ↦ (truth_in x.value >>= (λ b. gives (valued b x.footprint))) at1 | Ends end at1 ↦ Ends end at1 ]) → Alike new m (elim (elim (n) as (λ _. Answer (Valued Content)) [ Gives x at1 ↦ (truth_in x.value >>= (λ b at. Gives (valued (of_truth b) x.footprint) (marks q (not b) [] (marks p b [] at)))) at1 | Ends end at1 ↦ Ends end at1 ]) [ Gives y at2 ↦ (truth_in y.value >>= (λ b. gives (valued b y.footprint))) at2 | Ends end at2 ↦ Ends end at2 ])
      by m (Gives x at1) h = decided_by m x.footprint (truth_in x.value at1) p q np nq h
      by m (Ends x at1) h = h

  -- new labels
  new_mark_by : (id : ℕ) (b : Option Bool) (bs : Option (List Binding)) (at1 at2 : At) → new id ≡ true → AlikeAt new at1 at2 → AlikeAt new at1 (marked_with id b bs at2)
  new_mark_by id (Some b) (Some bs) at1 at2 is_new h = new_mark_at at1 at2 id b bs is_new h
  new_mark_by id None bs at1 at2 is_new h = new_mark_at at1 at2 id false [] is_new h
  new_mark_by id (Some b) None at1 at2 is_new h = new_mark_at at1 at2 id false [] is_new h

  pub marked_new_at : (here : Around) (predicate : Value) (id : ℕ) (bound : Bindings) (at1 at2 : At) → new id ≡ true → AlikeAt new at1 at2 → AlikeAt new at1 (marked here (e.mark predicate id bound) at2)
  marked_new_at here predicate id bound at1 at2 is_new h = new_mark_by id (pure_only (is_pure predicate) (quietly (eval (tracking false here) wanted predicate >>= (λ x. truth_in x.value)) at2)) (bound_at here bound at2) at1 at2 is_new h

  all_new_at : (here : Around) (ms : Marks) (at1 at2 : At) → AreNew new ms → AlikeAt new at1 at2 → AlikeAt new at1 (marked_all here ms at2)
  all_new_at here e.no_marks at1 at2 is_new h = h
  all_new_at here (e.a_mark (e.mark predicate id bound) ms) at1 at2 is_new h = all_new_at here ms at1 (marked here (e.mark predicate id bound) at2) is_new.1 (marked_new_at here predicate id bound at1 at2 is_new.0 h)

  -- a step behind new labels
  pub behind_new : {A : Type 0} (here : Around) (ms : Marks) (s r : Step A) → AreNew new ms → S s r → S s (λ at. r (marked_all here ms at))
  behind_new here ms s r is_new h = record { alike = λ at ns e. same_at new s r at (marked_all here ms (remarked ns at)) h (all_new_at here ms at (remarked ns at) is_new (refl, e)) }
