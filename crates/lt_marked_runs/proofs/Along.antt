-- Programs that were made of one another by adding marks in steps run alike.
use Rattle.std.proofs.Common.{◌≡◌, ℕ, zero, suc, List, [], ◌∷◌, length, Some, None, Bool, true, false, refl, sym, ap, ◌∙◌, subst}
use Rattle.std.specs.Prelude.{if◌then◌else◌, slice_get}
use Rattle.lt_model.specs.declared.input.Input.{Input}
use Rattle.lt_model.specs.State.{Made}
use Rattle.lt_tree.specs.Typing.Types.{CType}
use Rattle.lt_tree.specs.Typing.Entities.{Function}
use Rattle.lt_tree.specs.Typing.Programs.{Program}
use Rattle.lt_ir.specs.Running.{Over}
use Rattle.lt_meaning.specs.Runs.{run}
use Rattle.lt_mark_laws.specs.Added.{AddsFunction, AddsFunctions, AreSameObjects}
use Rattle.lt_mark_laws.specs.Laws.{without_new, AreAlike, MarksChangeNothing}
use Rattle.lt_mark_laws.proofs.Itself.{themselves}
use Rattle.lt_mark_typing.specs.MarkedPrograms.{AddsInSteps, no_step, a_step}
use Rattle.lt_marked_runs.proofs.Objects.{same_behind}

-- ---- what steps leave as it is

functions_as_many : (new : ℕ → Bool) (fs gs : List Function) → AddsFunctions new fs gs → length fs ≡ length gs
functions_as_many new [] [] h = refl
functions_as_many new (f ∷ fs) (g ∷ gs) h = ap suc (functions_as_many new fs gs h.1)
functions_as_many new [] (g ∷ gs) h = absurd h
functions_as_many new (f ∷ fs) [] h = absurd h

-- the model, the structs, the objects but for their nodes, and how many functions there are
pub record HasTheSame (p q : Program) : Type 0 where
  pub model : p.model ≡ q.model
  pub structs : p.structs ≡ q.structs
  pub objects : AreSameObjects p.objects q.objects
  pub functions : length p.functions ≡ length q.functions

pub kept : {new : ℕ → Bool} {p q : Program} → AddsInSteps new p q → HasTheSame p q
kept {new} (no_step {p}) = record { model = refl; structs = refl; objects = ((themselves new).0 p).objects; functions = refl }
kept (a_step {p} {q} {r = t} own all_new d steps) =
    let later = kept steps in
    record {
      model = d.model ∙ later.model;
      structs = d.structs ∙ later.structs;
      objects = same_behind p.objects q.objects t.objects d.objects later.objects;
      functions = functions_as_many own p.functions q.functions d.functions ∙ later.functions;
    }

-- ---- runs that are alike

module _ (new own : ℕ → Bool) (all_new : (id : ℕ) → own id ≡ true → new id ≡ true) where
  -- where marks that have own ids are left out first, it is the same: they are new
  left_out : (ms : List Made) → without_new new (without_new own ms) ≡ without_new new ms
  left_out [] = refl
  left_out (m ∷ ms) = by (own m.id) refl (left_out ms)
    where
      by : (b : Bool) → own m.id ≡ b → without_new new (without_new own ms) ≡ without_new new ms
          → without_new new (if b then without_new own ms else m ∷ without_new own ms) ≡ (if new m.id then without_new new ms else m ∷ without_new new ms)
      by true e h = h ∙ ap (λ b. if b then without_new new ms else m ∷ without_new new ms) (sym (all_new m.id e))
      by false e h = ap (λ l. if new m.id then l else m ∷ l) h

  pub alike_too : (a b : Over) → AreAlike own a b → AreAlike new a b
  alike_too a b h =
      record { end = h.end; memory = h.memory; ticks = h.ticks; stubs = h.stubs; marks = sym (left_out a.at.marks) ∙ ap (without_new new) h.marks ∙ left_out b.at.marks }

alike_itself : (new : ℕ → Bool) (a : Over) → AreAlike new a a
alike_itself new a = record { end = refl; memory = refl; ticks = refl; stubs = refl; marks = refl }

alike_behind : (new : ℕ → Bool) (a b c : Over) → AreAlike new a b → AreAlike new b c → AreAlike new a c
alike_behind new a b c h g = record { end = h.end ∙ g.end; memory = h.memory ∙ g.memory; ticks = h.ticks ∙ g.ticks; stubs = h.stubs ∙ g.stubs; marks = h.marks ∙ g.marks }

-- ---- functions by their numbers

some_is : {A : Type 0} {x y : A} → Some x ≡ Some y → x ≡ y
some_is e = cc

no_some : {A : Type 0} {x : A} → None ≡ Some x → ⊥
no_some e = cc

function_at : (new : ℕ → Bool) (fs gs : List Function) → AddsFunctions new fs gs → (n : ℕ) (f : Function) → slice_get fs n ≡ Some f → (g : Function) × (slice_get gs n ≡ Some g) × AddsFunction new f g
function_at new (f ∷ fs) (g ∷ gs) h zero f' e = (g, refl, subst (λ it. AddsFunction new it g) (some_is e) h.0)
function_at new (f ∷ fs) (g ∷ gs) h (suc n) f' e = function_at new fs gs h.1 n f' e
function_at new [] [] h n f' e = absurd (no_some e)
function_at new [] (g ∷ gs) h n f' e = absurd h
function_at new (f ∷ fs) [] h n f' e = absurd h

-- ---- runs of programs that were made of one another, where both have these types

module _ (marks_nothing : MarksChangeNothing) (types : List CType) (input : Input) (ticks n : ℕ) where
  abbrev with_types : Program → Program
  with_types p = record p { types = types }

  pub runs_along : {new : ℕ → Bool} {p q : Program} → AddsInSteps new p q → (f g : Function) → slice_get p.functions n ≡ Some f → slice_get q.functions n ≡ Some g
      → AreAlike new (run (with_types p) f input ticks) (run (with_types q) g input ticks)
  runs_along {new} (no_step {p}) f g at_f at_g = subst (λ it. AreAlike new (run (with_types p) f input ticks) (run (with_types p) it input ticks)) (some_is (sym at_f ∙ at_g)) (alike_itself new (run (with_types p) f input ticks))
  runs_along {new} (a_step {p} {q} {r = t} own all_new d steps) f g at_f at_g =
      let middle = function_at own p.functions q.functions d.functions n f at_f in
      alike_behind new (run (with_types p) f input ticks) (run (with_types q) middle.0 input ticks) (run (with_types t) g input ticks)
      (alike_too new own all_new (run (with_types p) f input ticks) (run (with_types q) middle.0 input ticks)
      (marks_nothing own (with_types p) (with_types q) f middle.0 input ticks (record { model = d.model; structs = d.structs; objects = d.objects; types = refl; functions = d.functions }) middle.2))
      (runs_along steps middle.0 g middle.1 at_g)
