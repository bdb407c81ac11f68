-- Answers that are the same where types have other numbers, and steps that give such answers in such states.
use Rattle.std.proofs.Common.{◌≡◌, Option, Some, None, Bool, true, false, refl}
use Rattle.std.specs.Prelude.{if◌then◌else◌, Result, Ok, Err}
use Rattle.lt_model.specs.declared.operator.Ub.{Ub}
use Rattle.lt_model.specs.declared.run.End.{End}
use Rattle.lt_model.specs.declared.run.End.TheVariants.{Undefined}
use Rattle.lt_model.specs.State.{Gives, Ends}
use Rattle.lt_ir.specs.Running.{At, Answer, Step, ◌>>=◌, gives, over, defined, quietly}
use Rattle.lt_type_laws.specs.Renumbered.{at_with}
use Rattle.lt_type_laws.proofs.Memory.{Comparison, Fits}

module _ (seen : Comparison) where
  -- the state in which types have other numbers
  abbrev pub other : At → At
  other at = at_with seen.numbers at

  -- both give the same, or end in the same way
  pub data Alike {A : Type 0} : Answer A → Answer A → Type 0 where
    both_give : {a : A} {at : At} → Fits seen at.memory → Alike (Gives a at) (Gives a (at_with seen.numbers at))
    both_end : {end : End} {at : At} → Alike (Ends end at) (Ends end (at_with seen.numbers at))

  -- two steps that give such answers in such states
  pub record Same {A : Type 0} (s t : Step A) : Type 0 where
    pub alike : (at : At) → Fits seen at.memory → Alike (s at) (t (at_with seen.numbers at))

  -- both go on
  pub alike_then : {A B : Type 0} (m n : Answer A) (f g : A → Step B) → Alike m n → ((a : A) → Same (f a) (g a))
      → Alike (elim (m) [ Gives x at ↦ f x at | Ends end at ↦ Ends end at ]) (elim (n) [ Gives x at ↦ g x at | Ends end at ↦ Ends end at ])
  alike_then m n f g (both_give {a} {at} h) k = (k a).alike at h
  alike_then m n f g both_end k = both_end

  pub then_same : {A B : Type 0} (s t : Step A) (f g : A → Step B) → Same s t → ((a : A) → Same (f a) (g a)) → Same (s >>= f) (t >>= g)
  then_same s t f g h k = record { alike = λ at fits. alike_then (s at) (t (other at)) f g (h.alike at fits) k }

  pub gives_same : {A : Type 0} (a : A) → Same (gives a) (gives a)
  gives_same a = record { alike = λ at fits. both_give fits }

  pub over_same : (A : Type 0) (x : End) → Same {A = A} (over x) (over x)
  over_same A x = record { alike = λ at fits. both_end }

  pub defined_same : {A : Type 0} (x : Result A Ub) → Same (defined x) (defined x)
  defined_same (Ok a) = gives_same a
  defined_same {A} (Err kind) = over_same A (Undefined kind)

  pub if_same : {A : Type 0} (b : Bool) (s t u v : Step A) → Same s u → Same t v → Same (if b then s else t) (if b then u else v)
  if_same true s t u v h k = h
  if_same false s t u v h k = k

  -- what comes is the same, if something comes
  quietly_alike : {A : Type 0} (m n : Answer A) → Alike m n
      → elim (m) as (λ _. Option A) [ Gives a at ↦ Some a | Ends end at ↦ None ] ≡ elim (n) as (λ _. Option A) [ Gives a at ↦ Some a | Ends end at ↦ None ]
  quietly_alike m n (both_give h) = refl
  quietly_alike m n both_end = refl

  pub quietly_same : {A : Type 0} (s t : Step A) → Same s t → (at : At) → Fits seen at.memory → quietly s at ≡ quietly t (other at)
  quietly_same s t h at fits = quietly_alike (s at) (t (other at)) (h.alike at fits)
