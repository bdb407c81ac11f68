-- Answers that are the same but for new marks, and steps that give such answers in states that are the same but for new marks.
use Rattle.std.proofs.Common.{◌≡◌, ℕ, List, [], ◌∷◌, Option, Some, None, Bool, true, false, refl, sym, ap, ◌∙◌, subst}
use Rattle.std.proofs.lemmas.Bool.{false≢true}
use Rattle.std.specs.Prelude.{◌++◌, if◌then◌else◌, Result, Ok, Err}
use Rattle.lt_model.specs.declared.operator.Ub.{Ub}
use Rattle.lt_model.specs.State.{Made, Gives, Ends}
use Rattle.lt_model.specs.declared.run.End.{End}
use Rattle.lt_model.specs.declared.run.End.TheVariants.{Undefined}
use Rattle.lt_ir.specs.Running.{At, Answer, Step, ◌>>=◌, gives, over, defined, quietly}
use Rattle.lt_mark_laws.specs.Laws.{without_new}

abbrev pub remarked : List Made → At → At
remarked ms at = record at { marks = ms }

module _ (new : ℕ → Bool) where
  -- the second state is the first with other new marks
  abbrev pub AlikeAt : At → At → Type 0
  AlikeAt at1 at2 = (at2 ≡ remarked at2.marks at1) × (without_new new at1.marks ≡ without_new new at2.marks)

  abbrev pub Alike : {A : Type 0} → Answer A → Answer A → Type 0
  Alike (Gives a at1) (Gives b at2) = (a ≡ b) × AlikeAt at1 at2
  Alike (Ends x at1) (Ends y at2) = (x ≡ y) × AlikeAt at1 at2
  Alike (Gives a at1) (Ends y at2) = ⊥
  Alike (Ends x at1) (Gives b at2) = ⊥

  -- two steps that give such answers in such states
  pub record Same {A : Type 0} (s r : Step A) : Type 0 where
    pub alike : (at : At) (ms : List Made) → without_new new at.marks ≡ without_new new ms → Alike (s at) (r (remarked ms at))

  pub same_at : {A : Type 0} (s r : Step A) (at1 at2 : At) → Same s r → AlikeAt at1 at2 → Alike (s at1) (r at2)
  same_at s r at1 at2 h a = subst (λ at. Alike (s at1) (r at)) (sym a.0) (h.alike at1 at2.marks a.1)

  -- both go on
  alike_then : {A B : Type 0} (m n : Answer A) (f g : A → Step B) → Alike m n → ((a : A) → Same (f a) (g a)) → Alike (elim (m) [ Gives x at1 ↦ f x at1 | Ends end at1 ↦ Ends end at1 ]) (elim (n) [ Gives x at1 ↦ g x at1 | Ends end at1 ↦ Ends end at1 ])
  alike_then (Gives x at1) (Gives y at2) f g h k = subst (λ a. Alike (f x at1) (g a at2)) h.0 (same_at (f x) (g x) at1 at2 (k x) h.1)
  alike_then (Ends x at1) (Ends y at2) f g h k = h
  alike_then (Gives x at1) (Ends y at2) f g h k = absurd h
  alike_then (Ends x at1) (Gives y at2) f g h k = absurd h

  pub then_same : {A B : Type 0} (s r : Step A) (f g : A → Step B) → Same s r → ((a : A) → Same (f a) (g a)) → Same (s >>= f) (r >>= g)
  then_same s r f g h k = record { alike = λ at ms e. alike_then (s at) (r (remarked ms at)) f g (h.alike at ms e) k }

  pub gives_same : {A : Type 0} (a : A) → Same (gives a) (gives a)
  gives_same a = record { alike = λ at ms e. (refl, (refl, e)) }

  pub over_same : (A : Type 0) (x : End) → Same {A = A} (over x) (over x)
  over_same A x = record { alike = λ at ms e. (refl, (refl, e)) }

  pub defined_same : {A : Type 0} (r : Result A Ub) → Same (defined r) (defined r)
  defined_same (Ok a) = gives_same a
  defined_same {A} (Err kind) = over_same A (Undefined kind)

  pub if_same : {A : Type 0} (b : Bool) (s r t u : Step A) → Same s t → Same r u → Same (if b then s else r) (if b then t else u)
  if_same true s r t u h k = h
  if_same false s r t u h k = k

  -- what comes is the same, if something comes
  quietly_alike : {A : Type 0} (m n : Answer A) → Alike m n → elim (m) as (λ _. Option A) [ Gives a at1 ↦ Some a | Ends end at1 ↦ None ] ≡ elim (n) as (λ _. Option A) [ Gives a at1 ↦ Some a | Ends end at1 ↦ None ]
  quietly_alike (Gives x at1) (Gives y at2) h = ap Some h.0
  quietly_alike (Ends x at1) (Ends y at2) h = refl
  quietly_alike (Gives x at1) (Ends y at2) h = absurd h
  quietly_alike (Ends x at1) (Gives y at2) h = absurd h

  pub quietly_same : {A : Type 0} (s r : Step A) → Same s r → (at1 at2 : At) → AlikeAt at1 at2 → quietly s at1 ≡ quietly r at2
  quietly_same s r h at1 at2 a = quietly_alike (s at1) (r at2) (same_at s r at1 at2 h a)

  -- ---- marks

  without_new_append : (ms ns : List Made) → without_new new (ms ++ ns) ≡ without_new new ms ++ without_new new ns
  without_new_append [] ns = refl
  without_new_append (m ∷ ms) ns = by (new m.id) (without_new_append ms ns)
    where
      by : (b : Bool) → without_new new (ms ++ ns) ≡ without_new new ms ++ without_new new ns → (if b then without_new new (ms ++ ns) else m ∷ without_new new (ms ++ ns)) ≡ (if b then without_new new ms else m ∷ without_new new ms) ++ without_new new ns
      by true h = h
      by false h = ap (λ l. m ∷ l) h

  -- one more mark in both
  pub one_more_alike : (m : Made) (ms ns : List Made) → without_new new ms ≡ without_new new ns → without_new new (ms ++ m ∷ []) ≡ without_new new (ns ++ m ∷ [])
  one_more_alike m ms ns e = without_new_append ms (m ∷ []) ∙ ap (λ l. l ++ without_new new (m ∷ [])) e ∙ sym (without_new_append ns (m ∷ []))

  append_none : (ms : List Made) → ms ++ [] ≡ ms
  append_none [] = refl
  append_none (m ∷ ms) = ap (λ l. m ∷ l) (append_none ms)

  -- a new mark in the second
  pub a_new_alike : (m : Made) (ms ns : List Made) → new m.id ≡ true → without_new new ms ≡ without_new new ns → without_new new ms ≡ without_new new (ns ++ m ∷ [])
  a_new_alike m ms ns is_new e = e ∙ sym (append_none (without_new new ns)) ∙ ap (λ l. without_new new ns ++ l) (sym (gone (new m.id) is_new)) ∙ sym (without_new_append ns (m ∷ []))
    where
      gone : (b : Bool) → b ≡ true → (if b then [] else m ∷ []) ≡ []
      gone true h = refl
      gone false h = absurd (false≢true h)
