-- Two answers that say the same: where nothing changes but reads are recorded. Over answers alone, for the lemmas on pure expressions.
use Rattle.std.proofs.Common.{◌≡◌, Bool, true, false, refl, sym, ap, ◌∙◌, subst}
use Rattle.lt_model.specs.declared.cell.Content.{Content}
use Rattle.lt_model.specs.State.{Footprint, Valued, Gives, Ends}
use Rattle.lt_ir.specs.Running.{At, Answer, Step, ◌>>=◌, quietly}
use Rattle.lt_ir.specs.Evaluation.{grown, settled_in, apart}
use Rattle.lt_meaning.proofs.SameBut.{Quiet, quiet_joined, quiet_settled, apart_quiet}

pub quiet_grown : (tracks : Bool) (p q : Footprint) → Quiet p → Quiet q → Quiet (grown tracks p q)
quiet_grown true p q a b = quiet_joined p q a b
quiet_grown false p q a b = a

pub quiet_settled_in : (tracks : Bool) (p : Footprint) → Quiet p → Quiet (settled_in tracks p)
quiet_settled_in true p a = quiet_settled p a
quiet_settled_in false p a = a

-- two such expressions don't clash
apart_grown : (tracks : Bool) (p q : Footprint) → Quiet p → Quiet q → (at : At) → apart tracks p q at ≡ Gives (grown tracks p q) at
apart_grown false p q a b at = refl
apart_grown true p q a b at = apart_quiet p q a b at

-- an answer in the state where it began
abbrev pub Stays : {A : Type 0} → At → Answer A → Type 0
Stays at (Gives a at1) = at1 ≡ at
Stays at (Ends end at1) = Unit {0}

-- Both give the same, in the state where they began, and nothing was written; or both end the run.
abbrev pub Same : {A B : Type 0} → (B → A) → At → Answer A → Answer (Valued B) → Type 0
Same f at (Gives a at1) (Gives x at2) = (a ≡ f x.value) × (at1 ≡ at) × (at2 ≡ at) × Quiet x.footprint
Same f at (Gives a at1) (Ends end at2) = ⊥
Same f at (Ends end at1) (Gives x at2) = ⊥
Same f at (Ends end at1) (Ends end' at2) = Unit {0}

pub same_stays : {A B : Type 0} (f : B → A) (at : At) (m : Answer A) (n : Answer (Valued B)) → Same f at m n → Stays at m
same_stays f at (Gives a at1) (Gives x at2) h = h.1
same_stays f at (Gives a at1) (Ends end at2) h = absurd h
same_stays f at (Ends end at1) n h = tt

-- both go on
pub same_bind : {A B C D : Type 0} (f' : B → A) (f : D → C) (at : At) (m : Answer A) (n : Answer (Valued B)) (g : A → Step C) (h : Valued B → Step (Valued D)) → Same f' at m n → ((x : Valued B) → Quiet x.footprint → Same f at (g (f' x.value) at) (h x at)) → Same f at (elim (m) [ Gives a at1 ↦ g a at1 | Ends end at1 ↦ Ends end at1 ]) (elim (n) [ Gives x at1 ↦ h x at1 | Ends end at1 ↦ Ends end at1 ])
same_bind f' f at (Gives a at1) (Gives x at2) g h e k =
    subst (λ t. Same f at (g a at1) (h x t)) (sym e.2) (subst (λ t. Same f at (g a t) (h x at)) (sym e.1) (subst (λ c. Same f at (g c at) (h x at)) (sym e.0) (k x e.3)))
same_bind f' f at (Gives a at1) (Ends end at2) g h e k = absurd e
same_bind f' f at (Ends end at1) (Gives x at2) g h e k = absurd e
same_bind f' f at (Ends end at1) (Ends end' at2) g h e k = tt

-- only the tree goes on
pub same_into : {A B D : Type 0} (f' : B → A) (f : D → A) (at : At) (m : Answer A) (n : Answer (Valued B)) (h : Valued B → Step (Valued D)) → Same f' at m n → ((x : Valued B) → Quiet x.footprint → Same f at (Gives (f' x.value) at) (h x at)) → Same f at m (elim (n) [ Gives x at1 ↦ h x at1 | Ends end at1 ↦ Ends end at1 ])
same_into f' f at (Gives a at1) (Gives x at2) h e k =
    subst (λ t. Same f at (Gives a at1) (h x t)) (sym e.2) (subst (λ t. Same f at (Gives a t) (h x at)) (sym e.1) (subst (λ c. Same f at (Gives c at) (h x at)) (sym e.0) (k x e.3)))
same_into f' f at (Gives a at1) (Ends end at2) h e k = absurd e
same_into f' f at (Ends end at1) (Gives x at2) h e k = absurd e
same_into f' f at (Ends end at1) (Ends end' at2) h e k = tt

-- both do the same first
pub same_step : {A C D : Type 0} (f : D → C) (at : At) (m : Answer A) (g : A → Step C) (h : A → Step (Valued D)) → Stays at m → ((a : A) → Same f at (g a at) (h a at)) → Same f at (elim (m) [ Gives a at1 ↦ g a at1 | Ends end at1 ↦ Ends end at1 ]) (elim (m) [ Gives a at1 ↦ h a at1 | Ends end at1 ↦ Ends end at1 ])
same_step f at (Gives a at1) g h e k = subst (λ t. Same f at (g a t) (h a t)) (sym e) (k a)
same_step f at (Ends end at1) g h e k = tt

-- the tree asks whether two parts clash
pub same_apart : {C D : Type 0} (f : D → C) (tracks : Bool) (at : At) (m : Answer C) (p q : Footprint) (h : Footprint → Step (Valued D)) → Quiet p → Quiet q → Same f at m (h (grown tracks p q) at) → Same f at m ((apart tracks p q >>= h) at)
same_apart f tracks at m p q h a b k = subst (λ n. Same f at m (elim (n) [ Gives x at1 ↦ h x at1 | Ends end at1 ↦ Ends end at1 ])) (sym (apart_grown tracks p q a b at)) k

-- what both give, to which something is done
pub same_quietly : {A : Type 0} (at : At) (m : Answer Content) (n : Answer (Valued Content)) (step : Content → Step A) → Same (λ c. c) at m n → quietly (λ _. elim (m) [ Gives a at1 ↦ step a at1 | Ends end at1 ↦ Ends end at1 ]) at ≡ quietly (λ _. elim (n) [ Gives x at1 ↦ step x.value at1 | Ends end at1 ↦ Ends end at1 ]) at
same_quietly at (Gives a at1) (Gives x at2) step e = ap (λ t. quietly (step a) t) (e.1 ∙ sym e.2) ∙ ap (λ c. quietly (step c) at2) e.0
same_quietly at (Gives a at1) (Ends end at2) step e = absurd e
same_quietly at (Ends end at1) (Gives x at2) step e = absurd e
same_quietly at (Ends end at1) (Ends end' at2) step e = refl
