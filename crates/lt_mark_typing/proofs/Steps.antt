-- Steps of going over both texts, where the same is found but for the numbers of objects.
use Rattle.std.proofs.Common.{◌≡◌, ℕ, List, [], ◌∷◌, Option, Bool, true, false, refl, sym, ap, ◌∙◌, subst}
use Rattle.std.specs.Prelude.{◌++◌, option_map}
use Rattle.lt_tree.specs.Typing.Rules.{Rule}
use Rattle.lt_tree.specs.Typing.Entities.{Known, Label, Entity, Frame, binding, bind_name}
use Rattle.lt_tree.specs.Typing.Steps.{Outcome, Goes, goes_on, settle, left, marked_again}
use Rattle.lt_tree.specs.Typing.Expressions.{Typed}
use Rattle.lt_tree.specs.Typing.Declarators.{Parameters, Declares}
use Rattle.lt_object_laws.specs.Renamed.{renumbered}
use Rattle.lt_mark_typing.specs.Renumbered.{entity_with, frames_with, typed_with, parameters_with, declares_with}
use Rattle.lt_mark_typing.specs.Further.{Extends, Agrees}
use Rattle.lt_mark_typing.specs.Beside.{IsBeside, Follows, goes, breaks}
use Rattle.lt_mark_typing.proofs.Numbers.{agrees_before, agrees_so_far}
use Rattle.lt_mark_typing.proofs.Going.{with_others, bind, bind_at, goes_here}
use Rattle.lt_mark_typing.proofs.Names.{binding_with, frames_known}
use Rattle.lt_mark_typing.proofs.Labels.{labelled}

-- ---- what is the same in both texts

-- the very same, which names no object
abbrev pub Same : {A : Type 0} → (ℕ → ℕ) → A → A → Type 0
Same r a b = b ≡ a

abbrev pub SameWith : (ℕ → ℕ) → Typed → Typed → Type 0
SameWith r x y = y ≡ typed_with r x

-- what declarators declare, but for their nodes
abbrev pub SameDeclares : (ℕ → ℕ) → Declares → Declares → Type 0
SameDeclares r a b = b ≡ record (declares_with r a) { node = b.node }

-- ---- what was declared has the same name and type, and its parameters have other numbers

pub declared_as : (a b : Declares) (r : ℕ → ℕ) → SameDeclares r a b → b ≡ record a { node = b.node; parameters = b.parameters }
declared_as a b r e = e ∙ ap (λ parameters. record a { node = b.node; parameters = parameters }) (sym (ap (λ (it : Declares). it.parameters) e))

module _ {new : ℕ → Bool} {used : List ℕ} {further : List Bool} where
  -- ---- one walk after another

  pub bind_same : {A C D : Type 0} {after : List ℕ} {Q : (ℕ → ℕ) → C → D → Type 0} {o p : Outcome A} {f : A → Known → Outcome C} {g : A → Known → Outcome D}
      → Follows new used further (Same {A = A}) o p
      → ((a : A) (k j : Known) (behind : List Bool) → Extends further behind → IsBeside new used behind k j → Follows new after behind Q (f a k) (g a j))
      → Follows new after further Q (goes_on o f) (goes_on p g)
  bind_same {A} {C} {D} {after} {Q} {o} {p} {f} {g} d h =
      bind d (λ a b k j behind e r s. subst (λ (it : A). Follows new after behind Q (f a k) (g it j)) (sym (r (renumbered behind) (agrees_so_far behind))) (h a k j behind e s))

  -- with what the first came to
  pub bind_same_at : {A C D : Type 0} {after : List ℕ} {Q : (ℕ → ℕ) → C → D → Type 0} {o p : Outcome A} {f : A → Known → Outcome C} {g : A → Known → Outcome D}
      → Follows new used further (Same {A = A}) o p
      → ((a : A) (k j : Known) (behind : List Bool) → o ≡ Goes a k → Extends further behind → IsBeside new used behind k j → Follows new after behind Q (f a k) (g a j))
      → Follows new after further Q (goes_on o f) (goes_on p g)
  bind_same_at {A} {C} {D} {after} {Q} {o} {p} {f} {g} d h =
      bind_at d (λ a b k j behind q e r s. subst (λ (it : A). Follows new after behind Q (f a k) (g it j)) (sym (r (renumbered behind) (agrees_so_far behind))) (h a k j behind q e s))

  pub bind_declares : {C D : Type 0} {after : List ℕ} {Q : (ℕ → ℕ) → C → D → Type 0} {o p : Outcome Declares} {f : Declares → Known → Outcome C} (g : Declares → Known → Outcome D)
      → Follows new used further SameDeclares o p
      → ((a : Declares) (n : ℕ) (parameters : Option Parameters) (k j : Known) (behind : List Bool) → Extends further behind
      → ((r : ℕ → ℕ) → Agrees r behind → parameters ≡ option_map (parameters_with r) a.parameters) → IsBeside new used behind k j
      → Follows new after behind Q (f a k) (g (record a { node = n; parameters = parameters }) j))
      → Follows new after further Q (goes_on o f) (goes_on p g)
  bind_declares {C} {D} {after} {Q} {o} {p} {f} g d h =
      bind d (λ a b k j behind e r s. subst (λ (it : Declares). Follows new after behind Q (f a k) (g it j)) (sym (declared_as a b (renumbered behind) (r (renumbered behind) (agrees_so_far behind))))
      (h a b.node b.parameters k j behind e (λ n m. ap (λ (it : Declares). it.parameters) (r n m)) s))

  pub bind_declares_at : {C D : Type 0} {after : List ℕ} {Q : (ℕ → ℕ) → C → D → Type 0} {o p : Outcome Declares} {f : Declares → Known → Outcome C} (g : Declares → Known → Outcome D)
      → Follows new used further SameDeclares o p
      → ((a : Declares) (n : ℕ) (parameters : Option Parameters) (k j : Known) (behind : List Bool) → o ≡ Goes a k → Extends further behind
      → ((r : ℕ → ℕ) → Agrees r behind → parameters ≡ option_map (parameters_with r) a.parameters) → IsBeside new used behind k j
      → Follows new after behind Q (f a k) (g (record a { node = n; parameters = parameters }) j))
      → Follows new after further Q (goes_on o f) (goes_on p g)
  bind_declares_at {C} {D} {after} {Q} {o} {p} {f} g d h =
      bind_at d (λ a b k j behind q e r s. subst (λ (it : Declares). Follows new after behind Q (f a k) (g it j)) (sym (declared_as a b (renumbered behind) (r (renumbered behind) (agrees_so_far behind))))
      (h a b.node b.parameters k j behind q e (λ n m. ap (λ (it : Declares). it.parameters) (r n m)) s))

  pub judged_same : {k j : Known} (n m : ℕ) (xs ys : List Rule) → ys ≡ xs → IsBeside new used further k j → Follows new used further (Same {A = Unit {0}}) (settle n xs k) (settle m ys j)
  judged_same {k} {j} n m xs ys e b = by xs ys e
    where
      by : (xs ys : List Rule) → ys ≡ xs → Follows new used further (Same {A = Unit {0}}) (settle n xs k) (settle m ys j)
      by [] [] e = goes_here (λ r a. refl) b
      by [] (y ∷ ys) e = absurd cc
      by (x ∷ xs) ys e = breaks

  -- ---- where no marks stand

  pub unmarked_beside : {k j : Known} → IsBeside new used further k j → IsBeside new used further (record k { is_unmarked = true }) (record j { is_unmarked = true })
  unmarked_beside b = record {
    same = λ r a. ap (λ (it : Known). record it { is_unmarked = true }) (b.same r a);
    objects = b.objects;
    functions = b.functions;
    labels = b.labels;
  }

  pub unmarked : {A B : Type 0} {R : (ℕ → ℕ) → A → B → Type 0} {o : Outcome A} {p : Outcome B} (was other : Bool) → other ≡ was
      → Follows new used further R o p → Follows new used further R (marked_again was o) (marked_again other p)
  unmarked was other q (goes {known = k} {other = j} behind e r b) = goes behind e r (record {
    same = λ r a. ap (λ (it : Known). record it { is_unmarked = other }) (b.same r a) ∙ ap (λ u. with_others r (record k { is_unmarked = u }) j.next j.objects j.functions j.labels j.facts) q;
    objects = b.objects;
    functions = b.functions;
    labels = b.labels;
  })
  unmarked was other q breaks = breaks

  -- ---- scopes

  pub frames_beside : {k j : Known} (F G : List Frame) → ((r : ℕ → ℕ) → Agrees r further → G ≡ frames_with r F) → IsBeside new used further k j
      → IsBeside new used further (record k { frames = F }) (record j { frames = G })
  frames_beside {k} {j} F G e b = record {
    same = λ r a. ap (λ (it : Known). record it { frames = G }) (b.same r a)
        ∙ ap (λ frames. record (with_others r k j.next j.objects j.functions j.labels j.facts) { frames = frames }) (e r a);
    objects = b.objects;
    functions = b.functions;
    labels = b.labels;
  }

  -- one more name
  pub bound_beside : {k j : Known} (name : List ℕ) (entity other : Entity) → ((r : ℕ → ℕ) → Agrees r further → other ≡ entity_with r entity) → IsBeside new used further k j
      → IsBeside new used further (bind_name name entity k) (bind_name name other j)
  bound_beside {k} {j} name entity other e b = frames_beside (binding name entity k.frames) (binding name other j.frames)
      (λ r a. ap (λ it. binding name it j.frames) (e r a) ∙ ap (binding name (entity_with r entity)) (frames_known b r a) ∙ binding_with r name entity k.frames) b

  -- ---- labels

  pub label_beside : {k j : Known} (label : Label) → new label.id ≡ false → IsBeside new used further k j
      → IsBeside new used further (record k { labels = k.labels ++ label ∷ [] }) (record j { labels = j.labels ++ label ∷ [] })
  label_beside {k} {j} label h b = record {
    same = λ r a. ap (λ (it : Known). record it { labels = j.labels ++ label ∷ [] }) (b.same r a);
    objects = b.objects;
    functions = b.functions;
    labels = labelled label h b.labels;
  }

-- ---- the frames of the place around

pub scoped : {new : ℕ → Bool} {used : List ℕ} {further : List Bool} {A B : Type 0} {R : (ℕ → ℕ) → A → B → Type 0} {o : Outcome A} {p : Outcome B} (F G : List Frame)
    → ((r : ℕ → ℕ) → Agrees r further → G ≡ frames_with r F) → Follows new used further R o p
    → Follows new used further R (goes_on (left F o) (λ r known. Goes r.0 known)) (goes_on (left G p) (λ r known. Goes r.0 known))
scoped F G q (goes behind e r b) = goes behind e r (frames_beside F G (λ n a. q n (agrees_before e a)) b)
scoped F G q breaks = breaks
