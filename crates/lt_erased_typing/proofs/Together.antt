-- Going over the same in two places where the same is known but for the numbers of objects.
use Rattle.std.proofs.Common.{◌≡◌, ℕ, Bool, true, false, List, [], ◌∷◌, length, Option, Some, None, refl, sym, ap, ◌∙◌, subst}
use Rattle.std.specs.Prelude.{◌++◌, ◌+◌, is_some}
use Rattle.lt_tree.specs.Typing.Types.{CType}
use Rattle.lt_tree.specs.Typing.Extents.{Structs}
use Rattle.lt_tree.specs.Typing.Rules.{Rule}
use Rattle.lt_tree.specs.Typing.Entities.{Known, Object, unmade, Fact, Frame, no_names, an_object, binding}
use Rattle.lt_tree.specs.Typing.Steps.{Outcome, Goes, Breaks, goes_on, settle, left, marked_again, notes, gives, ◌>>◌}
use Rattle.lt_tree.specs.Typing.Expressions.{Typed, Use, Judged, used, fact_of, faults_of_any, finish}
use Rattle.lt_tree.specs.Typing.Declarators.{binds_parameter}
use Rattle.lt_erased_typing.specs.Literals.{HasMoreTexts, none_more, one_unmade}
use Rattle.lt_erased_typing.specs.Erasable.{entered, unmarked, in_scope}
use Rattle.lt_erased_typing.proofs.Texts.{more_after}
use Rattle.lt_erased_typing.proofs.Scopes.{itself, AreAlike, scopes_later, scopes_begin, scopes_with}
use Rattle.lt_erased_typing.proofs.Going.{IsBeside, beside}
use Rattle.lt_erased_typing.proofs.Operands.{BareAs, BareJudged, used_as, any_same}
use Rattle.lt_erased_typing.proofs.Ends.{left_empty, right_empty, empty_both}
use Rattle.lt_erased_typing.proofs.Unmarked.{IsUnmarked, used_unmarked}

-- The same is known in both but for the numbers of nodes and objects, labels and facts.
pub record IsLike (k j : Known) : Type 0 where
  pub same : j ≡ record k { next = j.next; frames = j.frames; objects = j.objects; labels = j.labels; facts = j.facts }
  pub alike : AreAlike true k.frames j.frames k.objects j.objects

-- Where the first walk goes on, so does the second, to something that is related; behind these objects more is found.
pub data Together {A B : Type 0} (xs ys : List Object) (relation : A → B → Type 0) : Outcome A → Outcome B → Type 0 where
  together : {a : A} {b : B} {l i : Known} → relation a b → IsLike l i → HasMoreTexts true xs l.objects → HasMoreTexts true ys i.objects
      → Together xs ys relation (Goes a l) (Goes b i)
  apart : {rule : Rule} {node : ℕ} {outcome : Outcome B} → Together xs ys relation (Breaks rule node) outcome

-- ---- what is known in both

pub structs_like : {k j : Known} → IsLike k j → j.structs ≡ k.structs
structs_like h = ap (λ (it : Known). it.structs) h.same

unmarked_same : {k j : Known} → IsLike k j → j.is_unmarked ≡ k.is_unmarked
unmarked_same h = ap (λ (it : Known). it.is_unmarked) h.same

pub beside_like : {k j : Known} → IsLike k j → IsBeside true k (itself j) k j
beside_like {k} {j} h = subst (IsBeside true k (itself j) k) (sym h.same) (beside none_more none_more)

pub entered_like : {k j : Known} → IsLike k j → IsLike (entered k) (entered j)
entered_like {k} {j} h = record { same = ap (λ (it : Known). record it { next = j.next + 1 }) h.same; alike = h.alike }

pub unmarked_like : {k j : Known} → IsLike k j → IsLike (unmarked k) (unmarked j)
unmarked_like h = record { same = ap (λ (it : Known). record it { is_unmarked = true }) h.same; alike = h.alike }

noted_like : {k j : Known} (fact other : Fact) → IsLike k j → IsLike (record k { facts = k.facts ++ fact ∷ [] }) (record j { facts = j.facts ++ other ∷ [] })
noted_like {k} {j} fact other h = record { same = ap (λ (it : Known). record it { facts = j.facts ++ other ∷ [] }) h.same; alike = h.alike }

-- with other names in scope and other objects
with_like : {k j : Known} (fs gs : List Frame) (xs ys : List Object) → IsLike k j → AreAlike true fs gs xs ys
    → IsLike (record k { frames = fs; objects = xs }) (record j { frames = gs; objects = ys })
with_like fs gs xs ys h alike = record { same = ap (λ (it : Known). record it { frames = gs; objects = ys }) h.same; alike = alike }

pub scope_like : {k j : Known} → IsLike k j → IsLike (in_scope k) (in_scope j)
scope_like {k} {j} h = with_like (no_names ∷ k.frames) (no_names ∷ j.frames) k.objects j.objects h (scopes_begin h.alike)

-- ---- walks

later : {A B : Type 0} {R : A → B → Type 0} {xs ys ls ms : List Object} {o : Outcome A} {p : Outcome B} → HasMoreTexts true xs ls → HasMoreTexts true ys ms
    → Together ls ms R o p → Together xs ys R o p
later more others (together r s m n) = together r s (more_after more m) (more_after others n)
later more others apart = apart

module _ {xs ys : List Object} where
  pub on : {A B C D : Type 0} {R : A → B → Type 0} {Q : C → D → Type 0} {o : Outcome A} {p : Outcome B} {f : A → Known → Outcome C} {g : B → Known → Outcome D}
      → Together xs ys R o p → ((a : A) (b : B) (l i : Known) → R a b → IsLike l i → Together l.objects i.objects Q (f a l) (g b i))
      → Together xs ys Q (goes_on o f) (goes_on p g)
  on (together {a} {b} {l} {i} r s m n) h = later m n (h a b l i r s)
  on apart h = apart

  -- what is found, of what the walks went to
  pub so : {A B C D : Type 0} {R : A → B → Type 0} {Q : C → D → Type 0} {o : Outcome A} {p : Outcome B} (f : A → C) (g : B → D) → ((a : A) (b : B) → R a b → Q (f a) (g b))
      → Together xs ys R o p → Together xs ys Q (goes_on o (λ a l. Goes (f a) l)) (goes_on p (λ b i. Goes (g b) i))
  so f g h (together {a} {b} r s m n) = together (h a b r) s m n
  so f g h apart = apart

  pub settled_like : {C D : Type 0} {Q : C → D → Type 0} {k j : Known} (f : Unit {0} → Known → Outcome C) (g : Unit {0} → Known → Outcome D) (n m : ℕ) (rs qs : List Rule)
      → (rs ≡ [] → (qs ≡ []) × Together xs ys Q (f tt k) (g tt j)) → Together xs ys Q (goes_on (settle n rs k) f) (goes_on (settle m qs j) g)
  settled_like {Q = Q} {k = k} {j} f g n m [] qs h = let r = h refl in subst (λ them. Together xs ys Q (f tt k) (goes_on (settle m them j) g)) (sym r.0) r.1
  settled_like f g n m (r ∷ rs) qs h = apart

  pub constant_like : {A B : Type 0} {R : A → B → Type 0} {o : Outcome A} {p : Outcome B} {k j : Known} → IsLike k j → Together xs ys R o p
      → Together xs ys R (marked_again k.is_unmarked o) (marked_again j.is_unmarked p)
  constant_like {k = k} {j} h (together {l = l} {i = i} r s m n) = together r (record {
    same = ap (λ (it : Known). record it { is_unmarked = j.is_unmarked }) s.same
        ∙ ap (λ was. record l { next = i.next; is_unmarked = was; frames = i.frames; objects = i.objects; labels = i.labels; facts = i.facts }) (unmarked_same h);
    alike = s.alike;
  }) m n
  constant_like h apart = apart

pub found_here : {A B : Type 0} {R : A → B → Type 0} {a : A} {b : B} {k j : Known} → R a b → IsLike k j → Together k.objects j.objects R (Goes a k) (Goes b j)
found_here r s = together r s none_more none_more

-- out of a scope of its own, with the names of before
pub scope_left_like : {A B : Type 0} {R : A → B → Type 0} {o : Outcome A} {p : Outcome B} {k j : Known} → IsLike k j → Together k.objects j.objects R o p
    → Together k.objects j.objects R (goes_on (left k.frames o) (λ r l. Goes r.0 l)) (goes_on (left j.frames p) (λ r l. Goes r.0 l))
scope_left_like {k = k} {j} h (together {l = l} {i = i} r s m n) = together r (with_like k.frames j.frames l.objects i.objects s (scopes_later m n h.alike)) m n
scope_left_like h apart = apart

-- one more object in both
pub one_more_like : {A B : Type 0} {R : A → B → Type 0} {o : Outcome A} {p : Outcome B} {k j : Known} (x y : Object) → HasMoreTexts true k.objects (k.objects ++ x ∷ []) → HasMoreTexts true j.objects (j.objects ++ y ∷ [])
    → IsLike k j → (IsLike (record k { objects = k.objects ++ x ∷ [] }) (record j { objects = j.objects ++ y ∷ [] }) → Together (k.objects ++ x ∷ []) (j.objects ++ y ∷ []) R o p)
    → Together k.objects j.objects R o p
one_more_like {k = k} {j} x y more others s h =
    later more others (h (with_like k.frames j.frames (k.objects ++ x ∷ []) (j.objects ++ y ∷ []) s (scopes_later more others s.alike)))

-- the name of a parameter is in scope behind it
pub bound_like : {k j : Known} (name : Option (List ℕ)) (is_register : Bool) (n m : ℕ) (t u : CType) → (is_some name ≡ true → u ≡ t) → IsLike k j
    → Together k.objects j.objects (λ those others. Unit {0}) (binds_parameter false is_register n name t k) (binds_parameter false is_register m name u j)
bound_like None is_register n m t u same s = found_here tt s
bound_like {k} {j} (Some w) is_register n m t u same s =
    let x : Object = record { node = n; name = w; type = t; life = unmade; start = None } in
    let y : Object = record { node = m; name = w; type = u; life = unmade; start = None } in
    let more : HasMoreTexts true k.objects (k.objects ++ x ∷ []) = one_unmade x refl refl none_more in
    let others : HasMoreTexts true j.objects (j.objects ++ y ∷ []) = one_unmade y refl refl none_more in
    together tt
    (with_like (binding w (an_object (length k.objects) is_register) k.frames) (binding w (an_object (length j.objects) is_register) j.frames) (k.objects ++ x ∷ []) (j.objects ++ y ∷ []) s
    (scopes_with w is_register x y (same refl) s.alike more others)) more others

-- ---- the ends of nodes

-- the same without its marks, and it has none
abbrev pub PureAs : Use → Typed → Typed → Type 0
PureAs role x y = BareAs role x y × IsUnmarked x

abbrev pub PureJudged : Judged → Judged → Type 0
PureJudged it other = BareJudged it other × IsUnmarked it.typed

pub finished_like : {k j : Known} (n m : ℕ) (role : Use) (it other : Judged) → PureJudged it other → IsLike k j → Together k.objects j.objects (PureAs role) (finish n role it k) (finish m role other j)
unfolding finish
finished_like {k} {j} n m role it other h b =
    settled_like (λ u. notes (fact_of n it.typed) >> gives (used role it.typed)) (λ u. notes (fact_of m other.typed) >> gives (used role other.typed)) n m
    (it.faults ++ faults_of_any k.structs role it.typed) (other.faults ++ faults_of_any j.structs role other.typed)
    (λ r. let both = h.0 (left_empty it.faults (faults_of_any k.structs role it.typed) r) in (
      empty_both other.faults (faults_of_any j.structs role other.typed) both.0
          (ap (λ (s : Structs). faults_of_any s role other.typed) (structs_like b) ∙ any_same k.structs role both.1 ∙ right_empty it.faults (faults_of_any k.structs role it.typed) r),
      found_here (used_as role both.1, used_unmarked role it.typed h.1) (noted_like (fact_of n it.typed) (fact_of m other.typed) b),
    ))
