-- Going over parts of a unit keeps whether marks may stand, the names of the objects that are there, and the functions.
use Rattle.std.proofs.Common.{◌≡◌, ℕ, zero, suc, ◌+◌, Bool, true, List, [], ◌∷◌, ◌++◌, map, Option, Some, None, refl, sym, ap, ◌∙◌, append_assoc}
use Rattle.std.specs.Prelude.{slice_get, slice_set}
use Rattle.std.proofs.lemmas.List.{append-nil, map-append}
use Rattle.lt_tree.specs.Typing.Rules.{Rule, least}
use Rattle.lt_tree.specs.Typing.TypedTree.{Start}
use Rattle.lt_tree.specs.Typing.Types.{CType}
use Rattle.lt_tree.specs.Typing.Declaring.{with_start}
use Rattle.lt_tree.specs.Typing.Entities.{Known, Frame, Object, Function}
use Rattle.lt_tree.specs.Typing.Steps.{Outcome, Goes, Breaks, goes_on, unless_broken, settle, gives, left, marked_again}
use Rattle.lt_tree.specs.Typing.Expressions.{Use, Judged, faults_of_any, finish}
use Rattle.lt_marked_texts.proofs.Arguments.{front_empty}

abbrev pub named : Known → List (List ℕ)
named known = map (λ object. object.name) known.objects

-- these names, with more behind them
abbrev pub IsBehind : List (List ℕ) → List (List ℕ) → Type 0
IsBehind names all = (more : List (List ℕ)) × (all ≡ names ++ more)

-- where a node was entered
abbrev pub inside_node : Known → Known
inside_node known = record known { next = known.next + 1 }

-- names of objects, and functions, that were known at a place
pub record Past : Type 0 where
  pub names : List (List ℕ)
  pub functions : List Function

abbrev pub past_of : Known → Past
past_of known = record { names = named known; functions = known.functions }

-- what is known behind a place of which this was known
pub record Since (was : Bool) (past : Past) (known : Known) : Type 0 where
  pub unmarked : known.is_unmarked ≡ was
  pub behind : IsBehind past.names (named known)
  pub functions : known.functions ≡ past.functions

-- A walk breaks a rule, or keeps this, and something is so.
pub data Walks {A : Type 0} (P : Type 0) (was : Bool) (past : Past) : Outcome A → Type 0 where
  went : {a : A} {known : Known} → Since was past known → P → Walks P was past (Goes a known)
  broke : {rule : Rule} {node : ℕ} → Walks P was past (Breaks rule node)

pub start : (known : Known) → Since known.is_unmarked (past_of known) known
start known = record { unmarked = refl; behind = ([], sym (append-nil (named known))); functions = refl }

none_broken : (rules : List Rule) → least rules ≡ None → rules ≡ []
none_broken [] h = refl
none_broken (rule ∷ rules) h = absurd cc

same_names : (objects : List Object) (n : ℕ) (old new : Object) → slice_get objects n ≡ Some old → new.name ≡ old.name → map (λ (o : Object). o.name) (slice_set objects n new) ≡ map (λ (o : Object). o.name) objects
same_names [] n old new there same = absurd cc
same_names (object ∷ objects) zero old new there same = let it : object ≡ old = cc in ap (λ name. name ∷ map (λ (o : Object). o.name) objects) (same ∙ ap (λ (o : Object). o.name) (sym it))
same_names (object ∷ objects) (suc n) old new there same = ap (λ names. object.name ∷ names) (same_names objects n old new there same)

module _ {was : Bool} {past : Past} where
  pub bind : {A B P Q : Type 0} {o : Outcome A} {rest : A → Known → Outcome B} → Walks P was past o → ((a : A) (known : Known) → Since was past known → P → Walks Q was past (rest a known)) → Walks Q was past (goes_on o rest)
  bind (went {a} {known} s p) f = f a known s p
  bind broke f = broke

  -- more is so
  pub onward : {A P Q : Type 0} {o : Outcome A} → Walks P was past o → (P → Q) → Walks Q was past o
  onward (went s p) f = went s (f p)
  onward broke f = broke

  -- ---- rules

  judged_by : {P : Type 0} (rule : Option Rule) (node : ℕ) (known : Known) → Since was past known → (rule ≡ None → P) → Walks P was past (unless_broken rule node known)
  judged_by None node known s p = went s (p refl)
  judged_by (Some rule) node known s p = broke

  pub judged : {P : Type 0} (node : ℕ) (rules : List Rule) (known : Known) → Since was past known → (rules ≡ [] → P) → Walks P was past (settle node rules known)
  judged node rules known s p = judged_by (least rules) node known s (λ h. p (none_broken rules h))

  pub finished : {P : Type 0} (node : ℕ) (role : Use) (it : Judged) (known : Known) → Since was past known → (it.faults ≡ [] → P) → Walks P was past (finish node role it known)
  unfolding finish
  finished node role it known s p =
      bind (judged node (it.faults ++ faults_of_any known.structs role it.typed) known s (λ h. p (front_empty it.faults (faults_of_any known.structs role it.typed) h)))
      (λ u k s p. went (record { unmarked = s.unmarked; behind = s.behind; functions = s.functions }) p)

  -- ---- scopes

  pub entered : (known : Known) → Since was past known → Since was past (record known { next = known.next + 1 })
  entered known s = record { unmarked = s.unmarked; behind = s.behind; functions = s.functions }

  pub in_frames : (frames : List Frame) (known : Known) → Since was past known → Since was past (record known { frames = frames })
  in_frames frames known s = record { unmarked = s.unmarked; behind = s.behind; functions = s.functions }

  pub blocked : {A P : Type 0} {o : Outcome A} (frames : List Frame) → Walks P was past o → Walks P was past (left frames o)
  blocked frames (went {a} {known} s p) = went (in_frames frames known s) p
  blocked frames broke = broke

  pub scoped : {A P : Type 0} {o : Outcome A} (frames : List Frame) → Walks P was past o → Walks P was past (goes_on (left frames o) (λ r. gives r.0))
  scoped frames w = bind (blocked frames w) (λ r k s p. went s p)

  pub unmarked_here : (known : Known) → Since was past known → Since true past (record known { is_unmarked = true })
  unmarked_here known s = record { unmarked = refl; behind = s.behind; functions = s.functions }

  pub marked_behind : {A P : Type 0} {o : Outcome A} (before : Bool) → before ≡ was → Walks P true past o → Walks P was past (marked_again before o)
  marked_behind before e (went {a} {known} s p) = went (record { unmarked = e; behind = s.behind; functions = s.functions }) p
  marked_behind before e broke = broke

  -- ---- objects

  pub one_more : (object : Object) (known : Known) → Since was past known → Since was past (record known { objects = known.objects ++ object ∷ [] })
  one_more object known s = record {
    unmarked = s.unmarked;
    behind = (
      s.behind.0 ++ object.name ∷ [],
      map-append (λ (o : Object). o.name) known.objects (object ∷ []) ∙ ap (λ l. l ++ object.name ∷ []) s.behind.1 ∙ append_assoc past.names s.behind.0 (object.name ∷ []),
    );
    functions = s.functions;
  }

  with_start_by : (found : Option Object) (n : ℕ) (start : Option Start) (t : CType) (known : Known) → slice_get known.objects n ≡ found → Since was past known
      → Since was past (elim found [ None ↦ known | Some object ↦ record known { objects = slice_set known.objects n (record object { type = t; start = start }) } ])
  with_start_by None n start t known is s = s
  with_start_by (Some object) n start t known is s = record {
    unmarked = s.unmarked;
    behind = (s.behind.0, same_names known.objects n object (record object { type = t; start = start }) is refl ∙ s.behind.1);
    functions = s.functions;
  }

  -- how an object starts is found later
  pub started : (n : ℕ) (start : Option Start) (t : CType) (known : Known) → Since was past known → Since was past (with_start n start t known)
  started n start t known s = with_start_by (slice_get known.objects n) n start t known refl s
