-- Declarators that are read are derived: a step of each reading function.
use Rattle.std.proofs.Common.{◌≡◌, ℕ, suc, ◌&&◌, not, true, false, cond, List, [], ◌∷◌, drop, Option, Some, None, refl, sym, subst}
use Rattle.std.proofs.lemmas.Bool.{and_parts, not-true, cond_both}
use Rattle.lt_tree.specs.declared.terminal.Terminal.{Terminal}
use Rattle.lt_tree.specs.declared.terminal.Terminal.TheVariants as t
use Rattle.lt_tree.specs.Tree as c
use Rattle.lt_tree.specs.Symbols.{Symbol, name, constant, literal, sign, start_of}
use Rattle.lt_tree.specs.Scope.{Scope, after_expression, after_specifiers, after_parts, after_parameter}
use Rattle.lt_tree.specs.Grammar as g
use Rattle.lt_tree.specs.Grammar.{is_missing, joined}
use Rattle.lt_tree.specs.Ahead.{Naming, named, untyped, nameless, either, behind_star, takes_name, takes_none, opens_parameters, begins_direct, same_terminal, sees, begins_declarator, begins_suffix, is_void_alone}
use Rattle.lt_expr.specs.Front.{Rest, behind, begins_nested, own_name, goes_on_with_parameter, qualifiers}
use Rattle.lt_expr.specs.Walk.{Walked, node, walk_declarator, walk_parts}
use Rattle.lt_expr.specs.Reading as read
use Rattle.lt_expr.specs.Reading.{NameAndParts, as_declarator, list_end}
use Rattle.lt_expr.proofs.Walks.{joined_none, joined_joined, walk_joined}
use Rattle.lt_expr.proofs.HiddenNames.{length_hidden}
use Rattle.lt_expr.proofs.SoundSteps.{Yields, nothing, given, weaker, both, chosen}
use Rattle.lt_expr.proofs.SoundFronts.{other_of, Sees, seen, see, seeing, expecting}
use Rattle.lt_expr.proofs.SoundSpots.{Spotted, no_spot, by_rule, same_walk, two, three, one_node}
use Rattle.lt_expr.proofs.SoundStatements.{ReadsSound, SpecifiersSound, DeclaratorSound, PointersSound, DirectSound, SuffixesSound, SuffixSound, ParametersSound, ParameterListSound, HasPointers, HasDirect}

-- a declarator that isn't missing is a node
walk_written : (name : Option (List ℕ)) (parts : c.Parts) → is_missing name parts ≡ false → (w : Walked) → walk_declarator (c.declarator name parts) w ≡ node (walk_parts parts) w
walk_written None c.no_parts e w = absurd cc
walk_written None (c.Pointer q rest) e w = refl
walk_written None (c.Array length rest) e w = refl
walk_written None (c.Function parameters rest) e w = refl
walk_written (Some n) parts e w = refl

-- ---- what is seen

constant_rule : {ts us : List Symbol} {q : c.Qualifiers} → Sees t.Const ts → g.AreQualifiers (drop 1 ts) q us → g.AreQualifiers ts (record q { constant = true }) us
constant_rule seen d = g.constant d

volatile_rule : {ts us : List Symbol} {q : c.Qualifiers} → Sees t.Volatile ts → g.AreQualifiers (drop 1 ts) q us → g.AreQualifiers ts (record q { volatile = true }) us
volatile_rule seen d = g.volatile d

are_qualifiers : (ts : List Symbol) → g.AreQualifiers ts (qualifiers ts).0 (qualifiers ts).1
unfolding same_terminal
are_qualifiers [] = g.no_qualifiers refl refl
are_qualifiers (s ∷ ts) =
    cond_both (sees t.Const (s ∷ ts)) _ _ (λ (q : c.Qualifiers × List Symbol). g.AreQualifiers (s ∷ ts) q.0 q.1)
    (λ e. constant_rule (see t.Const (s ∷ ts) (λ q. cc) e) (are_qualifiers ts))
    (λ e. cond_both (sees t.Volatile (s ∷ ts)) _ _ (λ (q : c.Qualifiers × List Symbol). g.AreQualifiers (s ∷ ts) q.0 q.1)
    (λ f. volatile_rule (see t.Volatile (s ∷ ts) (λ q. cc) f) (are_qualifiers ts))
    (λ f. g.no_qualifiers e f))

-- ---- the rules, by what is seen

pointer_rule : {scope : Scope} {naming : Naming} {ts rest : List Symbol} {outer parts : c.Parts} {name : Option (List ℕ)} {spots more : List ℕ}
    → Sees t.Star ts → g.ArePointers scope (behind_star naming) (qualifiers (drop 1 ts)).1 (c.Pointer (qualifiers (drop 1 ts)).0 outer) name parts rest spots more
    → g.ArePointers scope naming ts outer name parts rest spots more
pointer_rule (seen {ts = us}) d = g.pointer (are_qualifiers us) d

nested_rule : {scope : Scope} {naming : Naming} {ts us rest : List Symbol} {outer suffixed parts : c.Parts} {name : Option (List ℕ)} {spots middle more : List ℕ} (inner : c.Parts)
    → Sees t.OpenParen ts → Sees t.CloseParen us → opens_parameters naming scope (drop 1 ts) ≡ false
    → g.ArePointers scope naming (drop 1 ts) suffixed name parts us spots middle → parts ≡ joined inner suffixed
    → g.AreSuffixes (after_parts inner scope) (drop 1 us) outer suffixed rest middle more
    → g.IsDirect scope naming ts outer name parts rest spots more
nested_rule inner seen seen o d is e = g.nested inner o d is e

unsized_rule : {scope : Scope} {ts rest : List Symbol} {outer parts : c.Parts} {spots more : List ℕ}
    → Sees t.OpenIndex ts → Sees t.CloseIndex (drop 1 ts) → g.AreSuffixes scope (drop 1 (drop 1 ts)) outer parts rest spots more
    → g.AreSuffixes scope ts outer (c.Array c.absent parts) rest spots more
unsized_rule seen seen d = g.unsized_array d

array_rule : {scope : Scope} {ts us rest : List Symbol} {outer parts : c.Parts} {e : c.Expression} {spots middle more : List ℕ}
    → Sees t.OpenIndex ts → Sees t.CloseIndex us → g.IsExpression scope g.conditional (drop 1 ts) e us spots middle
    → g.AreSuffixes (after_expression e scope) (drop 1 us) outer parts rest middle more
    → g.AreSuffixes scope ts outer (c.Array (c.present e) parts) rest spots more
array_rule seen seen d e = g.array d e

function_rule : {scope : Scope} {ts us rest : List Symbol} {outer parts : c.Parts} {inside : c.Parameters} {spots middle more : List ℕ}
    → Sees t.OpenParen ts → g.AreParameters scope (drop 1 ts) inside us spots middle → g.AreSuffixes scope us outer parts rest middle more
    → g.AreSuffixes scope ts outer (c.Function inside parts) rest spots more
function_rule seen d e = g.function d e

unstated_rule : {scope : Scope} {ts : List Symbol} {more : List ℕ} → Sees t.CloseParen ts → g.AreParameters scope ts c.Unstated (drop 1 ts) more more
unstated_rule seen = g.unstated

close_behind : {scope : Scope} {at : ℕ} {ts : List Symbol} {more : List ℕ} → Sees t.CloseParen ts → g.AreParameters scope (sign t.Void at ∷ ts) c.Void (drop 1 ts) more more
close_behind seen = g.void_alone

void_rule : {scope : Scope} (ts : List Symbol) {more : List ℕ} → is_void_alone ts ≡ true → g.AreParameters scope ts c.Void (drop 1 (drop 1 ts)) more more
void_rule (sign t.Void at ∷ ts) e = close_behind (see t.CloseParen ts (λ q. cc) e)
void_rule ts e = absurd cc

listed_rule : {scope : Scope} {ts us : List Symbol} {ps : c.ParameterList} {spots more : List ℕ}
    → is_void_alone ts ≡ false → Sees t.CloseParen us → g.IsParameterList scope ts ps us spots more
    → g.AreParameters scope ts (c.Listed ps) (drop 1 us) spots more
listed_rule e seen d = g.listed e d

open_rule : {scope : Scope} {ts us : List Symbol} {ps : c.ParameterList} {spots more : List ℕ}
    → Sees t.Comma us → Sees t.Ellipsis (drop 1 us) → Sees t.CloseParen (drop 1 (drop 1 us)) → g.IsParameterList scope ts ps us spots more
    → g.AreParameters scope ts (c.Open ps) (drop 1 (drop 1 (drop 1 us))) spots more
open_rule seen seen seen d = g.open_list d

more_parameters_rule : {scope : Scope} {ts us vs rest : List Symbol} {ss : c.Specifiers} {d : c.Declarator} {ps : c.ParameterList} {spots first second more : List ℕ}
    → Sees t.Comma vs → g.AreSpecifiers scope ts ss us spots first → g.IsDeclarator (after_specifiers ss scope) either us d vs first second
    → g.IsParameterList (after_parameter ss d scope) (drop 1 vs) ps rest second more
    → g.IsParameterList scope ts (c.a_parameter ss d ps) rest spots more
more_parameters_rule seen d e f = g.more_parameters d e f

-- ---- the name of a declarator

no_direct : (naming : Naming) (scope : Scope) (k : Terminal) (at : ℕ) (ts : List Symbol) → takes_none naming ≡ true
    → begins_nested naming scope (sign k at ∷ ts) ≡ false → begins_direct scope (sign k at ∷ ts) ≡ false
unfolding same_terminal
no_direct named scope t.OpenParen at ts e f = absurd cc
no_direct untyped scope t.OpenParen at ts e f = absurd cc
no_direct nameless scope t.OpenParen at ts e f = f
no_direct either scope t.OpenParen at ts e f = f
no_direct naming scope k at ts e f = refl

-- with suffixes behind it, this name makes a direct declarator
record IsOwn (scope : Scope) (naming : Naming) (ts : List Symbol) (name : Option (List ℕ)) (us : List Symbol) : Type 0 where
  before : (outer parts : c.Parts) (rest : List Symbol) (spots more : List ℕ) → g.AreSuffixes scope us outer parts rest spots more
      → g.IsDirect scope naming ts outer name parts rest spots more

own_nothing : (scope : Scope) (naming : Naming) (ts : List Symbol) (ends : List ℕ) → (takes_none naming ≡ true → begins_direct scope ts ≡ false)
    → Yields {A = Option (List ℕ) × Rest} (cond (takes_none naming) (Some (None, (ts, ends))) None) (λ x. IsOwn scope naming ts x.0 x.1.0 × (x.1.1 ≡ ends))
own_nothing scope naming ts ends none =
    chosen (takes_none naming)
    (λ e. given (record { before = λ outer parts rest spots more d. g.by_nothing e (none e) d }, refl))
    (λ e. nothing)

own_is : (scope : Scope) (naming : Naming) (r : Rest) → begins_nested naming scope r.0 ≡ false
    → Yields (own_name naming scope r) (λ x. IsOwn scope naming r.0 x.0 x.1.0 × (x.1.1 ≡ r.1))
own_is scope naming ([], ends) f = own_nothing scope naming [] ends (λ e. refl)
own_is scope naming (name w at ∷ ts, ends) f =
    chosen (takes_name naming scope w)
    (λ e. given (record { before = λ outer parts rest spots more d. g.by_name e d }, refl))
    (λ e. nothing)
own_is scope naming (constant w at ∷ ts, ends) f = own_nothing scope naming (constant w at ∷ ts) ends (λ e. refl)
own_is scope naming (literal w at ∷ ts, ends) f = own_nothing scope naming (literal w at ∷ ts) ends (λ e. refl)
own_is scope naming (sign k at ∷ ts, ends) f = own_nothing scope naming (sign k at ∷ ts) ends (λ e. no_direct naming scope k at ts e f)

-- ---- a step of each

written_is : (scope : Scope) (naming : Naming) (r : Rest) (x : NameAndParts × Rest) → Spotted (walk_parts x.0.1) x.1.1 r.1 (HasPointers scope naming r.0 x.0 x.1.0)
    → Yields (as_declarator (start_of r.0) x) (λ y. Spotted (walk_declarator y.0) y.1.1 r.1 (g.IsDeclarator scope naming r.0 y.0 y.1.0))
written_is scope naming r x d =
    chosen (is_missing x.0.0 x.0.1)
    (λ e. nothing)
    (λ e. given (same_walk (walk_written x.0.0 x.0.1 e)
    (one_node (λ spots more h. g.written (subst (λ (p : c.Parts). g.ArePointers scope naming r.0 c.no_parts x.0.0 p x.1.0 spots more) (joined_none x.0.1) (h.before c.no_parts)) e) d)))

pub declarator_sound : (n : ℕ) → PointersSound n → DeclaratorSound (suc n)
unfolding read.expression
declarator_sound n pointers scope naming r =
    chosen (takes_none naming && not (begins_declarator r.0))
    (λ b. given (no_spot (λ more.
    g.missing (and_parts (takes_none naming) _ b).0 (not-true (begins_declarator r.0) (and_parts (takes_none naming) _ b).1))))
    (λ b. both (read.pointers n scope naming r) (pointers scope naming r) (λ x d. written_is scope naming r x d))

pub pointers_sound : (n : ℕ) → DirectSound n → PointersSound n → PointersSound (suc n)
unfolding read.expression
pointers_sound n direct pointers scope naming r =
    seeing t.Star r.0 (λ q. cc)
    (λ s.
    both (read.pointers n scope (behind_star naming) ((qualifiers (drop 1 r.0)).1, r.1)) (pointers scope (behind_star naming) ((qualifiers (drop 1 r.0)).1, r.1)) (λ x d.
    given (same_walk (walk_joined x.0.1 (c.Pointer (qualifiers (drop 1 r.0)).0 c.no_parts))
    (by_rule (λ spots more h. record {
      before = λ outer.
          subst (λ (p : c.Parts). g.ArePointers scope naming r.0 outer x.0.0 p x.1.0 spots more)
          (sym (joined_joined x.0.1 (c.Pointer (qualifiers (drop 1 r.0)).0 c.no_parts) outer))
          (pointer_rule s (h.before (c.Pointer (qualifiers (drop 1 r.0)).0 outer)));
    }) d))))
    (λ e. weaker (λ x d. by_rule (λ spots more h. record { before = λ outer. g.no_pointer e (h.before outer) }) d) (direct scope naming r))

pub direct_sound : (n : ℕ) → PointersSound n → SuffixesSound n → DirectSound (suc n)
unfolding read.expression
direct_sound n pointers suffixes scope naming r =
    chosen (begins_nested naming scope r.0)
    (λ b.
    let s = see t.OpenParen r.0 (λ q. cc) (and_parts (sees t.OpenParen r.0) _ b).0 in
    let o = not-true (opens_parameters naming scope (drop 1 r.0)) (and_parts (sees t.OpenParen r.0) _ b).1 in
    both (read.pointers n scope naming (behind r)) (pointers scope naming (behind r)) (λ x d.
    expecting t.CloseParen x.1 _ (λ q. cc) (λ close.
    both (read.suffixes n (after_parts x.0.1 scope) (behind x.1)) (suffixes (after_parts x.0.1 scope) (behind x.1)) (λ y e.
    given (same_walk (walk_joined x.0.1 y.0)
    (two (λ spots middle more h k. record {
      before = λ outer.
          subst (λ (p : c.Parts). g.IsDirect scope naming r.0 outer x.0.0 p y.1.0 spots more) (sym (joined_joined x.0.1 y.0 outer))
          (nested_rule x.0.1 s close o (h.before (joined y.0 outer)) refl (k.before outer));
    }) d e))))))
    (λ b.
    both (own_name naming scope r) (own_is scope naming r b) (λ w i.
    both (read.suffixes n scope w.1) (suffixes scope w.1) (λ y d.
    given (subst (λ (ends : List ℕ). Spotted (walk_parts y.0) y.1.1 ends (HasDirect scope naming r.0 (w.0, y.0) y.1.0)) i.1
    (by_rule (λ spots more h. record { before = λ outer. i.0.before outer (joined y.0 outer) y.1.0 spots more (h.before outer) }) d)))))

pub suffixes_sound : (n : ℕ) → SuffixSound n → SuffixesSound n → SuffixesSound (suc n)
unfolding read.expression
suffixes_sound n suffix suffixes scope r =
    chosen (begins_suffix r.0)
    (λ b.
    both (read.suffix n scope r) (suffix scope r b) (λ x d.
    both (read.suffixes n (after_parts x.0 scope) x.1) (suffixes (after_parts x.0 scope) x.1) (λ y e.
    given (same_walk (walk_joined x.0 y.0)
    (two (λ spots middle more h k. record {
      before = λ outer.
          subst (λ (p : c.Parts). g.AreSuffixes scope r.0 outer p y.1.0 spots more) (sym (joined_joined x.0 y.0 outer))
          (h.before outer (joined y.0 outer) y.1.0 more (k.before outer));
    }) d e)))))
    (λ b. given (no_spot (λ more. record { before = λ outer. g.no_suffix b })))

pub suffix_sound : (n : ℕ) → ParametersSound n → ReadsSound g.conditional (read.conditional n) → SuffixSound (suc n)
unfolding read.expression
suffix_sound n parameters conditional scope r begins =
    seeing t.OpenParen r.0 (λ q. cc)
    (λ s.
    both (read.parameters n scope (behind r)) (parameters scope (behind r)) (λ x d.
    given (by_rule (λ spots middle h. record { before = λ outer others end more k. function_rule s h k }) d)))
    (λ e.
    let s = see t.OpenIndex r.0 (λ q. cc) (other_of (sees t.OpenParen r.0) (sees t.OpenIndex r.0) begins e) in
    seeing t.CloseIndex (drop 1 r.0) (λ q. cc)
    (λ close. given (no_spot (λ middle. record { before = λ outer others end more k. unsized_rule s close k })))
    (λ sized.
    both (read.conditional n scope (behind r)) (conditional scope (behind r)) (λ x d.
    expecting t.CloseIndex x.1 _ (λ q. cc) (λ close.
    given (by_rule (λ spots middle h. record {
      before = λ outer others end more k.
          array_rule s close h (subst (λ (names : Scope). g.AreSuffixes names (drop 1 x.1.0) outer others end middle more) (length_hidden x.0 scope) k);
    }) d)))))

pub parameters_sound : (n : ℕ) → ParameterListSound n → ParametersSound (suc n)
unfolding read.expression
parameters_sound n list scope r =
    seeing t.CloseParen r.0 (λ q. cc)
    (λ s. given (no_spot (λ more. unstated_rule s)))
    (λ a. chosen (is_void_alone r.0)
    (λ e. given (no_spot (λ more. void_rule r.0 e)))
    (λ e.
    both (read.parameter_list n scope r) (list scope r) (λ ps d.
    seeing t.Comma ps.1.0 (λ q. cc)
    (λ s.
    expecting t.Ellipsis (behind ps.1) _ (λ q. cc) (λ dots.
    expecting t.CloseParen (behind (behind ps.1)) _ (λ q. cc) (λ close.
    given (by_rule (λ spots more h. open_rule s dots close h) d))))
    (λ f.
    expecting t.CloseParen ps.1 _ (λ q. cc) (λ close.
    given (by_rule (λ spots more h. listed_rule e close h) d))))))

pub parameter_list_sound : (n : ℕ) → SpecifiersSound n → DeclaratorSound n → ParameterListSound n → ParameterListSound (suc n)
unfolding read.expression
parameter_list_sound n specifiers declarator list scope r =
    both (read.specifiers n scope r) (specifiers scope r) (λ s d.
    both (read.declarator n (after_specifiers s.0 scope) either s.1) (declarator (after_specifiers s.0 scope) either s.1) (λ x e.
    chosen (goes_on_with_parameter x.1.0)
    (λ b.
    let comma = see t.Comma x.1.0 (λ q. cc) (and_parts (sees t.Comma x.1.0) _ b).0 in
    both (read.parameter_list n (after_parameter s.0 x.0 scope) (behind x.1)) (list (after_parameter s.0 x.0 scope) (behind x.1)) (λ y f.
    given (three (λ spots first second more h k l. more_parameters_rule comma h k l) d e f)))
    (λ b. given (two (λ spots middle more h k. g.last_parameter h k) d e))))
