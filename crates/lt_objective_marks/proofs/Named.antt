-- The parameters of a function with a body are named in its scope.
use Rattle.std.proofs.Common.{◌≡◌, inl, inr, refl, sym, ap, ◌∙◌, subst, ℕ, suc, Bool, true, false, ◌&&◌, List, [], ◌∷◌, ◌++◌, length, slice_get, Option, Some, None}
use Rattle.std.proofs.lemmas.Slice.Eq.{bytes_eq-Decides}
use Rattle.std.specs.Prelude.{if◌then◌else◌, is_some}
use Rattle.lt_tree.specs.Tree as c
use Rattle.lt_tree.specs.Typing.Types.{CType, Array, Function as FunctionType, adjusted, is_floating, is_pointer_to_function}
use Rattle.lt_tree.specs.Typing.Rules.{Rule, least, broken_if, declared_twice, incomplete_type, floating_type, function_as_value}
use Rattle.lt_tree.specs.Typing.Entities.{Known, Object, Function, Frame, Entity, an_object, parameter, unmade, innermost, bound_among, declared_here, binding, bound_in, or_else, no_names}
use Rattle.lt_tree.specs.Typing.Steps.{Outcome, Goes, Breaks, goes_on, unless_broken, left, gives}
use Rattle.lt_tree.specs.Typing.Expressions.{Typed, has_pointer_to_function}
use Rattle.lt_tree.specs.Typing.Specifying.{Specified, is_register, elsewhere}
use Rattle.lt_tree.specs.Typing.Declarators.{Built, Declares, declares, Parameters, no_parameters_yet, length_or_none, array_of, pointer_to, function_of, all_faults, is_written, is_declared_here, is_incomplete, parameter_faults, binds_parameter, parameter_before}
use Rattle.lt_tree.specs.Typing.NodeEnds.{end_of_declarator, enter_if, with_dots}
use Rattle.lt_tree.specs.Typing.ExpressionTyping.{maybe, specifiers, declarator, parts, parameters, parameter_list}
use Rattle.lt_objective_places.specs.Stands.{IsAmong}
use Rattle.lt_objective_places.proofs.Among.{in_either}
use Rattle.lt_mark_typing.specs.Placed.{entered}
use Rattle.lt_tree.specs.Typing.Declaring.{definition_faults}
use Rattle.lt_tree.specs.Typing.UnitTyping.{objects_of, frame_of}
use Rattle.lt_objective_marks.specs.Bodies.{IsBehindMarks, no_mark, a_mark, ParametersAreNamed}
use Rattle.lt_objective_marks.proofs.Names as names
use Rattle.lt_objective_marks.proofs.Names.{Names, bound_still, is_none}
use Rattle.lt_objective_marks.proofs.Keeping as kept
use Rattle.lt_objective_marks.proofs.Keeping.{Lies, bound_deep}
use Rattle.lt_objective_marks.proofs.Lasting as lasting
use Rattle.lt_objective_marks.proofs.Ways.{lies_behind, none_broken, second_empty, went_on, through}

-- ---- what is judged of a declarator

first_empty : (xs ys : List Rule) → xs ++ ys ≡ [] → xs ≡ []
first_empty [] ys is = refl
first_empty (x ∷ xs) ys is = absurd cc

not_broken : (rule : Rule) (b : Bool) → broken_if rule b ≡ [] → b ≡ false
not_broken rule true is = absurd cc
not_broken rule false is = refl

record Ended (declared : Declares) (last : Known) (name : List ℕ) (judge : Option (List ℕ) → Known → Built → List Rule) : Type 0 where
  built : Built
  named : declared.name ≡ Some name
  type : built.type ≡ declared.type
  clean : judge (Some name) last built ≡ []

ended : (node : ℕ) (name : List ℕ) (it : Specified) (b : Built) (judge : Option (List ℕ) → Known → Built → List Rule) (j : Known) (declared : Declares) (last : Known)
    → end_of_declarator (Some node) (Some name) b (all_faults it b (judge (Some name) j b)) j ≡ Goes declared last → Ended declared last name judge
ended node name it b judge j declared last goes = by (least (all_faults it b (judge (Some name) j b))) (none_broken (all_faults it b (judge (Some name) j b))) goes
  where
    by : (rule : Option Rule) → (rule ≡ None → all_faults it b (judge (Some name) j b) ≡ []) → goes_on (unless_broken rule node j) (λ u. gives (declares node (Some name) b [])) ≡ Goes declared last → Ended declared last name judge
    by None so is =
        let same : declares node (Some name) b [] ≡ declared = cc in
        let here : j ≡ last = cc in record {
          built = b;
          named = sym (ap (λ (x : Declares). x.name) same);
          type = ap (λ (x : Declares). x.type) same;
          clean = subst (λ k. judge (Some name) k b ≡ []) here (second_empty (it.faults ++ b.faults) (judge (Some name) j b) (so refl));
        }
    by (Some rule) so is = absurd cc

-- a declarator with a name, and one without
named_end : (name : List ℕ) (ps : c.Parts) (it : Specified) (judge : Option (List ℕ) → Known → Built → List Rule) (k : Known) (declared : Declares) (last : Known)
    → declarator (c.declarator (Some name) ps) it false judge k ≡ Goes declared last → Ended declared last name judge
named_end name ps it judge k declared last goes =
    let rest : Built → Known → Outcome Declares = λ b j. end_of_declarator (Some k.next) (Some name) b (all_faults it b (judge (Some name) j b)) j in
    let found = went_on (parts ps it.type false true (entered k)) rest goes in
    ended k.next name it found.0 judge found.1 declared last (through rest goes found.2)

unnamed_end : (ps : c.Parts) (it : Specified) (judge : Option (List ℕ) → Known → Built → List Rule) (k : Known) (declared : Declares) (last : Known)
    → declarator (c.declarator None ps) it false judge k ≡ Goes declared last → declared.name ≡ None
unnamed_end ps it judge k declared last goes =
    let rest : Option ℕ → Known → Outcome Declares = λ node j. goes_on (parts ps it.type false true j) (λ b i. end_of_declarator node None b (all_faults it b (judge None i b)) i) in
    let first = went_on (enter_if (is_written None ps) k) rest goes in
    let last_rest : Built → Known → Outcome Declares = λ b i. end_of_declarator first.0 None b (all_faults it b (judge None i b)) i in
    let second = went_on (parts ps it.type false true first.1) last_rest (through rest goes first.2) in
    by first.0 second.0 (all_faults it second.0 (judge None second.1 second.0)) second.1 (through last_rest (through rest goes first.2) second.2)
  where
    settled : (node : ℕ) (b : Built) (rule : Option Rule) (i : Known) → goes_on (unless_broken rule node i) (λ u. gives (declares node None b [])) ≡ Goes declared last → declared.name ≡ None
    settled node b None i is = let same : declares node None b [] ≡ declared = cc in sym (ap (λ (x : Declares). x.name) same)
    settled node b (Some rule) i is = absurd cc

    by : (node : Option ℕ) (b : Built) (faults : List Rule) (i : Known) → end_of_declarator node None b faults i ≡ Goes declared last → declared.name ≡ None
    by None b faults i is = let same : declares 0 None b faults ≡ declared = cc in sym (ap (λ (x : Declares). x.name) same)
    by (Some node) b faults i is = settled node b (least faults) i is

-- ---- one parameter

abbrev parameter_object : (is_definition : Bool) → ℕ → List ℕ → CType → Object
parameter_object is_definition node name t = record { node = node; name = name; type = t; life = if is_definition then parameter else unmade; start = None }

-- what is bound is found
bound_here : (v : List ℕ) (e : Entity) (frames : List Frame) {deep : ℕ} → length frames ≡ suc deep → bound_among v (innermost (binding v e frames)).names ≡ Some e
bound_here v e [] is = absurd cc
bound_here v e (frame ∷ frames) is = ap (λ b. if b then Some e else bound_among v frame.names) ((bytes_eq-Decides v v).1 refl)

-- a parameter has an object and binds its name, or has none
data Bound (is_definition is_register : Bool) (node : ℕ) (name : Option (List ℕ)) (t : CType) (before : Known) (objects : List ℕ) (behind : Known) : Type 0 where
  unbound : name ≡ None → objects ≡ [] → before ≡ behind → Bound is_definition is_register node name t before objects behind
  bound : (v : List ℕ) → name ≡ Some v → objects ≡ length before.objects ∷ []
      → record before { objects = before.objects ++ parameter_object is_definition node v t ∷ []; frames = binding v (an_object (length before.objects) is_register) before.frames } ≡ behind
      → Bound is_definition is_register node name t before objects behind

is_bound : (is_definition is_register : Bool) (node : ℕ) (name : Option (List ℕ)) (t : CType) (before : Known) (objects : List ℕ) (behind : Known)
    → binds_parameter is_definition is_register node name t before ≡ Goes objects behind → Bound is_definition is_register node name t before objects behind
is_bound is_definition is_register node None t before objects behind goes = let x : objects ≡ [] = cc in let y : before ≡ behind = cc in unbound refl x y
is_bound is_definition is_register node (Some v) t before objects behind goes =
    let x : objects ≡ length before.objects ∷ [] = cc in
    let y : record before { objects = before.objects ++ parameter_object is_definition node v t ∷ []; frames = binding v (an_object (length before.objects) is_register) before.frames } ≡ behind = cc in
    bound v refl x y

record Steps (is_definition : Bool) (s : c.Specifiers) (d : c.Declarator) (rest : c.ParameterList) (k : Known) (them : Parameters) (last : Known) : Type 0 where
  it : Specified
  first : Known
  specified : specifiers s elsewhere k ≡ Goes it first
  declared : Declares
  second : Known
  declares_it : declarator d it false (parameter_faults is_definition) first ≡ Goes declared second
  objects : List ℕ
  third : Known
  binds : Bound is_definition (is_register it) declared.node declared.name (adjusted declared.type) second objects third
  others : Parameters
  listed : parameter_list rest is_definition third ≡ Goes others last
  all : parameter_before declared objects others ≡ them

steps : (is_definition : Bool) (s : c.Specifiers) (d : c.Declarator) (rest : c.ParameterList) (k : Known) (them : Parameters) (last : Known)
    → parameter_list (c.a_parameter s d rest) is_definition k ≡ Goes them last → Steps is_definition s d rest k them last
steps is_definition s d rest k them last goes =
    let on_third : Declares → List ℕ → Known → Outcome Parameters = λ declared objects j. goes_on (parameter_list rest is_definition j) (λ others. gives (parameter_before declared objects others)) in
    let on_second : Specified → Declares → Known → Outcome Parameters = λ it declared j. goes_on (binds_parameter is_definition (is_register it) declared.node declared.name (adjusted declared.type) j) (on_third declared) in
    let on_first : Specified → Known → Outcome Parameters = λ it j. goes_on (declarator d it false (parameter_faults is_definition) j) (on_second it) in
    let a = went_on (specifiers s elsewhere k) on_first goes in
    let b = went_on (declarator d a.0 false (parameter_faults is_definition) a.1) (on_second a.0) (through on_first goes a.2) in
    let at_third = through (on_second a.0) (through on_first goes a.2) b.2 in
    let e = went_on (binds_parameter is_definition (is_register a.0) b.0.node b.0.name (adjusted b.0.type) b.1) (on_third b.0) at_third in
    let at_rest = through (on_third b.0) at_third e.2 in
    let f = went_on (parameter_list rest is_definition e.1) (λ others. gives (parameter_before b.0 e.0 others)) at_rest in
    ends a.0 a.1 a.2 b.0 b.1 b.2 e.0 e.1 (is_bound is_definition (is_register a.0) b.0.node b.0.name (adjusted b.0.type) b.1 e.0 e.1 e.2) f.0 f.1 f.2 (through (λ others. gives (parameter_before b.0 e.0 others)) at_rest f.2)
  where
    ends : (it : Specified) (first : Known) → specifiers s elsewhere k ≡ Goes it first → (declared : Declares) (second : Known) → declarator d it false (parameter_faults is_definition) first ≡ Goes declared second
        → (objects : List ℕ) (third : Known) → Bound is_definition (is_register it) declared.node declared.name (adjusted declared.type) second objects third
        → (others : Parameters) (end : Known) → parameter_list rest is_definition third ≡ Goes others end → gives (parameter_before declared objects others) end ≡ Goes them last → Steps is_definition s d rest k them last
    ends it first x declared second y objects third z others end w is =
        let same : end ≡ last = cc in
        let all : parameter_before declared objects others ≡ them = cc in
        record {
          it = it;
          first = first;
          specified = x;
          declared = declared;
          second = second;
          declares_it = y;
          objects = objects;
          third = third;
          binds = z;
          others = others;
          listed = w ∙ ap (Goes others) same;
          all = all;
        }

-- what is judged of a parameter of this name
record Fresh (is_definition : Bool) (v : List ℕ) (t : CType) (k : Known) : Type 0 where
  new_name : declared_here v k ≡ None
  no_function : is_definition ≡ true → is_pointer_to_function (adjusted t) ≡ false

fresh : (is_definition : Bool) (d : c.Declarator) (it : Specified) (k : Known) (declared : Declares) (last : Known) (v : List ℕ) → declarator d it false (parameter_faults is_definition) k ≡ Goes declared last → declared.name ≡ Some v
    → Fresh is_definition v declared.type last
fresh is_definition (c.declarator None ps) it k declared last v goes is = let none : None ≡ Some v = sym (unnamed_end ps it (parameter_faults is_definition) k declared last goes) ∙ is in absurd cc
fresh is_definition (c.declarator (Some name) ps) it k declared last v goes is =
    let e = named_end name ps it (parameter_faults is_definition) k declared last goes in
    let same : Some name ≡ Some v = sym e.named ∙ is in
    let one : name ≡ v = cc in
    let a = broken_if declared_twice (is_declared_here last (Some name)) in
    let b = broken_if incomplete_type (is_incomplete last.structs (adjusted e.built.type)) in
    let f = broken_if floating_type (is_definition && is_floating (adjusted e.built.type)) in
    let g = broken_if function_as_value (is_definition && is_pointer_to_function (adjusted e.built.type)) in
    record {
      new_name = is_none (declared_here v last) (ap (λ v. is_some (declared_here v last)) (sym one) ∙ not_broken declared_twice (is_declared_here last (Some name)) (first_empty a b (first_empty (a ++ b) f (first_empty (a ++ b ++ f) g e.clean))));
      no_function = λ definition. ap (λ t. is_pointer_to_function (adjusted t)) (sym e.type) ∙ ap (λ it. it && is_pointer_to_function (adjusted e.built.type)) (sym definition) ∙ not_broken function_as_value (is_definition && is_pointer_to_function (adjusted e.built.type)) (second_empty (a ++ b ++ f) g e.clean);
    }

names_behind : {A : Type 0} {w : List ℕ} {e : Entity} {o : Outcome A} {a : A} {k : Known} → names.Stays w e o → o ≡ Goes a k → Names w e k
names_behind {A} {w} {e} {o} {a} {k} stays is = by (subst (λ o. names.Stays w e o) is stays)
  where
    by : names.Stays w e (Goes a k) → Names w e k
    by (names.went h) = h

lasts_behind : {A : Type 0} {fs : List Function} {Was : ℕ → Object → Type 0} {o : Outcome A} {a : A} {k : Known} → lasting.Stays fs Was o → o ≡ Goes a k → lasting.Lasts fs Was k
lasts_behind {A} {fs} {Was} {o} {a} {k} stays is = by (subst (λ o. lasting.Stays fs Was o) is stays)
  where
    by : lasting.Stays fs Was (Goes a k) → lasting.Lasts fs Was k
    by (lasting.went h) = h

-- ---- parameters

-- names of the innermost scope last behind parameters
names_last : (list : c.ParameterList) (is_definition : Bool) (w : List ℕ) (e : Entity) (k : Known) (them : Parameters) (last : Known) → Names w e k → parameter_list list is_definition k ≡ Goes them last → Names w e last
names_last c.no_parameters is_definition w e k them last h goes = let same : k ≡ last = cc in subst (Names w e) same h
names_last (c.a_parameter s d rest) is_definition w e k them last h goes =
    let x = steps is_definition s d rest k them last goes in
    let second = names_behind (names.of_declarator d x.it false (parameter_faults is_definition) x.first (names_behind (names.of_specifiers s elsewhere k h) x.specified)) x.declares_it in
    names_last rest is_definition w e x.third x.others last (by x second x.binds) x.listed
  where
    by : (x : Steps is_definition s d rest k them last) → Names w e x.second → Bound is_definition (is_register x.it) x.declared.node x.declared.name (adjusted x.declared.type) x.second x.objects x.third → Names w e x.third
    by x h (unbound none empty same) = subst (Names w e) same h
    by x h (bound v some objects same) =
        subst (Names w e) same (bound_still w v e (an_object (length x.second.objects) (is_register x.it)) x.second.frames h (fresh is_definition d x.it x.first x.declared x.second v x.declares_it some).new_name)

-- a number of an object that is named in a frame
record IsNamed (n : ℕ) (frame : Frame) (k : Known) : Type 0 where
  object : Object
  is_register : Bool
  there : slice_get k.objects n ≡ Some object
  life : object.life ≡ parameter
  no_function : has_pointer_to_function object.type ≡ false
  named : bound_among object.name frame.names ≡ Some (an_object n is_register)

elements_same : (t : CType) → is_pointer_to_function (adjusted t) ≡ false → has_pointer_to_function (adjusted t) ≡ false
elements_same (Array t n) h = h
elements_same (FunctionType t ts dots) h = h
elements_same _ h = h

get_last : (xs : List Object) (o : Object) → slice_get (xs ++ o ∷ []) (length xs) ≡ Some o
get_last [] o = refl
get_last (x ∷ xs) o = get_last xs o

of_list : (list : c.ParameterList) {was : Bool} {deep : ℕ} (k : Known) (them : Parameters) (last : Known) → Lies was (suc deep) k → parameter_list list true k ≡ Goes them last
    → (them.frame ≡ innermost last.frames) × ((n : ℕ) → IsAmong n them.objects → IsNamed n them.frame last)
of_list c.no_parameters k them last lies goes =
    let here : k ≡ last = cc in
    let all : no_parameters_yet (innermost k.frames) ≡ them = cc in
    (sym (ap (λ (x : Parameters). x.frame) all) ∙ ap (λ (k : Known). innermost k.frames) here, λ n among. absurd (subst (IsAmong n) (sym (ap (λ (x : Parameters). x.objects) all)) among))
of_list (c.a_parameter s d rest) {was} {deep} k them last lies goes =
    let x = steps true s d rest k them last goes in
    let second = lies_behind (kept.of_declarator d x.it false (parameter_faults true) x.first (lies_behind (kept.of_specifiers s elsewhere k lies) x.specified)) x.declares_it in
    let more = of_list rest x.third x.others last (third_lies x second x.binds) x.listed in
    let frame : x.others.frame ≡ them.frame = ap (λ (x : Parameters). x.frame) x.all in (
      sym frame ∙ more.0,
      λ n among. subst (λ frame. IsNamed n frame last) frame (elim (in_either n x.objects x.others.objects (subst (IsAmong n) (sym (ap (λ (x : Parameters). x.objects) x.all)) among)) [
        | inl own ↦ one x second more.0 x.binds n own
        | inr other ↦ more.1 n other
      ]),
    )
  where
    third_lies : (x : Steps true s d rest k them last) → Lies was (suc deep) x.second → Bound true (is_register x.it) x.declared.node x.declared.name (adjusted x.declared.type) x.second x.objects x.third → Lies was (suc deep) x.third
    third_lies x h (unbound none empty same) = subst (Lies was (suc deep)) same h
    third_lies x h (bound v some objects same) = subst (Lies was (suc deep)) same (h.0, bound_deep v (an_object (length x.second.objects) (is_register x.it)) x.second.frames ∙ h.1)

    one : (x : Steps true s d rest k them last) → Lies was (suc deep) x.second → x.others.frame ≡ innermost last.frames
        → Bound true (is_register x.it) x.declared.node x.declared.name (adjusted x.declared.type) x.second x.objects x.third → (n : ℕ) → IsAmong n x.objects → IsNamed n x.others.frame last
    one x h frame (unbound none empty same) n among = absurd (subst (IsAmong n) empty among)
    one x h frame (bound v some objects same) n among =
        let o : Object = parameter_object true x.declared.node v (adjusted x.declared.type) in
        let e : Entity = an_object (length x.second.objects) (is_register x.it) in
        let number : length x.second.objects ≡ n = only (length x.second.objects) n (subst (IsAmong n) objects among) in
        let here = subst (Names v e) same (bound_here v e x.second.frames h.1) in
        let there : slice_get x.third.objects (length x.second.objects) ≡ Some o = subst (λ (k : Known). slice_get k.objects (length x.second.objects) ≡ Some o) same (get_last x.second.objects o) in
        let Was : ℕ → Object → Type 0 = λ m p. (length x.second.objects ≡ m) × (o ≡ p) in
        let lasts = lasts_behind (lasting.of_parameter_list {fs = x.third.functions} {Was = Was} rest true x.third (refl, λ m p was. subst (λ p. slice_get x.third.objects m ≡ Some p) was.1 (subst (λ m. slice_get x.third.objects m ≡ Some o) was.0 there))) x.listed in
        record {
          object = o;
          is_register = is_register x.it;
          there = lasts.1 n o (number, refl);
          life = refl;
          no_function = elements_same x.declared.type ((fresh true d x.it x.first x.declared x.second v x.declares_it some).no_function refl);
          named = ap (λ (f : Frame). bound_among v f.names) frame ∙ names_last rest true v e x.third x.others last here x.listed ∙ ap (λ n. Some (an_object n (is_register x.it))) number;
        }
      where
        only : (m n : ℕ) → IsAmong n (m ∷ []) → m ≡ n
        only m n (inl e) = e
        only m n (inr h) = absurd h

of_parameters : (them : c.Parameters) {was : Bool} {deep : ℕ} (k : Known) (typed : Parameters) (last : Known) → Lies was (suc deep) k → parameters them true k ≡ Goes typed last → (n : ℕ) → IsAmong n typed.objects → IsNamed n typed.frame last
of_parameters c.Unstated k typed last lies goes n among =
    let all : no_parameters_yet (innermost k.frames) ≡ typed = cc in absurd (subst (IsAmong n) (sym (ap (λ (x : Parameters). x.objects) all)) among)
of_parameters c.Void k typed last lies goes n among =
    let all : no_parameters_yet (innermost k.frames) ≡ typed = cc in absurd (subst (IsAmong n) (sym (ap (λ (x : Parameters). x.objects) all)) among)
of_parameters (c.Listed list) k typed last lies goes n among = (of_list list k typed last lies goes).1 n among
of_parameters (c.Open list) k typed last lies goes n among =
    let first = went_on (parameter_list list true k) (λ them. gives (with_dots them)) goes in
    let same = through (λ them. gives (with_dots them)) goes first.2 in
    let all : with_dots first.0 ≡ typed = cc in
    let here : first.1 ≡ last = cc in
    let it = (of_list list k first.0 first.1 lies first.2).1 n (subst (IsAmong n) (sym (ap (λ (x : Parameters). x.objects) all)) among) in
    subst (IsNamed n typed.frame) here (subst (λ frame. IsNamed n frame first.1) (ap (λ (x : Parameters). x.frame) all) it)

-- the parameters of a declarator are in the scope of its first part
record OfParts (built : Built) (n : ℕ) (frame_of_all : Option Parameters) (k : Known) : Type 0 where
  typed : Parameters
  are : frame_of_all ≡ Some typed
  named : IsNamed n typed.frame k

later_named : {frame : Frame} {n : ℕ} {A : Type 0} {o : Outcome A} {a : A} (k last : Known) → IsNamed n frame k
    → ((Was : ℕ → Object → Type 0) → lasting.Lasts k.functions Was k → lasting.Stays k.functions Was o) → o ≡ Goes a last → IsNamed n frame last
later_named {frame} {n} {A} {o} {a} k last it stays goes =
    let Was : ℕ → Object → Type 0 = λ m p. (n ≡ m) × (it.object ≡ p) in
    let lasts = lasts_behind (stays Was (refl, λ m p was. subst (λ p. slice_get k.objects m ≡ Some p) was.1 (subst (λ m. slice_get k.objects m ≡ Some it.object) was.0 it.there))) goes in
    record { object = it.object; is_register = it.is_register; there = lasts.1 n it.object (refl, refl); life = it.life; no_function = it.no_function; named = it.named }

blocked_end : (frames : List Frame) (o : Outcome Parameters) (typed : Parameters) (k : Known) → goes_on (left frames o) (λ r. gives r.0) ≡ Goes typed k → (l : Known) × (o ≡ Goes typed l) × (record l { frames = frames } ≡ k)
blocked_end frames (Goes it l) typed k goes =
    let same : it ≡ typed = cc in let here : record l { frames = frames } ≡ k = cc in (l, ap (λ it. Goes it l) same, here)
blocked_end frames (Breaks rule node) typed k goes = absurd cc

of_parts : (ps : c.Parts) (t : CType) (k : Known) (built : Built) (last : Known) → parts ps t true true k ≡ Goes built last → (n : ℕ) → IsAmong n (objects_of built.parameters) → OfParts built n built.parameters last
of_parts c.no_parts t k built last goes n among = let none : None ≡ built.parameters = cc in absurd (subst (λ them. IsAmong n (objects_of them)) (sym none) among)
of_parts (c.Pointer q rest) t k built last goes n among =
    let first = went_on (parts rest t false false k) (λ inner. gives (pointer_to q inner)) goes in
    let same = through (λ inner. gives (pointer_to q inner)) goes first.2 in
    let all : pointer_to q first.0 ≡ built = cc in
    absurd (subst (λ them. IsAmong n (objects_of them)) (sym (ap (λ (x : Built). x.parameters) all)) among)
of_parts (c.Array size rest) t k built last goes n among =
    let on_inner : Option Typed → Built → Known → Outcome Built = λ count inner j. Goes (array_of j (length_or_none true count) inner) j in
    let on_size : Option Typed → Known → Outcome Built = λ count j. goes_on (parts rest t false false j) (on_inner count) in
    let first = went_on (maybe size k) on_size goes in
    let second = went_on (parts rest t false false first.1) (on_inner first.0) (through on_size goes first.2) in
    let same = through (on_inner first.0) (through on_size goes first.2) second.2 in
    let all : array_of second.1 (length_or_none true first.0) second.0 ≡ built = cc in
    absurd (subst (λ them. IsAmong n (objects_of them)) (sym (ap (λ (x : Built). x.parameters) all)) among)
of_parts (c.Function them rest) t k built last goes n among =
    let on_inner : Parameters → Built → Known → Outcome Built = λ typed inner. gives (function_of typed inner) in
    let on_them : Parameters → Known → Outcome Built = λ typed j. goes_on (parts rest t false false j) (on_inner typed) in
    let inside : Known = record k { frames = no_names ∷ k.frames } in
    let first = went_on (goes_on (left k.frames (parameters them true inside)) (λ r. gives r.0)) on_them goes in
    let block = blocked_end k.frames (parameters them true inside) first.0 first.1 first.2 in
    let second = went_on (parts rest t false false first.1) (on_inner first.0) (through on_them goes first.2) in
    let end = through (on_inner first.0) (through on_them goes first.2) second.2 in
    let all : function_of first.0 second.0 ≡ built = cc in
    let here : second.1 ≡ last = cc in
    let are : Some first.0 ≡ built.parameters = ap (λ (x : Built). x.parameters) all in
    let it = of_parameters them inside first.0 block.0 (refl, refl) block.1 n (subst (λ them. IsAmong n (objects_of them)) (sym are) among) in
    let behind : IsNamed n first.0.frame first.1 =
    subst (IsNamed n first.0.frame) block.2 (record { object = it.object; is_register = it.is_register; there = it.there; life = it.life; no_function = it.no_function; named = it.named }) in
    record { typed = first.0; are = sym are; named = subst (IsNamed n first.0.frame) here (later_named first.1 second.1 behind (λ Was h. lasting.of_parts {fs = first.1.functions} {Was = Was} rest t false false first.1 h) second.2) }

-- ---- behind the marks with which a body begins

marks_named : (w : List ℕ) (e : Entity) {list : c.Items} {k behind : Known} → IsBehindMarks list k behind → Names w e k → Names w e behind
marks_named w e (no_mark none) h = h
marks_named w e (a_mark {m = m} {known = known} goes rest) h = marks_named w e rest (names_behind (names.of_mark m (entered known) h) goes)

meaning_here : (w : List ℕ) (e : Entity) (k : Known) (frames : List Frame) → bound_among w (innermost frames).names ≡ Some e → bound_in w frames ≡ Some e
meaning_here w e k [] is = absurd cc
meaning_here w e k (frame ∷ frames) is = ap (λ found. or_else found (bound_in w frames)) is

end_same : (node : Option ℕ) (name : Option (List ℕ)) (b : Built) (faults : List Rule) (i : Known) (declared : Declares) (last : Known) → end_of_declarator node name b faults i ≡ Goes declared last
    → (b.parameters ≡ declared.parameters) × (i ≡ last)
end_same None name b faults i declared last goes = let all : declares 0 name b faults ≡ declared = cc in let here : i ≡ last = cc in (ap (λ (x : Declares). x.parameters) all, here)
end_same (Some node) name b faults i declared last goes = by (least faults) goes
  where
    by : (rule : Option Rule) → goes_on (unless_broken rule node i) (λ u. gives (declares node name b [])) ≡ Goes declared last → (b.parameters ≡ declared.parameters) × (i ≡ last)
    by None goes = let all : declares node name b [] ≡ declared = cc in let here : i ≡ last = cc in (ap (λ (x : Declares). x.parameters) all, here)
    by (Some rule) goes = absurd cc

pub parameters_are_named : ParametersAreNamed
parameters_are_named (c.declarator name ps) it body next declared last goes n among =
    let judge = definition_faults it.storage in
    let on_parts : Option ℕ → Built → Known → Outcome Declares = λ node b j. end_of_declarator node name b (all_faults it b (judge name j b)) j in
    let on_node : Option ℕ → Known → Outcome Declares = λ node j. goes_on (parts ps it.type true true j) (on_parts node) in
    let first = went_on (enter_if (is_written name ps) next) on_node goes in
    let second = went_on (parts ps it.type true true first.1) (on_parts first.0) (through on_node goes first.2) in
    let end = end_same first.0 name second.0 (all_faults it second.0 (judge name second.1 second.0)) second.1 declared last (through (on_parts first.0) (through on_node goes first.2) second.2) in
    let found = of_parts ps it.type first.1 second.0 second.1 second.2 n (subst (λ them. IsAmong n (objects_of them)) (sym end.0) among) in
    let named = found.named in
    let e : Entity = an_object n named.is_register in
    let frame : found.typed.frame ≡ frame_of declared.parameters = ap frame_of (sym found.are ∙ end.0) in (
      named.object,
      named.is_register,
      ap (λ (k : Known). slice_get k.objects n) (sym end.1) ∙ named.there,
      named.life,
      named.no_function,
      λ behind there. meaning_here named.object.name e behind behind.frames (marks_named named.object.name e there (ap (λ (f : Frame). bound_among named.object.name f.names) (sym frame) ∙ named.named)),
    )
