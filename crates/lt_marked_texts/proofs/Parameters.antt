-- The objects of a function's parameters have the names of the declarators in its list of parameters.
use Rattle.std.proofs.Common.{◌≡◌, ℕ, zero, suc, Bool, true, false, List, [], ◌∷◌, ◌++◌, length, map, Option, Some, None, refl, sym, ap, ◌∙◌, subst, append_assoc, inl, inr}
use Rattle.std.specs.Prelude.{◌⊎◌, if◌then◌else◌, slice_get}
use Rattle.lt_tree.specs.Tree as c
use Rattle.lt_tree.specs.Typing.Types.{CType, adjusted}
use Rattle.lt_tree.specs.Typing.Rules.{Rule}
use Rattle.lt_tree.specs.Typing.Entities.{Known, Frame, Object, parameter, unmade, no_names}
use Rattle.lt_tree.specs.Typing.Steps.{Outcome, Goes, Breaks, goes_on, gives, left}
use Rattle.lt_tree.specs.Typing.Specifying.{Specified, is_register, elsewhere}
use Rattle.lt_tree.specs.Typing.Declarators.{Built, Parameters, all_faults, is_written, parameter_faults, binds_parameter}
use Rattle.lt_tree.specs.Typing.NodeEnds.{end_of_declarator}
use Rattle.lt_tree.specs.Typing.ExpressionTyping.{declarator, parts, parameters, parameter_list}
use Rattle.lt_tree.specs.Typing.UnitTyping.{objects_of}
use Rattle.lt_marked_texts.proofs.Walking.{IsBehind, named, Past, past_of, Since, Walks, went, broke, start, judged, in_frames, one_more}
use Rattle.lt_marked_texts.proofs.FreeExpressions.{nothing, may_enter, of_maybe, of_specifiers, of_parts}

-- ---- what a walk gives

-- A walk breaks a rule, or what it gives is so.
pub data Gives {A : Type 0} (P : A → Known → Type 0) : Outcome A → Type 0 where
  gave : {a : A} {known : Known} → P a known → Gives P (Goes a known)
  stopped : {rule : Rule} {node : ℕ} → Gives P (Breaks rule node)

pub after_walk : {A B P : Type 0} {Q : B → Known → Type 0} {was : Bool} {past : Past} {o : Outcome A} {rest : A → Known → Outcome B} → Walks P was past o
    → ((a : A) (known : Known) → Since was past known → P → Gives Q (rest a known)) → Gives Q (goes_on o rest)
after_walk (went {a} {known} s p) f = f a known s p
after_walk broke f = stopped

pub after_given : {A B : Type 0} {P : A → Known → Type 0} {Q : B → Known → Type 0} {o : Outcome A} {rest : A → Known → Outcome B} → Gives P o
    → ((a : A) (known : Known) → P a known → Gives Q (rest a known)) → Gives Q (goes_on o rest)
after_given (gave {a} {known} p) f = f a known p
after_given stopped f = stopped

pub walk_so : {A P : Type 0} {Q : A → Known → Type 0} {was : Bool} {past : Past} {o : Outcome A} → Walks P was past o → ((a : A) (known : Known) → Since was past known → P → Q a known) → Gives Q o
walk_so (went {a} {known} s p) f = gave (f a known s p)
walk_so broke f = stopped

given_so : {A : Type 0} {P Q : A → Known → Type 0} {o : Outcome A} → Gives P o → ((a : A) (known : Known) → P a known → Q a known) → Gives Q o
given_so (gave {a} {known} p) f = gave (f a known p)
given_so stopped f = stopped

-- what is known behind a place
abbrev pub From : Known → Known → Type 0
From known behind = Since known.is_unmarked (past_of known) behind

pub behind_both : (xs ys zs : List (List ℕ)) → IsBehind xs ys → IsBehind ys zs → IsBehind xs zs
behind_both xs ys zs a b = (a.0 ++ b.0, b.1 ∙ ap (λ l. l ++ b.0) a.1 ∙ append_assoc xs a.0 b.0)

pub from_both : (x y z : Known) → From x y → From y z → From x z
from_both x y z a b = record { unmarked = b.unmarked ∙ a.unmarked; behind = behind_both (named x) (named y) (named z) a.behind b.behind; functions = b.functions ∙ a.functions }

-- ---- objects with names

-- these are numbers of objects whose names are such
abbrev pub Named : (List ℕ → Type 0) → List ℕ → List (List ℕ) → Type 0
Named P [] all = Unit {0}
Named P (n ∷ ns) all = ((w : List ℕ) × (slice_get all n ≡ Some w) × P w) × Named P ns all

front_get : (xs more : List (List ℕ)) (n : ℕ) (w : List ℕ) → slice_get xs n ≡ Some w → slice_get (xs ++ more) n ≡ Some w
front_get [] more n w h = absurd cc
front_get (x ∷ xs) more zero w h = h
front_get (x ∷ xs) more (suc n) w h = front_get xs more n w h

pub still_named : (P : List ℕ → Type 0) (ns : List ℕ) (all longer : List (List ℕ)) → IsBehind all longer → Named P ns all → Named P ns longer
still_named P [] all longer b h = tt
still_named P (n ∷ ns) all longer b h =
    ((h.0.0, ap (λ l. slice_get l n) b.1 ∙ front_get all b.0 n h.0.0 h.0.1, h.0.2), still_named P ns all longer b h.1)

named_both : (P : List ℕ → Type 0) (ms ns : List ℕ) (all : List (List ℕ)) → Named P ms all → Named P ns all → Named P (ms ++ ns) all
named_both P [] ns all a b = b
named_both P (m ∷ ms) ns all a b = (a.0, named_both P ms ns all a.1 b)

named_so : (P Q : List ℕ → Type 0) (ns : List ℕ) (all : List (List ℕ)) → ((w : List ℕ) → P w → Q w) → Named P ns all → Named Q ns all
named_so P Q [] all f h = tt
named_so P Q (n ∷ ns) all f h = ((h.0.0, h.0.1, f h.0.0 h.0.2), named_so P Q ns all f h.1)

last_get : (objects : List Object) (object : Object) → slice_get (map (λ (o : Object). o.name) (objects ++ object ∷ [])) (length objects) ≡ Some object.name
last_get [] object = refl
last_get (x ∷ objects) object = last_get objects object

-- ---- names of parameters

abbrev pub IsNamed : List ℕ → c.Declarator → Type 0
IsNamed w (c.declarator name ps) = name ≡ Some w

abbrev pub IsListed : List ℕ → c.ParameterList → Type 0
IsListed w c.no_parameters = ⊥
IsListed w (c.a_parameter s d rest) = IsNamed w d ⊎ IsListed w rest

abbrev pub IsIn : List ℕ → c.Parameters → Type 0
IsIn w c.Unstated = ⊥
IsIn w c.Void = ⊥
IsIn w (c.Listed list) = IsListed w list
IsIn w (c.Open list) = IsListed w list

abbrev pub IsInFirst : List ℕ → c.Parts → Type 0
IsInFirst w (c.Function ps rest) = IsIn w ps
IsInFirst w _ = ⊥

-- a parameter of the function that is declared
abbrev pub IsParameter : List ℕ → c.Declarator → Type 0
IsParameter w (c.declarator name ps) = IsInFirst w ps

-- ---- walks

-- one more object, whose name is bound
abbrev parameter_object : Bool → ℕ → List ℕ → CType → Object
parameter_object is_definition node name t = record { node = node; name = name; type = t; life = if is_definition then parameter else unmade; start = None }

bound_named : (is_definition register : Bool) (node : ℕ) (name : Option (List ℕ)) (t : CType) (known : Known)
    → Gives (λ objects k. From known k × Named (λ w. name ≡ Some w) objects (named k)) (binds_parameter is_definition register node name t known)
bound_named is_definition register node None t known = gave (start known, tt)
bound_named is_definition register node (Some name) t known =
    let more = one_more (parameter_object is_definition node name t) known (start known) in
    gave (
      record { unmarked = more.unmarked; behind = more.behind; functions = more.functions },
      ((name, last_get known.objects (parameter_object is_definition node name t), refl), tt),
    )

scoped_given : {A : Type 0} {P : A → Known → Type 0} (frames : List Frame) {o : Outcome A} → Gives P o → ((a : A) (k : Known) → P a k → P a (record k { frames = frames }))
    → Gives P (goes_on (left frames o) (λ r. gives r.0))
scoped_given frames (gave {a} {known} p) f = gave (f a known p)
scoped_given frames stopped f = stopped

ended_named : (node : Option ℕ) (name : Option (List ℕ)) (b : Built) (faults : List Rule) (known : Known)
    → Gives (λ it k. From known k × (it.name ≡ name) × (it.parameters ≡ b.parameters)) (end_of_declarator node name b faults known)
ended_named None name b faults known = gave (start known, refl, refl)
ended_named (Some node) name b faults known = after_walk (judged node faults known (start known) (λ clean. nothing)) (λ u k s p. gave (s, refl, refl))

-- a declarator in a list of parameters
inner_named : (d : c.Declarator) (sp : Specified) (is_definition : Bool) (judge : Option (List ℕ) → Known → Built → List Rule) (known : Known)
    → Gives (λ it k. From known k × ((w : List ℕ) → it.name ≡ Some w → IsNamed w d)) (declarator d sp is_definition judge known)
inner_named (c.declarator name ps) sp is_definition judge known =
    after_walk (may_enter (is_written name ps) known (start known)) (λ node k1 s1 u. after_walk (of_parts ps sp.type is_definition true k1 s1)
    (λ b k2 s2 a. given_so (ended_named node name b (all_faults sp b (judge name k2 b)) k2) (λ it k3 q. (from_both known k2 k3 s2 q.0, λ w e. sym q.1 ∙ e))))

list_named : (them : c.ParameterList) (is_definition : Bool) (known : Known) → Gives (λ it k. From known k × Named (λ w. IsListed w them) it.objects (named k)) (parameter_list them is_definition known)
list_named c.no_parameters is_definition known = gave (start known, tt)
list_named (c.a_parameter sp d rest) is_definition known =
    after_walk (of_specifiers sp elsewhere known (start known)) (λ it k1 s1 p.
    after_given (inner_named d it false (parameter_faults is_definition) k1) (λ declared k2 q2.
    after_given (bound_named is_definition (is_register it) declared.node declared.name (adjusted declared.type) k2) (λ objects k3 q3.
    after_given (list_named rest is_definition k3) (λ others k4 q4.
    gave (
      from_both known k1 k4 s1 (from_both k1 k2 k4 q2.0 (from_both k2 k3 k4 q3.0 q4.0)),
      named_both (λ w. IsListed w (c.a_parameter sp d rest)) objects others.objects (named k4)
          (named_so (λ w. declared.name ≡ Some w) (λ w. IsListed w (c.a_parameter sp d rest)) objects (named k4) (λ w e. inl (q2.1 w e)) (still_named (λ w. declared.name ≡ Some w) objects (named k3) (named k4) q4.0.behind q3.1))
          (named_so (λ w. IsListed w rest) (λ w. IsListed w (c.a_parameter sp d rest)) others.objects (named k4) (λ w e. inr e) q4.1),
    )))))

parameters_named : (them : c.Parameters) (is_definition : Bool) (known : Known) → Gives (λ it k. From known k × Named (λ w. IsIn w them) it.objects (named k)) (parameters them is_definition known)
parameters_named c.Unstated is_definition known = gave (start known, tt)
parameters_named c.Void is_definition known = gave (start known, tt)
parameters_named (c.Listed list) is_definition known = list_named list is_definition known
parameters_named (c.Open list) is_definition known = after_given (list_named list is_definition known) (λ it k q. gave q)

block_named : (them : c.Parameters) (is_definition : Bool) (known : Known)
    → Gives (λ it k. From known k × Named (λ w. IsIn w them) it.objects (named k)) (goes_on (left known.frames (parameters them is_definition (record known { frames = no_names ∷ known.frames }))) (λ r. gives r.0))
block_named them is_definition known =
    scoped_given known.frames (after_frame (parameters_named them is_definition (record known { frames = no_names ∷ known.frames }))) (λ it k q. (in_frames known.frames k q.0, q.1))
  where
    after_frame : {o : Outcome Parameters} → Gives (λ it k. From (record known { frames = no_names ∷ known.frames }) k × Named (λ w. IsIn w them) it.objects (named k)) o
        → Gives (λ it k. From known k × Named (λ w. IsIn w them) it.objects (named k)) o
    after_frame (gave q) = gave (record { unmarked = q.0.unmarked; behind = q.0.behind; functions = q.0.functions }, q.1)
    after_frame stopped = stopped

parts_named : (them : c.Parts) (t : CType) (is_definition is_outermost : Bool) (known : Known)
    → Gives (λ b k. From known k × Named (λ w. IsInFirst w them) (objects_of b.parameters) (named k)) (parts them t is_definition is_outermost known)
parts_named c.no_parts t is_definition is_outermost known = gave (start known, tt)
parts_named (c.Pointer q rest) t is_definition is_outermost known = after_walk (of_parts rest t false false known (start known)) (λ inner k s a. gave (s, tt))
parts_named (c.Array length rest) t is_definition is_outermost known =
    after_walk (of_maybe length known (start known)) (λ n k1 s1 a. after_walk (of_parts rest t false false k1 s1) (λ inner k2 s2 b. gave (s2, tt)))
parts_named (c.Function them rest) t is_definition is_outermost known =
    after_given (block_named them is_definition known) (λ found k1 q. after_walk (of_parts rest t false false k1 (start k1)) (λ inner k2 s2 b. gave (from_both known k1 k2 q.0 s2, still_named (λ w. IsIn w them) found.objects (named k1) (named k2) s2.behind q.1)))

-- the declarator of a function's definition
pub declarator_named : (d : c.Declarator) (sp : Specified) (is_definition : Bool) (judge : Option (List ℕ) → Known → Built → List Rule) (known : Known)
    → Gives (λ it k. From known k × Named (λ w. IsParameter w d) (objects_of it.parameters) (named k)) (declarator d sp is_definition judge known)
declarator_named (c.declarator name ps) sp is_definition judge known =
    after_walk (may_enter (is_written name ps) known (start known)) (λ node k1 s1 u. after_given (parts_named ps sp.type is_definition true k1)
    (λ b k2 q2. given_so (ended_named node name b (all_faults sp b (judge name k2 b)) k2)
    (λ it k3 q3. (
      from_both known k1 k3 s1 (from_both k1 k2 k3 q2.0 q3.0),
      subst (λ (found : Option Parameters). Named (λ w. IsInFirst w ps) (objects_of found) (named k3)) (sym q3.2) (still_named (λ w. IsInFirst w ps) (objects_of b.parameters) (named k2) (named k3) q3.0.behind q2.1),
    ))))
