-- In a unit that has a typed program no mark stands where none may, and the parameters of each function have the names of its declarator's.
use Rattle.std.proofs.Common.{◌≡◌, ℕ, ◌+◌, true, false, List, [], ◌∷◌, ◌++◌, length, map, Some, unwrap_or, refl, sym, ap, ◌∙◌, subst, arith}
use Rattle.std.specs.Prelude.{filter_map, slice_get}
use Rattle.std.specs.List.{flat_map}
use Rattle.lt_model.specs.declared.scalar.DataModel.{DataModel}
use Rattle.lt_tree.specs.Tree as c
use Rattle.lt_tree.specs.Nodes.{Node, an_external, in_external, nodes}
use Rattle.lt_tree.specs.Typing.Entities.{Known, Function, at_start}
use Rattle.lt_tree.specs.Typing.Steps.{Outcome, Goes, Breaks}
use Rattle.lt_tree.specs.Typing.Specifying.{elsewhere}
use Rattle.lt_tree.specs.Typing.Declarators.{Declares}
use Rattle.lt_tree.specs.Typing.Declaring.{definition_faults}
use Rattle.lt_tree.specs.Typing.Programs.{Program, typed, program_of}
use Rattle.lt_tree.specs.Typing.UnitTyping.{around_body, frame_of, objects_of, defines, external, externals, defined_in, answer, typing_to, IsProgramOf}
use Rattle.lt_tree_laws.specs.Typing.NodeNumbers.{GoesOver}
use Rattle.lt_marked_texts.proofs.Free.{FreeExternal, FreeUnit}
use Rattle.lt_marked_texts.proofs.Walking.{IsBehind, named, start, judged, entered, in_frames, blocked}
use Rattle.lt_marked_texts.proofs.FreeExpressions.{of_specifiers}
use Rattle.lt_marked_texts.proofs.FreeUnits.{with_function, of_declaration, of_items}
use Rattle.lt_marked_texts.proofs.Rounds.{Continue, first_of, rest_of}
use Rattle.lt_marked_texts.proofs.Parameters.{Gives, gave, stopped, walk_so, after_walk, after_given, From, from_both, behind_both, Named, still_named, IsParameter, declarator_named}

-- ---- functions

-- a function is one that is defined at its node, and its parameters have the names of the declarator's
pub record Defined (whole : List Node) (all : List (List ℕ)) (f : Function) : Type 0 where
  pub specifiers : c.Specifiers
  pub declarator : c.Declarator
  pub body : c.Items
  pub at : slice_get whole f.node ≡ Some (an_external (c.Defines specifiers declarator body))
  pub parameters : Named (λ w. IsParameter w declarator) f.parameters all

abbrev pub AllDefined : List Node → List (List ℕ) → List Function → Type 0
AllDefined whole all [] = Unit {0}
AllDefined whole all (f ∷ fs) = Defined whole all f × AllDefined whole all fs

still_defined : (whole : List Node) (fs : List Function) (all longer : List (List ℕ)) → IsBehind all longer → AllDefined whole all fs → AllDefined whole longer fs
still_defined whole [] all longer more h = tt
still_defined whole (f ∷ fs) all longer more h =
    let first = h.0 in (
      record { specifiers = first.specifiers; declarator = first.declarator; body = first.body; at = first.at; parameters = still_named (λ w. IsParameter w first.declarator) f.parameters all longer more first.parameters },
      still_defined whole fs all longer more h.1,
    )

one_more_defined : (whole : List Node) (all : List (List ℕ)) (fs : List Function) (f : Function) → AllDefined whole all fs → Defined whole all f → AllDefined whole all (fs ++ f ∷ [])
one_more_defined whole all [] f h last = (last, tt)
one_more_defined whole all (g ∷ fs) f h last = (h.0, one_more_defined whole all fs f h.1 last)

-- ---- one external

-- what an external adds
abbrev Adds : c.External → Known → Known → Type 0
Adds (c.Defines s d body) known k = (f : Function) × (k.functions ≡ known.functions ++ f ∷ []) × (f.node ≡ known.next) × Named (λ w. IsParameter w d) f.parameters (named k)
Adds (c.Declared d) known k = k.functions ≡ known.functions

record Done (x : c.External) (known k : Known) : Type 0 where
  unmarked : k.is_unmarked ≡ known.is_unmarked
  behind : IsBehind (named known) (named k)
  free : FreeExternal x
  adds : Adds x known k

of_defines : (s : c.Specifiers) (d : c.Declarator) (body : c.Items) (before : Known) (name : List ℕ) (it : Declares) (known : Known) → before.is_unmarked ≡ false → From before known → Named (λ w. IsParameter w d) (objects_of it.parameters) (named known)
    → Gives (λ u k. Done (c.Defines s d body) before k) (defines before.next name it body known)
of_defines s d body before name it known un from parameters =
    after_walk (with_function name it.type known (record { unmarked = from.unmarked ∙ un; behind = (start known).behind; functions = refl })) (λ u k1 s1 p.
    after_walk (blocked k1.frames (of_items body (around_body it.type) (record k1 { frames = frame_of it.parameters ∷ k1.frames }) (in_frames (frame_of it.parameters ∷ k1.frames) k1 s1)))
    (λ inside k2 s2 free.
    let f : Function = record { node = before.next; name = name; type = it.type; parameters = objects_of it.parameters; body = inside.0 } in
    gave {known = record k2 { functions = k2.functions ++ f ∷ [] }} (record {
      unmarked = s2.unmarked ∙ sym un;
      behind = behind_both (named before) (named known) (named k2) from.behind s2.behind;
      free = free;
      adds = (f, ap (λ fs. fs ++ f ∷ []) (s2.functions ∙ from.functions), refl, still_named (λ w. IsParameter w d) (objects_of it.parameters) (named known) (named k2) s2.behind parameters);
    })))

of_external : (x : c.External) (known : Known) → known.is_unmarked ≡ false → Gives (λ u k. Done x known k) (external x known)
of_external (c.Defines sp d body) known un =
    after_walk (of_specifiers sp elsewhere _ (entered known (start known))) (λ it k1 s1 p.
    after_given (declarator_named d it true (definition_faults it.storage) k1) (λ declared k2 q2. of_defines sp d body known (unwrap_or declared.name []) declared k2 un (from_both known k1 k2 s1 q2.0) q2.1))
of_external (c.Declared d) known un =
    after_walk (of_declaration d _ (entered known (record { unmarked = un; behind = (start known).behind; functions = refl }))) (λ it k1 s1 free.
    walk_so (judged known.next it.faults k1 s1 (λ clean. free)) (λ u k2 s2 free. record { unmarked = s2.unmarked ∙ sym un; behind = s2.behind; free = free; adds = s2.functions }))

-- ---- all externals

continues_behind : (whole : List Node) (i : ℕ) (xs ys : List Node) → Continue whole i (xs ++ ys) → Continue whole (i + length xs) ys
continues_behind whole i [] ys on = λ j. (let e : i + j ≡ i + 0 + j = omega arith in on j ∙ ap (slice_get whole) e)
continues_behind whole i (x ∷ xs) ys on =
    λ j. (let e : i + 1 + length xs + j ≡ i + length (x ∷ xs) + j = omega arith in continues_behind whole (i + 1) xs ys (rest_of whole i x (xs ++ ys) on) j ∙ ap (slice_get whole) e)

first_node : (whole : List Node) (i : ℕ) (x : c.External) (rest : List Node) → Continue whole i (in_external x ++ rest) → slice_get whole i ≡ Some (an_external x)
first_node whole i (c.Defines s d body) rest on = first_of whole i (an_external (c.Defines s d body)) _ on
first_node whole i (c.Declared d) rest on = first_of whole i (an_external (c.Declared d)) _ on

added : (whole : List Node) (x : c.External) (known k : Known) → slice_get whole known.next ≡ Some (an_external x) → IsBehind (named known) (named k) → Adds x known k → AllDefined whole (named known) known.functions
    → AllDefined whole (named k) k.functions
added whole (c.Defines s d body) known k at behind adds all =
    let f = adds.0 in
    let more = one_more_defined whole (named k) known.functions f (still_defined whole known.functions (named known) (named k) behind all)
    (record { specifiers = s; declarator = d; body = body; at = ap (slice_get whole) adds.2 ∙ at; parameters = adds.3 }) in
    subst (AllDefined whole (named k)) (sym adds.1) more
added whole (c.Declared d) known k at behind adds all = subst (AllDefined whole (named k)) (sym adds) (still_defined whole known.functions (named known) (named k) behind all)

-- numbers of nodes go on behind an external
abbrev pub GoesOn : Type 0
GoesOn = (x : c.External) (known : Known) → GoesOver (in_external x) known (external x known)

record AllDone (whole : List Node) (unit : c.Unit) (k : Known) : Type 0 where
  free : FreeUnit unit
  defined : AllDefined whole (named k) k.functions

next_to : {x : c.External} {known : Known} (o : Outcome (Unit {0})) → GoesOver (in_external x) known o → Gives (λ u k. Done x known k) o → Gives (λ u k. Done x known k × (k.next ≡ known.next + length (in_external x))) o
next_to (Goes u k) e (gave p) = gave (p, e)
next_to (Breaks rule node) e g = stopped

of_externals : (goes : GoesOn) (whole : List Node) (unit : c.Unit) (known : Known) → known.is_unmarked ≡ false → Continue whole known.next (flat_map in_external unit) → AllDefined whole (named known) known.functions
    → Gives (λ u k. AllDone whole unit k) (externals unit known)
of_externals goes whole [] known un on all = gave (record { free = tt; defined = all })
of_externals goes whole (x ∷ xs) known un on all =
    after_given (next_to (external x known) (goes x known) (of_external x known un)) (λ u k q.
    after_more (of_externals goes whole xs k (q.0.unmarked ∙ un) (subst (λ (i : ℕ). Continue whole i (flat_map in_external xs)) (sym q.1) (continues_behind whole known.next (in_external x) (flat_map in_external xs) on))
    (added whole x known k (first_node whole known.next x (flat_map in_external xs) on) q.0.behind q.0.adds all)) q.0.free)
  where
    after_more : {o : Outcome (Unit {0})} → Gives (λ u k. AllDone whole xs k) o → FreeExternal x → Gives (λ u k. AllDone whole (x ∷ xs) k) o
    after_more (gave p) free = gave (record { free = (free, p.free); defined = p.defined })
    after_more stopped free = stopped

pub record TypedUnit (unit : c.Unit) (program : Program) : Type 0 where
  pub own : program.unit ≡ unit
  pub free : FreeUnit unit
  pub defined : AllDefined (nodes unit) (map (λ object. object.name) program.objects) program.functions

answered : (unit : c.Unit) (program : Program) (o : Outcome (Unit {0})) → Gives (λ u k. AllDone (nodes unit) unit k) o → answer unit o ≡ typed program → TypedUnit unit program
answered unit program (Goes u k) (gave p) h = of_program (program_of unit k) program (same_program (program_of unit k) program h) (record { own = refl; free = p.free; defined = p.defined })
  where
    same_program : (x y : Program) → typed x ≡ typed y → x ≡ y
    same_program x y e = cc

    of_program : (x y : Program) → x ≡ y → TypedUnit unit x → TypedUnit unit y
    of_program x y e = subst (TypedUnit unit) e
answered unit program (Breaks rule node) g h = absurd cc

pub typed_unit : GoesOn → (model : DataModel) (unit : c.Unit) (program : Program) → IsProgramOf model unit program → TypedUnit unit program
unfolding typing_to
typed_unit goes model unit program is =
    answered unit program (externals unit (at_start model (filter_map defined_in unit)))
    (of_externals goes (nodes unit) unit (at_start model (filter_map defined_in unit)) refl (λ j. (let e : j ≡ 0 + j = omega arith in ap (slice_get (nodes unit)) e)) tt) is
