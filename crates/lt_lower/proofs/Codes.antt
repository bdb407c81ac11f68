-- What is emitted of a function, turned round, is its code; and it is sound.
use Rattle.std.proofs.Common.{◌≡◌, ℕ, zero, suc, ◌-◌, ◌<◌, ◌≤◌, Bool, true, ◌&&◌, List, [], ◌∷◌, map, length, Some, slice_get, Result, Ok, Err, IfOk, refl, sym, ap, subst, ◌∙◌, inl, arith}
use Rattle.std.specs.Borrow.{Bor}
use Rattle.std.specs.declared.alloc.AllocError.{AllocError}
use Rattle.std.proofs.lemmas.Bool.{lt-ltb}
use Rattle.std.proofs.lemmas.List.{length-map}
use Rattle.lt_model.specs.declared.cell.Shape.{Shape}
use Rattle.lt_model.specs.declared.input.BlockIn.{BlockIn}
use Rattle.lt_ir.specs.declared.code.Code.{Code}
use Rattle.lt_ir.specs.declared.node.Given.TheVariants as given
use Rattle.lt_ir.specs.declared.node.Node.{Node}
use Rattle.lt_ir.specs.declared.node.Node.TheVariants as node
use Rattle.lt_ir.specs.Ranges.{Counts, counts_in, is_point}
use Rattle.lt_meaning.specs.Expressions.{shape}
use Rattle.lt_meaning.specs.Statements.{type_of_object}
use Rattle.lt_meaning.specs.Runs.{initials, name_of_object}
use Rattle.lt_code.specs.Bodies as code
use Rattle.lt_code.specs.Bodies.{HasCode, label_of, stands_in, of_body}
use Rattle.lt_tables.specs.declared.site.Site.{Site}
use Rattle.lt_emit.specs.declared.builder.Builder.{Builder}
use Rattle.lt_emit.specs.Turning.{IsSoundNode}
use Rattle.lt_emit.specs.Turned.{point_of, AreTurned}
use Rattle.lt_emit.specs.Emission.{Here, here_of, local_shapes, counts_at, IsSound, IsEntrance, IsBegun, Finished, site_in, Kept, Emits}
use Rattle.lt_emit.proofs.Sound.{AreMore, sound_more}
use Rattle.lt_emit.proofs.Emitted.{set_other, set_same}
use Rattle.lt_emit.proofs.Turned.{are_turned, AreSound, nodes_in, turns_by_ticks, has_tables}
use Rattle.lt_code.specs.Costs.{of_function}
use Rattle.lt_sizes.specs.Laws.{CostsAtMost}
use Rattle.lt_emit.specs.Spending.{Spends}
use Rattle.lt_lower.specs.Known.{AreKnownItems}
use Rattle.lt_lower.proofs.Frugal.{back_long, is_frugal}
use Rattle.lt_lower.specs.Functions.{body_cost, HasBody, BodyStands, gives_back, IsFinished, here_at, IsSoundCode, CodeStands}

-- ---- the return of the value in register 0

back_other : (r : ℕ) (xs : List Node) (e : ℕ) → 1 ≤ e → slice_get (gives_back r xs) e ≡ slice_get xs e
back_other zero xs e some = refl
back_other (suc r) xs e some = set_other xs 0 e (node.Return (given.Held 0)) (λ none. omega (arith, none, some))

back_first : (r : ℕ) (xs : List Node) → 0 < r → 0 < length xs → slice_get (gives_back r xs) 0 ≡ Some (node.Return (given.Held 0))
back_first zero xs some there = absurd (omega (arith, some))
back_first (suc r) xs some there = set_same xs 0 (node.Return (given.Held 0)) there

one_value : {X : Type 0} {x y : X} → Some x ≡ Some y → x ≡ y
one_value is = cc

back_sound : (n : Counts) (r : ℕ) (xs : List Node) → n.registers ≡ r → AreSound n xs → AreSound n (gives_back r xs)
back_sound n zero xs is sound = sound
back_sound n (suc r) [] is sound = λ e it at. sound e it at
back_sound n (suc r) (x ∷ xs) is sound = each
  where
    each : (e : ℕ) (it : Node) → slice_get (node.Return (given.Held 0) ∷ xs) e ≡ Some it → IsSoundNode n e it
    each zero it at =
        let Is : Node → Type 0 = λ it. IsSoundNode n 0 it in
        subst Is (one_value at) (record { leads = inl refl; uses = omega (arith, is); names = tt })
    each (suc e) it at = sound (suc e) it at

-- ---- the code

begun_sound : (of : Bor Site) (b : Builder) → IsBegun of b → IsSound b
begun_sound of b begun e n at = each e n (sym (ap (λ row. slice_get row e) begun.nodes) ∙ at)
  where
    each : (e : ℕ) (it : Node) → slice_get (node.Return given.Nothing ∷ []) e ≡ Some it → IsSoundNode (counts_at b) e it
    each zero it at =
        let Is : Node → Type 0 = λ it. IsSoundNode (counts_at b) 0 it in
        subst Is (one_value at) (record { leads = inl refl; uses = tt; names = tt })
    each (suc e) it at = absurd (cc)

here_begun : (of : Bor Site) (b : Builder) → IsBegun of b → here_of b ≡ here_at of.now
here_begun of b begun =
    let tracking : Bool → Here = λ tracks. record (here_at b.site.now) { tracks = tracks } in
    ap tracking begun.tracks ∙ ap (λ s. here_at s.now) begun.site

and : {a b : Bool} → a ≡ true → b ≡ true → (a && b) ≡ true
and p q = cc

module _ (of : Bor Site) (a b : Builder) (start : ℕ) (it : Code) (begun : IsBegun of a) (body : Emits a b start (BodyStands start))
    (spends : Spends (body_cost (here_of a)) a b)
    (enters : AreKnownItems (here_of a) (here_of a).function.body → IsSound a → IsEntrance b start) (done : IsFinished b start it) where
  same_here : here_of b ≡ here_at of.now
  same_here = body.adds.grows.same ∙ here_begun of a begun

  abbrev given_back : List Node
  given_back = gives_back b.registers b.nodes.items

  turns : AreTurned done.last given_back it.nodes
  turns =
      let Are : List Node → Type 0 = λ nodes. AreTurned done.last given_back nodes in
      subst Are (sym done.nodes) (are_turned done.last given_back (back_long b.registers b.nodes.items ∙ done.count))

  long : length given_back ≡ suc done.last
  long = back_long b.registers b.nodes.items ∙ done.count

  -- ---- it is the function's

  abbrev fin : Finished
  fin = record { point = point_of done.last; nodes = it.nodes; structs = it.structs; registers = it.registers }

  kept : Kept (length a.nodes.items) b fin
  kept = record {
    nodes = λ e n from at.
        let some : 1 ≤ e = omega (arith, from, ap length begun.nodes) in
        turns.each e n (back_other b.registers b.nodes.items e some ∙ at);
    structs = λ k s at. ap (λ row. slice_get row k) done.structs ∙ at;
    registers = omega (arith, done.registers);
  }

  stands : BodyStands start (here_at of.now) fin
  stands =
      let Stands : Here → Type 0 = λ here. BodyStands start here fin in
      subst Stands (here_begun of a begun) (body.adds.stands fin kept)

  has_code : HasBody start (here_at of.now) fin
      → HasCode (here_at of.now).program (map label_of (here_at of.now).program.labels) (here_at of.now).stubs (here_at of.now).function it
  has_code has = record {
    name = done.name ∙ ap (λ h. h.function.name) same_here;
    params = done.params ∙ ap (λ h. code.parameters_of h.program h.function.parameters) same_here;
    first = has.first;
    back = has.back;
    leaves = has.leaves;
    last = done.last - 0;
    end = has.end;
    seals =
        let Seals : ℕ → Type 0 = λ from. code.parameters_sealed (stands_in it.nodes) (here_at of.now).program 0 (here_at of.now).function.parameters from has.first in
        subst Seals (sym done.start) has.seals;
    body =
        let Body : List Shape → Type 0 = λ locals.
        code.items (record (site_in (here_at of.now) fin) { locals = locals }) (here_at of.now).function.body has.first (of_body has.back has.leaves) in
        subst Body (sym (done.locals ∙ ap (λ h. local_shapes h.program h.function) same_here)) has.body;
    ends_with = has.ends_with;
    gives_it = λ some.
        let registers : 0 < b.registers = omega (arith, some, done.registers) in
        let there : 0 < length b.nodes.items = omega (arith, done.count) in
        turns.each 0 (node.Return (given.Held 0)) (back_first b.registers b.nodes.items registers there);
    ends_without = has.ends_without;
    gives_none = has.gives_none;
  }

  -- ---- it is sound

  abbrev counts : Counts
  counts =
      counts_in (length (here_at of.now).program.functions)
      (length (initials (here_at of.now).program (here_at of.now).program.objects)) (length (here_at of.now).program.labels)
      (length (here_at of.now).stubs) it

  counts_long : length it.nodes ≡ suc done.last
  counts_long = turns.same ∙ long

  are : AreMore (counts_at b) counts
  are = record {
    nodes = omega (arith, counts_long, done.count);
    registers = omega (arith, done.registers);
    params =
        let named : ℕ → BlockIn = λ n. record {
          name = name_of_object (here_of b).program n;
          shape = shape (here_of b).program (type_of_object (here_of b).program n);
        } in
        sym (ap length done.params ∙ length-map (here_of b).function.parameters named);
    locals = sym (ap length done.locals);
    structs = omega (arith, ap length done.structs);
    statics = ap (λ h. length (initials h.program h.program.objects)) same_here;
    labels = ap (λ h. length h.program.labels) same_here;
    stubs = ap (λ h. length h.stubs) same_here;
    functions = ap (λ h. length h.program.functions) same_here;
  }

  sound : AreSound counts given_back
  sound e n at =
      sound_more (counts_at b) counts are e n
      (back_sound (counts_at b) b.registers b.nodes.items refl (body.adds.grows.sound (begun_sound of a begun)) e n at)

  start_in : is_point counts it.start ≡ true
  start_in = lt-ltb it.start (length it.nodes) (omega (arith, counts_long, done.start))

  is_sound : IsSoundCode (here_at of.now).program (here_at of.now).stubs it
  is_sound = record {
    in_range = and start_in (nodes_in counts done.last given_back it.nodes counts_long long sound turns);
    tables = λ i value default arms table at.
        has_tables counts done.last given_back it.nodes i value default arms table long sound turns at;
    turns = λ from to edge back. turns_by_ticks counts done.last given_back it from to counts_long long sound turns edge back;
  }

  pub code_stands : CodeStands (here_at of.now) it
  code_stands = record {
    code = λ known. has_code (stands known);
    sound = is_sound;
    frugal = λ known.
        let here : here_of a ≡ here_at of.now = here_begun of a begun in
        let Known : Here → Type 0 = λ here. AreKnownItems here here.function.body in
        let Costs : Here → Type 0 = λ here. CostsAtMost (of_function here.program.functions here.function) it in
        let sound = begun_sound of a begun in
        subst Costs here (is_frugal of a b start it begun body.adds.grows spends (body.adds.grows.sound sound)
        (enters (subst Known (sym here) known) sound) done);
  }

-- the same, where there was memory
pub code_if :
    (of : Bor Site) (a b : Builder) (start : ℕ) (result : Result Code AllocError) → IsBegun of a → Emits a b start (BodyStands start)
    → Spends (body_cost (here_of a)) a b → (AreKnownItems (here_of a) (here_of a).function.body → IsSound a → IsEntrance b start)
    → IfOk result (IsFinished b start) → IfOk result (CodeStands (here_at of.now))
code_if of a b start (Ok it) begun body spends enters done = code_stands of a b start it begun body spends enters done
code_if of a b start (Err e) begun body spends enters done = tt
