-- What was added stays there whatever is added later.
use Rattle.std.proofs.Common.{◌≡◌, ℕ, ◌≤◌, ◌<◌, length, Some, slice_get, refl, sym, subst, ◌∙◌, arith, Result, Ok, Err}
use Rattle.std.proofs.lemmas.Option.{slice_get_within}
use Rattle.std.specs.Global.{Vec}
use Rattle.std.specs.declared.alloc.AllocError.{AllocError}
use Rattle.lt_model.specs.declared.cell.Shape.{Shape}
use Rattle.lt_ir.specs.declared.node.Node.TheVariants as node
use Rattle.lt_emit.specs.declared.builder.Builder.{Builder}
use Rattle.lt_emit.specs.Emission.{Here, here_of, Finished, Grows, Kept, Adds, Emits, Gives, IsReserved, IsPatched}

pub grows_both : {a b c : Builder} → Grows a b → Grows b c → Grows a c
grows_both g h = record {
  same = h.same ∙ g.same;
  longer = omega (arith, g.longer, h.longer);
  nodes = λ e n is. h.nodes e n (g.nodes e n is);
  structs = λ k it is. h.structs k it (g.structs k it is);
  registers = omega (arith, g.registers, h.registers);
  sound = λ is. h.sound (g.sound is);
}

-- what stands of the longer code stands of the shorter
pub kept_before : {b c : Builder} {first : ℕ} {it : Finished} → Grows b c → Kept first c it → Kept first b it
kept_before g kept = record {
  nodes = λ e n from is. kept.nodes e n from (g.nodes e n is);
  structs = λ k s is. kept.structs k s (g.structs k s is);
  registers = omega (arith, g.registers, kept.registers);
}

pub kept_from : {b : Builder} {first later : ℕ} {it : Finished} → first ≤ later → Kept first b it → Kept later b it
kept_from le kept = record {
  nodes = λ e n from is. kept.nodes e n (omega (arith, le, from)) is;
  structs = kept.structs;
  registers = kept.registers;
}

-- something was added, and then something more
pub both :
    {a b c : Builder} {P Q R : Here → Finished → Type 0}
    → Adds a b P → Adds b c Q → ((here : Here) (it : Finished) → P here it → Q here it → R here it) → Adds a c R
both {a} {b} {c} {P} {Q} {R} p q make = record {
  grows = grows_both p.grows q.grows;
  stands = λ it kept.
      make (here_of a) it (p.stands it (kept_before q.grows kept))
      (subst (λ here. Q here it) p.grows.same (q.stands it (kept_from p.grows.longer kept)));
}

-- something was added, and then the code with which it ends
pub last :
    {a b c : Builder} {P : Here → Finished → Type 0} {Q R : ℕ → Here → Finished → Type 0} {result : Result ℕ AllocError}
    → Adds a b P → Gives b c result Q
    → ((from : ℕ) (here : Here) (it : Finished) → P here it → Q from here it → R from here it) → Gives a c result R
last {result = Ok from} p q make =
    record { code = record { adds = both p q.code.adds (make from); within = q.code.within } }
last {result = Err e} p q make = record { code = tt }

-- the same, at what is known here
pub last_here :
    {a b c : Builder} {P : Here → Finished → Type 0} {Q R : ℕ → Here → Finished → Type 0} {result : Result ℕ AllocError}
    → Adds a b P → Gives b c result Q
    → ((from : ℕ) (it : Finished) → P (here_of a) it → Q from (here_of a) it → R from (here_of a) it) → Gives a c result R
last_here {a} {b} {P = P} {Q} {result = Ok from} p q make =
    record {
      code = record {
        adds = record {
          grows = grows_both p.grows q.code.adds.grows;
          stands = λ it kept.
              make from it (p.stands it (kept_before q.code.adds.grows kept))
              (subst (λ here. Q from here it) p.grows.same (q.code.adds.stands it (kept_from p.grows.longer kept)));
        };
        within = q.code.within;
      };
    }
last_here {result = Err e} p q make = record { code = tt }

-- the code is also this
pub also :
    {a b : Builder} {P Q : ℕ → Here → Finished → Type 0} {result : Result ℕ AllocError}
    → Gives a b result P
    → ((from : ℕ) (here : Here) (it : Finished) → P from here it → Q from here it) → Gives a b result Q
also {a} {result = Ok from} p make = record {
  code = record {
    adds = record {
      grows = p.code.adds.grows;
      stands = λ it kept. make from (here_of a) it (p.code.adds.stands it kept);
    };
    within = p.code.within;
  };
}
also {result = Err e} p make = record { code = tt }

-- the same with two additions before, and with three
pub last2 :
    {a b c d : Builder} {P Q : Here → Finished → Type 0} {R S : ℕ → Here → Finished → Type 0} {result : Result ℕ AllocError}
    → Adds a b P → Adds b c Q → Gives c d result R
    → ((from : ℕ) (here : Here) (it : Finished) → P here it → Q here it → R from here it → S from here it)
    → Gives a d result S
last2 {P = P} {Q} p q r make =
    let F : Here → Finished → Type 0 = λ here it. P here it × Q here it in
    last {P = F} (both p q (λ here it x y. (x, y))) r (λ from here it x z. make from here it x.0 x.1 z)

pub last3 :
    {a b c d e : Builder} {P Q R : Here → Finished → Type 0} {S T : ℕ → Here → Finished → Type 0}
    {result : Result ℕ AllocError}
    → Adds a b P → Adds b c Q → Adds c d R → Gives d e result S
    → ((from : ℕ) (here : Here) (it : Finished) → P here it → Q here it → R here it → S from here it → T from here it)
    → Gives a e result T
last3 {P = P} {Q} p q r s make =
    let F : Here → Finished → Type 0 = λ here it. P here it × Q here it in
    last2 {P = F} (both p q (λ here it x y. (x, y))) r s (λ from here it x y z. make from here it x.0 x.1 y z)

pub last4 :
    {a b c d e f : Builder} {P Q R S : Here → Finished → Type 0} {T U : ℕ → Here → Finished → Type 0}
    {result : Result ℕ AllocError}
    → Adds a b P → Adds b c Q → Adds c d R → Adds d e S → Gives e f result T
    → ((from : ℕ) (here : Here) (it : Finished) → P here it → Q here it → R here it → S here it → T from here it
    → U from here it)
    → Gives a f result U
last4 {P = P} {Q} p q r s t make =
    let F : Here → Finished → Type 0 = λ here it. P here it × Q here it in
    last3 {P = F} (both p q (λ here it x y. (x, y))) r s t (λ from here it x y z w. make from here it x.0 x.1 y z w)

-- the code is this too, at what is known here
pub also_here :
    {a b : Builder} {P Q : ℕ → Here → Finished → Type 0} {result : Result ℕ AllocError}
    → Gives a b result P
    → ((from : ℕ) (it : Finished) → P from (here_of a) it → Q from (here_of a) it) → Gives a b result Q
also_here {a} {result = Ok from} p make = record {
  code = record {
    adds = record {
      grows = p.code.adds.grows;
      stands = λ it kept. make from it (p.code.adds.stands it kept);
    };
    within = p.code.within;
  };
}
also_here {result = Err e} p make = record { code = tt }

-- ---- code that is added step by step

pub grows_none : {b : Builder} → Grows b b
grows_none = record {
  same = refl;
  longer = omega arith;
  nodes = λ e n is. is;
  structs = λ k it is. is;
  registers = omega arith;
  sound = λ is. is;
}

-- nothing yet
pub none_added : {b : Builder} {P : Here → Finished → Type 0} (to : ℕ) → to < length b.nodes.items
    → ((here : Here) (it : Finished) → P here it) → Emits b b to P
none_added {b} to within is =
    record { adds = record { grows = grows_none; stands = λ it kept. is (here_of b) it }; within = within }

-- something more
pub more : {a b c : Builder} {m from : ℕ} {P Q R : Here → Finished → Type 0} → Emits a b m P → Emits b c from Q
    → ((here : Here) (it : Finished) → P here it → Q here it → R here it) → Emits a c from R
more p q make = record { adds = both p.adds q.adds make; within = q.within }

-- all of it
pub all_added : {a b : Builder} {from : ℕ} {P : Here → Finished → Type 0} {R : ℕ → Here → Finished → Type 0}
    → Emits a b from P → ((here : Here) (it : Finished) → P here it → R from here it) → Gives a b (Ok from) R
all_added {a} p make = record {
  code = record {
    adds = record { grows = p.adds.grows; stands = λ it kept. make (here_of a) it (p.adds.stands it kept) };
    within = p.within;
  };
}

-- ---- ticks whose successors come later

-- Between a tick that is reserved and the node to which it leads in the end, something was added.
pub looped :
    {a b c d : Builder} {hole to : ℕ} {P Q : Here → Finished → Type 0}
    → IsReserved a b hole → Adds b c P → IsPatched c d hole to
    → ((here : Here) (it : Finished) → P here it
    → slice_get it.nodes (it.point hole) ≡ Some (node.Tick (it.point to)) → Q here it)
    → Adds a d Q
looped {a} {b} {c} {d} {hole} {to} {P} {Q} r p patch make = record {
  grows = record {
    same = patch.same ∙ p.grows.same ∙ r.grows.same;
    longer = omega (arith, r.grows.longer, p.grows.longer, patch.longer);
    nodes = λ e n is.
        patch.nodes e n (λ at. absurd (omega (arith, at, r.number, slice_get_within a.nodes.items e n is)))
        (p.grows.nodes e n (r.grows.nodes e n is));
    structs = λ k it is.
        let Is : Vec Shape → Type 0 = λ v. slice_get v.items k ≡ Some it in
        subst Is (sym patch.structs) (p.grows.structs k it (r.grows.structs k it is));
    registers = omega (arith, r.grows.registers, p.grows.registers, patch.registers);
    sound = λ is. patch.sound (p.grows.sound (r.grows.sound is));
  };
  stands = λ it kept.
      make (here_of a) it
      (subst (λ here. P here it) r.grows.same (p.stands it record {
        nodes = λ e n from is.
            kept.nodes e n (omega (arith, from, r.grows.longer))
            (patch.nodes e n (λ at. absurd (omega (arith, at, from, r.number, r.longer))) is);
        structs = λ k s is.
            let Is : Vec Shape → Type 0 = λ v. slice_get v.items k ≡ Some s in
            kept.structs k s (subst Is (sym patch.structs) is);
        registers = omega (arith, kept.registers, patch.registers);
      }))
      (kept.nodes hole (node.Tick to) (omega (arith, r.number)) patch.tick);
}
