-- Code in which footprints are tracked otherwise than around it.
use Rattle.std.proofs.Common.{◌≡◌, ℕ, sym, ap, Bool, true, false, not, Result, Ok, Err, inl, inr}
use Rattle.std.specs.declared.alloc.AllocError.{AllocError}
use Rattle.lt_tree.specs.Typing.TypedTree as e
use Rattle.lt_meaning.specs.Expressions.{Fate}
use Rattle.lt_meaning.specs.Clashes.{cannot_clash, is_of}
use Rattle.lt_code.specs.Code.{Site, value_code, test_code, full_value, full_test, tracking_at}
use Rattle.lt_emit.specs.declared.builder.Builder.{Builder}
use Rattle.lt_code.specs.Costs.{Cost}
use Rattle.lt_emit.specs.Spending.{IsWithin}
use Rattle.lt_emit.specs.Emission.{Here, here_of, Finished, Gives, GivesWithin}
use Rattle.lt_emit.proofs.Spent.{spends_within}

pub inside :
    {a c : Builder} {result : Result ℕ AllocError} {Q R : ℕ → Here → Finished → Type 0} (tracks : Bool)
    → Gives (record a { tracks = tracks }) c result Q
    → ((from : ℕ) (here : Here) (it : Finished) → Q from (record here { tracks = tracks }) it → R from here it)
    → Gives a (record c { tracks = a.tracks }) result R
inside {a} {c} {result = Ok from} tracks p make = record {
  code = record {
    adds = record {
      grows = record {
        same = let with_flag : Here → Here = λ here. record here { tracks = a.tracks } in ap with_flag p.code.adds.grows.same;
        longer = p.code.adds.grows.longer;
        nodes = p.code.adds.grows.nodes;
        structs = p.code.adds.grows.structs;
        registers = p.code.adds.grows.registers;
        sound = p.code.adds.grows.sound;
      };
      stands = λ it kept.
          make from _ it (p.code.adds.stands it record { nodes = kept.nodes; structs = kept.structs; registers = kept.registers });
    };
    within = p.code.within;
  };
}
inside {result = Err e} tracks p make = record { code = tt }

pub inside_within :
    {a c : Builder} {result : Result ℕ AllocError} {p q : Here → Cost} {Q R : ℕ → Here → Finished → Type 0} (tracks : Bool)
    → GivesWithin (record a { tracks = tracks }) c result p Q
    → ((from : ℕ) (here : Here) (it : Finished) → Q from (record here { tracks = tracks }) it → R from here it)
    → ((here : Here) → IsWithin (p (record here { tracks = tracks })) (q here))
    → GivesWithin a (record c { tracks = a.tracks }) result q R
inside_within {a} {c} {result = Ok from} {p} {q} tracks code make fits = record {
  gives = inside tracks code.gives make;
  spends = let it = spends_within code.spends (fits (here_of a)) in
      record { nodes = it.nodes; registers = it.registers; loops = it.loops; calls = it.calls };
}
inside_within {result = Err e} tracks code make fits = record { gives = inside tracks code.gives make; spends = tt }

pub value_is_full :
    (s : Site) (fate : Fate) (v : e.Value) (r from to : ℕ) (calm : Bool) → calm ≡ is_of cannot_clash v
    → value_code (tracking_at (not calm) s) fate v r from to → full_value s fate v r from to
value_is_full s fate v r from to true is code = inr (sym is, code)
value_is_full s fate v r from to false is code = inl code

pub test_is_full :
    (s : Site) (v : e.Value) (r from on off : ℕ) (calm : Bool) → calm ≡ is_of cannot_clash v
    → test_code (tracking_at (not calm) s) v r from on off → full_test s v r from on off
test_is_full s v r from on off true is code = inr (sym is, code)
test_is_full s v r from on off false is code = inl code
