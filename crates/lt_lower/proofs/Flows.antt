-- Statements' code, by what they are, and what stays of what was there.
use Rattle.std.proofs.Common.{◌≡◌, ℕ, ◌+◌, ◌-◌, ◌<◌, ◌≤◌, suc, List, ◌∷◌, length, drop, get_or, drop-cons, ap, sym, subst, ◌∙◌, refl, arith, Result, Ok, Some, slice_get}
use Rattle.std.specs.declared.alloc.AllocError.{AllocError}
use Rattle.lt_tree.specs.Typing.Types.{CType}
use Rattle.lt_tree.specs.Typing.TypedTree as e
use Rattle.lt_emit.specs.declared.builder.Builder.{Builder}
use Rattle.lt_code.specs.Costs.{Cost, alone, turn, ◌⊕◌}
use Rattle.lt_emit.specs.Spending.{IsWithin, Spends}
use Rattle.lt_emit.specs.Emission.{Here, here_of, Finished, Grows, Adds, GivesWithin, HasPoint, IsReserved, IsPatched}
use Rattle.lt_emit.proofs.Adding.{both, grows_both, looped}
use Rattle.lt_emit.proofs.Spent.{within, itself, spends_both, spends_more}
use Rattle.lt_ir.specs.declared.node.Node.TheVariants as node
use Rattle.lt_lower.specs.declared.flow.Exits.{Exits as HeldExits}
use Rattle.lt_lower.specs.Stands.{HasExits, HasFlow, GivesFlow, statement_cost}

-- ---- what is there stays

pub point_after : {a b : Builder} (e : ℕ) → Grows a b → HasPoint a e → HasPoint b e
point_after e g has = omega (arith, g.longer, has)

pub exits_after : {a b : Builder} (x : HeldExits) → Grows a b → HasExits a x → HasExits b x
exits_after x g has = record {
  next = point_after x.next g has.next;
  back = point_after x.back g has.back;
  leaves = point_after x.leaves g has.leaves;
  breaks = point_after x.breaks g has.breaks;
  continues = point_after x.continues g has.continues;
}

-- nothing was added
pub nothing_added : {a : Builder} {P : Here → Finished → Type 0} → ((it : Finished) → P (here_of a) it) → Adds a a P
nothing_added {a} so = record {
  grows = record {
    same = refl;
    longer = omega arith;
    nodes = λ e n is. is;
    structs = λ k it is. is;
    registers = omega arith;
    sound = λ is. is;
  };
  stands = λ it kept. so it;
}

-- what was added is also this
pub adds_too :
    {a b : Builder} {P Q : Here → Finished → Type 0} → Adds a b P
    → ((here : Here) (it : Finished) → P here it → Q here it) → Adds a b Q
adds_too {a} p make = record { grows = p.grows; stands = λ it kept. make (here_of a) it (p.stands it kept) }

-- ---- statements

pub flow_arm :
    {a b : Builder} {result : Result ℕ AllocError} (s tree : List CType → e.Statement) (x : HeldExits)
    → ((types : List CType) → s types ≡ tree types)
    → GivesFlow a b result tree x
    → GivesFlow a b result s x
flow_arm s tree x is code =
    within code (λ from here it stands.
    let Is : e.Statement → Type 0 = λ w. HasFlow (λ types. w) x from here it in
    subst Is (sym (is here.types)) stands)
    (λ here.
    let Costs : e.Statement → Type 0 = λ w. IsWithin (statement_cost tree here) (statement_cost (λ types. w) here) in
    subst Costs (sym (is here.types)) (itself (statement_cost tree here)))

-- ---- rows that are gone over from their ends

pub row_from :
    {X : Type 0} (row : List X) (k : ℕ) (x : X) → 0 < k → k ≤ length row → x ≡ get_or row (k - 1) x
    → drop (k - 1) row ≡ x ∷ drop k row
row_from row k x some fits is =
    let less = k - 1 in
    let more : suc less ≡ k = omega arith in
    let there : less < length row = omega arith in
    drop-cons row less x there ∙ ap (λ y. y ∷ drop (suc less) row) (sym is) ∙ ap (λ n. x ∷ drop n row) more

pub row_at : {X : Type 0} (row : List X) (k : ℕ) (x : X) → k < length row → x ≡ get_or row k x → drop k row ≡ x ∷ drop (k + 1) row
row_at row k x there is =
    let more : suc k ≡ k + 1 = omega arith in
    drop-cons row k x there ∙ ap (λ y. y ∷ drop (suc k) row) (sym is) ∙ ap (λ n. x ∷ drop n row) more

-- ---- loops

-- a tick that leads to what was added behind it
pub looped3 :
    {a b c d e f : Builder} {hole to : ℕ} {P Q R Fact : Here → Finished → Type 0}
    → IsReserved a b hole → Adds b c P → Adds c d Q → Adds d e R → IsPatched e f hole to
    → ((here : Here) (it : Finished) → P here it → Q here it → R here it
    → slice_get it.nodes (it.point hole) ≡ Some (node.Tick (it.point to)) → Fact here it)
    → Adds a f Fact
looped3 {P = P} {Q} {R} r p q s patch make =
    let Two : Here → Finished → Type 0 = λ here it. P here it × Q here it in
    let Three : Here → Finished → Type 0 = λ here it. P here it × Q here it × R here it in
    let all : Adds _ _ Three = both {P = Two} (both p q (λ here it y z. (y, z))) s (λ here it y z. (y.0, y.1, z)) in
    looped {P = Three} r all patch (λ here it y t. make here it y.0 y.1 y.2 t)

pub looped2 :
    {a b c d e : Builder} {hole to : ℕ} {P Q Fact : Here → Finished → Type 0}
    → IsReserved a b hole → Adds b c P → Adds c d Q → IsPatched d e hole to
    → ((here : Here) (it : Finished) → P here it → Q here it
    → slice_get it.nodes (it.point hole) ≡ Some (node.Tick (it.point to)) → Fact here it)
    → Adds a e Fact
looped2 {P = P} {Q} r p q patch make =
    let Two : Here → Finished → Type 0 = λ here it. P here it × Q here it in
    let all : Adds _ _ Two = both p q (λ here it y z. (y, z)) in
    looped {P = Two} r all patch (λ here it y t. make here it y.0 y.1 t)

-- a tick that was reserved stays as it is while code is added
waits : {a b c : Builder} {hole : ℕ} → IsReserved a b hole → Grows b c → slice_get c.nodes.items hole ≡ Some (node.Tick hole)
waits {hole = hole} r g = g.nodes hole (node.Tick hole) r.tick

-- and what it costs
pub loop2_spends :
    {a b c d e : Builder} {hole to m n : ℕ} {p q : Here → Cost} {P Q : ℕ → Here → Finished → Type 0}
    → IsReserved a b hole → GivesWithin b c (Ok m) p P → GivesWithin c d (Ok n) q Q → IsPatched d e hole to
    → Spends (((turn ⊕ p (here_of a)) ⊕ q (here_of a)) ⊕ alone 0) a e
loop2_spends {p = p} {q} r first second patch =
    let once = grows_both r.grows first.gives.code.adds.grows in
    let since = grows_both first.gives.code.adds.grows second.gives.code.adds.grows in
    spends_both (spends_more (λ here. turn ⊕ p here) q once (spends_more (λ here. turn) p r.grows r.spends first.spends) second.spends)
    (patch.spends (waits r since))

pub loop3_spends :
    {a b c d e f : Builder} {hole to m n o : ℕ} {p q s : Here → Cost} {P Q S : ℕ → Here → Finished → Type 0}
    → IsReserved a b hole → GivesWithin b c (Ok m) p P → GivesWithin c d (Ok n) q Q → GivesWithin d e (Ok o) s S → IsPatched e f hole to
    → Spends ((((turn ⊕ p (here_of a)) ⊕ q (here_of a)) ⊕ s (here_of a)) ⊕ alone 0) a f
loop3_spends {p = p} {q} {s} r first second third patch =
    let once = grows_both r.grows first.gives.code.adds.grows in
    let twice = grows_both once second.gives.code.adds.grows in
    let since = grows_both (grows_both first.gives.code.adds.grows second.gives.code.adds.grows) third.gives.code.adds.grows in
    spends_both (spends_more (λ here. (turn ⊕ p here) ⊕ q here) s twice
    (spends_more (λ here. turn ⊕ p here) q once (spends_more (λ here. turn) p r.grows r.spends first.spends) second.spends) third.spends)
    (patch.spends (waits r since))

pub hole_point : {a b : Builder} {hole : ℕ} → IsReserved a b hole → HasPoint b hole
hole_point r = omega (arith, r.number, r.longer)

pub patched_point : {a b : Builder} {hole to : ℕ} (e : ℕ) → IsPatched a b hole to → HasPoint a e → HasPoint b e
patched_point e patch has = omega (arith, patch.longer, has)
