-- Objects that begin, and end at each exit of what follows.
use Rattle.std.proofs.Common.{◌≡◌, ℕ, suc, ◌+◌, ◌*◌, ◌-◌, ◌<◌, ◌≤◌, List, [], ◌∷◌, map, length, drop, get_or, Option, Ok, refl, sym, subst, arith}
use Rattle.std.specs.Borrow.{Bor}
use Rattle.std.proofs.lemmas.List.{drop_all}
use Rattle.lt_tree.specs.declared.typed.tree.Value.{Value}
use Rattle.lt_tree.specs.declared.typed.statement.Local.{Local}
use Rattle.lt_tree.specs.declared.typed.statement.ForStart.{ForStart}
use Rattle.lt_tree.specs.declared.typed.statement.ForStart.TheVariants as for_start
use Rattle.lt_tree.specs.Typing.Types.{CType}
use Rattle.lt_tree.specs.Typing.Entities.{Function}
use Rattle.lt_tree.specs.Typing.StatementView.{local_of, for_start_of}
use Rattle.lt_meaning.specs.Statements.{parts_in}
use Rattle.lt_code.specs.Costs.{Cost, alone, tick, turn, ◌⊕◌, of_parts, of_locals, of_start, of_statement, optional_test, optional_value}
use Rattle.lt_tree.specs.Typing.TypedTree as e
use Rattle.lt_code.specs.Code.{Site}
use Rattle.lt_code.specs.Bodies as code
use Rattle.lt_code.specs.Bodies.{Exits, Flows, ◌▹◌}
use Rattle.lt_emit.specs.declared.builder.Builder.{Builder}
use Rattle.lt_emit.specs.Spending.{IsWithin, piece}
use Rattle.lt_emit.specs.Emission.{Here, here_of, Finished, site_in, Grows, Adds, Emits, EmitsWithin, GivesWithin, HasPoint}
use Rattle.lt_emit.proofs.Adding.{both, grows_both}
use Rattle.lt_emit.proofs.Spent.{spends_none, one_more_within, all_within, fitting}
use Rattle.lt_lower.specs.declared.flow.Exits.{Exits as HeldExits}
use Rattle.lt_lower.specs.Stands.{HasExits, exits_in, openings, all_end, start_opens, start_ends, maybe_at, all_opened, start_opened, declared_in, opening_cost, openings_cost, OpeningStands, OpeningsStand, EndsStand, AllEnd, IsKnownStart}
use Rattle.lt_lower.specs.Known.{IsKnownStatement, IsKnownIfThere}
use Rattle.lt_lower.proofs.Flows.{point_after, nothing_added, adds_too, row_at}

-- the ends at five exits
pub five_ends :
    {a b c d e f : Builder} {P Q R S T Fact : Here → Finished → Type 0} (x : HeldExits)
    → Emits a b x.next P → Emits b c x.back Q → Emits c d x.leaves R → Emits d e x.breaks S → Emits e f x.continues T
    → ((here : Here) (it : Finished) → P here it → Q here it → R here it → S here it → T here it → Fact here it)
    → Adds a f Fact × HasExits f x
five_ends {a} {b} {c} {d} {e} {f} {P} {Q} {R} {S} {T} {Fact} x p q r s t make =
    let Two : Here → Finished → Type 0 = λ here it. P here it × Q here it in
    let Three : Here → Finished → Type 0 = λ here it. P here it × Q here it × R here it in
    let Four : Here → Finished → Type 0 = λ here it. P here it × Q here it × R here it × S here it in
    let two : Adds a c Two = both p.adds q.adds (λ here it y z. (y, z)) in
    let three : Adds a d Three = both two r.adds (λ here it y z. (y.0, y.1, z)) in
    let four : Adds a e Four = both three s.adds (λ here it y z. (y.0, y.1, y.2, z)) in
    let last : Grows e f = t.adds.grows in
    let last2 : Grows d f = grows_both s.adds.grows last in
    let last3 : Grows c f = grows_both r.adds.grows last2 in (
      both four t.adds (λ here it y z. make here it y.0 y.1 y.2 y.3 z),
      record {
        next = point_after x.next (grows_both q.adds.grows last3) p.within;
        back = point_after x.back last3 q.within;
        leaves = point_after x.leaves last2 r.within;
        breaks = point_after x.breaks last s.within;
        continues = t.within;
      },
    )

-- objects whose ends stand, one round the other, and what they are round
pub locals_stand :
    (s : Site) (its : List e.Local) (rest : Flows) (inner outer : Exits) (from m : ℕ)
    → openings s its from m → all_end s its inner outer → rest m inner → code.locals s its rest from outer
locals_stand s [] rest inner outer from m opened ended stands =
    let At : ℕ → Type 0 = λ n. rest n outer in
    let In : Exits → Type 0 = λ x. rest m x in
    subst At (sym opened) (subst In ended stands)
locals_stand s (first ∷ its) rest inner outer from m opened ended stands =
    (opened.0, ended.0, opened.1, locals_stand s its rest inner ended.0 opened.0 m opened.2 ended.2 stands, ended.1)

-- none are left
pub openings_none :
    {a : Builder} (its : List Local) (k to : ℕ) → length its ≤ k → HasPoint a to
    → EmitsWithin a a to (openings_cost (drop k its)) (OpeningsStand (drop k its) to to)
openings_none {a} its k to all has =
    let Are : List Local → Type 0 = λ row. EmitsWithin a a to (openings_cost row) (OpeningsStand row to to) in
    subst Are (sym (drop_all k its all)) (record {
      emits = record { adds = nothing_added (λ it known. refl); within = has };
      spends = spends_none (openings_cost [] (here_of a));
    })

-- one more is in front of those that begin
pub openings_more :
    {a b c : Builder} (its : List Local) (k to from : ℕ) (x : Local) (m : ℕ) → 0 < k → k ≤ length its → x ≡ get_or its (k - 1) x
    → EmitsWithin a b from (openings_cost (drop k its)) (OpeningsStand (drop k its) to from)
    → GivesWithin b c (Ok m) (opening_cost x) (OpeningStands x from)
    → EmitsWithin a c m (openings_cost (drop (k - 1) its)) (OpeningsStand (drop (k - 1) its) to m)
openings_more {a} {b} {c} its k to from x m some fits is before one =
    one_more_within (λ row j. openings_cost row) (λ row j at. OpeningsStand row to at) its k from x m some fits is before one
    (λ here it p q known. (_, q known.0, p known.1)) (λ here. grind fitting)

-- all begin
pub openings_all :
    {a b : Builder} (its : List Local) (k to from : ℕ) → k ≤ 0
    → EmitsWithin a b from (openings_cost (drop k its)) (OpeningsStand (drop k its) to from)
    → EmitsWithin a b from (openings_cost its) (OpeningsStand its to from)
openings_all its k to from first code =
    all_within (λ row j. openings_cost row) (λ row j at. OpeningsStand row to at) its k from first code

-- one object fewer is left that has to end
pub all_end_more :
    {a b c : Builder} (its : List Local) (k : ℕ) (x : Local) (between inner outer : HeldExits) → k < length its → x ≡ get_or its k x
    → Adds a b (λ here it. (last : Exits) → all_end (site_in here it) (map (local_of here.types) (drop k its)) last (exits_in it between)
    → all_end (site_in here it) (map (local_of here.types) its) last (exits_in it outer))
    → Adds b c (EndsStand x.object inner between)
    → Adds a c (λ here it. (last : Exits) → all_end (site_in here it) (map (local_of here.types) (drop (k + 1) its)) last (exits_in it inner)
    → all_end (site_in here it) (map (local_of here.types) its) last (exits_in it outer))
all_end_more its k x between inner outer there is before one =
    both before one (λ here it p q last ended.
    let Are : List Local → Type 0 = λ row. all_end (site_in here it) (map (local_of here.types) row) last (exits_in it between) in
    p last (subst Are (sym (row_at its k x there is)) (_, q, ended)))

-- none is left
pub all_end_none :
    {a b : Builder} (its : List Local) (k : ℕ) (inner outer : HeldExits) → length its ≤ k
    → Adds a b (λ here it. (last : Exits) → all_end (site_in here it) (map (local_of here.types) (drop k its)) last (exits_in it inner)
    → all_end (site_in here it) (map (local_of here.types) its) last (exits_in it outer))
    → Adds a b (AllEnd its inner outer)
all_end_none its k inner outer all before =
    adds_too before (λ here it p.
    let Are : List Local → Type 0 = λ row. all_end (site_in here it) (map (local_of here.types) row) (exits_in it inner) (exits_in it inner) in
    p (exits_in it inner) (subst Are (sym (drop_all k its all)) refl))

-- what is known of a `for`
pub for_known :
    (here : Here) (start : e.ForStart) (test step : Option e.Value) (body : e.Statement)
    → IsKnownStatement here (e.For start test step body)
    → IsKnownStart here start × IsKnownIfThere here test × IsKnownIfThere here step × IsKnownStatement here body
for_known here e.Nothing test step body known = (tt, known.0, known.1, known.2)
for_known here (e.First v) test step body known = known
for_known here (e.Locals its) test step body known = known

-- what stands before the first `;` of a `for`, and the turns
pub for_stands :
    (s : Site) (start : e.ForStart) (test step : Option e.Value) (body : e.Statement) (inner outer : Exits) (from first head : ℕ)
    → code.tick s from first → start_opens s start first head → start_ends s start inner outer
    → code.loop s test step (code.flows s body) head inner → code.flows s (e.For start test step body) from outer
for_stands s e.Nothing test step body inner outer from first head t opened ended stands =
    let In : Exits → Type 0 = λ x. code.loop s test step (code.flows s body) head x in
    let At : ℕ → Type 0 = λ n. code.tick s from n in
    (head, subst At opened t, subst In ended stands)
for_stands s (e.First v) test step body inner outer from first head t opened ended stands =
    let In : Exits → Type 0 = λ x. code.loop s test step (code.flows s body) head x in
    (first, t, (head, opened, subst In ended stands))
for_stands s (e.Locals its) test step body inner outer from first head t opened ended stands =
    (first, t, locals_stand s its (code.loop s test step (code.flows s body)) inner outer first head opened ended stands)

-- ---- what objects cost, with their ends

-- an object before others
pub beside_objects :
    (parts all most : Cost) (n : ℕ) → IsWithin (alone (5 * n) ⊕ all) most
    → IsWithin (alone (5 * suc n) ⊕ ((alone 2 ⊕ parts) ⊕ all)) ((alone 7 ⊕ parts) ⊕ most)
beside_objects parts all most n rest = record {
  nodes = omega (arith, rest.nodes);
  registers = omega (arith, rest.registers);
  loops = omega (arith, rest.loops);
  calls = λ f. grind (fitting, rest.calls f);
}

objects_fit :
    (functions : List Function) (types : List CType) (its : List Local)
    → IsWithin (alone (5 * length its) ⊕ all_opened functions (map (local_of types) its)) (of_locals functions (map (local_of types) its))
objects_fit functions types [] = grind fitting
objects_fit functions types (it ∷ its) =
    beside_objects (of_parts functions (parts_in (local_of types it).start)) _ _ (length its) (objects_fit functions types its)

start_fits :
    (functions : List Function) (types : List CType) (start : ForStart)
    → IsWithin (alone (5 * declared_in start) ⊕ start_opened functions (for_start_of types start)) (of_start functions (for_start_of types start))
start_fits functions types for_start.Nothing = grind fitting
start_fits functions types (for_start.First v) = grind fitting
start_fits functions types (for_start.Locals its) = objects_fit functions types its.items

for_sum :
    (ends opened start test step body : Cost) → IsWithin (ends ⊕ opened) start
    → IsWithin (((ends ⊕ (turn ⊕ test ⊕ step ⊕ body)) ⊕ opened) ⊕ piece 1 0) (tick ⊕ turn ⊕ start ⊕ test ⊕ step ⊕ body)
for_sum ends opened start test step body fits = record {
  nodes = omega (arith, fits.nodes);
  registers = omega (arith, fits.registers);
  loops = omega (arith, fits.loops);
  calls = λ f. grind (fitting, fits.calls f);
}

-- a `for`, whose test and step may be left out
pub for_fits :
    (functions : List Function) (types : List CType) (start : ForStart) (test step : Option (Bor Value)) (t s : Option e.Value)
    (body : e.Statement) → maybe_at types test ≡ t → maybe_at types step ≡ s
    → IsWithin (((alone (5 * declared_in start) ⊕ (turn ⊕ optional_test functions (maybe_at types test) ⊕ optional_value functions (maybe_at types step)
    ⊕ of_statement functions body)) ⊕ start_opened functions (for_start_of types start)) ⊕ piece 1 0)
    (of_statement functions (e.For (for_start_of types start) t s body))
for_fits functions types start test step t s body is_test is_step =
    let before = for_sum (alone (5 * declared_in start)) (start_opened functions (for_start_of types start)) (of_start functions (for_start_of types start))
    (optional_test functions (maybe_at types test)) (optional_value functions (maybe_at types step)) (of_statement functions body)
    (start_fits functions types start) in
    let Fits : Option e.Value → Option e.Value → Type 0 = λ u v.
    IsWithin (((alone (5 * declared_in start) ⊕ (turn ⊕ optional_test functions (maybe_at types test) ⊕ optional_value functions (maybe_at types step)
    ⊕ of_statement functions body)) ⊕ start_opened functions (for_start_of types start)) ⊕ piece 1 0)
    (of_statement functions (e.For (for_start_of types start) u v body)) in
    subst (λ u. Fits u s) is_test (subst (λ v. Fits (maybe_at types test) v) is_step before)
