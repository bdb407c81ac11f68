-- First values of objects: their parts, and the letters of strings.
use Rattle.std.proofs.Common.{◌≡◌, ℕ, Bool, true, false, ◌+◌, ◌-◌, ◌*◌, ◌<◌, ◌≤◌, List, length, drop, get_or, Result, Ok, refl, sym, subst, ◌∙◌, arith}
use Rattle.std.proofs.lemmas.List.{get_or_default}
use Rattle.std.specs.declared.alloc.AllocError.{AllocError}
use Rattle.lt_model.specs.declared.scalar.Scalar.{Scalar}
use Rattle.lt_tree.specs.declared.typed.statement.StartPart.{StartPart}
use Rattle.lt_tree.specs.Typing.Types.{CType}
use Rattle.lt_tree.specs.Typing.TypedTree as e
use Rattle.lt_tree.specs.Typing.StatementView.{start_part_of}
use Rattle.lt_ir.specs.declared.node.Access.{Access}
use Rattle.lt_ir.specs.declared.node.Access.TheVariants as access
use Rattle.lt_code.specs.Code.{Site, IsAccessTo, tracking_at}
use Rattle.lt_emit.specs.declared.builder.Builder.{Builder}
use Rattle.lt_code.specs.Costs.{Cost}
use Rattle.lt_emit.specs.Spending.{IsWithin, piece}
use Rattle.lt_emit.specs.Emission.{Here, EmitsWithin, GivesWithin, HasPoint, costs}
use Rattle.lt_emit.proofs.Spent.{within, itself, none_within, one_more_within, all_within, fitting}
use Rattle.lt_lower.specs.Stands.{ObjectStands, part_cost, parts_cost, HasPart, PartStands, PartsStand, LettersStand, letter}

pub part_arm :
    {a b : Builder} {result : Result ℕ AllocError} (part : StartPart) (tree : List CType → e.StartPart) (object to : ℕ)
    → ((types : List CType) → start_part_of types part ≡ tree types) → GivesWithin a b result (part_cost tree) (HasPart tree object to)
    → GivesWithin a b result (part_cost (λ types. start_part_of types part)) (PartStands object part to)
part_arm part tree object to is code =
    within code (λ from here it stands.
    let Is : e.StartPart → Type 0 = λ w. HasPart (λ types. w) object to from here it in
    subst Is (sym (is here.types)) stands)
    (λ here.
    let Costs : e.StartPart → Type 0 = λ w. IsWithin (part_cost tree here) (part_cost (λ types. w) here) in
    subst Costs (sym (is here.types)) (itself (part_cost tree here)))

-- what an access is to, whether footprints are tracked or not
pub same_access :
    (s : Site) (tracks is : Bool) (t : CType) (it : Access) → IsAccessTo is s t it → IsAccessTo is (tracking_at tracks s) t it
same_access s tracks true t (access.Struct k) is = is
same_access s tracks true t (access.Scalar ty) is = is
same_access s tracks false t it is = is

-- ---- parts, the last first

pub parts_none :
    {a : Builder} (object : ℕ) (all : List StartPart) (k to : ℕ) → length all ≤ k → HasPoint a to
    → EmitsWithin a a to (parts_cost (drop k all)) (PartsStand object (drop k all) to to)
parts_none object all k to none has =
    none_within (λ row j. parts_cost row) (λ row j at. PartsStand object row to at) all k to none has (λ here it known. refl)

pub parts_more :
    {a b c : Builder} (object : ℕ) (all : List StartPart) (k to from : ℕ) (x : StartPart) (m : ℕ) → 0 < k → k ≤ length all
    → x ≡ get_or all (k - 1) x → EmitsWithin a b from (parts_cost (drop k all)) (PartsStand object (drop k all) to from)
    → GivesWithin b c (Ok m) (part_cost (λ types. start_part_of types x)) (PartStands object x from)
    → EmitsWithin a c m (parts_cost (drop (k - 1) all)) (PartsStand object (drop (k - 1) all) to m)
parts_more object all k to from x m some fits is before one =
    one_more_within (λ row j. parts_cost row) (λ row j at. PartsStand object row to at) all k from x m some fits is before one
    (λ here it p q known. (_, q known.0, p known.1)) (λ here. grind fitting)

pub parts_all :
    {a b : Builder} (object : ℕ) (all : List StartPart) (k to from : ℕ) → k ≤ 0
    → EmitsWithin a b from (parts_cost (drop k all)) (PartsStand object (drop k all) to from)
    → EmitsWithin a b from (parts_cost all) (PartsStand object all to from)
parts_all object all k to from first code =
    all_within (λ row j. parts_cost row) (λ row j at. PartsStand object row to at) all k from first code

-- ---- letters, the last first

-- what those from one on cost
abbrev pub letters_cost : List ℕ → Here → Cost
letters_cost bytes here = piece (4 * length bytes) 2

pub letters_none :
    {a : Builder} (object : ℕ) (t : Scalar) (bytes : List ℕ) (offset k to : ℕ) → length bytes ≤ k → HasPoint a to
    → EmitsWithin a a to (letters_cost (drop k bytes)) (LettersStand object t (offset + k) (drop k bytes) to to)
letters_none object t bytes offset k to none has =
    none_within (λ row j. letters_cost row) (λ row j at. LettersStand object t (offset + j) row to at) bytes k to none has (λ here it. refl)

pub letters_more :
    {a b c : Builder} (object : ℕ) (t : Scalar) (bytes : List ℕ) (offset k to from x m : ℕ) → 0 < k → k ≤ length bytes
    → x ≡ get_or bytes (k - 1) 0 → EmitsWithin a b from (letters_cost (drop k bytes)) (LettersStand object t (offset + k) (drop k bytes) to from)
    → GivesWithin b c (Ok m) (costs 4 2) (ObjectStands (λ s v. letter s v t (offset + (k - 1)) x) object from)
    → EmitsWithin a c m (letters_cost (drop (k - 1) bytes)) (LettersStand object t (offset + (k - 1)) (drop (k - 1) bytes) to m)
letters_more object t bytes offset k to from x m some fits is before one =
    one_more_within (λ row j. letters_cost row) (λ row j at. LettersStand object t (offset + j) row to at) bytes k from x m some fits
    (is ∙ get_or_default bytes (k - 1) 0 x (omega (arith, some, fits))) before one
    (λ here it p q.
    let behind : offset + k ≡ (offset + (k - 1)) + 1 = omega (arith, some) in
    let At : ℕ → Type 0 = λ n. LettersStand object t n (drop k bytes) to from here it in
    (q.0, (_, q.1.1, (_, q.1.2.1, (_, q.1.2.2, subst At behind p))))) (λ here. grind fitting)

pub letters_all :
    {a b : Builder} (object : ℕ) (t : Scalar) (bytes : List ℕ) (offset k to from : ℕ) → k ≤ 0
    → EmitsWithin a b from (letters_cost (drop k bytes)) (LettersStand object t (offset + k) (drop k bytes) to from)
    → EmitsWithin a b from (letters_cost bytes) (LettersStand object t offset bytes to from)
letters_all {a} {b} object t bytes offset k to from first code =
    let here : offset + 0 ≡ offset = omega arith in
    let At : ℕ → Type 0 = λ n. EmitsWithin a b from (letters_cost bytes) (LettersStand object t n bytes to from) in
    subst At here (all_within (λ row j. letters_cost row) (λ row j at. LettersStand object t (offset + j) row to at) bytes k from first code)
