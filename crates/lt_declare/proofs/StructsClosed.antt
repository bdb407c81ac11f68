-- Structs become complete.
use Rattle.std.proofs.Common.{◌≡◌, ℕ, Bool, false, if◌then◌else◌, List, Ok, Some, set, refl, sym, ap, subst, ◌∙◌, Vec, Global}
use Rattle.std.proofs.lemmas.List.{map-set}
use Rattle.lt_tree.specs.declared.typed.entity.Member as held
use Rattle.lt_tree.specs.Typing.Types.{CType}
use Rattle.lt_tree.specs.Typing.EntityView.{struct_of}
use Rattle.lt_tree.specs.Typing.Extents.{Member}
use Rattle.lt_tree.specs.Typing.Rules.{Rule}
use Rattle.lt_tree.specs.Typing.Entities.{Known}
use Rattle.lt_tree.specs.Typing.Steps.{Goes, goes_on}
use Rattle.lt_tree.specs.Typing.Specifying.{OpenStruct, is_complete_struct, with_members, struct_faults, close_struct}
use Rattle.lt_table.specs.TypesValue.{TypesValue, structs_at}
use Rattle.lt_env.specs.declared.walker.Walker.{Walker}
use Rattle.lt_env.specs.Going.{Gives, types_in, known_of, done, answering}
use Rattle.lt_declare.specs.DeclaredViews.{members_in}
use Rattle.lt_declare.specs.Declaring.{completing, closed}
use Rattle.lt_env.proofs.Goings.{as_long}

-- the same walker with other types
abbrev pub with_types : Walker → TypesValue → Walker
with_types w new = record w { types = new }

-- the types, where the struct of this number has these members
abbrev pub with_struct : TypesValue → ℕ → Vec held.Member Global → TypesValue
with_struct types k members = record types { structs = set types.structs k (record { members = Some members }) }

known_completed : (w : Walker) (k : ℕ) (members : Vec held.Member Global) (types : List CType)
    → with_members k (members_in types members.items) (known_of types w) ≡ known_of types (with_types w (with_struct w.types k members))
known_completed w k members types =
    ap (λ list. record (known_of types w) { structs = list }) (sym (map-set (struct_of types) w.types.structs k (record { members = Some members })))

completing_is : (k : ℕ) (members : List Member) (known : Known) (is_complete : Bool) → is_complete_struct known.structs k ≡ is_complete → false ≡ is_complete
    → completing k members known ≡ Goes tt (with_members k members known)
completing_is k members known is_complete e f =
    ap (λ b. Goes tt ((if b then (λ it. it) else with_members k members) known)) (e ∙ sym f)

pub completed : (w : Walker) (new : TypesValue) (k : ℕ) (members : Vec held.Member Global) → new ≡ with_struct w.types k members → ((types : List CType) → false ≡ is_complete_struct (structs_at types w.types) k)
    → Gives done w (with_types w new) (Ok tt) (λ types. completing k (members_in types members.items))
completed w new k members e incomplete =
    subst (λ n. Gives done w (with_types w n) (Ok tt) (λ types. completing k (members_in types members.items))) (sym e) (record {
      grows = as_long (types_in w);
      keeps = (refl, refl);
      ends = record { at = λ types h. completing_is k (members_in types members.items) (known_of types w) _ refl (incomplete types) ∙ ap (λ known. Goes tt known) (known_completed w k members types) };
    })

pub closing_is : (k : ℕ) (members others : List Member) (opened : OpenStruct) (faults : List Rule) (known : Known) → members ≡ others → opened.number ≡ k → faults ≡ struct_faults known opened others
    → goes_on (completing k members known) (λ _. answering (closed k faults)) ≡ close_struct opened others known
closing_is k members others opened faults known e f g = subst (λ list. goes_on (completing k list known) (λ _. answering (closed k faults)) ≡ close_struct opened others known) (sym e)
    (subst (λ n. goes_on (completing n others known) (λ _. answering (closed n faults)) ≡ close_struct opened others known) f
    (subst (λ list. goes_on (completing opened.number others known) (λ _. answering (closed opened.number list)) ≡ close_struct opened others known) (sym g) refl))
