-- Structs and enums that are read are derived: a step of each reading function.
use Rattle.std.proofs.Common.{◌≡◌, ℕ, suc, false, List, ◌∷◌, drop, Option, Some, None}
use Rattle.lt_tree.specs.declared.terminal.Terminal.{Terminal}
use Rattle.lt_tree.specs.declared.terminal.Terminal.TheVariants as t
use Rattle.lt_tree.specs.Tree as c
use Rattle.lt_tree.specs.Symbols.{Symbol, start_of}
use Rattle.lt_tree.specs.Scope.{Scope, after_specifiers, after_inside, after_member_declarator, after_member, after_enumerator}
use Rattle.lt_tree.specs.Grammar as g
use Rattle.lt_tree.specs.Ahead.{Naming, named, naming_behind, sees}
use Rattle.lt_expr.specs.Front.{Rest, behind, ended}
use Rattle.lt_expr.specs.Specifier.{Specifier, of_type}
use Rattle.lt_expr.specs.Walk.{walk_enumerators}
use Rattle.lt_expr.specs.Reading as read
use Rattle.lt_expr.specs.Reading.{by_tag, enumerators_by}
use Rattle.lt_expr.proofs.SoundSteps.{Yields, nothing, given, weaker, both}
use Rattle.lt_expr.proofs.SoundFronts.{Sees, seen, seeing, expecting, HasName, has_name, with_name}
use Rattle.lt_expr.proofs.SoundSpots.{Spotted, no_spot, by_rule, two, three, one_node, node_of_two, node_and_others}
use Rattle.lt_expr.proofs.SoundStatements.{ReadsSound, TaggedSound, MembersSound, MemberSound, MemberDeclaratorsSound, AfterSignSound, EnumeratorsSound, SpecifiersSound, DeclaratorSound, IsTagFront, with_tag, without_tag, HasDeclarator}

-- ---- the rules, by what is seen

struct_rule : {scope : Scope} {tag : Option (List ℕ)} {ts us rest : List Symbol} {members : c.Members} {spots more : List ℕ}
    → IsTagFront t.Struct tag ts us → Sees t.OpenBrace us → g.AreMembers scope (drop 1 us) members rest spots more
    → g.IsTagged scope ts (c.Struct tag members) rest spots more
struct_rule with_tag seen d = g.struct_with_tag d
struct_rule without_tag seen d = g.struct_without_tag d

enum_rule : {scope : Scope} {tag : Option (List ℕ)} {ts us rest : List Symbol} {enumerators : c.Enumerators} {spots more : List ℕ}
    → IsTagFront t.Enum tag ts us → Sees t.OpenBrace us → g.AreEnumerators scope (drop 1 us) enumerators rest spots more
    → g.IsTagged scope ts (c.Enum tag enumerators) rest spots more
enum_rule with_tag seen d = g.enum_with_tag d
enum_rule without_tag seen d = g.enum_without_tag d

struct_tag_rule : {scope : Scope} {w : List ℕ} {ts us : List Symbol} {more : List ℕ}
    → IsTagFront t.Struct (Some w) ts us → sees t.OpenBrace us ≡ false → g.IsTagged scope ts (c.StructTag w) us more more
struct_tag_rule with_tag e = g.struct_tag e

enum_tag_rule : {scope : Scope} {w : List ℕ} {ts us : List Symbol} {more : List ℕ}
    → IsTagFront t.Enum (Some w) ts us → sees t.OpenBrace us ≡ false → g.IsTagged scope ts (c.EnumTag w) us more more
enum_tag_rule with_tag e = g.enum_tag e

tag_alone : {P : Specifier × Rest → Type 0} (make : List ℕ → c.TypeSpecifier) (k : Terminal) (tag : Option (List ℕ)) (ts : List Symbol) (r : Rest)
    → IsTagFront k tag ts r.0 → ((w : List ℕ) → IsTagFront k (Some w) ts r.0 → P (of_type (make w), r)) → Yields (by_tag make tag r) P
tag_alone make k None ts r front h = nothing
tag_alone make k (Some w) ts r front h = given (h w front)

no_members_rule : {scope : Scope} {ts : List Symbol} {more : List ℕ} → Sees t.CloseBrace ts → g.AreMembers scope ts c.no_members (drop 1 ts) more more
no_members_rule seen = g.no_more_members

no_declarators_rule : {scope : Scope} {naming : Naming} {ts : List Symbol} {more : List ℕ}
    → Sees t.Semicolon ts → g.AreMemberDeclarators scope naming ts c.no_declarators (drop 1 ts) more more
no_declarators_rule seen = g.no_member_declarators

last_declarator_rule : {scope : Scope} {naming : Naming} {ts us vs : List Symbol} {d : c.Declarator} {width : c.Maybe} {spots middle more : List ℕ}
    → Sees t.Semicolon vs → g.IsDeclarator scope naming ts d us spots middle → g.IsAfterSign (after_inside d scope) t.Colon us width vs middle more
    → g.AreMemberDeclarators scope naming ts (c.a_declarator d width c.no_declarators) (drop 1 vs) spots more
last_declarator_rule seen d e = g.last_member_declarator d e

more_declarators_rule : {scope : Scope} {naming : Naming} {ts us vs rest : List Symbol} {d : c.Declarator} {width : c.Maybe} (ds : c.MemberDeclarators) {spots first second more : List ℕ}
    → HasDeclarator ds → Sees t.Comma vs → g.IsDeclarator scope naming ts d us spots first → g.IsAfterSign (after_inside d scope) t.Colon us width vs first second
    → g.AreMemberDeclarators (after_member_declarator d width scope) named (drop 1 vs) ds rest second more
    → g.AreMemberDeclarators scope naming ts (c.a_declarator d width ds) rest spots more
more_declarators_rule c.no_declarators some s d e f = absurd some
more_declarators_rule (c.a_declarator x wide ds) some seen d e f = g.more_member_declarators d e f

given_rule : {scope : Scope} {k : Terminal} {ts rest : List Symbol} {e : c.Expression} {spots more : List ℕ}
    → Sees k ts → g.IsExpression scope g.conditional (drop 1 ts) e rest spots more → g.IsAfterSign scope k ts (c.present e) rest spots more
given_rule seen d = g.given d

-- '}', or more enumerators
data AreOthers : (scope : Scope) → (ts : List Symbol) → (es : c.Enumerators) → (rest : List Symbol) → (spots more : List ℕ) → Type 0 where
  no_others : {scope : Scope} {ts : List Symbol} {more : List ℕ} → Sees t.CloseBrace ts → AreOthers scope ts c.no_enumerators (drop 1 ts) more more
  others : {scope : Scope} {ts rest : List Symbol} {es : c.Enumerators} {spots more : List ℕ}
      → g.AreEnumerators scope ts es rest spots more → AreOthers scope ts es rest spots more

comma_and_brace_rule : {scope : Scope} {w : List ℕ} {ts us : List Symbol} {value : c.Maybe} {spots more : List ℕ}
    → HasName ts w → g.IsAfterSign scope t.Equal (drop 1 ts) value us spots more → Sees t.Comma us → Sees t.CloseBrace (drop 1 us)
    → g.AreEnumerators scope ts (c.an_enumerator w value c.no_enumerators) (drop 1 (drop 1 us)) (start_of ts ∷ spots) more
comma_and_brace_rule has_name d seen seen = g.last_enumerator_and_comma d

more_enumerators_rule : {scope : Scope} {w : List ℕ} {ts us rest : List Symbol} {value : c.Maybe} {es : c.Enumerators} {spots middle more : List ℕ}
    → HasName ts w → g.IsAfterSign scope t.Equal (drop 1 ts) value us spots middle → Sees t.Comma us → g.AreEnumerators (after_enumerator w value scope) (drop 1 us) es rest middle more
    → g.AreEnumerators scope ts (c.an_enumerator w value es) rest (start_of ts ∷ spots) more
more_enumerators_rule has_name d seen e = g.more_enumerators d e

others_rule : {scope : Scope} {w : List ℕ} {ts us rest : List Symbol} {value : c.Maybe} {es : c.Enumerators} {spots middle more : List ℕ}
    → HasName ts w → g.IsAfterSign scope t.Equal (drop 1 ts) value us spots middle → Sees t.Comma us → AreOthers (after_enumerator w value scope) (drop 1 us) es rest middle more
    → g.AreEnumerators scope ts (c.an_enumerator w value es) rest (start_of ts ∷ spots) more
others_rule i d s (no_others close) = comma_and_brace_rule i d s close
others_rule i d s (others e) = more_enumerators_rule i d s e

last_enumerator_rule : {scope : Scope} {w : List ℕ} {ts us : List Symbol} {value : c.Maybe} {spots more : List ℕ}
    → HasName ts w → Sees t.CloseBrace us → g.IsAfterSign scope t.Equal (drop 1 ts) value us spots more
    → g.AreEnumerators scope ts (c.an_enumerator w value c.no_enumerators) (drop 1 us) (start_of ts ∷ spots) more
last_enumerator_rule has_name seen d = g.last_enumerator d

-- ---- a step of each

pub structure_sound : (n : ℕ) → MembersSound n → TaggedSound t.Struct (read.structure (suc n))
unfolding read.expression
structure_sound n members scope tag ts r front =
    seeing t.OpenBrace r.0 (λ q. cc)
    (λ s. both (read.members n scope (behind r)) (members scope (behind r)) (λ m d. given (by_rule (λ spots more h. struct_rule front s h) d)))
    (λ e. tag_alone c.StructTag t.Struct tag ts r front (λ w i. no_spot (λ more. struct_tag_rule i e)))

pub enumeration_sound : (n : ℕ) → EnumeratorsSound n → TaggedSound t.Enum (read.enumeration (suc n))
unfolding read.expression
enumeration_sound n enumerators scope tag ts r front =
    seeing t.OpenBrace r.0 (λ q. cc)
    (λ s. both (read.enumerators n scope (behind r)) (enumerators scope (behind r)) (λ m d. given (by_rule (λ spots more h. enum_rule front s h) d)))
    (λ e. tag_alone c.EnumTag t.Enum tag ts r front (λ w i. no_spot (λ more. enum_tag_rule i e)))

pub members_sound : (n : ℕ) → MemberSound n → MembersSound n → MembersSound (suc n)
unfolding read.expression
members_sound n member members scope r =
    seeing t.CloseBrace r.0 (λ q. cc)
    (λ s. given (no_spot (λ more. no_members_rule s)))
    (λ e.
    both (read.member n scope r) (member scope r) (λ m d.
    both (read.members n (after_member m.0 scope) m.1) (members (after_member m.0 scope) m.1) (λ y f.
    given (two (λ spots middle more h k. h.before y.0 y.1.0 more k) d f))))

pub member_sound : (n : ℕ) → SpecifiersSound n → MemberDeclaratorsSound n → MemberSound (suc n)
unfolding read.expression
member_sound n specifiers declarators scope r =
    both (read.specifiers n scope r) (specifiers scope r) (λ s d.
    seeing t.Semicolon s.1.0 (λ q. cc)
    (λ end. given (one_node (λ spots middle h. record { before = λ members rest more k. g.one_more_member h (no_declarators_rule end) k }) d))
    (λ e.
    both (read.member_declarators n (after_specifiers s.0 scope) (naming_behind s.0) s.1) (declarators (after_specifiers s.0 scope) (naming_behind s.0) s.1) (λ ds f.
    given (node_of_two (λ spots first second h k. record { before = λ members rest more l. g.one_more_member h k l }) d f.1))))

pub member_declarators_sound : (n : ℕ) → DeclaratorSound n → AfterSignSound n → MemberDeclaratorsSound n → MemberDeclaratorsSound (suc n)
unfolding read.expression
member_declarators_sound n declarator after_sign declarators scope naming r =
    both (read.declarator n scope naming r) (declarator scope naming r) (λ x d.
    both (read.after_sign n (after_inside x.0 scope) t.Colon x.1) (after_sign (after_inside x.0 scope) t.Colon x.1 (λ q. cc)) (λ width e.
    seeing t.Comma width.1.0 (λ q. cc)
    (λ s.
    both (read.member_declarators n (after_member_declarator x.0 width.0 scope) named (behind width.1)) (declarators (after_member_declarator x.0 width.0 scope) named (behind width.1)) (λ y f.
    given (tt, three (λ spots first second more h k l. more_declarators_rule y.0 f.0 s h k l) d e f.1)))
    (λ last.
    expecting t.Semicolon width.1 _ (λ q. cc) (λ s.
    given (tt, two (λ spots middle more h k. last_declarator_rule s h k) d e)))))

pub after_sign_sound : (n : ℕ) → ReadsSound g.conditional (read.conditional n) → AfterSignSound (suc n)
unfolding read.expression
after_sign_sound n conditional scope k r real =
    seeing k r.0 real
    (λ s. both (read.conditional n scope (behind r)) (conditional scope (behind r)) (λ x d. given (by_rule (λ spots more h. given_rule s h) d)))
    (λ e. given (no_spot (λ more. g.left_out e)))

others_sound : (n : ℕ) → EnumeratorsSound n → (scope : Scope) (r : Rest)
    → Yields (enumerators_by (read.enumerators n scope) r) (λ x. Spotted (walk_enumerators x.0) x.1.1 r.1 (AreOthers scope r.0 x.0 x.1.0))
others_sound n enumerators scope r =
    seeing t.CloseBrace r.0 (λ q. cc)
    (λ s. given (no_spot (λ more. no_others s)))
    (λ e. weaker (λ x d. by_rule (λ spots more h. others h) d) (enumerators scope r))

pub enumerators_sound : (n : ℕ) → AfterSignSound n → EnumeratorsSound n → EnumeratorsSound (suc n)
unfolding read.expression
enumerators_sound n after_sign enumerators scope r =
    with_name r _ (λ w i.
    both (read.after_sign n scope t.Equal (behind r)) (after_sign scope t.Equal (behind r) (λ q. cc)) (λ value d.
    seeing t.Comma value.1.0 (λ q. cc)
    (λ s.
    both (enumerators_by (read.enumerators n (after_enumerator w value.0 scope)) (behind (ended (start_of r.0) value.1)))
    (others_sound n enumerators (after_enumerator w value.0 scope) (behind (ended (start_of r.0) value.1))) (λ y e.
    given (node_and_others (λ spots middle more h k. others_rule i h s k) d e)))
    (λ last.
    expecting t.CloseBrace (ended (start_of r.0) value.1) _ (λ q. cc) (λ s.
    given (one_node (λ spots more h. last_enumerator_rule i s h) d)))))
