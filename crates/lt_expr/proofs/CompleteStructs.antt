-- What is derived of structs and enums is read, rule by rule, C11 6.7.2.1 and 6.7.2.2.
use Rattle.std.proofs.Common.{◌≡◌, ℕ, suc, ◌<◌, ◌≤◌, true, false, List, ◌∷◌, length, Some, None, refl, sym, ap, ◌∙◌, arith}
use Rattle.lt_tree.specs.declared.terminal.Terminal.{Terminal}
use Rattle.lt_tree.specs.declared.terminal.Terminal.TheVariants as t
use Rattle.lt_tree.specs.Tree as c
use Rattle.lt_tree.specs.Symbols.{Symbol, name, sign, start_of}
use Rattle.lt_tree.specs.Scope.{Scope, after_specifiers, after_member, after_enumerator}
use Rattle.lt_tree.specs.Ahead.{Naming, naming_behind, same_terminal, sees}
use Rattle.lt_tree.specs.Grammar as g
use Rattle.lt_expr.specs.Front.{name_at}
use Rattle.lt_expr.specs.Specifier.{of_type}
use Rattle.lt_expr.specs.Reading as r
use Rattle.lt_expr.specs.Reading.{by_tag, enumerators_by}
use Rattle.lt_expr.specs.Walk.{node, walk_maybe, walk_specifiers, walk_members, walk_member, walk_member_declarators, walk_enumerators}
use Rattle.lt_expr.proofs.CompleteFronts.{follows}
use Rattle.lt_expr.proofs.CompleteForms.{Read, once, twice, node_of, Complete}
use Rattle.lt_expr.proofs.CompleteOperators.{conditional_read}
use Rattle.lt_expr.proofs.CompleteTypes.{walk_specifier, Specifiers}

abbrev pub Tagged : Scope → List Symbol → c.TypeSpecifier → List Symbol → List ℕ → List ℕ → List ℕ → Type 0
Tagged scope ts type rest spots more ends = Read (λ n. r.specifier n scope) walk_specifier 1 ts (of_type type) rest spots more ends

abbrev pub Members : Scope → List Symbol → c.Members → List Symbol → List ℕ → List ℕ → List ℕ → Type 0
Members scope ts ms rest spots more ends = Read (λ n. r.members n scope) walk_members 5 ts ms rest spots more ends

abbrev pub Enumerators : Scope → List Symbol → c.Enumerators → List Symbol → List ℕ → List ℕ → List ℕ → Type 0
Enumerators scope ts es rest spots more ends = Read (λ n. r.enumerators n scope) walk_enumerators 1 ts es rest spots more ends

abbrev pub AfterSign : Scope → Terminal → List Symbol → c.Maybe → List Symbol → List ℕ → List ℕ → List ℕ → Type 0
AfterSign scope k ts e rest spots more ends = follows rest ≤ 2 → Read (λ n. r.after_sign n scope k) walk_maybe 1 ts e rest spots more ends

-- ---- tags

struct_tag_reads : (n : ℕ) (scope : Scope) (a b : ℕ) (w : List ℕ) (rest : List Symbol) (ends : List ℕ) → sees t.OpenBrace rest ≡ false
    → r.specifier (suc (suc n)) scope (sign t.Struct a ∷ name w b ∷ rest, ends) ≡ Some (of_type (c.StructTag w), (rest, ends))
unfolding r.expression same_terminal
struct_tag_reads n scope a b w rest ends e = rw e refl

struct_with_tag_reads : (n : ℕ) (scope : Scope) (a b d : ℕ) (w : List ℕ) (ts rest : List Symbol) (ms : c.Members) (ends now : List ℕ)
    → r.members n scope (ts, ends) ≡ Some (ms, (rest, now))
    → r.specifier (suc (suc n)) scope (sign t.Struct a ∷ name w b ∷ sign t.OpenBrace d ∷ ts, ends) ≡ Some (of_type (c.Struct (Some w) ms), (rest, now))
unfolding r.expression same_terminal
struct_with_tag_reads n scope a b d w ts rest ms ends now is = rw is refl

struct_without_tag_reads : (n : ℕ) (scope : Scope) (a d : ℕ) (ts rest : List Symbol) (ms : c.Members) (ends now : List ℕ)
    → r.members n scope (ts, ends) ≡ Some (ms, (rest, now))
    → r.specifier (suc (suc n)) scope (sign t.Struct a ∷ sign t.OpenBrace d ∷ ts, ends) ≡ Some (of_type (c.Struct None ms), (rest, now))
unfolding r.expression same_terminal
struct_without_tag_reads n scope a d ts rest ms ends now is = rw is refl

enum_tag_reads : (n : ℕ) (scope : Scope) (a b : ℕ) (w : List ℕ) (rest : List Symbol) (ends : List ℕ) → sees t.OpenBrace rest ≡ false
    → r.specifier (suc (suc n)) scope (sign t.Enum a ∷ name w b ∷ rest, ends) ≡ Some (of_type (c.EnumTag w), (rest, ends))
unfolding r.expression same_terminal
enum_tag_reads n scope a b w rest ends e = rw e refl

enum_with_tag_reads : (n : ℕ) (scope : Scope) (a b d : ℕ) (w : List ℕ) (ts rest : List Symbol) (es : c.Enumerators) (ends now : List ℕ)
    → r.enumerators n scope (ts, ends) ≡ Some (es, (rest, now))
    → r.specifier (suc (suc n)) scope (sign t.Enum a ∷ name w b ∷ sign t.OpenBrace d ∷ ts, ends) ≡ Some (of_type (c.Enum (Some w) es), (rest, now))
unfolding r.expression same_terminal
enum_with_tag_reads n scope a b d w ts rest es ends now is = rw is refl

enum_without_tag_reads : (n : ℕ) (scope : Scope) (a d : ℕ) (ts rest : List Symbol) (es : c.Enumerators) (ends now : List ℕ)
    → r.enumerators n scope (ts, ends) ≡ Some (es, (rest, now))
    → r.specifier (suc (suc n)) scope (sign t.Enum a ∷ sign t.OpenBrace d ∷ ts, ends) ≡ Some (of_type (c.Enum None es), (rest, now))
unfolding r.expression same_terminal
enum_without_tag_reads n scope a d ts rest es ends now is = rw is refl

pub struct_tag_complete : (scope : Scope) (a b : ℕ) (w : List ℕ) (rest : List Symbol) (more ends : List ℕ) → sees t.OpenBrace rest ≡ false
    → Tagged scope (sign t.Struct a ∷ name w b ∷ rest) (c.StructTag w) rest more more ends
struct_tag_complete scope a b w rest more ends e = twice ends refl (omega arith) (λ n big. struct_tag_reads n scope a b w rest ends e)

pub struct_with_tag_complete : (scope : Scope) (a b d : ℕ) (w : List ℕ) (ts rest : List Symbol) (ms : c.Members) (spots more ends : List ℕ) → Members scope ts ms rest spots more ends
    → Tagged scope (sign t.Struct a ∷ name w b ∷ sign t.OpenBrace d ∷ ts) (c.Struct (Some w) ms) rest spots more ends
struct_with_tag_complete scope a b d w ts rest ms spots more ends x =
    twice x.now x.walked (omega arith) (λ n big. struct_with_tag_reads n scope a b d w ts rest ms ends x.now (x.reads n (omega arith)))

pub struct_without_tag_complete : (scope : Scope) (a d : ℕ) (ts rest : List Symbol) (ms : c.Members) (spots more ends : List ℕ) → Members scope ts ms rest spots more ends
    → Tagged scope (sign t.Struct a ∷ sign t.OpenBrace d ∷ ts) (c.Struct None ms) rest spots more ends
struct_without_tag_complete scope a d ts rest ms spots more ends x =
    twice x.now x.walked (omega arith) (λ n big. struct_without_tag_reads n scope a d ts rest ms ends x.now (x.reads n (omega arith)))

pub enum_tag_complete : (scope : Scope) (a b : ℕ) (w : List ℕ) (rest : List Symbol) (more ends : List ℕ) → sees t.OpenBrace rest ≡ false
    → Tagged scope (sign t.Enum a ∷ name w b ∷ rest) (c.EnumTag w) rest more more ends
enum_tag_complete scope a b w rest more ends e = twice ends refl (omega arith) (λ n big. enum_tag_reads n scope a b w rest ends e)

pub enum_with_tag_complete : (scope : Scope) (a b d : ℕ) (w : List ℕ) (ts rest : List Symbol) (es : c.Enumerators) (spots more ends : List ℕ) → Enumerators scope ts es rest spots more ends
    → Tagged scope (sign t.Enum a ∷ name w b ∷ sign t.OpenBrace d ∷ ts) (c.Enum (Some w) es) rest spots more ends
enum_with_tag_complete scope a b d w ts rest es spots more ends x =
    twice x.now x.walked (omega arith) (λ n big. enum_with_tag_reads n scope a b d w ts rest es ends x.now (x.reads n (omega arith)))

pub enum_without_tag_complete : (scope : Scope) (a d : ℕ) (ts rest : List Symbol) (es : c.Enumerators) (spots more ends : List ℕ) → Enumerators scope ts es rest spots more ends
    → Tagged scope (sign t.Enum a ∷ sign t.OpenBrace d ∷ ts) (c.Enum None es) rest spots more ends
enum_without_tag_complete scope a d ts rest es spots more ends x =
    twice x.now x.walked (omega arith) (λ n big. enum_without_tag_reads n scope a d ts rest es ends x.now (x.reads n (omega arith)))

-- ---- members

-- none before the semicolon, or some
abbrev pub Declarators : Scope → Naming → List Symbol → c.MemberDeclarators → List Symbol → List ℕ → List ℕ → List ℕ → Type 0
Declarators scope naming ts c.no_declarators rest spots more ends = (at : ℕ) × (ts ≡ sign t.Semicolon at ∷ rest) × (spots ≡ more)
Declarators scope naming ts (c.a_declarator d width ds) rest spots more ends =
    (sees t.Semicolon ts ≡ false) × Read (λ n. r.member_declarators n scope naming) walk_member_declarators 6 ts (c.a_declarator d width ds) rest spots more ends

members_stop : (n : ℕ) (scope : Scope) (at : ℕ) (rest : List Symbol) (ends : List ℕ) → r.members (suc n) scope (sign t.CloseBrace at ∷ rest, ends) ≡ Some (c.no_members, (rest, ends))
unfolding r.expression same_terminal
members_stop n scope at rest ends = refl

members_go : (n : ℕ) (scope : Scope) (ts us rest : List Symbol) (m : c.StructMember) (ms : c.Members) (ends middle now : List ℕ) → sees t.CloseBrace ts ≡ false
    → r.member n scope (ts, ends) ≡ Some (m, (us, middle)) → r.members n (after_member m scope) (us, middle) ≡ Some (ms, (rest, now))
    → r.members (suc n) scope (ts, ends) ≡ Some (c.a_member m ms, (rest, now))
unfolding r.expression
members_go n scope ts us rest m ms ends middle now front first others = rw (front, first, others) refl

member_alone : (n : ℕ) (scope : Scope) (at : ℕ) (ts us : List Symbol) (ss : c.Specifiers) (ends now : List ℕ)
    → r.specifiers n scope (ts, ends) ≡ Some (ss, (sign t.Semicolon at ∷ us, now))
    → r.member (suc n) scope (ts, ends) ≡ Some (c.member ss c.no_declarators, (us, start_of ts ∷ now))
unfolding r.expression same_terminal
member_alone n scope at ts us ss ends now is = rw is refl

member_declares : (n : ℕ) (scope : Scope) (ts us vs : List Symbol) (ss : c.Specifiers) (ds : c.MemberDeclarators) (ends middle now : List ℕ) → sees t.Semicolon us ≡ false
    → r.specifiers n scope (ts, ends) ≡ Some (ss, (us, middle)) → r.member_declarators n (after_specifiers ss scope) (naming_behind ss) (us, middle) ≡ Some (ds, (vs, now))
    → r.member (suc n) scope (ts, ends) ≡ Some (c.member ss ds, (vs, start_of ts ∷ now))
unfolding r.expression
member_declares n scope ts us vs ss ds ends middle now front is others = rw (is, front, others) refl

pub no_more_members_complete : (scope : Scope) (at : ℕ) (rest : List Symbol) (more ends : List ℕ) → Members scope (sign t.CloseBrace at ∷ rest) c.no_members rest more more ends
no_more_members_complete scope at rest more ends = once ends refl (omega arith) (λ n big. members_stop n scope at rest ends)

-- one member
member_complete : (scope : Scope) (ts us vs : List Symbol) (ss : c.Specifiers) (ds : c.MemberDeclarators) (spots first second ends : List ℕ) → length us < length ts
    → Specifiers scope ts ss us spots first ends
    → ((now : List ℕ) → Declarators (after_specifiers ss scope) (naming_behind ss) us ds vs first second now)
    → Read (λ n. r.member n scope) walk_member 4 ts (c.member ss ds) vs (start_of ts ∷ spots) second ends
member_complete scope ts us vs ss c.no_declarators spots first second ends short x cb =
    let d = cb x.now in
    once (start_of ts ∷ x.now) (node_of (walk_specifiers ss) (start_of ts) x.now second ends spots (ap (λ (more : List ℕ). walk_specifiers ss (x.now, more)) (sym d.2) ∙ x.walked)) (omega arith)
    (λ n big. member_alone n scope d.0 ts vs ss ends x.now (x.reads n (omega arith) ∙ ap (λ (zs : List Symbol). Some (ss, (zs, x.now))) d.1))
member_complete scope ts us vs ss (c.a_declarator d width ds) spots first second ends short x cb =
    let y = (cb x.now).1 in
    once (start_of ts ∷ y.now)
    (node_of (λ v. walk_specifiers ss (walk_member_declarators (c.a_declarator d width ds) v)) (start_of ts) y.now second ends spots (ap (walk_specifiers ss) y.walked ∙ x.walked)) (omega arith)
    (λ n big. member_declares n scope ts us vs ss (c.a_declarator d width ds) ends x.now y.now (cb x.now).0 (x.reads n (omega arith)) (y.reads n (omega arith)))

pub one_more_member_complete : (scope : Scope) (ts us vs rest : List Symbol) (ss : c.Specifiers) (ds : c.MemberDeclarators) (ms : c.Members) (spots first second more ends : List ℕ)
    → sees t.CloseBrace ts ≡ false → length us < length ts → length vs < length us
    → Specifiers scope ts ss us spots first ends
    → ((now : List ℕ) → Declarators (after_specifiers ss scope) (naming_behind ss) us ds vs first second now)
    → ((now : List ℕ) → Members (after_member (c.member ss ds) scope) vs ms rest second more now)
    → Members scope ts (c.a_member (c.member ss ds) ms) rest (start_of ts ∷ spots) more ends
one_more_member_complete scope ts us vs rest ss ds ms spots first second more ends front short shorter x cb cm =
    let y = member_complete scope ts us vs ss ds spots first second ends short x cb in
    let z = cm y.now in
    once z.now (ap (walk_member (c.member ss ds)) z.walked ∙ y.walked) (omega arith)
    (λ n big. members_go n scope ts vs rest (c.member ss ds) ms ends y.now z.now front (y.reads n (omega arith)) (z.reads n (omega arith)))

-- ---- what a sign may stand before

after_sign_reads : (n : ℕ) (scope : Scope) (k : Terminal) (at : ℕ) (ts rest : List Symbol) (e : c.Expression) (ends now : List ℕ) → same_terminal k k ≡ true
    → r.conditional n scope (ts, ends) ≡ Some (e, (rest, now)) → r.after_sign (suc n) scope k (sign k at ∷ ts, ends) ≡ Some (c.present e, (rest, now))
unfolding r.expression
after_sign_reads n scope k at ts rest e ends now same is = rw (same, is) refl

no_sign : (n : ℕ) (scope : Scope) (k : Terminal) (ts : List Symbol) (ends : List ℕ) → sees k ts ≡ false → r.after_sign (suc n) scope k (ts, ends) ≡ Some (c.absent, (ts, ends))
unfolding r.expression
no_sign n scope k ts ends e = rw e refl

pub left_out_complete : (scope : Scope) (k : Terminal) (ts : List Symbol) (more ends : List ℕ) → sees k ts ≡ false → AfterSign scope k ts c.absent ts more more ends
left_out_complete scope k ts more ends e quiet = once ends refl (omega arith) (λ n big. no_sign n scope k ts ends e)

pub given_complete : (scope : Scope) (k : Terminal) (at : ℕ) (ts rest : List Symbol) (e : c.Expression) (spots more ends : List ℕ) → same_terminal k k ≡ true
    → Complete g.conditional scope ts e rest spots more ends → AfterSign scope k (sign k at ∷ ts) (c.present e) rest spots more ends
given_complete scope k at ts rest e spots more ends same ce quiet =
    let x = conditional_read scope ts rest e spots more ends (ce quiet) in
    once x.now x.walked (omega arith) (λ n big. after_sign_reads n scope k at ts rest e ends x.now same (x.reads n (omega arith)))

-- ---- enumerators

enumerator_last : (n : ℕ) (scope : Scope) (a b : ℕ) (w : List ℕ) (ts rest : List Symbol) (value : c.Maybe) (ends now : List ℕ)
    → r.after_sign n scope t.Equal (ts, ends) ≡ Some (value, (sign t.CloseBrace b ∷ rest, now))
    → r.enumerators (suc n) scope (name w a ∷ ts, ends) ≡ Some (c.an_enumerator w value c.no_enumerators, (rest, a ∷ now))
unfolding r.expression same_terminal name_at
enumerator_last n scope a b w ts rest value ends now is = rw is refl

enumerator_comma : (n : ℕ) (scope : Scope) (a b d : ℕ) (w : List ℕ) (ts rest : List Symbol) (value : c.Maybe) (ends now : List ℕ)
    → r.after_sign n scope t.Equal (ts, ends) ≡ Some (value, (sign t.Comma b ∷ sign t.CloseBrace d ∷ rest, now))
    → r.enumerators (suc n) scope (name w a ∷ ts, ends) ≡ Some (c.an_enumerator w value c.no_enumerators, (rest, a ∷ now))
unfolding r.expression same_terminal name_at
enumerator_comma n scope a b d w ts rest value ends now is = rw is refl

enumerator_more : (n : ℕ) (scope : Scope) (a b : ℕ) (w : List ℕ) (ts us rest : List Symbol) (value : c.Maybe) (es : c.Enumerators) (ends middle now : List ℕ) → sees t.CloseBrace us ≡ false
    → r.after_sign n scope t.Equal (ts, ends) ≡ Some (value, (sign t.Comma b ∷ us, middle)) → r.enumerators n (after_enumerator w value scope) (us, a ∷ middle) ≡ Some (es, (rest, now))
    → r.enumerators (suc n) scope (name w a ∷ ts, ends) ≡ Some (c.an_enumerator w value es, (rest, now))
unfolding r.expression same_terminal name_at
enumerator_more n scope a b w ts us rest value es ends middle now front is others = rw (is, front, others) refl

pub last_enumerator_complete : (scope : Scope) (a b : ℕ) (w : List ℕ) (ts rest : List Symbol) (value : c.Maybe) (spots more ends : List ℕ)
    → AfterSign scope t.Equal ts value (sign t.CloseBrace b ∷ rest) spots more ends
    → Enumerators scope (name w a ∷ ts) (c.an_enumerator w value c.no_enumerators) rest (a ∷ spots) more ends
last_enumerator_complete scope a b w ts rest value spots more ends cv =
    let x = cv (omega arith) in
    once (a ∷ x.now) (node_of (walk_maybe value) a x.now more ends spots x.walked) (omega arith) (λ n big. enumerator_last n scope a b w ts rest value ends x.now (x.reads n (omega arith)))

pub last_enumerator_and_comma_complete : (scope : Scope) (a b d : ℕ) (w : List ℕ) (ts rest : List Symbol) (value : c.Maybe) (spots more ends : List ℕ)
    → AfterSign scope t.Equal ts value (sign t.Comma b ∷ sign t.CloseBrace d ∷ rest) spots more ends
    → Enumerators scope (name w a ∷ ts) (c.an_enumerator w value c.no_enumerators) rest (a ∷ spots) more ends
last_enumerator_and_comma_complete scope a b d w ts rest value spots more ends cv =
    let x = cv (omega arith) in
    once (a ∷ x.now) (node_of (walk_maybe value) a x.now more ends spots x.walked) (omega arith) (λ n big. enumerator_comma n scope a b d w ts rest value ends x.now (x.reads n (omega arith)))

pub more_enumerators_complete : (scope : Scope) (a b : ℕ) (w : List ℕ) (ts us rest : List Symbol) (value : c.Maybe) (es : c.Enumerators) (spots between more ends : List ℕ)
    → sees t.CloseBrace us ≡ false → length us < length ts
    → AfterSign scope t.Equal ts value (sign t.Comma b ∷ us) spots between ends
    → ((now : List ℕ) → Enumerators (after_enumerator w value scope) us es rest between more now)
    → Enumerators scope (name w a ∷ ts) (c.an_enumerator w value es) rest (a ∷ spots) more ends
more_enumerators_complete scope a b w ts us rest value es spots between more ends front short cv cb =
    let x = cv (omega arith) in
    let y = cb (a ∷ x.now) in
    once y.now (ap (node (walk_maybe value)) y.walked ∙ node_of (walk_maybe value) a x.now between ends spots x.walked) (omega arith)
    (λ n big. enumerator_more n scope a b w ts us rest value es ends x.now y.now front (x.reads n (omega arith)) (y.reads n (omega arith)))
