-- One turn of a loop that reads specifiers, or what stands between the braces of structs and enums.
use Rattle.std.proofs.Common.{◌≡◌, ℕ, suc, Bool, true, false, cond, ◌||◌, List, [], ◌∷◌, ◌++◌, Option, Some, None, Result, Ok, Err, refl, sym, ap, subst, ◌∙◌}
use Rattle.lt_tree.specs.declared.specifier.Specifiers.{Specifiers}
use Rattle.lt_tree.specs.declared.specifier.Member.{Member}
use Rattle.lt_tree.specs.declared.specifier.MemberDeclarator.{MemberDeclarator}
use Rattle.lt_tree.specs.declared.specifier.Enumerator.{Enumerator}
use Rattle.lt_tree.specs.declared.terminal.Terminal.TheVariants as t
use Rattle.lt_tree.specs.Tree as c
use Rattle.lt_tree.specs.View.{member_of}
use Rattle.lt_tree.specs.Records.{members_in, member_declarators_in, enumerators_in, declarator_of, maybe_in}
use Rattle.lt_tree.specs.Ahead.{Naming, named, sees, begins_specifier}
use Rattle.lt_tree.specs.declared.stop.Stop.{Stop}
use Rattle.lt_tree.specs.declared.terminal.Terminal.{Terminal}
use Rattle.lt_tree.specs.Operators.{storage_of, type_word_of}
use Rattle.lt_tree.specs.Symbols.{start_of, name, constant, literal, sign}
use Rattle.lt_tree.specs.Scope.{Scope, declaring, after_maybe, after_type, after_types, after_inside, after_member_declarator, after_member_declarators, after_member, after_members, after_enumerator, after_enumerators}
use Rattle.lt_expr.specs.Specifier as spec
use Rattle.lt_expr.specs.Specifier.{Found, none_found, with_specifier, names_type, after_specifier, specifiers_of, word_specifier, one_specifier}
use Rattle.std.specs.Prelude.{option_map}
use Rattle.lt_expr.specs.Front.{Rest, ◌>>=◌, if_some, behind, ended, expect, name_at}
use Rattle.lt_expr.specs.Fronts.{after, found_before, types_before, members_before, member_declarators_before, enumerators_before}
use Rattle.lt_expr.specs.FoundView.{found_of}
use Rattle.lt_expr.specs.Reading as reading
use Rattle.lt_expr.specs.Reading.{enumerators_by}
use Rattle.lt_expr.specs.Parsing.{Parsing, rest_of, scope_of, GoesOn, Hides, Declares, Fails, Gives, GivesNames}
use Rattle.lt_expr.proofs.Joins.{more_members, all_members, more_member_declarators, last_member_declarators, more_enumerators, last_enumerators}
use Rattle.lt_expr.proofs.FoundJoins.{more_found, all_found, types_all}
use Rattle.lt_expr.proofs.HiddenNames.{type_first, member_first, declarator_first, enumerator_first}
use Rattle.lt_expr.proofs.SoundSteps as yields
use Rattle.lt_expr.proofs.SoundSteps.{Yields, nothing, given, mapped}
use Rattle.lt_expr.proofs.Scopes.{Within, same_scope, within_here, within_on, within_hides, within_declares, declares}

-- ---- specifiers

pub specifiers_first : (depth n : ℕ) (scope : Scope) (r r' : Rest) (found : Found) → depth ≡ suc n → begins_specifier scope false r.0 ≡ true
    → reading.further n scope false r ≡ Some (found, r') → reading.specifiers depth scope r ≡ Some (specifiers_of found, r')
unfolding reading.expression
specifiers_first depth n scope r r' found deep more read =
    ap (λ k. reading.specifiers k scope r) deep
    ∙ ap (λ b. cond b (reading.further n scope false r >>= λ found. Some (specifiers_of found.0, found.1)) None) more
    ∙ ap (λ o. o >>= λ found. Some (specifiers_of found.0, found.1)) read

abbrev found_behind : ℕ → Scope → Bool → spec.Specifier × Rest → Option (Found × Rest)
found_behind n scope typed s = reading.further n (after_specifier s.0 scope) (typed || names_type s.0) s.1 >>= λ found. Some (with_specifier s.0 found.0, found.1)

further_more : (n : ℕ) (scope : Scope) (typed : Bool) (r r' : Rest) (s : spec.Specifier) → begins_specifier scope typed r.0 ≡ true → reading.specifier n scope r ≡ Some (s, r')
    → reading.further (suc n) scope typed r ≡ found_behind n scope typed (s, r')
unfolding reading.expression
further_more n scope typed r r' s more one =
    ap (λ b. cond b (reading.specifier n scope r >>= found_behind n scope typed) (Some (none_found, r))) more
    ∙ ap (λ read. read >>= found_behind n scope typed) one

further_none : (n : ℕ) (scope : Scope) (typed : Bool) (r : Rest) → begins_specifier scope typed r.0 ≡ false → reading.further (suc n) scope typed r ≡ Some (none_found, r)
unfolding reading.expression
further_none n scope typed r none = ap (λ b. cond b (reading.specifier n scope r >>= found_behind n scope typed) (Some (none_found, r))) none

-- one more specifier is behind those that were found
abbrev pub IsFoundBehind : Found → spec.Specifier → Found → Type 0
IsFoundBehind front s all = (rest : Found) → found_before all rest ≡ found_before front (with_specifier s rest)

pub further_turn : (front all : Specifiers) (s : spec.Specifier) (typed now : Bool) (depth n : ℕ) (before later : Parsing)
    → depth ≡ suc n → begins_specifier (scope_of before) typed (rest_of before).0 ≡ true → reading.specifier n (scope_of before) (rest_of before) ≡ Some (s, rest_of later)
    → scope_of later ≡ after_specifier s (scope_of before) → now ≡ (typed || names_type s) → IsFoundBehind (found_of front) s (found_of all)
    → after (found_before (found_of all)) (reading.further n (scope_of later) now (rest_of later)) ≡ after (found_before (found_of front)) (reading.further depth (scope_of before) typed (rest_of before))
further_turn front all s typed now depth n before later deep more one scope is found =
    ap (λ names. after (found_before (found_of all)) (reading.further n names now (rest_of later))) scope
    ∙ ap (λ b. after (found_before (found_of all)) (reading.further n (after_specifier s (scope_of before)) b (rest_of later))) is
    ∙ more_found front all s (reading.further n (after_specifier s (scope_of before)) (typed || names_type s) (rest_of later)) found
    ∙ ap (after (found_before (found_of front))) (sym (further_more n (scope_of before) typed (rest_of before) (rest_of later) s more one))
    ∙ ap (λ k. after (found_before (found_of front)) (reading.further k (scope_of before) typed (rest_of before))) (sym deep)

pub further_end : (found : Specifiers) (typed : Bool) (depth n : ℕ) (at : Parsing) → depth ≡ suc n → begins_specifier (scope_of at) typed (rest_of at).0 ≡ false
    → after (found_before (found_of found)) (reading.further depth (scope_of at) typed (rest_of at)) ≡ Some (found_of found, rest_of at)
further_end found typed depth n at deep none =
    ap (λ k. after (found_before (found_of found)) (reading.further k (scope_of at) typed (rest_of at))) deep
    ∙ ap (after (found_before (found_of found))) (further_none n (scope_of at) typed (rest_of at) none)
    ∙ all_found found (rest_of at)

types_hide : (front rest : c.TypeSpecifiers) (s : Scope) → after_types (types_before front rest) s ≡ after_types rest (after_types front s)
types_hide c.no_types rest s = refl
types_hide (c.a_type type front) rest s = type_first type (types_before front rest) s ∙ types_hide front rest (after_type type s) ∙ ap (after_types rest) (sym (type_first type front s))

one_hides : (s : spec.Specifier) (scope : Scope) → after_types (with_specifier s none_found).types scope ≡ after_specifier s scope
one_hides (spec.storage_class class) scope = refl
one_hides spec.inline_word scope = refl
one_hides spec.noreturn_word scope = refl
one_hides spec.const_word scope = refl
one_hides spec.volatile_word scope = refl
one_hides (spec.of_type type) scope = type_first type c.no_types scope

pub further_hide : (front all : Found) (s : spec.Specifier) (scope : Scope) → IsFoundBehind front s all → after_types all.types scope ≡ after_specifier s (after_types front.types scope)
further_hide front all s scope found =
    ap (λ (types : c.TypeSpecifiers). after_types types scope) (sym (types_all all.types) ∙ ap (λ (f : Found). f.types) (found none_found))
    ∙ types_hide front.types (with_specifier s none_found).types scope
    ∙ one_hides s (after_types front.types scope)

-- ---- specifiers of one symbol

-- a storage class or a type word
plain_quiet : (k : Terminal)
    → Yields (if_some (storage_of k) (λ class. Some (spec.storage_class class)) (option_map (λ word. spec.of_type (c.Word word)) (type_word_of k))) (λ s. (scope : Scope) → after_specifier s scope ≡ scope)
plain_quiet k = yields.found (storage_of k) (λ class is. given (λ scope. refl)) (λ none. mapped _ (type_word_of k) (record { holds = λ word is. is }) (λ word is scope. refl))

word_quiet : (k : Terminal) → Yields (word_specifier k) (λ s. (scope : Scope) → after_specifier s scope ≡ scope)
word_quiet t.Inline = given (λ scope. refl)
word_quiet t.Noreturn = given (λ scope. refl)
word_quiet t.Const = given (λ scope. refl)
word_quiet t.Volatile = given (λ scope. refl)
word_quiet k = plain_quiet k

one_quiet : (r : Rest) → Yields (one_specifier r) (λ x. (scope : Scope) → after_specifier x.0 scope ≡ scope)
unfolding one_specifier
one_quiet ([], ends) = nothing
one_quiet (name w at ∷ ts, ends) = given (λ scope. refl)
one_quiet (constant w at ∷ ts, ends) = nothing
one_quiet (literal w at ∷ ts, ends) = nothing
one_quiet (sign k at ∷ ts, ends) = mapped _ (word_specifier k) (word_quiet k) (λ s h. h)

specifier_one : (n : ℕ) (scope : Scope) (r : Rest) → sees t.Struct r.0 ≡ false → sees t.Enum r.0 ≡ false → reading.specifier (suc n) scope r ≡ one_specifier r
unfolding reading.expression
specifier_one n scope r no_struct no_enum = rw (no_struct, no_enum) refl

-- it hides nothing
pub specifier_alone : {X : Type 0} (view : X → spec.Specifier) (depth n : ℕ) (before later : Parsing) (result : Result X Stop) → depth ≡ suc n → sees t.Struct (rest_of before).0 ≡ false → sees t.Enum (rest_of before).0 ≡ false
    → Gives view before later result (one_specifier (rest_of before)) → GivesNames view (λ s. after_specifier s (scope_of before)) before later result (reading.specifier depth (scope_of before) (rest_of before))
specifier_alone view depth n before later (Ok x) deep no_struct no_enum h = (
  ap (λ k. reading.specifier k (scope_of before) (rest_of before)) deep ∙ specifier_one n (scope_of before) (rest_of before) no_struct no_enum ∙ h.0,
  declares before later _ (within_on before before later (within_here before) h.1)
      (same_scope before later h.1 ∙ sym ((one_quiet (rest_of before)).holds (view x, rest_of later) h.0 (scope_of before))),
)
specifier_alone view depth n before later (Err stop) deep no_struct no_enum h =
    let P : Option (spec.Specifier × Rest) → Type 0 = λ v. Fails stop v in
    subst P (sym (ap (λ k. reading.specifier k (scope_of before) (rest_of before)) deep ∙ specifier_one n (scope_of before) (rest_of before) no_struct no_enum)) h

-- ---- members

abbrev one_member : ℕ → Scope → c.StructMember × Rest → Option (c.Members × Rest)
one_member n scope m = reading.members n (after_member m.0 scope) m.1 >>= λ y. Some (c.a_member m.0 y.0, y.1)

members_more : (n : ℕ) (scope : Scope) (r r' : Rest) (m : c.StructMember) → sees t.CloseBrace r.0 ≡ false → reading.member n scope r ≡ Some (m, r') → reading.members (suc n) scope r ≡ one_member n scope (m, r')
unfolding reading.expression
members_more n scope r r' m more one =
    ap (λ b. cond b (Some (c.no_members, behind r)) (reading.member n scope r >>= one_member n scope)) more
    ∙ ap (λ read. read >>= one_member n scope) one

members_none : (n : ℕ) (scope : Scope) (r : Rest) → sees t.CloseBrace r.0 ≡ true → reading.members (suc n) scope r ≡ Some (c.no_members, behind r)
unfolding reading.expression
members_none n scope r none = ap (λ b. cond b (Some (c.no_members, behind r)) (reading.member n scope r >>= one_member n scope)) none

pub members_turn : (front all : List Member) (m : Member) (depth n : ℕ) (before later : Parsing)
    → depth ≡ suc n → sees t.CloseBrace (rest_of before).0 ≡ false → reading.member n (scope_of before) (rest_of before) ≡ Some (member_of m, rest_of later)
    → scope_of later ≡ after_member (member_of m) (scope_of before) → all ≡ front ++ m ∷ []
    → after (members_before (members_in all)) (reading.members n (scope_of later) (rest_of later)) ≡ after (members_before (members_in front)) (reading.members depth (scope_of before) (rest_of before))
members_turn front all m depth n before later deep more one scope is =
    ap (λ xs. after (members_before (members_in xs)) (reading.members n (scope_of later) (rest_of later))) is
    ∙ ap (λ names. after (members_before (members_in (front ++ m ∷ []))) (reading.members n names (rest_of later))) scope
    ∙ more_members front m (reading.members n (after_member (member_of m) (scope_of before)) (rest_of later))
    ∙ ap (after (members_before (members_in front))) (sym (members_more n (scope_of before) (rest_of before) (rest_of later) (member_of m) more one))
    ∙ ap (λ k. after (members_before (members_in front)) (reading.members k (scope_of before) (rest_of before))) (sym deep)

pub members_hide : (front : List Member) (m : Member) (s : Scope) → after_members (members_in (front ++ m ∷ [])) s ≡ after_member (member_of m) (after_members (members_in front) s)
members_hide [] m s = member_first (member_of m) c.no_members s
members_hide (x ∷ front) m s =
    member_first (member_of x) (members_in (front ++ m ∷ [])) s
    ∙ members_hide front m (after_member (member_of x) s)
    ∙ ap (after_member (member_of m)) (sym (member_first (member_of x) (members_in front) s))

pub members_end : (front : List Member) (depth n : ℕ) (at next : Parsing) → depth ≡ suc n → sees t.CloseBrace (rest_of at).0 ≡ true → rest_of next ≡ behind (rest_of at)
    → after (members_before (members_in front)) (reading.members depth (scope_of at) (rest_of at)) ≡ Some (members_in front, rest_of next)
members_end front depth n at next deep none rest =
    ap (λ k. after (members_before (members_in front)) (reading.members k (scope_of at) (rest_of at))) deep
    ∙ ap (after (members_before (members_in front))) (members_none n (scope_of at) (rest_of at) none)
    ∙ all_members front (behind (rest_of at))
    ∙ ap (λ r. Some (members_in front, r)) (sym rest)

-- ---- declarators of members

abbrev more_behind : ℕ → Scope → c.Declarator → c.Maybe × Rest → Option (c.MemberDeclarators × Rest)
more_behind n scope d width = reading.member_declarators n (after_member_declarator d width.0 scope) named (behind width.1) >>= λ y. Some (c.a_declarator d width.0 y.0, y.1)

abbrev last_behind : c.Declarator → c.Maybe × Rest → Option (c.MemberDeclarators × Rest)
last_behind d width = expect t.Semicolon width.1 >>= λ us. Some (c.a_declarator d width.0 c.no_declarators, us)

abbrev declarators_behind : ℕ → Scope → c.Declarator → c.Maybe × Rest → Option (c.MemberDeclarators × Rest)
declarators_behind n scope d width = cond (sees t.Comma width.1.0) (more_behind n scope d width) (last_behind d width)

declarators_are : (n : ℕ) (scope : Scope) (naming : Naming) (r r' r'' : Rest) (d : c.Declarator) (width : c.Maybe)
    → reading.declarator n scope naming r ≡ Some (d, r') → reading.after_sign n (after_inside d scope) t.Colon r' ≡ Some (width, r'')
    → reading.member_declarators (suc n) scope naming r ≡ declarators_behind n scope d (width, r'')
unfolding reading.expression
declarators_are n scope naming r r' r'' d width first second =
    ap (λ read. read >>= λ d. reading.after_sign n (after_inside d.0 scope) t.Colon d.1 >>= declarators_behind n scope d.0) first
    ∙ ap (λ read. read >>= declarators_behind n scope d) second

-- What one turn reads, and which names it declares.
pub record OneDeclarator (n : ℕ) (naming : Naming) (before later : Parsing) (d : MemberDeclarator) : Type 0 where
  pub read : reading.member_declarators (suc n) (scope_of before) naming (rest_of before) ≡ declarators_behind n (scope_of before) (declarator_of d.declarator) (maybe_in d.width, rest_of later)
  pub scope : scope_of later ≡ after_member_declarator (declarator_of d.declarator) (maybe_in d.width) (scope_of before)
  pub names : Within before later

pub one_declarator : (n : ℕ) (naming : Naming) (before at later : Parsing) (d : MemberDeclarator)
    → reading.declarator n (scope_of before) naming (rest_of before) ≡ Some (declarator_of d.declarator, rest_of at) → Declares before at (after_inside (declarator_of d.declarator) (scope_of before))
    → reading.after_sign n (scope_of at) t.Colon (rest_of at) ≡ Some (maybe_in d.width, rest_of later) → Declares at later (after_maybe (maybe_in d.width) (scope_of at))
    → OneDeclarator n naming before later d
one_declarator n naming before at later d first declares second declares' = record {
  read =
      declarators_are n (scope_of before) naming (rest_of before) (rest_of at) (rest_of later) (declarator_of d.declarator) (maybe_in d.width) first
      (ap (λ names. reading.after_sign n names t.Colon (rest_of at)) (sym declares.scope) ∙ second);
  scope = declares'.scope ∙ ap (after_maybe (maybe_in d.width)) declares.scope;
  names = within_declares before at later _ (within_declares before before at _ (within_here before) declares) declares';
}

pub declarators_turn : (front all : List MemberDeclarator) (d : MemberDeclarator) (naming : Naming) (depth n : ℕ) (before later next : Parsing)
    → depth ≡ suc n → OneDeclarator n naming before later d → sees t.Comma (rest_of later).0 ≡ true → rest_of next ≡ behind (rest_of later) → GoesOn later next → all ≡ front ++ d ∷ []
    → after (member_declarators_before (member_declarators_in all)) (reading.member_declarators n (scope_of next) named (rest_of next))
    ≡ after (member_declarators_before (member_declarators_in front)) (reading.member_declarators depth (scope_of before) naming (rest_of before))
declarators_turn front all d naming depth n before later next deep one more rest on is =
    let shown = declarator_of d.declarator in
    let width = maybe_in d.width in
    let scope = after_member_declarator shown width (scope_of before) in
    ap (λ xs. after (member_declarators_before (member_declarators_in xs)) (reading.member_declarators n (scope_of next) named (rest_of next))) is
    ∙ ap (λ names. after (member_declarators_before (member_declarators_in (front ++ d ∷ []))) (reading.member_declarators n names named (rest_of next))) (same_scope later next on ∙ one.scope)
    ∙ ap (λ r. after (member_declarators_before (member_declarators_in (front ++ d ∷ []))) (reading.member_declarators n scope named r)) rest
    ∙ more_member_declarators front d (reading.member_declarators n scope named (behind (rest_of later)))
    ∙ ap (λ b. after (member_declarators_before (member_declarators_in front)) (cond b (more_behind n (scope_of before) shown (width, rest_of later)) (last_behind shown (width, rest_of later)))) (sym more)
    ∙ ap (after (member_declarators_before (member_declarators_in front))) (sym one.read)
    ∙ ap (λ k. after (member_declarators_before (member_declarators_in front)) (reading.member_declarators k (scope_of before) naming (rest_of before))) (sym deep)

pub declarators_end : (front all : List MemberDeclarator) (d : MemberDeclarator) (naming : Naming) (depth n : ℕ) (before later next : Parsing)
    → depth ≡ suc n → OneDeclarator n naming before later d → sees t.Comma (rest_of later).0 ≡ false → expect t.Semicolon (rest_of later) ≡ Some (rest_of next) → all ≡ front ++ d ∷ []
    → after (member_declarators_before (member_declarators_in front)) (reading.member_declarators depth (scope_of before) naming (rest_of before)) ≡ Some (member_declarators_in all, rest_of next)
declarators_end front all d naming depth n before later next deep one none semicolon is =
    let shown = declarator_of d.declarator in
    let width = maybe_in d.width in
    ap (λ k. after (member_declarators_before (member_declarators_in front)) (reading.member_declarators k (scope_of before) naming (rest_of before))) deep
    ∙ ap (after (member_declarators_before (member_declarators_in front))) one.read
    ∙ ap (λ b. after (member_declarators_before (member_declarators_in front)) (cond b (more_behind n (scope_of before) shown (width, rest_of later)) (last_behind shown (width, rest_of later)))) none
    ∙ ap (λ read. after (member_declarators_before (member_declarators_in front)) (read >>= λ us. Some (c.a_declarator shown width c.no_declarators, us))) semicolon
    ∙ last_member_declarators front d (rest_of next)
    ∙ ap (λ xs. Some (member_declarators_in xs, rest_of next)) (sym is)

pub declarators_hide : (front : List MemberDeclarator) (d : MemberDeclarator) (s : Scope)
    → after_member_declarators (member_declarators_in (front ++ d ∷ [])) s ≡ after_member_declarator (declarator_of d.declarator) (maybe_in d.width) (after_member_declarators (member_declarators_in front) s)
declarators_hide [] d s = declarator_first (declarator_of d.declarator) (maybe_in d.width) c.no_declarators s
declarators_hide (x ∷ front) d s =
    declarator_first (declarator_of x.declarator) (maybe_in x.width) (member_declarators_in (front ++ d ∷ [])) s
    ∙ declarators_hide front d (after_member_declarator (declarator_of x.declarator) (maybe_in x.width) s)
    ∙ ap (after_member_declarator (declarator_of d.declarator) (maybe_in d.width)) (sym (declarator_first (declarator_of x.declarator) (maybe_in x.width) (member_declarators_in front) s))

-- ---- enumerators

abbrev enumerators_behind : ℕ → Scope → List ℕ → c.Maybe → Rest → Option (c.Enumerators × Rest)
enumerators_behind n scope w value us =
    cond (sees t.Comma us.0)
    (enumerators_by (reading.enumerators n (after_enumerator w value scope)) (behind us) >>= λ y. Some (c.an_enumerator w value y.0, y.1))
    (expect t.CloseBrace us >>= λ us. Some (c.an_enumerator w value c.no_enumerators, us))

enumerators_are : (n : ℕ) (scope : Scope) (r r' r'' : Rest) (w : List ℕ) (value : c.Maybe)
    → name_at r ≡ Some (w, r') → reading.after_sign n scope t.Equal r' ≡ Some (value, r'') → reading.enumerators (suc n) scope r ≡ enumerators_behind n scope w value (ended (start_of r.0) r'')
unfolding reading.expression
enumerators_are n scope r r' r'' w value first second =
    ap (λ read. read >>= λ w. reading.after_sign n scope t.Equal w.1 >>= λ value. enumerators_behind n scope w.0 value.0 (ended (start_of r.0) value.1)) first
    ∙ ap (λ read. read >>= λ value. enumerators_behind n scope w value.0 (ended (start_of r.0) value.1)) second

-- What one turn reads, and which names it declares.
pub record OneEnumerator (n : ℕ) (before later : Parsing) (e : Enumerator) : Type 0 where
  pub read : reading.enumerators (suc n) (scope_of before) (rest_of before) ≡ enumerators_behind n (scope_of before) e.name (maybe_in e.value) (rest_of later)
  pub scope : scope_of later ≡ after_enumerator e.name (maybe_in e.value) (scope_of before)
  pub names : Within before later

pub one_enumerator : (n : ℕ) (start : ℕ) (before at done over later : Parsing) (e : Enumerator)
    → start ≡ start_of (rest_of before).0 → name_at (rest_of before) ≡ Some (e.name, rest_of at) → GoesOn before at
    → reading.after_sign n (scope_of at) t.Equal (rest_of at) ≡ Some (maybe_in e.value, rest_of done) → Declares at done (after_maybe (maybe_in e.value) (scope_of at))
    → rest_of over ≡ ended start (rest_of done) → GoesOn done over → Hides over later (declaring false (Some e.name) (scope_of over))
    → OneEnumerator n before later e
one_enumerator n start before at done over later e begin first on second declares end on' hides = record {
  read =
      enumerators_are n (scope_of before) (rest_of before) (rest_of at) (rest_of done) e.name (maybe_in e.value) first
      (ap (λ scope. reading.after_sign n scope t.Equal (rest_of at)) (sym (same_scope before at on)) ∙ second)
      ∙ ap (λ k. enumerators_behind n (scope_of before) e.name (maybe_in e.value) (ended k (rest_of done))) (sym begin)
      ∙ ap (enumerators_behind n (scope_of before) e.name (maybe_in e.value)) (sym end ∙ sym hides.rest);
  scope = hides.scope ∙ ap (declaring false (Some e.name)) (same_scope done over on' ∙ declares.scope ∙ ap (after_maybe (maybe_in e.value)) (same_scope before at on));
  names = within_hides before over later _ (within_on before done over (within_declares before at done _ (within_on before before at (within_here before) on) declares) on') hides;
}

pub enumerators_hide : (front : List Enumerator) (e : Enumerator) (s : Scope)
    → after_enumerators (enumerators_in (front ++ e ∷ [])) s ≡ after_enumerator e.name (maybe_in e.value) (after_enumerators (enumerators_in front) s)
enumerators_hide [] e s = enumerator_first e.name (maybe_in e.value) c.no_enumerators s
enumerators_hide (x ∷ front) e s =
    enumerator_first x.name (maybe_in x.value) (enumerators_in (front ++ e ∷ [])) s
    ∙ enumerators_hide front e (after_enumerator x.name (maybe_in x.value) s)
    ∙ ap (after_enumerator e.name (maybe_in e.value)) (sym (enumerator_first x.name (maybe_in x.value) (enumerators_in front) s))

-- behind a comma
enumerators_on : (n : ℕ) (before later : Parsing) (e : Enumerator) → OneEnumerator n before later e → sees t.Comma (rest_of later).0 ≡ true
    → reading.enumerators (suc n) (scope_of before) (rest_of before) ≡ (enumerators_by (reading.enumerators n (after_enumerator e.name (maybe_in e.value) (scope_of before))) (behind (rest_of later)) >>= λ y. Some (c.an_enumerator e.name (maybe_in e.value) y.0, y.1))
enumerators_on n before later e one more =
    one.read
    ∙ ap (λ b. cond b (enumerators_by (reading.enumerators n (after_enumerator e.name (maybe_in e.value) (scope_of before))) (behind (rest_of later)) >>= λ y. Some (c.an_enumerator e.name (maybe_in e.value) y.0, y.1)) (expect t.CloseBrace (rest_of later) >>= λ us. Some (c.an_enumerator e.name (maybe_in e.value) c.no_enumerators, us))) more

pub enumerators_turn : (front all : List Enumerator) (e : Enumerator) (depth n : ℕ) (before later next : Parsing)
    → depth ≡ suc n → OneEnumerator n before later e → sees t.Comma (rest_of later).0 ≡ true → rest_of next ≡ behind (rest_of later) → GoesOn later next
    → sees t.CloseBrace (rest_of next).0 ≡ false → all ≡ front ++ e ∷ []
    → after (enumerators_before (enumerators_in all)) (reading.enumerators n (scope_of next) (rest_of next)) ≡ after (enumerators_before (enumerators_in front)) (reading.enumerators depth (scope_of before) (rest_of before))
enumerators_turn front all e depth n before later next deep one more rest on others is =
    let read = reading.enumerators n (after_enumerator e.name (maybe_in e.value) (scope_of before)) (rest_of next) in
    ap (λ xs. after (enumerators_before (enumerators_in xs)) (reading.enumerators n (scope_of next) (rest_of next))) is
    ∙ ap (λ scope. after (enumerators_before (enumerators_in (front ++ e ∷ []))) (reading.enumerators n scope (rest_of next))) (same_scope later next on ∙ one.scope)
    ∙ more_enumerators front e read
    ∙ ap (λ b. after (enumerators_before (enumerators_in front)) (cond b (Some (c.no_enumerators, behind (rest_of next))) read >>= λ y. Some (c.an_enumerator e.name (maybe_in e.value) y.0, y.1))) (sym others)
    ∙ ap (λ r. after (enumerators_before (enumerators_in front)) (enumerators_by (reading.enumerators n (after_enumerator e.name (maybe_in e.value) (scope_of before))) r >>= λ y. Some (c.an_enumerator e.name (maybe_in e.value) y.0, y.1))) rest
    ∙ ap (after (enumerators_before (enumerators_in front))) (sym (enumerators_on n before later e one more))
    ∙ ap (λ k. after (enumerators_before (enumerators_in front)) (reading.enumerators k (scope_of before) (rest_of before))) (sym deep)

-- with a comma behind the last one
pub enumerators_over : (front all : List Enumerator) (e : Enumerator) (depth n : ℕ) (before later next over : Parsing)
    → depth ≡ suc n → OneEnumerator n before later e → sees t.Comma (rest_of later).0 ≡ true → rest_of next ≡ behind (rest_of later)
    → sees t.CloseBrace (rest_of next).0 ≡ true → rest_of over ≡ behind (rest_of next) → all ≡ front ++ e ∷ []
    → after (enumerators_before (enumerators_in front)) (reading.enumerators depth (scope_of before) (rest_of before)) ≡ Some (enumerators_in all, rest_of over)
enumerators_over front all e depth n before later next over deep one more rest close rest' is =
    let read = reading.enumerators n (after_enumerator e.name (maybe_in e.value) (scope_of before)) (rest_of next) in
    ap (λ k. after (enumerators_before (enumerators_in front)) (reading.enumerators k (scope_of before) (rest_of before))) deep
    ∙ ap (after (enumerators_before (enumerators_in front))) (enumerators_on n before later e one more)
    ∙ ap (λ r. after (enumerators_before (enumerators_in front)) (enumerators_by (reading.enumerators n (after_enumerator e.name (maybe_in e.value) (scope_of before))) r >>= λ y. Some (c.an_enumerator e.name (maybe_in e.value) y.0, y.1))) (sym rest)
    ∙ ap (λ b. after (enumerators_before (enumerators_in front)) (cond b (Some (c.no_enumerators, behind (rest_of next))) read >>= λ y. Some (c.an_enumerator e.name (maybe_in e.value) y.0, y.1))) close
    ∙ last_enumerators front e (behind (rest_of next))
    ∙ ap (λ xs. Some (enumerators_in xs, behind (rest_of next))) (sym is)
    ∙ ap (λ r. Some (enumerators_in all, r)) (sym rest')

pub enumerators_end : (front all : List Enumerator) (e : Enumerator) (depth n : ℕ) (before later next : Parsing)
    → depth ≡ suc n → OneEnumerator n before later e → sees t.Comma (rest_of later).0 ≡ false → expect t.CloseBrace (rest_of later) ≡ Some (rest_of next) → all ≡ front ++ e ∷ []
    → after (enumerators_before (enumerators_in front)) (reading.enumerators depth (scope_of before) (rest_of before)) ≡ Some (enumerators_in all, rest_of next)
enumerators_end front all e depth n before later next deep one none close is =
    ap (λ k. after (enumerators_before (enumerators_in front)) (reading.enumerators k (scope_of before) (rest_of before))) deep
    ∙ ap (after (enumerators_before (enumerators_in front))) one.read
    ∙ ap (λ b. after (enumerators_before (enumerators_in front)) (cond b (enumerators_by (reading.enumerators n (after_enumerator e.name (maybe_in e.value) (scope_of before))) (behind (rest_of later)) >>= λ y. Some (c.an_enumerator e.name (maybe_in e.value) y.0, y.1)) (expect t.CloseBrace (rest_of later) >>= λ us. Some (c.an_enumerator e.name (maybe_in e.value) c.no_enumerators, us)))) none
    ∙ ap (λ read. after (enumerators_before (enumerators_in front)) (read >>= λ us. Some (c.an_enumerator e.name (maybe_in e.value) c.no_enumerators, us))) close
    ∙ last_enumerators front e (rest_of next)
    ∙ ap (λ xs. Some (enumerators_in xs, rest_of next)) (sym is)
