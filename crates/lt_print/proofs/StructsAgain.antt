-- The words of structs and enums derive them again, C11 6.7.2.1 and 6.7.2.2.
use Rattle.std.specs.Prelude.{◌≡◌, ℕ, suc, false, List, [], ◌∷◌, ◌++◌, Option, Some, None, refl}
use Rattle.lt_tree.specs.declared.terminal.Terminal.{Terminal}
use Rattle.lt_tree.specs.declared.terminal.Terminal.TheVariants as k
use Rattle.lt_tree.specs.Tree as c
use Rattle.lt_tree.specs.Symbols as s
use Rattle.lt_tree.specs.Symbols.{Symbol}
use Rattle.lt_tree.specs.Scope.{Scope, after_specifiers, after_inside, after_member_declarator, after_member, after_enumerator}
use Rattle.lt_tree.specs.Ahead.{Naming, named, naming_behind, same_terminal}
use Rattle.lt_tree.specs.Grammar as g
use Rattle.lt_tree.specs.Grammar.{IsDeclarator, AreMembers, AreMemberDeclarators, IsAfterSign, AreEnumerators, IsTagged}
use Rattle.lt_tree.specs.Canon.{Pieces, sign, apart, operand, specifiers, member_lines, member_declarators, enumerator_lines, after_sign, declarator}
use Rattle.lt_tree.specs.Pieces.{indent, line_end}
use Rattle.lt_print.proofs.ReadPieces.{Reads, done, a_name, a_sign, a_gap, an_indent, a_line_end, off_line_end, parted, parted_apart, split, split_comma, Ends, by_comma, by_semicolon, by_colon}
use Rattle.lt_print.proofs.Claims.{MaybeStands, names_type, DeclaratorFits, TaggedAgain, MemberDeclaratorsFit, MembersFit, EnumeratorsFit, AreEnumerated}
use Rattle.lt_print.proofs.DeclaratorsAgain.{declarator_again}
use Rattle.lt_print.proofs.DeclaratorFronts.{Clear, front_clear, behind_clear_after, behind_bare}

-- ---- a width or a value

-- before this sign, which isn't the one that begins it
after_sign_again : (scope : Scope) (n : ℕ) (x end : Terminal) (at : ℕ) (m : c.Maybe) → same_terminal end x ≡ false → MaybeStands scope m → (ts rest : List Symbol) (more : List ℕ)
    → Reads (after_sign n x m) ts (s.sign end at ∷ rest) → (spots : List ℕ) × IsAfterSign scope x ts m (s.sign end at ∷ rest) spots more
unfolding operand
after_sign_again scope n x end at c.absent other is ts rest more done = (more, g.left_out other)
after_sign_again scope n x end at (c.present e) other is ts rest more (a_gap (a_sign (a_gap r))) = let got = is n g.conditional _ _ more r in (got.0, g.given got.1)

-- ---- members

width_ends : (scope : Scope) {ts rest : List Symbol} {m : c.Maybe} {spots more : List ℕ} → IsAfterSign scope k.Colon ts m rest spots more → Ends rest → Ends ts
width_ends scope (g.left_out x) e = e
width_ends scope (g.given x) e = by_colon

record Member (scope : Scope) (naming : Naming) (ts : List Symbol) (d : c.Declarator) (width : c.Maybe) (rest : List Symbol) (more : List ℕ) : Type 0 where
  between : List Symbol
  middle : List ℕ
  spots : List ℕ
  first : IsDeclarator scope naming ts d between spots middle
  second : IsAfterSign (after_inside d scope) k.Colon between width rest middle more

member_again : (scope : Scope) (naming : Naming) (n : ℕ) (d : c.Declarator) (width : c.Maybe) → DeclaratorFits naming scope d → MaybeStands (after_inside d scope) width
    → (end : Terminal) (at : ℕ) (ts rest : List Symbol) (more : List ℕ) → Ends (s.sign end at ∷ rest) → same_terminal end k.Colon ≡ false
    → Reads (declarator n d ++ after_sign n k.Colon width) ts (s.sign end at ∷ rest) → Member scope naming ts d width (s.sign end at ∷ rest) more
member_again scope naming n d width fits stands end at ts rest more ends other r =
    let p = parted (declarator n d) (after_sign n k.Colon width) r in
    let second = after_sign_again (after_inside d scope) n k.Colon end at width other stands p.between rest more p.back in
    let first = declarator_again naming scope d fits n ts p.between second.0 (width_ends (after_inside d scope) second.1 ends) p.front in
    record { between = p.between; middle = second.0; spots = first.0; first = first.1; second = second.1 }

member_declarators_again : (scope : Scope) (naming : Naming) (n : ℕ) (ds : c.MemberDeclarators) → MemberDeclaratorsFit naming scope ds → (at : ℕ) (ts rest : List Symbol) (more : List ℕ)
    → Reads (member_declarators n ds) ts (s.sign k.Semicolon at ∷ rest) → (spots : List ℕ) × AreMemberDeclarators scope naming ts ds rest spots more
unfolding operand same_terminal
member_declarators_again scope naming n c.no_declarators fit at ts rest more done = (more, g.no_member_declarators)
member_declarators_again scope naming n (c.a_declarator d width c.no_declarators) fit at ts rest more r =
    let m = member_again scope naming n d width fit.0 fit.1 k.Semicolon at ts rest more by_semicolon refl r in (m.spots, g.last_member_declarator m.first m.second)
member_declarators_again scope naming n (c.a_declarator d width (c.a_declarator e wide ds)) fit at ts rest more r =
    let q = split_comma (declarator n d ++ after_sign n k.Colon width) (member_declarators n (c.a_declarator e wide ds)) r in
    let others = member_declarators_again (after_member_declarator d width scope) named n (c.a_declarator e wide ds) fit.2 at q.between rest more q.back in
    let m = member_again scope naming n d width fit.0 fit.1 k.Comma q.at ts q.between others.0 by_comma refl q.front in
    (m.spots, g.more_member_declarators m.first m.second others.1)

members_clear : (scope : Scope) (ss : c.Specifiers) (ds : c.MemberDeclarators) → MemberDeclaratorsFit (naming_behind ss) (after_specifiers ss scope) ds → {ts rest : List Symbol} {spots more : List ℕ}
    → AreMemberDeclarators (after_specifiers ss scope) (naming_behind ss) ts ds rest spots more → Clear scope (names_type ss) ts
unfolding same_terminal
members_clear scope ss c.no_declarators fit g.no_member_declarators = record { none = refl; brace = refl }
members_clear scope ss (c.a_declarator d width c.no_declarators) fit (g.last_member_declarator {us} x y) = front_clear (names_type ss) x (behind_bare ss us) (behind_clear_after scope ss d fit.0)
members_clear scope ss (c.a_declarator d width (c.a_declarator e wide ds)) fit (g.more_member_declarators {us} x y z) = front_clear (names_type ss) x (behind_bare ss us) (behind_clear_after scope ss d fit.0)

pub members_again : (scope : Scope) (n : ℕ) (ms : c.Members) → MembersFit scope ms → (at : ℕ) (ts rest : List Symbol) (more : List ℕ)
    → Reads (member_lines n ms) ts (s.sign k.CloseBrace at ∷ rest) → (spots : List ℕ) × AreMembers scope ts ms rest spots more
unfolding operand
members_again scope n c.no_members fit at ts rest more done = (more, g.no_more_members)
members_again scope n (c.a_member (c.member ss ds) ms) fit at ts rest more (an_indent r) =
    let q = split (apart (specifiers n ss) (member_declarators n ds)) k.Semicolon (line_end ∷ member_lines n ms) r in
    let others = members_again (after_member (c.member ss ds) scope) n ms fit.2 at q.between rest more (off_line_end q.back) in
    let p = parted_apart (specifiers n ss) (member_declarators n ds) q.front in
    let second = member_declarators_again (after_specifiers ss scope) (naming_behind ss) n ds fit.1 q.at p.between q.between others.0 p.back in
    let front : Clear scope (names_type ss) p.between = members_clear scope ss ds fit.1 second.1 in
    let first = fit.0 n ts p.between second.0 front.none front.brace p.front in
    (_, g.one_more_member first.1 second.1 others.1)

-- ---- enumerators

-- a line without a comma behind it
last_enumerator_again : (scope : Scope) (n a : ℕ) (w : List ℕ) (value : c.Maybe) → MaybeStands scope value → (at : ℕ) {ts between rest : List Symbol} (more : List ℕ)
    → Reads (after_sign n k.Equal value) ts between → Reads (line_end ∷ []) between (s.sign k.CloseBrace at ∷ rest)
    → (spots : List ℕ) × AreEnumerators scope (s.name w a ∷ ts) (c.an_enumerator w value c.no_enumerators) rest spots more
unfolding same_terminal
last_enumerator_again scope n a w value stands at {ts} {rest = rest} more x (a_line_end done) =
    let got = after_sign_again scope n k.Equal k.CloseBrace at value refl stands ts rest more x in (_, g.last_enumerator got.1)

pub enumerators_again : (scope : Scope) (n : ℕ) (es : c.Enumerators) → EnumeratorsFit scope es → AreEnumerated es → (at : ℕ) (ts rest : List Symbol) (more : List ℕ)
    → Reads (enumerator_lines n es) ts (s.sign k.CloseBrace at ∷ rest) → (spots : List ℕ) × AreEnumerators scope ts es rest spots more
unfolding operand same_terminal
enumerators_again scope n c.no_enumerators fit filled at ts rest more r = absurd filled
enumerators_again scope n (c.an_enumerator w value c.no_enumerators) fit filled at ts rest more (an_indent (a_name {at = a} r)) =
    let q = parted (after_sign n k.Equal value) (line_end ∷ []) r in last_enumerator_again scope n a w value fit.0 at more q.front q.back
enumerators_again scope n (c.an_enumerator w value (c.an_enumerator v other es)) fit filled at ts rest more (an_indent (a_name {ts = us} r)) =
    let q = split (after_sign n k.Equal value) k.Comma (line_end ∷ enumerator_lines n (c.an_enumerator v other es)) r in
    let others = enumerators_again (after_enumerator w value scope) n (c.an_enumerator v other es) fit.1 tt at q.between rest more (off_line_end q.back) in
    let got = after_sign_again scope n k.Equal k.Comma q.at value refl fit.0 us q.between others.0 q.front in
    (_, g.more_enumerators got.1 others.1)

-- ---- structs and enums

-- the lines in braces, and what stands behind them
lines_again : {n : ℕ} {ps : Pieces} {ts between rest : List Symbol} → Reads ps ts between → Reads (indent n ∷ sign k.CloseBrace ∷ []) between rest → (at : ℕ) × Reads ps ts (s.sign k.CloseBrace at ∷ rest)
lines_again x (an_indent (a_sign done)) = (_, x)

in_braces : (n : ℕ) (ps : Pieces) {ts rest : List Symbol} → Reads (ps ++ indent n ∷ sign k.CloseBrace ∷ []) ts rest → (at : ℕ) × Reads ps ts (s.sign k.CloseBrace at ∷ rest)
in_braces n ps r = let q = parted ps (indent n ∷ sign k.CloseBrace ∷ []) r in lines_again q.front q.back

pub struct_tag_again : (scope : Scope) (w : List ℕ) → TaggedAgain scope (c.StructTag w)
unfolding operand
struct_tag_again scope w n ts rest more brace (a_sign (a_gap (a_name done))) = (more, g.struct_tag brace)

pub enum_tag_again : (scope : Scope) (w : List ℕ) → TaggedAgain scope (c.EnumTag w)
unfolding operand
enum_tag_again scope w n ts rest more brace (a_sign (a_gap (a_name done))) = (more, g.enum_tag brace)

pub struct_again : (scope : Scope) (tag : Option (List ℕ)) (ms : c.Members) → MembersFit scope ms → TaggedAgain scope (c.Struct tag ms)
unfolding operand
struct_again scope None ms fit n ts rest more brace (a_sign (a_gap (a_sign {ts = us} (a_line_end r)))) =
    let q = in_braces n (member_lines (suc n) ms) r in let got = members_again scope (suc n) ms fit q.0 us rest more q.1 in (got.0, g.struct_without_tag got.1)
struct_again scope (Some w) ms fit n ts rest more brace (a_sign (a_gap (a_name (a_gap (a_sign {ts = us} (a_line_end r)))))) =
    let q = in_braces n (member_lines (suc n) ms) r in let got = members_again scope (suc n) ms fit q.0 us rest more q.1 in (got.0, g.struct_with_tag got.1)

pub enum_again : (scope : Scope) (tag : Option (List ℕ)) (es : c.Enumerators) → EnumeratorsFit scope es → AreEnumerated es → TaggedAgain scope (c.Enum tag es)
unfolding operand
enum_again scope None es fit filled n ts rest more brace (a_sign (a_gap (a_sign {ts = us} (a_line_end r)))) =
    let q = in_braces n (enumerator_lines (suc n) es) r in let got = enumerators_again scope (suc n) es fit filled q.0 us rest more q.1 in (got.0, g.enum_without_tag got.1)
enum_again scope (Some w) es fit filled n ts rest more brace (a_sign (a_gap (a_name (a_gap (a_sign {ts = us} (a_line_end r)))))) =
    let q = in_braces n (enumerator_lines (suc n) es) r in let got = enumerators_again scope (suc n) es fit filled q.0 us rest more q.1 in (got.0, g.enum_with_tag got.1)
