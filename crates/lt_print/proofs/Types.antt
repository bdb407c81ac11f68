-- Specifiers, members and type names behind what was written.
use Rattle.std.proofs.Common.{◌≡◌, suc, Bool, true, false, not, ◌||◌, ◌&&◌, eqb, length, get_or, arith, List, [], ◌∷◌, ◌++◌, ℕ, Option, Some, None, is_some, refl, ap, sym, ◌∙◌, append_assoc}
use Rattle.std.proofs.lemmas.List.{append-nil}
use Rattle.std.proofs.lemmas.Bool.{ne_eqb}
use Rattle.lt_tree.specs.declared.terminal.Terminal.{Terminal}
use Rattle.lt_tree.specs.declared.terminal.Terminal.TheVariants as k
use Rattle.lt_tree.specs.declared.specifier.TypeSpecifier.{TypeSpecifier}
use Rattle.lt_tree.specs.declared.specifier.MemberDeclarator.{MemberDeclarator}
use Rattle.lt_tree.specs.Tree as t
use Rattle.lt_tree.specs.Pieces.{Piece, gap, indent, line_end, text_of}
use Rattle.lt_tree.specs.View.{type_of}
use Rattle.lt_tree.specs.Records.{types_in, maybe_in, declarator_of, member_declarators_in}
use Rattle.lt_tree.specs.Canon.{Pieces, sign, apart, gap_if, name_behind, declarator, specifiers, after_sign, member_lines, member_declarators, type_specifier, type_specifiers}
use Rattle.lt_print.specs.Lists.{stands, behind}
use Rattle.lt_print.specs.Declarators.{is_written}
use Rattle.lt_print.specs.Members.{declarators_stand}
use Rattle.lt_print.proofs.Lists.{apart_is, stands_apart}
use Rattle.lt_print.proofs.Words.{joined}
use Rattle.lt_print.proofs.Declarators.{stands_declarator}
use Rattle.lt_print.proofs.Lines.{type_stands}

-- what stands apart from what was written
pub apart_text : (front back : Pieces) (before : Bool) (out mid now : List ℕ) → before ≡ stands front → mid ≡ out ++ text_of front → now ≡ mid ++ text_of (behind before back) → now ≡ out ++ text_of (apart front back)
apart_text front back before out mid now is e f =
    joined out mid now front (behind before back) e f ∙ ap (λ (b : Bool). out ++ text_of (front ++ behind b back)) is ∙ ap (λ (x : Pieces). out ++ text_of x) (sym (apart_is front back))

types_stand : (n : ℕ) (types : List TypeSpecifier) → not (eqb (length types) 0) ≡ stands (type_specifiers n (types_in types))
unfolding type_specifiers
types_stand n [] = refl
types_stand n (x ∷ types) =
    let e : eqb (suc (length types)) 0 ≡ false = ne_eqb (suc (length types)) 0 (λ k. omega arith) in
    ap not e ∙ ap (λ (b : Bool). b || stands (type_specifiers n (types_in types))) (sym (type_stands n (type_of x))) ∙ sym (stands_apart (type_specifier n (type_of x)) (type_specifiers n (types_in types)))

-- whether there are specifiers
pub specifiers_stand : (n : ℕ) (words : Pieces) (types : List TypeSpecifier) (before : Bool) → before ≡ stands words
    → (before || not (eqb (length types) 0)) ≡ stands (apart words (type_specifiers n (types_in types)))
specifiers_stand n words types before is =
    ap (λ (b : Bool). b || not (eqb (length types) 0)) is ∙ ap (λ (b : Bool). stands words || b) (types_stand n types) ∙ sym (stands_apart words (type_specifiers n (types_in types)))

-- a struct or enum with what is in its braces
pub braces_text : (n : ℕ) (word : Terminal) (tag : Option (List ℕ)) (body : Pieces) (out a b d f now : List ℕ)
    → a ≡ out ++ text_of (sign word ∷ []) → b ≡ a ++ text_of (name_behind tag) → d ≡ b ++ text_of (gap ∷ sign k.OpenBrace ∷ line_end ∷ [])
    → f ≡ d ++ text_of body → now ≡ f ++ text_of (indent n ∷ sign k.CloseBrace ∷ [])
    → now ≡ out ++ text_of (apart (sign word ∷ name_behind tag) (sign k.OpenBrace ∷ line_end ∷ body ++ indent n ∷ sign k.CloseBrace ∷ []))
braces_text n word tag body out a b d f now e g h i j =
    joined _ _ _ _ _ e (joined _ _ _ _ _ g (joined _ _ _ _ _ h (joined _ _ _ _ _ i j))) ∙ ap (λ (x : Pieces). out ++ text_of x) (flat tag)
  where
    flat : (tag : Option (List ℕ)) → (sign word ∷ []) ++ (name_behind tag ++ ((gap ∷ sign k.OpenBrace ∷ line_end ∷ []) ++ (body ++ indent n ∷ sign k.CloseBrace ∷ [])))
        ≡ apart (sign word ∷ name_behind tag) (sign k.OpenBrace ∷ line_end ∷ body ++ indent n ∷ sign k.CloseBrace ∷ [])
    flat None = refl
    flat (Some w) = refl

-- whether the declarators of a member have any text
pub one_stands : (ds : List MemberDeclarator) (d : MemberDeclarator) → length ds ≡ 1 → d ≡ get_or ds 0 d → (is_written (declarator_of d.declarator) || is_some d.width) ≡ declarators_stand (member_declarators_in ds)
one_stands [] d len is = absurd (omega (arith, len))
one_stands (x ∷ []) d len is = ap (λ (y : MemberDeclarator). is_written (declarator_of y.declarator) || is_some y.width) is ∙ step x.width
  where
    step : (w : _) → (is_written (declarator_of x.declarator) || is_some w) ≡ declarators_stand (t.a_declarator (declarator_of x.declarator) (maybe_in w) t.no_declarators)
    step None = or_false (is_written (declarator_of x.declarator))
      where
        or_false : (b : Bool) → (b || false) ≡ b
        or_false true = refl
        or_false false = refl
    step (Some e) = or_true (is_written (declarator_of x.declarator))
      where
        or_true : (b : Bool) → (b || true) ≡ true
        or_true true = refl
        or_true false = refl
one_stands (x ∷ y ∷ ds) d len is = absurd (omega (arith, len))

pub several_stand : (ds : List MemberDeclarator) → (length ds ≡ 1 → ⊥) → not (eqb (length ds) 0) ≡ declarators_stand (member_declarators_in ds)
several_stand [] other = refl
several_stand (x ∷ []) other = absurd (other refl)
several_stand (x ∷ y ∷ ds) other =
    let e : eqb (suc (suc (length ds))) 0 ≡ false = ne_eqb (suc (suc (length ds))) 0 (λ k. omega arith) in
    ap not e ∙ step x.width
  where
    step : (w : _) → true ≡ declarators_stand (t.a_declarator (declarator_of x.declarator) (maybe_in w) (member_declarators_in (y ∷ ds)))
    step None = refl
    step (Some e) = refl

pub stands_back : (a : Pieces) (p : Piece) (b : Pieces) → stands (a ++ (p ∷ b)) ≡ true
stands_back [] p b = refl
stands_back (q ∷ a) p b = refl

-- the declarators of a member have pieces exactly where they have text
pub member_stands : (n : ℕ) (ds : t.MemberDeclarators) → stands (member_declarators n ds) ≡ declarators_stand ds
unfolding member_declarators
member_stands n t.no_declarators = refl
member_stands n (t.a_declarator d t.absent t.no_declarators) = ap stands (append-nil (declarator n d)) ∙ stands_declarator n d
member_stands n (t.a_declarator d (t.present e) t.no_declarators) = stands_back (declarator n d) gap _
member_stands n (t.a_declarator d t.absent (t.a_declarator e wide ds)) = ap stands (append_assoc (declarator n d ++ []) _ _) ∙ stands_back (declarator n d ++ []) (sign k.Comma) _
member_stands n (t.a_declarator d (t.present w) (t.a_declarator e wide ds)) =
    ap stands (append_assoc (declarator n d ++ after_sign n k.Colon (t.present w)) _ _) ∙ stands_back (declarator n d ++ after_sign n k.Colon (t.present w)) (sign k.Comma) _

-- a member on its line
pub member_text : (n : ℕ) (ss : t.Specifiers) (ds : t.MemberDeclarators) (before : Bool) (out a b d e f now : List ℕ)
    → a ≡ out ++ text_of (indent n ∷ []) → b ≡ a ++ text_of (specifiers n ss) → before ≡ stands (specifiers n ss) → d ≡ b ++ text_of (gap_if (before && declarators_stand ds))
    → e ≡ d ++ text_of (member_declarators n ds) → f ≡ e ++ text_of (sign k.Semicolon ∷ []) → now ≡ f ++ text_of (line_end ∷ [])
    → now ≡ out ++ text_of (member_lines n (t.a_member (t.member ss ds) t.no_members))
unfolding member_lines
member_text n ss ds before out a b d e f now p q is r s u v =
    let all : e ≡ b ++ text_of (behind before (member_declarators n ds)) =
    joined b d e (gap_if (before && declarators_stand ds)) (member_declarators n ds) r s ∙ ap (λ (x : Bool). b ++ text_of (gap_if (before && x) ++ member_declarators n ds)) (sym (member_stands n ds)) in
    let both : e ≡ a ++ text_of (apart (specifiers n ss) (member_declarators n ds)) = apart_text (specifiers n ss) (member_declarators n ds) before a b e is q all in
    joined _ _ _ _ _ p (joined _ _ _ _ _ both (joined _ _ _ _ _ u v)) ∙ ap (λ (x : Pieces). out ++ text_of x) refl
