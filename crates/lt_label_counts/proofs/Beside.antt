-- What nodes need that stand beside others; and lists of nodes that need the same where other marks stand among them.
use Rattle.std.proofs.Common.{◌≡◌, ◌≤◌, ℕ, zero, suc, ◌+◌, List, [], ◌∷◌, ◌++◌, length, None, refl, sym, ap, ◌∙◌, append_assoc, subst, arith}
use Rattle.std.proofs.lemmas.List.{length-append, append-nil}
use Rattle.lt_tree.specs.Tree as c
use Rattle.lt_tree.specs.Grammar.{no_words}
use Rattle.lt_tree.specs.Nodes.{Node, an_external, a_declarator, an_initialiser, a_member, an_enumerator, a_label, a_declared_item, a_stated_item, a_marked_item, a_statement, an_expression, a_mark, in_mark, in_marks, in_specifiers, in_declarator}
use Rattle.lt_sites.specs.Sites.{in_node}
use Rattle.lt_places.proofs.Parts.{AreWhole, expression_whole}
use Rattle.lt_label_counts.specs.Needs.{own_need, in_mark_behind, needs}
use Rattle.lt_label_counts.proofs.Fits.{first_needs, mark_needs}

-- ---- nodes beside others

-- the nodes in a mark stand behind it
pub fits_behind : (x : Node) (xs behind : List Node) → x ∷ xs ≡ in_node x ++ behind → in_mark_behind x ≤ length xs
fits_behind (a_mark m) xs behind e =
    let long : suc (length xs) ≡ length (in_mark m ++ behind) = ap length e in
    let both : length (in_mark m ++ behind) ≡ length (in_mark m) + length behind = length-append (in_mark m) behind in
    omega (arith, long, both)
fits_behind (an_external x) xs behind e = omega arith
fits_behind (a_declarator d) xs behind e = omega arith
fits_behind (an_initialiser i) xs behind e = omega arith
fits_behind (a_member m) xs behind e = omega arith
fits_behind (an_enumerator name value) xs behind e = omega arith
fits_behind (a_label label) xs behind e = omega arith
fits_behind (a_declared_item d) xs behind e = omega arith
fits_behind (a_stated_item x) xs behind e = omega arith
fits_behind (a_marked_item m) xs behind e = omega arith
fits_behind (a_statement x) xs behind e = omega arith
fits_behind (an_expression e) xs behind f = omega arith

beside_from : (n : ℕ) (xs ys : List Node) → n ≤ length xs → AreWhole xs → needs n (xs ++ ys) ≡ needs n xs + needs 0 ys
beside_from zero [] ys h a = omega arith
beside_from (suc n) [] ys h a = absurd (omega arith)
beside_from zero (x ∷ xs) ys h a = let more = beside_from (in_mark_behind x) xs ys (fits_behind x xs a.0.0 a.0.1) a.1 in omega (arith, more)
beside_from (suc n) (x ∷ xs) ys h a = beside_from n xs ys (omega (arith, h)) a.1

-- what whole parts need, and what follows them
pub beside : (xs ys : List Node) → AreWhole xs → needs 0 (xs ++ ys) ≡ needs 0 xs + needs 0 ys
beside xs ys a = beside_from 0 xs ys (omega arith) a

pub specifiers_whole : (s : c.Specifiers) → AreWhole (in_specifiers s)
specifiers_whole s = subst AreWhole (append-nil (in_specifiers s)) (expression_whole (c.SizeofType s (c.declarator None c.no_parts))).1

pub declarator_whole : (d : c.Declarator) → AreWhole (in_declarator d)
declarator_whole d = (expression_whole (c.SizeofType (c.specifiers no_words c.no_types) d)).1

-- ---- lists that need the same

pub record Alike (xs ys : List Node) : Type 0 where
  pub alike : (us vs : List Node) → needs 0 us ≡ needs 0 vs → needs 0 (xs ++ us) ≡ needs 0 (ys ++ vs)

pub nothing : Alike [] []
nothing = record { alike = λ us vs e. e }

pub itself : (xs : List Node) → AreWhole xs → Alike xs xs
itself xs a = record { alike = λ us vs e. beside xs us a ∙ ap (λ n. needs 0 xs + n) e ∙ sym (beside xs vs a) }

pub both : {xs ys us vs : List Node} → Alike xs ys → Alike us vs → Alike (xs ++ us) (ys ++ vs)
both {xs} {ys} {us} {vs} a b = record {
  alike = λ ps qs e. ap (needs 0) (append_assoc xs us ps) ∙ a.alike (us ++ ps) (vs ++ qs) (b.alike ps qs e) ∙ ap (needs 0) (sym (append_assoc ys vs qs));
}

-- two nodes that need the same
pub node : {x y : Node} {xs ys : List Node} → own_need x ≡ own_need y → in_mark_behind x ≡ 0 → in_mark_behind y ≡ 0 → Alike xs ys → Alike (x ∷ xs) (y ∷ ys)
node {x} {y} {xs} {ys} own d e a = record {
  alike = λ us vs f.
      let g = a.alike us vs f in
      let h = first_needs x (xs ++ us) d in
      let i = first_needs y (ys ++ vs) e in
      omega (arith, own, g, h, i);
}

-- a node more that needs nothing
pub one_more : {x : Node} {xs ys : List Node} → own_need x ≡ 0 → in_mark_behind x ≡ 0 → Alike xs ys → Alike (x ∷ xs) ys
one_more {x} {xs} {ys} own d a = record {
  alike = λ us vs f.
      let g = a.alike us vs f in
      let h = first_needs x (xs ++ us) d in
      omega (arith, own, g, h);
}

-- ---- marks

marks_need : (ms : c.Marks) (ys : List Node) → needs 0 (in_marks ms ++ ys) ≡ needs 0 ys
marks_need c.no_marks ys = refl
marks_need (c.a_mark m ms) ys = ap (needs 0) (append_assoc (in_mark m) (in_marks ms) ys) ∙ mark_needs m (in_marks ms ++ ys) ∙ marks_need ms ys

pub marks : (ms ns : c.Marks) → Alike (in_marks ms) (in_marks ns)
marks ms ns = record { alike = λ us vs e. marks_need ms us ∙ e ∙ sym (marks_need ns vs) }

pub mark : (m : c.Mark) → Alike (in_mark m) []
mark m = record { alike = λ us vs e. mark_needs m us ∙ e }
