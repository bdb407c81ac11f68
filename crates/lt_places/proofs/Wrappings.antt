-- How the numbers of inner expressions are found.
use Rattle.std.proofs.Common.{◌≡◌, SomeIff, refl, sym, ap, subst, ◌∙◌, ℕ, zero, suc, ◌+◌, ◌-◌, ◌<◌, ◌≤◌, List, [], ◌∷◌, ◌++◌, length, get_or, drop, min, Option, Some, None, arith}
use Rattle.std.specs.Option.{option_map}
use Rattle.std.specs.List.{slice_get}
use Rattle.std.specs.Global.{Box, Vec}
use Rattle.std.proofs.lemmas.List.{append_assoc, drop-drop, drop_all, drop_min, drop_more, length-append, length-drop}
use Rattle.lt_tree.specs.declared.expression.Expr.{Expr}
use Rattle.lt_tree.specs.declared.expression.Expr.TheVariants as variant
use Rattle.lt_tree.specs.declared.mark.Mark.{Mark}
use Rattle.lt_tree.specs.Tree as c
use Rattle.lt_tree.specs.View.{expression_of}
use Rattle.lt_tree.specs.Records.{expressions_in, marks_in}
use Rattle.lt_tree.specs.Nodes.{Node, an_expression, a_mark, in_expression, in_expressions, in_marks, in_mark, nodes}
use Rattle.lt_tree.proofs.Rows.{comma_is, marked_is}
use Rattle.lt_objectives.specs.Places.{Part, value_part, last_value_part}
use Rattle.lt_sites.specs.declared.site.Site.{Site}
use Rattle.lt_sites.specs.Sites.{Sized, AreSitesOf, node_of}
use Rattle.lt_places.specs.declared.walk.Wrapping.{Wrapping}
use Rattle.lt_places.specs.declared.walk.Wrapping.TheVariants as wrapping
use Rattle.lt_places.specs.Walks.{behind_parts, count_marks, count_parts, before_last, before, inner, reached}
use Rattle.lt_places.proofs.SiteRuns.{BeginWith, begin_front, begin_behind, begin_first, begin_next, none_begin, begin_length, begin_at, part_size, some_begin, expression_headed, mark_headed}

-- ---- how many parts stand before

pub marks_counted : (marks : List Mark) → count_marks (marks_in marks) ≡ length marks
marks_counted [] = refl
marks_counted (m ∷ ms) = ap suc (marks_counted ms)

pub parts_counted : (parts : List Expr) → count_parts (expressions_in parts) ≡ length parts
parts_counted [] = refl
parts_counted (e ∷ es) = ap suc (parts_counted es)

-- of marks around an expression
pub before_marked : (what : Wrapping) (node : Node) (e : Expr) (marks : Vec Mark) (value : Box Expr) (count : ℕ) →
    node ≡ an_expression (expression_of e) → e ≡ variant.Marked marks value → count ≡ length marks.items → Some count ≡ before what node
before_marked what node e marks value count is marked counted =
    let f : before what node ≡ before what (an_expression (c.Marked (marks_in marks.items) (expression_of value.value))) =
    ap (before what) is ∙ ap (λ x. before what (an_expression (expression_of x))) marked ∙ ap (λ x. before what (an_expression x)) (marked_is marks value) in
    ap Some (counted ∙ sym (marks_counted marks.items)) ∙ sym (f ∙ before_marks what (marks_in marks.items) (expression_of value.value))
  where
    before_marks : (what : Wrapping) (ms : c.Marks) (x : c.Expression) → before what (an_expression (c.Marked ms x)) ≡ Some (count_marks ms)
    before_marks wrapping.Marks ms x = refl
    before_marks wrapping.MarksAndCommas ms x = refl

-- of the parts of a comma expression, of which there may be none
pub before_comma : (node : Node) (e : Expr) (parts : Vec Expr) (n : ℕ) (count : Option ℕ) → node ≡ an_expression (expression_of e) → e ≡ variant.Comma parts →
    n ≡ length parts.items → SomeIff count (1 ≤ n) (n - 1) → count ≡ before wrapping.MarksAndCommas node
before_comma node e parts n count is comma long counted =
    let f : before wrapping.MarksAndCommas node ≡ before_last (expressions_in parts.items) =
    ap (before wrapping.MarksAndCommas) is ∙ ap (λ x. before wrapping.MarksAndCommas (an_expression (expression_of x))) comma ∙ ap (λ x. before wrapping.MarksAndCommas (an_expression x)) (comma_is parts) in
    all_but_one parts.items count (subst (λ m. SomeIff count (1 ≤ m) (m - 1)) long counted) ∙ sym f
  where
    all_but_one : (parts : List Expr) (count : Option ℕ) → SomeIff count (1 ≤ length parts) (length parts - 1) → count ≡ before_last (expressions_in parts)
    all_but_one [] None h = refl
    all_but_one [] (Some n) h = absurd (omega (arith, h))
    all_but_one (e ∷ es) None h = absurd (h (omega arith))
    all_but_one (e ∷ es) (Some n) h = let f : n ≡ length es = omega (arith, h) in ap Some (f ∙ sym (parts_counted es))

-- ---- where the inner expression stands

-- behind marks
behind_marks : (marks : c.Marks) (sites : List Site) (run : List Node) → BeginWith sites (in_marks marks ++ run) → behind_parts (count_marks marks) sites ≡ drop (length (in_marks marks)) sites
behind_marks c.no_marks sites run h = refl
behind_marks (c.a_mark m ms) sites run h =
    one_mark m ms sites run (subst (BeginWith sites) (append_assoc (in_mark m) (in_marks ms) run) h) (behind_marks ms (drop (length (in_mark m)) sites) run)
  where
    one_mark : (m : c.Mark) (ms : c.Marks) (sites : List Site) (run : List Node) → BeginWith sites (in_mark m ++ (in_marks ms ++ run)) →
        (BeginWith (drop (length (in_mark m)) sites) (in_marks ms ++ run) → behind_parts (count_marks ms) (drop (length (in_mark m)) sites) ≡ drop (length (in_marks ms)) (drop (length (in_mark m)) sites)) →
        behind_parts (suc (count_marks ms)) sites ≡ drop (length (in_mark m ++ in_marks ms)) sites
    one_mark m ms [] run h others = absurd (some_begin (a_mark m) (mark_headed m).0 (in_marks ms ++ run) (mark_headed m).1 h)
    one_mark m ms (site ∷ sites) run h others =
        ap (λ n. behind_parts (count_marks ms) (drop n (site ∷ sites))) (part_size (a_mark m) (mark_headed m).0 site sites (in_marks ms ++ run) (mark_headed m).1 h)
        ∙ others (begin_behind (site ∷ sites) (in_mark m) (in_marks ms ++ run) h)
        ∙ drop-drop (length (in_marks ms)) (length (in_mark m)) (site ∷ sites)
        ∙ ap (λ n. drop n (site ∷ sites)) (sym (length-append (in_mark m) (in_marks ms)))

-- the last of these parts
record LastPart (k j : ℕ) (parts : c.Expressions) (sites inside : List Site) : Type 0 where
  at : ℕ
  expression : c.Expression
  begin : BeginWith inside (in_expression expression)
  stands : at + length inside ≡ j + length sites
  same : value_part at expression ≡ last_value_part k j parts

last_part : (k j : ℕ) (e : c.Expression) (es : c.Expressions) (sites : List Site) → BeginWith sites (in_expressions (c.an_expression e es)) → LastPart k j (c.an_expression e es) sites (behind_parts (count_parts es) sites)
last_part k j e c.no_expressions sites h = record { at = j; expression = e; begin = begin_front sites (in_expression e) [] h; stands = refl; same = refl }
last_part k j e (c.an_expression next rest) sites h =
    behind_first k j e next rest sites h (last_part k (j + length (in_expression e)) next rest (drop (length (in_expression e)) sites) (begin_behind sites (in_expression e) (in_expressions (c.an_expression next rest)) h))
  where
    behind_first : (k j : ℕ) (e next : c.Expression) (rest : c.Expressions) (sites : List Site) → BeginWith sites (in_expression e ++ in_expressions (c.an_expression next rest)) →
        LastPart k (j + length (in_expression e)) (c.an_expression next rest) (drop (length (in_expression e)) sites) (behind_parts (count_parts rest) (drop (length (in_expression e)) sites)) →
        LastPart k j (c.an_expression e (c.an_expression next rest)) sites (behind_parts (suc (count_parts rest)) sites)
    behind_first k j e next rest [] h others = absurd (some_begin (an_expression e) (expression_headed e).0 (in_expressions (c.an_expression next rest)) (expression_headed e).1 h)
    behind_first k j e next rest (site ∷ sites) h others =
        let n = length (in_expression e) in
        let size : site.size ≡ length (in_expression e) = part_size (an_expression e) (expression_headed e).0 site sites (in_expressions (c.an_expression next rest)) (expression_headed e).1 h in
        let skipped : behind_parts (count_parts rest) (drop (length (in_expression e)) (site ∷ sites)) ≡ behind_parts (count_parts rest) (drop site.size (site ∷ sites)) = ap (λ n. behind_parts (count_parts rest) (drop n (site ∷ sites))) (sym size) in
        let fits = begin_length (site ∷ sites) (in_expression e ++ in_expressions (c.an_expression next rest)) h in
        record {
          at = others.at;
          expression = others.expression;
          begin = subst (λ inside. BeginWith inside (in_expression others.expression)) skipped others.begin;
          stands = omega (arith, ap length skipped, others.stands, fits.1, length-append (in_expression e) (in_expressions (c.an_expression next rest)), length-drop (length (in_expression e)) (site ∷ sites));
          same = others.same;
        }

-- the sites begin with an expression in which the one stands that is looked for
pub record Leads (what : Wrapping) (at : ℕ) (sought : Part) (sites : List Site) : Type 0 where
  pub expression : c.Expression
  pub begin : BeginWith sites (in_expression expression)
  pub same : reached what at expression ≡ sought

in_marked : (what : Wrapping) (k j : ℕ) (marks : c.Marks) (e : c.Expression) (sites inside : List Site) → BeginWith sites (in_marks marks ++ in_expression e) → inside ≡ behind_parts (count_marks marks) sites →
    j + length inside ≡ k + 1 + length sites → reached what k (c.Marked marks e) ≡ reached what (k + 1 + length (in_marks marks)) e → Leads what j (reached what k (c.Marked marks e)) inside
in_marked what k j marks e sites inside h is stands same =
    let f : inside ≡ drop (length (in_marks marks)) sites = is ∙ behind_marks marks sites (in_expression e) h in
    let fits = begin_length sites (in_marks marks ++ in_expression e) h in
    let at : j ≡ k + 1 + length (in_marks marks) = omega (arith, ap length f, stands, fits.1, length-append (in_marks marks) (in_expression e), length-drop (length (in_marks marks)) sites) in
    record {
      expression = e;
      begin = subst (λ xs. BeginWith xs (in_expression e)) (sym f) (begin_behind sites (in_marks marks) (in_expression e) h);
      same = ap (λ n. reached what n e) at ∙ sym same;
    }

in_one : (what : Wrapping) (k j : ℕ) (x e : c.Expression) (sites inside : List Site) → BeginWith sites (in_expression e) → inside ≡ sites → j + length inside ≡ k + 1 + length sites →
    reached what k x ≡ reached what (k + 1) e → Leads what j (reached what k x) inside
in_one what k j x e sites inside h is stands same =
    let at : j ≡ k + 1 = omega (arith, ap length is, stands) in
    record { expression = e; begin = subst (λ xs. BeginWith xs (in_expression e)) (sym is) h; same = ap (λ n. reached what n e) at ∙ sym same }

in_comma : (k j : ℕ) (parts : c.Expressions) (sites inside : List Site) → BeginWith sites (in_expressions parts) → Some inside ≡ option_map (λ n. behind_parts n sites) (before_last parts) →
    j + length inside ≡ k + 1 + length sites → Leads wrapping.MarksAndCommas j (value_part k (c.Comma parts)) inside
in_comma k j c.no_expressions sites inside h is stands = absurd cc
in_comma k j (c.an_expression e es) sites inside h is stands =
    let f : inside ≡ behind_parts (count_parts es) sites = cc in
    let last = last_part k (k + 1) e es sites h in
    let at : j ≡ last.at = omega (arith, ap length f, stands, last.stands) in
    record {
      expression = last.expression;
      begin = subst (λ xs. BeginWith xs (in_expression last.expression)) (sym f) last.begin;
      same = ap (λ n. value_part n last.expression) at ∙ last.same;
    }

-- into the wrapping that is the first of the sites
inner_leads : (what : Wrapping) (k j : ℕ) (x : c.Expression) (site : Site) (sites inside : List Site) → BeginWith (site ∷ sites) (in_expression x) →
    Some inside ≡ option_map (λ n. behind_parts n sites) (before what (an_expression x)) → j + length inside ≡ k + 1 + length sites → Leads what j (reached what k x) inside
inner_leads wrapping.Marks k j (c.Marked marks e) site sites inside h is stands = in_marked wrapping.Marks k j marks e sites inside (begin_next site sites (an_expression (c.Marked marks e)) (in_marks marks ++ in_expression e) h) (cc) stands refl
inner_leads wrapping.MarksAndCommas k j (c.Marked marks e) site sites inside h is stands = in_marked wrapping.MarksAndCommas k j marks e sites inside (begin_next site sites (an_expression (c.Marked marks e)) (in_marks marks ++ in_expression e) h) (cc) stands refl
inner_leads wrapping.Marks k j (c.Decide e when_true when_false tag) site sites inside h is stands = in_one wrapping.Marks k j (c.Decide e when_true when_false tag) e sites inside (begin_next site sites (an_expression (c.Decide e when_true when_false tag)) (in_expression e) h) (cc) stands refl
inner_leads wrapping.MarksAndCommas k j (c.Decide e when_true when_false tag) site sites inside h is stands = in_one wrapping.MarksAndCommas k j (c.Decide e when_true when_false tag) e sites inside (begin_next site sites (an_expression (c.Decide e when_true when_false tag)) (in_expression e) h) (cc) stands refl
inner_leads wrapping.Marks k j (c.After e id tag) site sites inside h is stands = in_one wrapping.Marks k j (c.After e id tag) e sites inside (begin_next site sites (an_expression (c.After e id tag)) (in_expression e) h) (cc) stands refl
inner_leads wrapping.MarksAndCommas k j (c.After e id tag) site sites inside h is stands = in_one wrapping.MarksAndCommas k j (c.After e id tag) e sites inside (begin_next site sites (an_expression (c.After e id tag)) (in_expression e) h) (cc) stands refl
inner_leads wrapping.MarksAndCommas k j (c.Comma parts) site sites inside h is stands = in_comma k j parts sites inside (begin_next site sites (an_expression (c.Comma parts)) (in_expressions parts) h) is stands
inner_leads wrapping.Marks k j x site sites inside h is stands = absurd cc
inner_leads wrapping.MarksAndCommas k j x site sites inside h is stands = absurd cc

-- the first of the sites is none
reached_here : (what : Wrapping) (k : ℕ) (x : c.Expression) → before what (an_expression x) ≡ None → (reached what k x).number ≡ k
reached_here wrapping.Marks k (c.Marked marks e) is = absurd cc
reached_here wrapping.Marks k (c.Decide e when_true when_false tag) is = absurd cc
reached_here wrapping.Marks k (c.After e id tag) is = absurd cc
reached_here wrapping.Marks k x is = refl
reached_here wrapping.MarksAndCommas k (c.Marked marks e) is = absurd cc
reached_here wrapping.MarksAndCommas k (c.Decide e when_true when_false tag) is = absurd cc
reached_here wrapping.MarksAndCommas k (c.After e id tag) is = absurd cc
reached_here wrapping.MarksAndCommas k (c.Comma c.no_expressions) is = refl
reached_here wrapping.MarksAndCommas k (c.Comma (c.an_expression e es)) is = absurd cc
reached_here wrapping.MarksAndCommas k x is = refl

-- ---- the walk

-- the first site is the expression
is_expression : (x : c.Expression) (site : Site) (sites : List Site) → BeginWith (site ∷ sites) (in_expression x) → node_of site.node ≡ an_expression x
is_expression x site sites h =
    let head = expression_headed x in
    ap (λ (s : Sized). s.node) (begin_first site sites (an_expression x) head.0 (subst (BeginWith (site ∷ sites)) head.1 h))

not_none : (x : c.Expression) → BeginWith [] (in_expression x) → ⊥
not_none x h = none_begin (an_expression x) (expression_headed x).0 (subst (BeginWith []) (expression_headed x).1 h)

inner_step : (what : Wrapping) (k j : ℕ) (x : c.Expression) (sites inside : List Site) → BeginWith sites (in_expression x) → Some inside ≡ inner what sites → j + length inside ≡ k + length sites →
    Leads what j (reached what k x) inside
inner_step what k j x [] inside h is stands = absurd cc
inner_step what k j x (site ∷ sites) inside h is stands =
    inner_leads what k j x site sites inside h (is ∙ ap (λ node. option_map (λ n. behind_parts n sites) (before what node)) (is_expression x site sites h)) (omega (arith, stands))

pub led_on : (what : Wrapping) (k j : ℕ) (sought : Part) (sites : List Site) → k < j → j ≤ length sites → Some (drop j sites) ≡ inner what (drop k sites) → Leads what k sought (drop k sites) → Leads what j sought (drop j sites)
led_on what k j sought sites further within is leads =
    let next = inner_step what k j leads.expression (drop k sites) (drop j sites) leads.begin is (omega (arith, length-drop k sites, length-drop j sites)) in
    record { expression = next.expression; begin = next.begin; same = next.same ∙ leads.same }

no_wrapping : (what : Wrapping) (k : ℕ) (x : c.Expression) (sites : List Site) → BeginWith sites (in_expression x) → None ≡ inner what sites → (reached what k x).number ≡ k
no_wrapping what k x [] h is = absurd (not_none x h)
no_wrapping what k x (site ∷ sites) h is =
    reached_here what k x (nothing (λ n. behind_parts n sites) (before what (an_expression x)) (is ∙ ap (λ node. option_map (λ n. behind_parts n sites) (before what node)) (is_expression x site sites h)))
  where
    nothing : (f : ℕ → List Site) (o : Option ℕ) → None ≡ option_map f o → o ≡ None
    nothing f None is = refl
    nothing f (Some n) is = absurd cc

pub led_there : (what : Wrapping) (k : ℕ) (sought : Part) (sites : List Site) → None ≡ inner what (drop k sites) → Leads what k sought (drop k sites) → k ≡ sought.number
led_there what k sought sites is leads = sym (no_wrapping what k leads.expression (drop k sites) leads.begin is) ∙ ap (λ (p : Part). p.number) leads.same

pub led_off : (what : Wrapping) (k : ℕ) (sites : List Site) (unit : c.Unit) (e : c.Expression) → AreSitesOf sites unit → slice_get (nodes unit) k ≡ Some (an_expression e) → Leads what k (reached what k e) (drop k sites)
led_off what k sites unit e are is = record { expression = e; begin = begin_at sites unit k (an_expression e) are is; same = refl }

-- ---- the parts that are skipped

behind_none : (n : ℕ) → behind_parts n [] ≡ []
behind_none zero = refl
behind_none (suc n) = refl

pub behind_end : (n : ℕ) (sites : List Site) (end : ℕ) → length sites ≤ end → behind_parts n (drop end sites) ≡ behind_parts (suc n) (drop end sites)
behind_end n sites end past = let e = drop_all end sites past in ap (behind_parts n) e ∙ behind_none n ∙ sym (ap (behind_parts (suc n)) e)

pub behind_more : (n : ℕ) (sites : List Site) (end : ℕ) (site : Site) → end < length sites → site ≡ get_or sites end site →
    behind_parts n (drop (end + min site.size (length sites - end)) sites) ≡ behind_parts (suc n) (drop end sites)
behind_more n sites end site within is =
    let e : drop end sites ≡ site ∷ drop (end + 1) sites = drop_more sites end site within ∙ ap (λ s. s ∷ drop (end + 1) sites) (sym is) in
    ap (behind_parts n) (sym (drop-drop (min site.size (length sites - end)) end sites) ∙ ap (λ m. drop (min site.size m) (drop end sites)) (sym (length-drop end sites)) ∙ drop_min site.size (drop end sites) ∙ ap (drop site.size) e)
    ∙ sym (ap (behind_parts (suc n)) e)

-- one turn on, of so many
pub one_fewer : (count turn : ℕ) → turn < count → suc (count - (turn + 1)) ≡ count - turn
one_fewer count turn more = omega arith
