-- What is derived of an expression is read, rule by rule, C11 6.5.
use Rattle.std.proofs.Common.{◌≡◌, ℕ, zero, suc, ◌<◌, ◌≤◌, true, false, List, [], ◌∷◌, ◌++◌, length, Option, Some, refl, ap, ◌∙◌, arith}
use Rattle.lt_tree.specs.declared.expression.UnaryOp.{UnaryOp}
use Rattle.lt_tree.specs.declared.terminal.Terminal.{Terminal}
use Rattle.lt_tree.specs.declared.terminal.Terminal.TheVariants as t
use Rattle.lt_tree.specs.Tree as c
use Rattle.lt_tree.specs.Symbols.{Symbol, name, constant, literal, sign, start_of}
use Rattle.lt_tree.specs.Scope.{Scope, is_type}
use Rattle.lt_tree.specs.Operators.{prefix_of}
use Rattle.lt_tree.specs.Ahead.{sees, begins_specifier}
use Rattle.lt_tree.specs.Grammar as g
use Rattle.lt_tree.specs.Grammar.{IsText, IsLiteral}
use Rattle.lt_expr.specs.Literals.{begins_literal}
use Rattle.lt_expr.specs.Front.{◌>>=◌, begins_cast}
use Rattle.lt_expr.specs.Reading as r
use Rattle.lt_expr.specs.Walk.{Walked, walk, walk_all, walk_specifiers, walk_declarator}
use Rattle.lt_expr.proofs.CompleteFronts.{follows, prefix_is}
use Rattle.lt_expr.proofs.CompleteStarts.{IsPlain}
use Rattle.lt_expr.proofs.CompleteLiterals.{literal_is_value, text_is_read}
use Rattle.lt_expr.proofs.CompleteForms.{enough, Read, once, twice, thrice, node_of, Tails, Complete, Arguments}
use Rattle.lt_expr.proofs.CompleteSteps as step

-- ---- primary expressions

pub name_complete : (scope : Scope) (w : List ℕ) (at : ℕ) (rest : List Symbol) (more ends : List ℕ) → is_type scope w ≡ false
    → Complete g.primary scope (name w at ∷ rest) (c.Name w) rest (at ∷ more) more ends
name_complete scope w at rest more ends e quiet = once (at ∷ ends) refl (omega arith) (λ n big. step.primary_name n scope w at rest ends e)

pub constant_complete : (scope : Scope) (w : List ℕ) (at : ℕ) (rest : List Symbol) (more ends : List ℕ)
    → Complete g.primary scope (constant w at ∷ rest) (c.Constant w) rest (at ∷ more) more ends
constant_complete scope w at rest more ends quiet = once (at ∷ ends) refl (omega arith) (λ n big. step.primary_constant n scope w at rest ends)

no_literal : (rest : List Symbol) → follows rest ≤ 100 → begins_literal rest ≡ false
no_literal [] quiet = refl
no_literal (name w at ∷ rest) quiet = refl
no_literal (constant w at ∷ rest) quiet = refl
no_literal (literal w at ∷ rest) quiet = absurd (omega arith)
no_literal (sign k at ∷ rest) quiet = refl

pub text_complete : (scope : Scope) (more ends : List ℕ) {ts rest : List Symbol} {bytes : List ℕ} → IsText ts bytes rest
    → Complete g.primary scope ts (c.Text bytes) rest (start_of ts ∷ more) more ends
text_complete scope more ends (g.one_literal {w} {bytes} {at} {rest} l) quiet =
    once (at ∷ ends) refl (omega arith) (λ n big. step.primary_text n scope w at rest rest bytes ends (text_is_read (g.one_literal {at = at} l) (no_literal rest quiet)))
text_complete scope more ends (g.more_literals {w} {front} {bytes} {at} {ts} {rest} l d) quiet =
    once (at ∷ ends) refl (omega arith) (λ n big. step.primary_text n scope w at ts rest (front ++ bytes) ends (text_is_read (g.more_literals {at = at} l d) (no_literal rest quiet)))

pub parentheses_complete : (scope : Scope) (a b : ℕ) (ts rest : List Symbol) (e : c.Expression) (spots more ends : List ℕ)
    → Complete g.comma scope ts e (sign t.CloseParen b ∷ rest) spots more ends
    → Complete g.primary scope (sign t.OpenParen a ∷ ts) e rest spots more ends
parentheses_complete scope a b ts rest e spots more ends ce quiet =
    let d = ce refl in once d.now d.walked (omega arith) (λ n big. step.primary_inner n scope a b ts rest e ends d.now (d.reads n (omega arith)))

pub decide_complete : (scope : Scope) (at a b c' d f g' h i : ℕ) (ts rest : List Symbol) (e : c.Expression) (yes_id no_id raw tag spots more ends : List ℕ) → IsLiteral raw tag
    → Complete g.assignment scope ts e
    (sign t.Comma b ∷ constant yes_id c' ∷ sign t.Comma d ∷ constant no_id f ∷ sign t.Comma g' ∷ literal raw h ∷ sign t.CloseParen i ∷ rest) spots more ends
    → Complete g.primary scope (sign t.Decide at ∷ sign t.OpenParen a ∷ ts) (c.Decide e yes_id no_id tag) rest (at ∷ spots) more ends
decide_complete scope at a b c' d f g' h i ts rest e yes_id no_id raw tag spots more ends l ce quiet =
    let x = ce (omega arith) in
    twice (at ∷ x.now) (node_of (walk e) at x.now more ends spots x.walked) (omega arith)
    (λ n big. step.primary_decide n scope at a b c' d f g' h i ts rest e yes_id no_id raw tag ends x.now (x.reads n (omega arith)) (literal_is_value l))

pub after_complete : (scope : Scope) (at a b c' d f g' : ℕ) (ts rest : List Symbol) (e : c.Expression) (id raw tag spots more ends : List ℕ) → IsLiteral raw tag
    → Complete g.assignment scope ts e (sign t.Comma b ∷ constant id c' ∷ sign t.Comma d ∷ literal raw f ∷ sign t.CloseParen g' ∷ rest) spots more ends
    → Complete g.primary scope (sign t.After at ∷ sign t.OpenParen a ∷ ts) (c.After e id tag) rest (at ∷ spots) more ends
after_complete scope at a b c' d f g' ts rest e id raw tag spots more ends l ce quiet =
    let x = ce (omega arith) in
    thrice (at ∷ x.now) (node_of (walk e) at x.now more ends spots x.walked) (omega arith)
    (λ n big. step.primary_after (suc n) scope at a g' ts rest e id tag ends x.now
    (step.labelled_reads n scope a b c' d f ts (sign t.CloseParen g' ∷ rest) e id raw tag ends x.now (x.reads n (omega arith)) (literal_is_value l)))

-- ---- suffixes

pub primary_complete : (scope : Scope) (ts rest : List Symbol) (e : c.Expression) (spots more ends : List ℕ) → length rest < length ts
    → Complete g.primary scope ts e rest spots more ends → Complete g.postfix scope ts e rest spots more ends
primary_complete scope ts rest e spots more ends short ce quiet =
    let d = ce quiet in
    record { now = d.now; walked = d.walked; goes = λ n big. (n, omega arith, ap (λ x. x >>= λ (y : c.Expression × (List Symbol × List ℕ)). r.postfix n scope (start_of ts) y.0 y.1) (d.reads n big)) }

-- one more suffix, behind what was read
suffixed : {scope : Scope} {ts rest mid : List Symbol} {left e : c.Expression} {all spots between more ends : List ℕ} (d : Tails scope ts left mid spots between ends) (now : List ℕ)
    → walk e (now, more) ≡ (ends, all) → length rest < length mid
    → ((j : ℕ) → enough 1 mid (suc (suc j)) → r.postfix (suc (suc j)) scope (start_of ts) left (mid, d.now) ≡ r.postfix (suc j) scope (start_of ts) e (rest, now))
    → Tails scope ts e rest all more ends
suffixed {scope} {ts} {rest} {mid} {left} {e} {all} {spots} {between} {more} {ends} d now is short one = record { now = now; walked = is; goes = λ n big. (let k = d.goes n big in goes k.0 k.1 _ k.2) }
  where
    goes : (j : ℕ) → enough 1 mid j → (x : Option (c.Expression × (List Symbol × List ℕ))) → x ≡ r.postfix j scope (start_of ts) left (mid, d.now)
        → (i : ℕ) × enough 1 rest i × (x ≡ r.postfix i scope (start_of ts) e (rest, now))
    goes zero big x same = absurd (omega arith)
    goes (suc zero) big x same = absurd (omega arith)
    goes (suc (suc j)) big x same = (suc j, omega arith, same ∙ one j big)

pub index_complete : (scope : Scope) (a b : ℕ) (ts us rest : List Symbol) (whole place : c.Expression) (spots between more ends : List ℕ) → length rest < length us
    → Complete g.postfix scope ts whole (sign t.OpenIndex a ∷ us) spots between ends
    → ((now : List ℕ) → Complete g.comma scope us place (sign t.CloseIndex b ∷ rest) between more now)
    → Complete g.postfix scope ts (c.Index whole place) rest (start_of ts ∷ spots) more ends
index_complete scope a b ts us rest whole place spots between more ends short ca cb quiet =
    let d = ca (omega arith) in
    let x = cb d.now refl in
    suffixed d (start_of ts ∷ x.now) (node_of (λ v. walk whole (walk place v)) (start_of ts) x.now more ends spots (ap (walk whole) x.walked ∙ d.walked)) (omega arith)
    (λ j big. step.postfix_index j scope (start_of ts) a b whole place us rest d.now x.now (x.reads j (omega arith)))

arguments_read : (scope : Scope) (b : ℕ) (us rest : List Symbol) (arguments : c.Expressions) (spots more ends : List ℕ) → Arguments scope us arguments (sign t.CloseParen b ∷ rest) spots more ends
    → Read (λ n. r.arguments_by (r.arguments n scope)) walk_all 5 us arguments (sign t.CloseParen b ∷ rest) spots more ends
arguments_read scope b us rest c.no_expressions spots more ends ca =
    rw (ca.0, ca.1) (record { now = ends; walked = refl; reads = λ n big. step.no_arguments n scope b rest ends })
arguments_read scope b us rest (c.an_expression e es) spots more ends ca =
    let d = ca refl in record { now = d.1.now; walked = d.1.walked; reads = λ n big. rw d.0 (d.1.reads n big) }

pub call_complete : (scope : Scope) (a b : ℕ) (ts us rest : List Symbol) (callee : c.Expression) (arguments : c.Expressions) (spots between more ends : List ℕ) → length rest < length us
    → Complete g.postfix scope ts callee (sign t.OpenParen a ∷ us) spots between ends
    → ((now : List ℕ) → Arguments scope us arguments (sign t.CloseParen b ∷ rest) between more now)
    → Complete g.postfix scope ts (c.Call callee arguments) rest (start_of ts ∷ spots) more ends
call_complete scope a b ts us rest callee arguments spots between more ends short ca cb quiet =
    let d = ca (omega arith) in
    let x = arguments_read scope b us rest arguments between more d.now (cb d.now) in
    suffixed d (start_of ts ∷ x.now) (node_of (λ v. walk callee (walk_all arguments v)) (start_of ts) x.now more ends spots (ap (walk callee) x.walked ∙ d.walked)) (omega arith)
    (λ j big. step.postfix_call j scope (start_of ts) a b callee arguments us rest d.now x.now (x.reads j (omega arith)))

pub member_complete : (scope : Scope) (a b : ℕ) (w : List ℕ) (ts rest : List Symbol) (e : c.Expression) (spots more ends : List ℕ)
    → Complete g.postfix scope ts e (sign t.Dot a ∷ name w b ∷ rest) spots more ends → Complete g.postfix scope ts (c.Member e w) rest (start_of ts ∷ spots) more ends
member_complete scope a b w ts rest e spots more ends ca quiet =
    let d = ca (omega arith) in
    suffixed d (start_of ts ∷ d.now) (node_of (walk e) (start_of ts) d.now more ends spots d.walked) (omega arith) (λ j big. step.postfix_member j scope (start_of ts) a b e w rest d.now)

pub arrow_complete : (scope : Scope) (a b : ℕ) (w : List ℕ) (ts rest : List Symbol) (e : c.Expression) (spots more ends : List ℕ)
    → Complete g.postfix scope ts e (sign t.Arrow a ∷ name w b ∷ rest) spots more ends → Complete g.postfix scope ts (c.Arrow e w) rest (start_of ts ∷ spots) more ends
arrow_complete scope a b w ts rest e spots more ends ca quiet =
    let d = ca (omega arith) in
    suffixed d (start_of ts ∷ d.now) (node_of (walk e) (start_of ts) d.now more ends spots d.walked) (omega arith) (λ j big. step.postfix_arrow j scope (start_of ts) a b e w rest d.now)

pub increment_complete : (scope : Scope) (a : ℕ) (ts rest : List Symbol) (e : c.Expression) (spots more ends : List ℕ)
    → Complete g.postfix scope ts e (sign t.Increment a ∷ rest) spots more ends → Complete g.postfix scope ts (c.PostInc e) rest (start_of ts ∷ spots) more ends
increment_complete scope a ts rest e spots more ends ca quiet =
    let d = ca (omega arith) in
    suffixed d (start_of ts ∷ d.now) (node_of (walk e) (start_of ts) d.now more ends spots d.walked) (omega arith) (λ j big. step.postfix_increment j scope (start_of ts) a e rest d.now)

pub decrement_complete : (scope : Scope) (a : ℕ) (ts rest : List Symbol) (e : c.Expression) (spots more ends : List ℕ)
    → Complete g.postfix scope ts e (sign t.Decrement a ∷ rest) spots more ends → Complete g.postfix scope ts (c.PostDec e) rest (start_of ts ∷ spots) more ends
decrement_complete scope a ts rest e spots more ends ca quiet =
    let d = ca (omega arith) in
    suffixed d (start_of ts ∷ d.now) (node_of (walk e) (start_of ts) d.now more ends spots d.walked) (omega arith) (λ j big. step.postfix_decrement j scope (start_of ts) a e rest d.now)

-- ---- arguments

pub last_argument_complete : (scope : Scope) (ts rest : List Symbol) (e : c.Expression) (spots more ends : List ℕ) → sees t.CloseParen ts ≡ false
    → Complete g.assignment scope ts e rest spots more ends → Arguments scope ts (c.an_expression e c.no_expressions) rest spots more ends
last_argument_complete scope ts rest e spots more ends front ce quiet =
    let d = ce (omega arith) in (front, once d.now d.walked (omega arith) (λ n big. step.last_argument n scope ts rest e ends d.now quiet (d.reads n (omega arith))))

pub more_arguments_complete : (scope : Scope) (a : ℕ) (ts us rest : List Symbol) (e f : c.Expression) (es : c.Expressions) (spots between more ends : List ℕ)
    → sees t.CloseParen ts ≡ false → length us < length ts
    → Complete g.assignment scope ts e (sign t.Comma a ∷ us) spots between ends
    → ((now : List ℕ) → Arguments scope us (c.an_expression f es) rest between more now)
    → Arguments scope ts (c.an_expression e (c.an_expression f es)) rest spots more ends
more_arguments_complete scope a ts us rest e f es spots between more ends front short ca cb quiet =
    let x = ca (omega arith) in
    let y = (cb x.now quiet).1 in (
      front,
      once y.now (ap (walk e) y.walked ∙ x.walked) (omega arith)
          (λ n big. step.more_arguments n scope a ts us rest e (c.an_expression f es) ends x.now y.now (x.reads n (omega arith)) (y.reads n (omega arith))),
    )

-- ---- prefixes

pub postfix_complete : (scope : Scope) (ts rest : List Symbol) (e : c.Expression) (spots more ends : List ℕ) → IsPlain scope ts
    → Complete g.postfix scope ts e rest spots more ends → Complete g.unary scope ts e rest spots more ends
postfix_complete scope ts rest e spots more ends plain ce quiet =
    let d = ce (omega arith) in
    once d.now d.walked (omega arith)
    (λ n big. let k = d.goes n (omega arith) in step.unary_plain n scope ts ends plain ∙ k.2 ∙ step.postfix_stops k.0 scope (start_of ts) e rest d.now (omega (arith, k.1)) quiet)

pub increment_before_complete : (scope : Scope) (at : ℕ) (ts rest : List Symbol) (e : c.Expression) (spots more ends : List ℕ)
    → Complete g.unary scope ts e rest spots more ends → Complete g.unary scope (sign t.Increment at ∷ ts) (c.PreInc e) rest (at ∷ spots) more ends
increment_before_complete scope at ts rest e spots more ends ce quiet =
    let d = ce quiet in
    once (at ∷ d.now) (node_of (walk e) at d.now more ends spots d.walked) (omega arith) (λ n big. step.unary_increment n scope at ts rest e ends d.now (d.reads n (omega arith)))

pub decrement_before_complete : (scope : Scope) (at : ℕ) (ts rest : List Symbol) (e : c.Expression) (spots more ends : List ℕ)
    → Complete g.unary scope ts e rest spots more ends → Complete g.unary scope (sign t.Decrement at ∷ ts) (c.PreDec e) rest (at ∷ spots) more ends
decrement_before_complete scope at ts rest e spots more ends ce quiet =
    let d = ce quiet in
    once (at ∷ d.now) (node_of (walk e) at d.now more ends spots d.walked) (omega arith) (λ n big. step.unary_decrement n scope at ts rest e ends d.now (d.reads n (omega arith)))

pub prefixed_complete : (scope : Scope) (k : Terminal) (op : UnaryOp) (at : ℕ) (ts rest : List Symbol) (e : c.Expression) (spots more ends : List ℕ) → prefix_of k ≡ Some op
    → Complete g.cast scope ts e rest spots more ends → Complete g.unary scope (sign k at ∷ ts) (c.Unary op e) rest (at ∷ spots) more ends
prefixed_complete scope k op at ts rest e spots more ends p ce quiet =
    let d = ce quiet in
    once (at ∷ d.now) (node_of (walk e) at d.now more ends spots d.walked) (omega arith)
    (λ n big. step.unary_prefixed n scope k op at ts rest e ends d.now (prefix_is k op p) p (d.reads n (omega arith)))

pub size_complete : (scope : Scope) (at : ℕ) (ts rest : List Symbol) (e : c.Expression) (spots more ends : List ℕ) → begins_cast scope ts ≡ false
    → Complete g.unary scope ts e rest spots more ends → Complete g.unary scope (sign t.Sizeof at ∷ ts) (c.SizeofExpr e) rest (at ∷ spots) more ends
size_complete scope at ts rest e spots more ends front ce quiet =
    let d = ce quiet in
    twice (at ∷ d.now) (node_of (walk e) at d.now more ends spots d.walked) (omega arith) (λ n big. step.unary_size n scope at ts rest e ends d.now front (d.reads n (omega arith)))

abbrev pub walk_name : c.Specifiers × c.Declarator → Walked → Walked
walk_name x v = walk_specifiers x.0 (walk_declarator x.1 v)

pub size_of_type_complete : (scope : Scope) (at a b : ℕ) (ts rest : List Symbol) (ss : c.Specifiers) (d : c.Declarator) (spots more ends : List ℕ) → begins_specifier scope false ts ≡ true
    → Read (λ n. r.type_name n scope) walk_name 4 ts (ss, d) (sign t.CloseParen b ∷ rest) spots more ends
    → Complete g.unary scope (sign t.Sizeof at ∷ sign t.OpenParen a ∷ ts) (c.SizeofType ss d) rest (at ∷ spots) more ends
size_of_type_complete scope at a b ts rest ss d spots more ends front x quiet =
    twice (at ∷ x.now) (node_of (walk_name (ss, d)) at x.now more ends spots x.walked) (omega arith)
    (λ n big. step.unary_size_of_type n scope at a b ts rest ss d ends x.now front (x.reads n (omega arith)))

pub unary_complete : (scope : Scope) (ts rest : List Symbol) (e : c.Expression) (spots more ends : List ℕ) → begins_cast scope ts ≡ false
    → Complete g.unary scope ts e rest spots more ends → Complete g.cast scope ts e rest spots more ends
unary_complete scope ts rest e spots more ends front ce quiet =
    let d = ce quiet in once d.now d.walked (omega arith) (λ n big. step.operand_unary n scope ts ends front ∙ d.reads n (omega arith))

pub cast_complete : (scope : Scope) (at b : ℕ) (ts us rest : List Symbol) (ss : c.Specifiers) (d : c.Declarator) (e : c.Expression) (spots between more ends : List ℕ)
    → begins_specifier scope false ts ≡ true → length us < length ts
    → Read (λ n. r.type_name n scope) walk_name 4 ts (ss, d) (sign t.CloseParen b ∷ us) spots between ends
    → ((now : List ℕ) → Complete g.cast scope us e rest between more now)
    → Complete g.cast scope (sign t.OpenParen at ∷ ts) (c.Cast ss d e) rest (at ∷ spots) more ends
cast_complete scope at b ts us rest ss d e spots between more ends front short x ce quiet =
    let y = ce x.now quiet in
    once (at ∷ y.now) (node_of (λ v. walk_name (ss, d) (walk e v)) at y.now more ends spots (ap (walk_name (ss, d)) y.walked ∙ x.walked)) (omega arith)
    (λ n big. step.operand_cast n scope at b ts us rest ss d e ends x.now y.now front (x.reads n (omega arith)) (y.reads n (omega arith)))
