-- The code of arguments, of calls and of comma expressions does what they do, where that of their parts does.
use Rattle.std.proofs.Common.{◌≡◌, ℕ, suc, ◌+◌, ◌<◌, ◌≤◌, List, [], ◌∷◌, length, Some, Bool, true, false, refl, sym, ap, ◌∙◌, subst, arith, if◌then◌else◌}
use Rattle.lt_model.specs.declared.cell.Content.{Content}
use Rattle.lt_model.specs.declared.cell.Content.TheVariants as content
use Rattle.lt_model.specs.State.{Footprint, Valued, untouched, Gives}
use Rattle.lt_tree.specs.Typing.Types.{CType, is_struct}
use Rattle.lt_tree.specs.Typing.TypedTree as e
use Rattle.lt_tree.specs.Typing.TypedTree.{Value, Values, no_values, a_value, type_of}
use Rattle.lt_tree.specs.Typing.Programs.{Program}
use Rattle.lt_ir.specs.declared.graph.Graph.{Graph}
use Rattle.lt_ir.specs.declared.node.Parts.TheVariants.{Read}
use Rattle.lt_ir.specs.declared.node.Node.{Node}
use Rattle.lt_ir.specs.declared.node.Node.TheVariants as node
use Rattle.lt_ir.specs.declared.pure.How.TheVariants as how
use Rattle.lt_ir.specs.Running.{At, Over, gives, ◌>>=◌}
use Rattle.lt_ir.specs.Evaluation.{valued, used, grown, settled_in, apart, with_reads}
use Rattle.lt_ir.specs.Graph.{Frame, Register, register_at, footprint_at, contents_from, node_at}
use Rattle.lt_meaning.specs.Expressions.{Calls, Fate, unconverted, dropped, takes, of_last, fate_of_part, late as late_in, passed as passed_in, cells_of, taken, with_argument, comma_from, eval, arguments_of as arguments_in, parts_of as parts_in}
use Rattle.lt_code.specs.Pieces.{Stands, when}
use Rattle.lt_code.specs.Code.{with_access, reads, passed, call, codes_of, count_of, parts_of}
use Rattle.lt_code.proofs.Finishing.{finish, Finishes, conf, Later, later_same, later_still}
use Rattle.lt_code.proofs.Registers.{After, HoldAll, Passed, tracked_same, replaced_twice, passed_none, passed_more, hold_all_still, contents_held, after_any, after_none, after_first, after_above, after_since, after_tracked, after_merged, after_puts, after_no_arguments, after_arguments, after_arguments_tracked, after_arguments_merged, after_call}
use Rattle.lt_code.proofs.Nodes.{Scene, program_at, here_in, wide, Run, Tracking, constant_node, convert_node, content_moved_node, unsequenced_node, sequenced_node, settled_node, read_node, bind_run}
use Rattle.lt_code.proofs.Operands.{Expr, Arguments, Follows, takes_last, late_run}

-- ---- the reads of a struct that is taken

taken_by_kind : (z : Scene) (b : Bool) (t : CType) (r i to : ℕ) → when b (when z.site.tracks (with_access z.site t (Read r))) i to → (rs : List Register) (at : At) (x : Valued Content) → r < length rs → (register_at rs r).content ≡ Some x.value → footprint_at rs r ≡ x.footprint → (k : Footprint → At → Over) → Tracking z r to rs at k → Run z i rs at (finish ((if b then with_reads z.site.tracks (cells_of (program_at z) t) x else gives x.footprint) at) k)
taken_by_kind z true t r i to has rs at x lt ec ep k h = read_node z t i r to has rs at x k lt ec ep h
taken_by_kind z false t r i to has rs at x lt ec ep k h =
    subst (λ i. Run z i rs at (k x.footprint at)) (sym has) (h x.footprint at rs (tracked_same r x.footprint rs ep) (later_same at))

pub taken_run : (z : Scene) (t : CType) (r i to : ℕ) → reads z.site t r i to → (rs : List Register) (at : At) (x : Valued Content) → r < length rs → (register_at rs r).content ≡ Some x.value → footprint_at rs r ≡ x.footprint → (k : Footprint → At → Over) → Tracking z r to rs at k → Run z i rs at (finish (taken (here_in z) t x at) k)
taken_run z t r i to has rs at x lt ec ep k h = taken_by_kind z (is_struct t) t r i to has rs at x lt ec ep k h

-- ---- arguments

pub no_arguments_run : (z : Scene) → Arguments z no_values
no_arguments_run z r from to has rs long at le k h =
    constant_node z from r to content.Unset rs at _ has.1 (omega (arith, has.0)) (λ rs1 wr. h (valued [] untouched) at rs1 (after_no_arguments (wide z) r rs rs1 content.Unset untouched long has.0 wr) (later_same at))

pub more_arguments_run : (z : Scene) (v : Value) (vs : Values) → Expr z v → Arguments z vs → Arguments z (a_value v vs)
more_arguments_run z v vs expr arguments r from to has rs long at le k h =
    let w = wide z in
    let here = here_in z in
    let b = z.site.tracks in
    let t = type_of v in
    bind_run z from rs (eval here unconverted v) (λ x. arguments_in here vs >>= (λ xs. with_argument here t x xs)) at k (expr unconverted r from has.1.0 has.1.1 rs long at le _ (λ x at1 rs1 a l1.
    bind_run z has.1.0 rs1 (arguments_in here vs) (λ xs. with_argument here t x xs) at1 k (arguments (r + 1) has.1.0 has.1.2.0 has.1.2.1 rs1 a.long at1 (omega (arith, l1.ticks)) _ (λ xs at2 rs2 b2 l2.
    let c2 = after_arguments w r (count_of vs) rs rs1 rs2 x xs a b2 in
    bind_run z has.1.2.0 rs2 (taken here t x) (λ p. apart b p xs.footprint >>= (λ q. gives (valued (x.value ∷ xs.value) q))) at2 k (taken_run z t r has.1.2.0 has.1.2.2.0 has.1.2.2.1 rs2 at2 x (omega (arith, c2.long, has.0)) (ap (λ y. y.content) (b2.below r (omega arith)) ∙ a.content refl) c2.footprint _ (λ p at3 rs3 tr l3.
    let c3 = after_arguments_tracked w r (suc (count_of vs)) rs rs2 rs3 (valued (x.value ∷ xs.value) x.footprint) p c2 tr in
    bind_run z has.1.2.2.0 rs3 (apart b p xs.footprint) (λ q. gives (valued (x.value ∷ xs.value) q)) at3 k (unsequenced_node z has.1.2.2.0 r (r + 1) to has.1.2.2.2 rs3 at3 p xs.footprint _ (omega (arith, c3.long, has.0)) (omega (arith, c3.long, has.0)) tr.footprint (ap (λ y. y.footprint) (tr.others (r + 1) (λ e. absurd (omega arith))) ∙ b2.footprint) (λ q at4 rs4 wr l4.
    h (valued (x.value ∷ xs.value) q) at4 rs4 (after_arguments_merged w r (suc (count_of vs)) rs rs3 rs4 (valued (x.value ∷ xs.value) p) q c3 wr) (later_still at at1 at4 l1 (later_still at1 at2 at4 l2 (later_still at2 at3 at4 l3 l4)))))))))))

-- the values of arguments, each converted and there
passed_run : (z : Scene) (vs : Values) (r i to : ℕ) → passed z.site vs r i to → (rs : List Register) (at : At) (xs : List Content) (k : List Content → At → Over) → HoldAll rs r xs → length xs ≡ count_of vs → r + count_of vs ≤ length rs → ((ys : List Content) (at1 : At) (rs1 : List Register) → Passed r rs rs1 ys → length ys ≡ count_of vs → Later at at1 → Run z to rs1 at1 (k ys at1)) → Run z i rs at (finish (passed_in (program_at z) vs xs at) k)
passed_run z no_values r i to has rs at xs k held count room h = subst (λ i. Run z i rs at (k [] at)) (sym has) (h [] at rs (passed_none r rs) refl (later_same at))
passed_run z (a_value v vs) r i to has rs at [] k held count room h = absurd (omega arith)
passed_run z (a_value v vs) r i to has rs at (c ∷ cs) k held count room h =
    bind_run z i rs (late_in (program_at z) v c >>= used) (λ x. passed_in (program_at z) vs cs >>= (λ ys. gives (x ∷ ys))) at k (bind_run z i rs (late_in (program_at z) v c) used at _ (late_run z v r i has.0 has.1 rs at c _ (omega (arith, room)) held.0 (λ d at1 rs1 re1 l1.
    convert_node z has.0 r r has.2.0 how.ToValue rs1 at1 d _ has.2.1 (omega (arith, room, re1.long)) re1.content (λ x at2 rs2 re2 l2.
    let re = replaced_twice r d x rs rs1 rs2 re1 re2 in
    bind_run z has.2.0 rs2 (passed_in (program_at z) vs cs) (λ ys. gives (x ∷ ys)) at2 k (passed_run z vs (r + 1) has.2.0 to has.2.2 rs2 at2 cs _ (subst (λ m. HoldAll rs2 m cs) (omega arith) (hold_all_still rs rs2 cs (suc r) (λ i le. ap (λ y. y.content) (re.others i (λ e. absurd (omega arith)))) held.1)) (omega (arith, count)) (omega (arith, room, re.long)) (λ ys at3 rs3 p count3 l3.
    h (x ∷ ys) at3 rs3 (passed_more r rs rs2 rs3 x ys re p) (ap suc count3) (later_still at at1 at3 l1 (later_still at1 at2 at3 l2 l3))))))))

-- ---- calls

-- What a call gives is what the graph's tick and call do, while at most n ticks are left.
pub record CallsRun (graph : Graph) (program : Program) (calls : Calls) (n : ℕ) : Type 1 where
  pub by : (P : Stands) (f : ℕ) → ((i : ℕ) (m : Node) → P i m → node_at graph f i ≡ Some m) → (i j w r count to : ℕ) (name : List ℕ) (t : CType) (is_taken : Bool) → P i (node.Tick j) → call P graph.stubs program.functions is_taken name t r count j to → (rs : List Register) (stack : List Frame) (at : At) → length rs ≡ w → r < w → at.ticks ≤ n → (xs : List Content) → ((at1 : At) → contents_from rs r count at1 ≡ Gives xs at1) → (k : Content → At → Over) → ((c : Content) (at1 : At) (rs1 : List Register) → After is_taken w r rs rs1 (valued c (footprint_at rs r)) → Later at at1 → Finishes graph (conf f to rs1 stack at1) (k c at1)) → Finishes graph (conf f i rs stack at) (finish (calls name t xs is_taken at) k)

pub call_runs : (z : Scene) → CallsRun z.graph (program_at z) z.calls z.most → (t : CType) (name : List ℕ) (vs : Values) → Arguments z vs → Expr z (e.Call t name vs)
call_runs z ok t name vs arguments fate r from to has rs long at le k h =
    let w = wide z in
    let b = z.site.tracks in
    let P = has.1 in
    bind_run z from rs (arguments_in (here_in z) vs) (λ xs. passed_in (program_at z) vs xs.value >>= (λ ys. z.calls name t ys (takes fate) >>= (λ c. gives (valued c (settled_in b xs.footprint))))) at k (arguments r from P.0 P.1 rs long at le _ (λ xs at1 rs1 a l1.
    let q = settled_in b xs.footprint in
    settled_node z P.0 r P.2.0 P.2.1 rs1 at1 xs.footprint _ (omega (arith, a.long, has.0)) a.footprint (λ rs2 wr.
    let c2 = after_arguments_tracked w r (count_of vs) rs rs1 rs2 xs q a wr in
    bind_run z P.2.0 rs2 (passed_in (program_at z) vs xs.value) (λ ys. z.calls name t ys (takes fate) >>= (λ c. gives (valued c q))) at1 k (passed_run z vs r P.2.0 P.2.2.0 P.2.2.1 rs2 at1 xs.value _ c2.contents c2.count (omega (arith, c2.room, c2.long)) (λ ys at2 rs3 p count l2.
    bind_run z P.2.2.0 rs3 (z.calls name t ys (takes fate)) (λ c. gives (valued c q)) at2 k (ok.by z.site.stands z.code z.nodes P.2.2.0 P.2.2.2.0 w r (count_of vs) to name t (takes fate) P.2.2.2.1 (subst (λ stubs. call z.site.stands stubs (program_at z).functions (takes fate) name t r (count_of vs) P.2.2.2.0 to) (sym z.stubs) P.2.2.2.2) rs3 z.stack at2 (p.long ∙ c2.long) has.0 (omega (arith, l1.ticks, l2.ticks)) ys (λ at. subst (λ n. contents_from rs3 r n at ≡ Gives ys at) count (contents_held rs3 ys r p.contents at)) _ (λ c at3 rs4 a3 l3.
    h (valued c q) at3 rs4 (after_call (takes fate) w r (count_of vs) rs rs2 rs3 rs4 (valued xs.value q) ys c c2 p a3) (later_still at at1 at3 l1 (later_still at1 at2 at3 l2 l3)))))))))

-- ---- comma expressions

-- The code of the parts behind the first, where that of the first does what it does; the footprint of those before is in r.
abbrev pub PartsRun : Scene → Values → Type 0
PartsRun z vs =
    (v : Value) → Expr z v → (fate : Fate) → takes fate ≡ true → (r from to : ℕ) → parts_of z.site fate ((codes_of z.site v).value (fate_of_part fate vs)) vs r from to → (rs : List Register) → length rs ≡ wide z → (before : Footprint) → footprint_at rs r ≡ before → (at : At) → at.ticks ≤ z.most → (k : Valued Content → At → Over) → Follows z true r to rs at k → Run z from rs at (finish ((eval (here_in z) (fate_of_part fate vs) v >>= (λ x. comma_from z.site.tracks before x (parts_in (here_in z) fate vs))) at) k)

pub last_part_runs : (z : Scene) → PartsRun z no_values
last_part_runs z v expr fate is_taken r from to has rs long before e at le k h =
    let w = wide z in
    let b = z.site.tracks in
    let P = has.1 in
    bind_run z from rs (eval (here_in z) fate v) (λ x. gives (valued x.value (grown b before x.footprint))) at k (expr fate (r + 1) from P.0 P.1 rs long at le _ (λ x at1 rs1 a0 l.
    let a1 = subst (λ b. After b w (r + 1) rs rs1 x) is_taken a0 in
    let a = after_above false true w r (r + 1) rs rs rs1 (valued content.Unset before) x (omega arith) (after_none w r rs (valued content.Unset before) long e) a1 in
    sequenced_node z P.0 r (r + 1) P.2.0 P.2.1 rs1 at1 before x.footprint _ (omega (arith, a.long, has.0)) (omega (arith, a.long, has.0)) a.footprint a1.footprint (λ rs2 wr.
    let a2 = after_merged false w r (r + 1) rs rs1 rs2 (valued content.Unset before) (grown b before x.footprint) (omega arith) a wr in
    content_moved_node z P.2.0 r (r + 1) to rs2 at1 x.value _ P.2.2 (omega (arith, a2.long, has.0)) (wr.contents (r + 1) ∙ a1.content refl) (λ rs3 wr2.
    h (valued x.value (grown b before x.footprint)) at1 rs3 (after_puts false true w r rs rs2 rs3 (valued content.Unset (grown b before x.footprint)) x.value a2 wr2) l))))

pub more_parts_run : (z : Scene) (next : Value) (rest : Values) → Expr z next → PartsRun z rest → PartsRun z (a_value next rest)
more_parts_run z next rest expr_next parts v expr fate is_taken r from to has rs long before e at le k h =
    let w = wide z in
    let b = z.site.tracks in
    let P = has.1 in
    bind_run z from rs (eval (here_in z) dropped v) (λ x. eval (here_in z) (fate_of_part fate rest) next >>= (λ y. comma_from b (grown b before (settled_in b x.footprint)) y (parts_in (here_in z) fate rest))) at k (expr dropped (r + 1) from P.0 P.1 rs long at le _ (λ x at1 rs1 a1 l.
    let q = settled_in b x.footprint in
    settled_node z P.0 (r + 1) P.2.0 P.2.1 rs1 at1 x.footprint _ (omega (arith, a1.long, has.0)) a1.footprint (λ rs2 wr.
    let a2 = after_tracked true w (r + 1) rs rs1 rs2 x q a1 wr in
    let a = after_above false true w r (r + 1) rs rs rs2 (valued content.Unset before) _ (omega arith) (after_none w r rs (valued content.Unset before) long e) a2 in
    sequenced_node z P.2.0 r (r + 1) P.2.2.0 P.2.2.1 rs2 at1 before q _ (omega (arith, a.long, has.0)) (omega (arith, a.long, has.0)) a.footprint a2.footprint (λ rs3 wr2.
    let a3 = after_merged false w r (r + 1) rs rs2 rs3 (valued content.Unset before) (grown b before q) (omega arith) a wr2 in
    parts next expr_next fate is_taken r P.2.2.0 to P.2.2.2 rs3 a3.long (grown b before q) a3.footprint at1 (omega (arith, l.ticks)) k (λ y at2 rs4 a4 l2.
    h y at2 rs4 (after_since false true w r rs rs3 rs4 _ y a3 a4) (later_still at at1 at2 l l2))))))

pub no_comma_runs : (z : Scene) (t : CType) → Expr z (e.Comma t no_values)
no_comma_runs z t fate r from to has rs long at le k h =
    constant_node z from r to content.Unset rs at _ has.1 (omega (arith, has.0)) (λ rs1 wr. h (valued content.Unset untouched) at rs1 (after_first (takes fate) (wide z) r rs rs1 content.Unset untouched long wr) (later_same at))

pub comma_runs : (z : Scene) (t : CType) (v : Value) (vs : Values) → Expr z v → PartsRun z vs → Expr z (e.Comma t (a_value v vs))
comma_runs z t v vs expr parts fate r from to has rs long at le k h =
    constant_node z from r has.1.0 content.Unset rs at _ has.1.1 (omega (arith, has.0)) (λ rs1 wr.
    let a = after_first false (wide z) r rs rs1 content.Unset untouched long wr in
    parts v expr (of_last fate) (takes_last fate) r has.1.0 to has.1.2 rs1 a.long untouched a.footprint at le k (λ y at1 rs2 a1 l.
    h y at1 rs2 (after_any (takes fate) (wide z) r rs rs2 y (after_since false true (wide z) r rs rs1 rs2 _ y a a1)) l))
