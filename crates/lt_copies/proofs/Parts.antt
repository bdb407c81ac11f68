-- Steps of the walks along a list of nodes, and what they come to.
use Rattle.std.proofs.Common.{◌≡◌, refl, sym, ap, ◌∙◌, ℕ, zero, suc, ◌+◌, ◌-◌, ◌^◌, ◌<◌, ◌≤◌, min, Bool, true, false, List, [], ◌∷◌, ◌++◌, length, map, take, drop, get_or, reverse, drop-cons, length-drop, append_assoc, arith}
use Rattle.std.specs.Prelude.{nat_le}
use Rattle.std.specs.List.{list_all}
use Rattle.std.proofs.Math.Seq.{drop-length}
use Rattle.std.proofs.lemmas.List.{append-nil, length-map, drop-drop, reverse-append}
use Rattle.std.proofs.lemmas.Bool.Decides.{nat_tests}
use Rattle.lt_tree.specs.Tree as c
use Rattle.lt_tree.specs.Nodes.{Node, nodes}
use Rattle.lt_objectives.specs.Places.{sites_from, sites}
use Rattle.lt_objectives.specs.Tags.{fits, fitting_nodes}
use Rattle.lt_objectives.specs.Copies.{all_fit}
use Rattle.lt_sites.specs.declared.site.Site.{Site}
use Rattle.lt_sites.specs.Sites.{in_node, part_of, node_of, entry_of, AreSitesOf}
use Rattle.lt_copies.specs.Fitting.{fits_at}
use Rattle.lt_copies.specs.Blocks.{BlocksValue, tags_of}
use Rattle.lt_copies.specs.Judged.{inside, judged, whole_parts, run_from, run_of}

-- ---- nodes

here_on : (list : List Site) (k : ℕ) (x d : Site) → k < length list → x ≡ get_or list k d → drop k list ≡ x ∷ drop (k + 1) list
here_on list k x d within is =
    let more : suc k ≡ k + 1 = omega arith in
    drop-cons list k d within ∙ ap (λ y. y ∷ drop (suc k) list) (sym is) ∙ ap (λ n. x ∷ drop n list) more

left_with : (list : List Site) (k : ℕ) → k < length list → suc (length (map entry_of (drop (k + 1) list))) ≡ length list - k
left_with list k within = omega (arith, length-map (drop (k + 1) list) entry_of, length-drop (k + 1) list)

-- one node that is judged, behind others
pub next_judged : (list : List Site) (k : ℕ) (x : Site) (blocks now : BlocksValue) (before : List Bool) (judgement : Bool) → k < length list → x ≡ get_or list k x → now ≡ inside (length list - k) (entry_of x) blocks
    → judgement ≡ fits (tags_of now.frames) (node_of x.node) → (before ++ judgement ∷ []) ++ judged (map entry_of (drop (k + 1) list)) now ≡ before ++ judged (map entry_of (drop k list)) blocks
next_judged list k x blocks now before judgement within is enters fit =
    let rest = map entry_of (drop (k + 1) list) in
    let same : inside (suc (length rest)) (entry_of x) blocks ≡ now = ap (λ n. inside n (entry_of x) blocks) (left_with list k within) ∙ sym enters in
    append_assoc before (judgement ∷ []) (judged rest now)
    ∙ ap (λ b. before ++ b ∷ judged rest now) fit
    ∙ ap (λ (there : BlocksValue). before ++ fits (tags_of there.frames) (node_of x.node) ∷ judged rest there) (sym same)
    ∙ ap (λ zs. before ++ judged (map entry_of zs) blocks) (sym (here_on list k x x within is))

-- the last node is judged
pub all_judged : (list : List Site) (k : ℕ) (blocks : BlocksValue) (before : List Bool) → length list ≤ k → k ≤ length list → before ≡ before ++ judged (map entry_of (drop k list)) blocks
all_judged list k blocks before far near =
    let end : length list ≡ k = omega arith in
    sym (append-nil before) ∙ ap (λ zs. before ++ judged (map entry_of zs) blocks) (sym (drop-length list)) ∙ ap (λ n. before ++ judged (map entry_of (drop n list)) blocks) end

-- ---- parts

pub next_run : (fitting : List Bool) (k : ℕ) (d : Bool) → k < length fitting → run_from (get_or fitting k d) (run_of (drop (k + 1) fitting)) ≡ run_of (drop k fitting)
next_run fitting k d within =
    let more : k + 1 ≡ suc k = omega arith in
    ap (λ n. run_from (get_or fitting k d) (run_of (drop n fitting))) more ∙ sym (ap run_of (drop-cons fitting k d within))

one_less : (size run : ℕ) → suc size ≤ 2 ^ 64 - 1 → nat_le size run ≡ nat_le (suc size) (min (run + 1) (2 ^ 64 - 1))
one_less size run within = grind (arith, nat_tests)

pub fit_along : (fitting : List Bool) (size : ℕ) → size ≤ 2 ^ 64 - 1 → nat_le size (run_of fitting) ≡ list_all (λ it. it) (take size fitting)
fit_along [] zero within = grind (arith, nat_tests)
fit_along [] (suc size) within = grind (arith, nat_tests)
fit_along (b ∷ bs) zero within = grind (arith, nat_tests)
fit_along (false ∷ bs) (suc size) within = grind (arith, nat_tests)
fit_along (true ∷ bs) (suc size) within = sym (one_less size (run_of bs) within) ∙ fit_along bs size (omega (arith, within))

-- one part, before those behind it
pub next_part : (list : List Site) (fitting whole now : List Bool) (run at : ℕ) (x d : Site) (is_whole : Bool) → 0 < at → at ≤ length list → x ≡ get_or list (at - 1) d → x.size ≤ 2 ^ 64 - 1
    → reverse whole ≡ whole_parts (drop at fitting) (map entry_of (drop at list)) → run ≡ run_of (drop (at - 1) fitting) → is_whole ≡ nat_le x.size run → now ≡ whole ++ is_whole ∷ []
    → reverse now ≡ whole_parts (drop (at - 1) fitting) (map entry_of (drop (at - 1) list))
next_part list fitting whole now run at x d is_whole some within is small others run_is tested pushed =
    let k = at - 1 in
    let more : at ≡ k + 1 = omega arith in
    let there : k < length list = omega arith in
    ap reverse pushed ∙ reverse-append whole (is_whole ∷ [])
    ∙ ap (λ b. b ∷ reverse whole) (tested ∙ ap (nat_le x.size) run_is ∙ fit_along (drop k fitting) x.size small)
    ∙ ap (λ zs. list_all (λ it. it) (take x.size (drop k fitting)) ∷ zs) (others ∙ ap (λ n. whole_parts (drop n fitting) (map entry_of (drop n list))) more ∙ ap (λ zs. whole_parts zs (map entry_of (drop (k + 1) list))) (sym (drop-drop 1 k fitting)))
    ∙ ap (λ zs. whole_parts (drop k fitting) (map entry_of zs)) (sym (here_on list k x d there is))

parts_from : (fitting : List Bool) (k : ℕ) (list : List Node) → whole_parts (drop k fitting) (map part_of list) ≡ map (λ site. all_fit fitting site.number (length (in_node site.node))) (sites_from k list)
parts_from fitting k [] = refl
parts_from fitting k (x ∷ xs) =
    ap (λ zs. all_fit fitting k (length (in_node x)) ∷ zs) (ap (λ zs. whole_parts zs (map part_of xs)) (drop-drop 1 k fitting) ∙ parts_from fitting (k + 1) xs)

-- of all nodes of a unit
pub unit_parts : (list : List Site) (unit : c.Unit) (fitting : List Bool) → AreSitesOf list unit → fitting ≡ fitting_nodes unit → whole_parts fitting (map entry_of list) ≡ map (fits_at unit) (sites unit)
unit_parts list unit fitting are is = ap (λ zs. whole_parts zs (map entry_of list)) is ∙ ap (whole_parts (fitting_nodes unit)) are ∙ parts_from (fitting_nodes unit) 0 (nodes unit)
