-- The arguments of a call.
use Rattle.std.proofs.Common.{◌≡◌, ℕ, suc, ◌+◌, ◌-◌, ◌<◌, ◌≤◌, List, [], ◌∷◌, length, drop, get_or, drop-cons, refl, sym, ap, subst, ◌∙◌, arith, ◌*◌, Ok}
use Rattle.std.proofs.lemmas.List.{drop_all}
use Rattle.lt_tree.specs.declared.typed.tree.Value.{Value}
use Rattle.lt_tree.specs.Typing.Types.{CType}
use Rattle.lt_tree.specs.Typing.TypedTree as e
use Rattle.lt_tree.specs.Typing.ValueView.{value_of, values_in}
use Rattle.lt_model.specs.declared.cell.Content.TheVariants as content
use Rattle.lt_ir.specs.declared.node.Node.TheVariants as node
use Rattle.lt_ir.specs.declared.node.Parts.TheVariants.{Settled}
use Rattle.lt_ir.specs.declared.pure.How.TheVariants as how
use Rattle.lt_meaning.specs.Expressions.{Fate, unconverted, takes}
use Rattle.lt_code.specs.Pieces.{one}
use Rattle.lt_code.specs.Code.{Site, program_in, value_code, arguments_of, count_of, late, passed, clash, call, up_to, constant}
use Rattle.lt_emit.specs.declared.builder.Builder.{Builder}
use Rattle.lt_code.specs.Costs.{Cost, ◌⊕◌, nodes_of_arguments, behind_arguments}
use Rattle.lt_emit.specs.Spending.{IsWithin, Spends, piece}
use Rattle.lt_emit.specs.Emission.{Here, here_of, Finished, site_in, EmitsWithin, GivesWithin, HasPoint, costs}
use Rattle.lt_emit.specs.Calling.{argument_values, joins, JoinStands, ArgumentsStand, arguments_cost, nodes_of_values}
use Rattle.lt_emit.proofs.Adding.{both, none_added}
use Rattle.lt_emit.proofs.Spent.{spends_none, spends_both, spends_within, fitting}

pub arguments_counted : (types : List CType) (xs : List Value) → length xs ≡ count_of (values_in types xs)
arguments_counted types [] = refl
arguments_counted types (x ∷ xs) = ap suc (arguments_counted types xs)

arguments_use : (s : Site) (vs : e.Values) (r from to : ℕ) → arguments_of s vs r from to → r < s.registers
arguments_use s e.no_values r from to code = code.0
arguments_use s (e.a_value v vs) r from to code = omega (arith, code.0)

-- their values, the register behind them, and then what joins them
pub arguments_joined :
    (s : Site) (vs : e.Values) (r from m n to : ℕ) → argument_values s vs r from m
    → up_to s (r + count_of vs) (constant s (r + count_of vs) content.Unset) m n → joins s vs r n to → arguments_of s vs r from to
arguments_joined s e.no_values r from m n to values end joined =
    let same : r + 0 ≡ r = omega arith in
    let At : ℕ → Type 0 = λ i. up_to s i (constant s i content.Unset) m n in
    let From : ℕ → Type 0 = λ i. up_to s r (constant s r content.Unset) i n in
    let To : ℕ → Type 0 = λ i. up_to s r (constant s r content.Unset) from i in
    subst To joined (subst From (sym values) (subst At same end))
arguments_joined s (e.a_value v vs) r from m n to values end joined =
    let next : r + suc (count_of vs) ≡ (r + 1) + count_of vs = omega arith in
    let At : ℕ → Type 0 = λ i. up_to s i (constant s i content.Unset) m n in
    let inner = arguments_joined s vs (r + 1) values.0 m n joined.0 values.2 (subst At next end) joined.1 in
    (arguments_use s vs (r + 1) values.0 joined.0 inner, (_, values.1, (_, inner, joined.2)))

-- ---- what joins them, the first first: whatever joins the others joins all of them

abbrev pub JoinsAll : List Value → (k r to from : ℕ) → Here → Finished → Type 0
JoinsAll row k r to from here it =
    (m : ℕ) → joins (site_in here it) (values_in here.types (drop k row)) (r + k) m (it.point from)
    → joins (site_in here it) (values_in here.types row) r m (it.point to)

-- what the first so many of them cost
abbrev pub joined_cost : (k r : ℕ) → Here → Cost
joined_cost k r here = piece (2 * k) (r + k + 1)

pub joins_none : {a : Builder} (row : List Value) (r to : ℕ) → HasPoint a to
    → EmitsWithin a a to (joined_cost 0 r) (JoinsAll row 0 r to to)
joins_none {a} row r to has = record {
  emits = none_added to has (λ here it m code.
      let At : ℕ → Type 0 = λ n. joins (site_in here it) (values_in here.types row) n m (it.point to) in
      let none : r + 0 ≡ r = omega arith in
      subst At none code);
  spends = spends_none (joined_cost 0 r (here_of a));
}

one_join : (k r : ℕ) → IsWithin (piece (2 * k) (r + k + 1) ⊕ piece 2 (r + k + 2)) (piece (2 * (k + 1)) (r + (k + 1) + 1))
one_join k r = grind fitting

pub joins_more :
    {a b c : Builder} (row : List Value) (k r to from : ℕ) (x : Value) (m : ℕ) → k < length row → x ≡ get_or row k x
    → EmitsWithin a b from (joined_cost k r) (JoinsAll row k r to from)
    → GivesWithin b c (Ok m) (costs 2 (r + k + 2)) (JoinStands x (r + k) from)
    → EmitsWithin a c m (joined_cost (k + 1) r) (JoinsAll row (k + 1) r to m)
joins_more {a} {b} {c} row k r to from x m there is before one = record {
  emits = record {
    adds = both before.emits.adds one.gives.code.adds (λ here it p q n code.
        let more : suc k ≡ k + 1 = omega arith in
        let split : drop k row ≡ x ∷ drop (k + 1) row =
        drop-cons row k x there ∙ ap (λ y. y ∷ drop (suc k) row) (sym is) ∙ ap (λ i. x ∷ drop i row) more in
        let Are : List Value → Type 0 = λ xs. joins (site_in here it) (values_in here.types xs) (r + k) n (it.point from) in
        let At : ℕ → Type 0 = λ i. joins (site_in here it) (values_in here.types (drop (k + 1) row)) i n (it.point m) in
        let next : r + (k + 1) ≡ (r + k) + 1 = omega arith in
        p n (subst Are (sym split) (_, subst At next code, q)));
    within = one.gives.code.within;
  };
  spends = spends_within (spends_both before.spends one.spends) (one_join k r);
}

pub joins_all :
    {a b : Builder} (row : List Value) (k r to from : ℕ) → length row ≤ k → k ≤ length row
    → EmitsWithin a b from (joined_cost k r) (JoinsAll row k r to from)
    → GivesWithin a b (Ok from) (joined_cost (length row) r)
    (λ at here it. joins (site_in here it) (values_in here.types row) r (it.point at) (it.point to))
joins_all {a} {b} row k r to from all fits code = record {
  gives = record {
    code = record {
      adds = record {
        grows = code.emits.adds.grows;
        stands = λ it kept.
            let here = here_of a in
            let Are : List Value → Type 0 = λ xs. joins (site_in here it) (values_in here.types xs) (r + k) (it.point from) (it.point from) in
            code.emits.adds.stands it kept (it.point from) (subst Are (sym (drop_all k row all)) refl);
      };
      within = code.emits.within;
    };
  };
  spends = let same : k ≡ length row = omega (arith, all, fits) in subst (λ n. Spends (joined_cost n r (here_of a)) a b) same code.spends;
}

-- ---- rows of values, the last first

pub passed_more :
    (s : Site) (types : List CType) (row : List Value) (r k from m n to : ℕ) (x : Value) → 0 < k
    → late s (value_of types x) (r + (k - 1)) m n
    → one s.stands (node.Convert (r + (k - 1)) (r + (k - 1)) how.ToValue) n from
    → passed s (values_in types row) (r + k) from to → passed s (values_in types (x ∷ row)) (r + (k - 1)) m to
passed_more s types row r k from m n to x some converted there rest =
    let next : r + k ≡ (r + (k - 1)) + 1 = omega (arith, some) in
    let At : ℕ → Type 0 = λ i. passed s (values_in types row) i from to in
    (_, converted, (_, there, subst At next rest))

pub values_more :
    (s : Site) (types : List CType) (row : List Value) (r k from m to : ℕ) (x : Value) → 0 < k
    → value_code s unconverted (value_of types x) (r + (k - 1)) m from
    → argument_values s (values_in types row) (r + k) from to → argument_values s (values_in types (x ∷ row)) (r + (k - 1)) m to
values_more s types row r k from m to x some first rest =
    let next : r + k ≡ (r + (k - 1)) + 1 = omega (arith, some) in
    let At : ℕ → Type 0 = λ i. argument_values s (values_in types row) i from to in
    (_, first, subst At next rest)

-- ---- the call

pub arguments_nodes : (vs : e.Values) → nodes_of_arguments vs ≡ nodes_of_values vs + 4 * count_of vs
arguments_nodes e.no_values = refl
arguments_nodes (e.a_value v vs) = omega (arith, arguments_nodes vs)

pub arguments_behind : (vs : e.Values) → count_of vs ≤ behind_arguments vs
arguments_behind e.no_values = omega arith
arguments_behind (e.a_value v vs) = omega (arith, arguments_behind vs)

pub call_stands :
    (s : Site) (fate : Fate) (t : CType) (name : List ℕ) (vs : e.Values) (r n from m m1 m2 m3 m4 m5 to : ℕ) → n ≡ count_of vs
    → argument_values s vs r from m → up_to s (r + n) (constant s (r + n) content.Unset) m m1 → joins s vs r m1 m2
    → clash s (Settled r) m2 m3 → passed s vs r m3 m4 → one s.stands node.Tick m4 m5
    → call s.stands s.stubs (program_in s).functions (takes fate) name t r n m5 to
    → value_code s fate (e.Call t name vs) r from to
call_stands s fate t name vs r n from m m1 m2 m3 m4 m5 to counted values end joined settled converted ticked called =
    let Of : ℕ → Type 0 = λ n. call s.stands s.stubs (program_in s).functions (takes fate) name t r n m5 to in
    let At : ℕ → Type 0 = λ n. up_to s (r + n) (constant s (r + n) content.Unset) m m1 in
    let all = arguments_joined s vs r from m m1 m2 values (subst At counted end) joined in
    (arguments_use s vs r from m2 all, (m2, all, (m3, settled, (m4, converted, (m5, ticked, subst Of counted called)))))

pub arguments_all :
    {a b : Builder} (row : List Value) (k r to from : ℕ) → k ≤ 0
    → EmitsWithin a b from (arguments_cost (drop k row) (r + k)) (ArgumentsStand (drop k row) (r + k) to from)
    → EmitsWithin a b from (arguments_cost row r) (ArgumentsStand row r to from)
arguments_all {a} {b} row k r to from first code =
    let none : k ≡ 0 = omega arith in
    let From : ℕ → Type 0 = λ n. EmitsWithin a b from (arguments_cost (drop n row) (r + n)) (ArgumentsStand (drop n row) (r + n) to from) in
    let At : ℕ → Type 0 = λ n. EmitsWithin a b from (arguments_cost row n) (ArgumentsStand row n to from) in
    let same : r + 0 ≡ r = omega arith in
    subst At same (subst From none code)
