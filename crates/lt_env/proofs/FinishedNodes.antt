-- How an expression's node ends.
use Rattle.std.proofs.Common.{◌≡◌, ℕ, List, ◌++◌, Result, Ok, Err, refl, sym, ap, subst, ◌∙◌}
use Rattle.std.specs.Result.{IsErr, IsErrAnd}
use Rattle.lt_tree.specs.Typing.Types.{CType}
use Rattle.lt_tree.specs.Typing.Rules as rules
use Rattle.lt_tree.specs.Typing.EntityView.{structs_of}
use Rattle.lt_tree.specs.Typing.Extents.{Structs}
use Rattle.lt_tree.specs.Typing.Entities.{Known, Fact}
use Rattle.lt_tree.specs.Typing.Steps.{Goes, Walk, goes_on, gives, settle, notes}
use Rattle.lt_tree.specs.Typing.Expressions as x
use Rattle.lt_tree.specs.Typing.Expressions.{finish, faults_of_any, fact_of}
use Rattle.lt_table.specs.TypesValue.{TypesValue, Widens, structs_at}
use Rattle.lt_env.specs.declared.typed.Typed.{Typed}
use Rattle.lt_env.specs.declared.typed.Judged.{Judged}
use Rattle.lt_env.specs.declared.walker.Walker.{Walker}
use Rattle.lt_env.specs.declared.stop.TypeStop.{TypeStop}
use Rattle.lt_env.specs.declared.stop.TypeStop.TheVariants.{Broken, NoMemory}
use Rattle.lt_env.specs.Views.{typed_of, typed_in}
use Rattle.lt_env.specs.Going.{At, Gives, done, known_of}

-- the walk of an end, with its faults apart
abbrev ended : ℕ → x.Use → x.Judged → List rules.Rule → Walk x.Typed
ended node role judged faults known = goes_on (settle node faults known) (λ _. λ k. goes_on (notes (fact_of node judged.typed) k) (λ _. gives (x.used role judged.typed)))

is_ended : (node : ℕ) (role : x.Use) (judged : x.Judged) (known : Known) → finish node role judged known ≡ ended node role judged (judged.faults ++ faults_of_any known.structs role judged.typed) known
unfolding finish
is_ended node role judged known = refl

-- a rule is broken there
stops : {X : Type 0} (types : List CType) (shown : List CType → X → x.Typed) (after : Walker) (stop : TypeStop) (node : ℕ) (role : x.Use) (judged : x.Judged) (faults : List rules.Rule) (known : Known)
    → At types done after (Err stop) (settle node faults known) → At types shown after (Err stop) (ended node role judged faults known)
stops types shown after (Broken rule at) node role judged faults known e = ap (λ o. goes_on o (λ _. λ k. goes_on (notes (fact_of node judged.typed) k) (λ _. gives (x.used role judged.typed)))) e
stops types shown after NoMemory node role judged faults known e = tt

pub finish_stops : {X : Type 0} (types : List CType) (shown : List CType → X → x.Typed) (before after : Walker) (stop : TypeStop) (node : ℕ) (role : x.Use) (judged : x.Judged) (faults : List rules.Rule)
    → faults ≡ judged.faults ++ faults_of_any (structs_at types before.types) role judged.typed → At types done after (Err stop) (settle node faults (known_of types before))
    → At types shown after (Err stop) (finish node role judged (known_of types before))
finish_stops types shown before after stop node role judged faults same e =
    subst (At types shown after (Err stop)) (ap (λ fs. ended node role judged fs (known_of types before)) same ∙ sym (is_ended node role judged (known_of types before)))
    (stops types shown after stop node role judged faults (known_of types before) e)

-- the faults of an expression that was taken apart
pub judged_faults : (types : List CType) (structs : Structs) (role : x.Use) (faults : List rules.Rule) (inner given : Judged) (typed : Typed) → faults ≡ inner.faults ++ faults_of_any structs role (typed_of types typed)
    → typed ≡ inner.typed.value → inner ≡ given → faults ≡ given.faults ++ faults_of_any structs role (typed_in types given.typed)
judged_faults types structs role faults inner given typed e f g =
    e ∙ ap (λ (t : Typed). inner.faults ++ faults_of_any structs role (typed_of types t)) f ∙ ap (λ (j : Judged). j.faults ++ faults_of_any structs role (typed_in types j.typed)) g

-- what is known where types were only added
pub widened_known : (types : List CType) (w : Walker) (longer : TypesValue) → Widens w.types longer → known_of types (record w { types = longer }) ≡ known_of types w
widened_known types w longer more =
    ap (λ model. record (known_of types w) { model = model; structs = structs_of types longer.structs }) more.model ∙ ap (λ list. record (known_of types w) { structs = structs_of types list }) more.structs

-- no rule is broken there
pub finish_goes : (types : List CType) (before settled noted : Walker) (longer : TypesValue) (node : ℕ) (role : x.Use) (judged : x.Judged) (faults : List rules.Rule) (fact : Fact) (typed : x.Typed)
    → faults ≡ judged.faults ++ faults_of_any (structs_at types before.types) role judged.typed → At types done settled (Ok tt) (settle node faults (known_of types before))
    → fact ≡ fact_of node judged.typed → At types done noted (Ok tt) (notes fact (known_of types settled)) → Widens noted.types longer → typed ≡ x.used role judged.typed
    → finish node role judged (known_of types before) ≡ Goes typed (known_of types (record noted { types = longer }))
finish_goes types before settled noted longer node role judged faults fact typed same e is f more used =
    is_ended node role judged (known_of types before)
    ∙ ap (λ fs. ended node role judged fs (known_of types before)) (sym same)
    ∙ ap (λ o. goes_on o (λ _. λ k. goes_on (notes (fact_of node judged.typed) k) (λ _. gives (x.used role judged.typed)))) e
    ∙ ap (λ it. goes_on (notes it (known_of types settled)) (λ _. gives (x.used role judged.typed))) (sym is)
    ∙ ap (λ o. goes_on o (λ _. gives (x.used role judged.typed))) f
    ∙ ap (λ t. Goes t (known_of types noted)) (sym used)
    ∙ ap (Goes typed) (sym (widened_known types noted longer more))

-- a stop that is handed on
pub gives_stop : {A X : Type 0} (shown : List CType → X → A) (before after : Walker) (result : Result X TypeStop) (stop : TypeStop) (walk : List CType → Walk A) → IsErr result × IsErrAnd result (λ e. e ≡ stop)
    → Gives shown before after (Err stop) walk → Gives shown before after result walk
gives_stop shown before after (Ok it) stop walk h g = absurd h.1
gives_stop shown before after (Err e) stop walk h g = subst (λ s. Gives shown before after (Err s) walk) (sym h.1) g
