-- The variables of pure expressions are there.
use Rattle.std.proofs.Common.{◌≡◌, ℕ, Bool, true, false, ◌&&◌, List, [], ◌∷◌, map, refl, ap, ◌∙◌}
use Rattle.std.specs.Prelude.{if◌then◌else◌}
use Rattle.std.specs.List.{list_all}
use Rattle.lt_model.specs.declared.operator.Op.{Op}
use Rattle.lt_tree.specs.declared.expression.LogicalOp.{LogicalOp}
use Rattle.lt_tree.specs.declared.expression.LogicalOp.TheVariants as logical
use Rattle.lt_tree.specs.Typing.Types.{CType}
use Rattle.lt_tree.specs.Typing.TypedTree as e
use Rattle.lt_tree.specs.Typing.TypedTree.{Value, Values, Place, Bindings, Conversion, Side, on_left, on_right}
use Rattle.lt_ir.specs.declared.pure.Pure.{Pure as HeldPure}
use Rattle.lt_ir.specs.Pure as p
use Rattle.lt_ir.specs.PureView.{pure_of}
use Rattle.lt_ir.specs.Ranges.{Counts, is_variable, is_lookable, are_lookable}
use Rattle.lt_meaning.specs.Expressions.{Fate, wanted, unconverted, dropped, dropped_branch, untaken, inside, of_branch, of_last, fate_of_part, is_pure}
use Rattle.lt_code.specs.Predicates.{Names, converts, converts_here, moving, truth_value, connects, raw_of, raw_place, raw_parts, pure_in, pures_bound}

and : {a b : Bool} → a ≡ true → b ≡ true → (a && b) ≡ true
and p q = cc

module _ (counts : Counts) (n : Names) (there : (k : ℕ) → is_variable counts (n.variable k) ≡ true) where
  moving_in : (op : Op) (size : ℕ) (side : Side) (a b : p.Pure) → is_lookable counts a ≡ true → is_lookable counts b ≡ true
      → is_lookable counts (moving op size side a b) ≡ true
  moving_in op size on_left a b f g = and f g
  moving_in op size on_right a b f g = and g f

  converts_in : (it : Conversion) (t : CType) (a : p.Pure) → is_lookable counts a ≡ true → is_lookable counts (converts it t a) ≡ true
  converts_in e.to_integer t a f = f
  converts_in e.to_truth t a f = f
  converts_in e.to_null t a f = and f refl
  converts_in e.to_pointer t a f = f
  converts_in e.to_void t a f = f

  converts_here_in : (fate : Fate) (it : Conversion) (t : CType) (a : p.Pure) → is_lookable counts a ≡ true
      → is_lookable counts (converts_here fate it t a) ≡ true
  converts_here_in wanted it t a f = converts_in it t a f
  converts_here_in unconverted it t a f = f
  converts_here_in dropped it t a f = converts_in it t a f
  converts_here_in dropped_branch it t a f = f
  converts_here_in untaken it t a f = converts_in it t a f

  truth_in : (a : p.Pure) → is_lookable counts a ≡ true → is_lookable counts (truth_value a) ≡ true
  truth_in a f = and (and f refl) refl

  connects_in : (op : LogicalOp) (a b : p.Pure) → is_lookable counts a ≡ true → is_lookable counts b ≡ true
      → is_lookable counts (connects op a b) ≡ true
  connects_in logical.And a b f g = and (and f (truth_in b g)) refl
  connects_in logical.Or a b f g = and (and f refl) (truth_in b g)

  mutual
    raw_in : (fate : Fate) (v : Value) → is_lookable counts (raw_of n fate v) ≡ true
    raw_in fate (e.Constant t z) = refl
    raw_in fate (e.Load t a) = place_in a
    raw_in fate (e.Whole t a) = place_in a
    raw_in fate (e.Decay t a) = place_in a
    raw_in fate (e.AddressOf t a) = place_in a
    raw_in fate (e.Convert e.to_void t v) = converts_in e.to_void t (raw_of n untaken v) (raw_in untaken v)
    raw_in fate (e.Convert e.to_integer t v) = converts_here_in fate e.to_integer t (raw_of n (inside fate) v) (raw_in (inside fate) v)
    raw_in fate (e.Convert e.to_truth t v) = converts_here_in fate e.to_truth t (raw_of n (inside fate) v) (raw_in (inside fate) v)
    raw_in fate (e.Convert e.to_null t v) = converts_here_in fate e.to_null t (raw_of n (inside fate) v) (raw_in (inside fate) v)
    raw_in fate (e.Convert e.to_pointer t v) = converts_here_in fate e.to_pointer t (raw_of n (inside fate) v) (raw_in (inside fate) v)
    raw_in fate (e.Minus t v) = raw_in wanted v
    raw_in fate (e.Complement t v) = and (raw_in wanted v) refl
    raw_in fate (e.Not t v) = and (and (raw_in wanted v) refl) refl
    raw_in fate (e.Arithmetic t op k a b) = and (raw_in wanted a) (raw_in wanted b)
    raw_in fate (e.Move t op size side a b) =
        moving_in op size side (raw_of n wanted a) (raw_of n wanted b) (raw_in wanted a) (raw_in wanted b)
    raw_in fate (e.Distance t size a b) = and (raw_in wanted a) (raw_in wanted b)
    raw_in fate (e.Compare t op a b) = and (raw_in wanted a) (raw_in wanted b)
    raw_in fate (e.Logical t op a b) =
        connects_in op (raw_of n wanted a) (raw_of n wanted b) (raw_in wanted a) (raw_in wanted b)
    raw_in fate (e.Conditional t test a b) = and (and (raw_in wanted test) (raw_in (of_branch fate) a)) (raw_in (of_branch fate) b)
    raw_in fate (e.Comma t vs) = parts_in (of_last fate) vs
    raw_in fate (e.Assign t a v) = refl
    raw_in fate (e.Update t op k a v) = refl
    raw_in fate (e.UpdatePointer t op size a v) = refl
    raw_in fate (e.Step t when op k a) = refl
    raw_in fate (e.StepPointer t when op size a) = refl
    raw_in fate (e.Call t name vs) = refl
    raw_in fate (e.Marked t ms v) = refl
    raw_in fate (e.Decide t v when_true when_false) = refl
    raw_in fate (e.After t v id) = refl

    place_in : (a : Place) → is_lookable counts (raw_place n a) ≡ true
    place_in (e.Object t k) = there k
    place_in (e.Pointed t v) = raw_in wanted v
    place_in (e.Element t size side a b) =
        moving_in _ size side (raw_of n wanted a) (raw_of n wanted b) (raw_in wanted a) (raw_in wanted b)
    place_in (e.Part t offset a) = place_in a
    place_in (e.Held t v) = raw_in wanted v

    parts_in : (fate : Fate) (vs : Values) → are_lookable counts (raw_parts n fate vs) ≡ true
    parts_in fate e.no_values = refl
    parts_in fate (e.a_value v vs) = and (raw_in (fate_of_part fate vs) v) (parts_in fate vs)

  -- the expression of a predicate
  pub pure_lookable : (v : Value) → is_lookable counts (pure_in n v) ≡ true
  pure_lookable v = by (is_pure v)
    where
      by : (b : Bool) → is_lookable counts (if b then raw_of n wanted v else p.Never) ≡ true
      by true = raw_in wanted v
      by false = refl

  -- and those whose values a mark binds
  pub bound_lookable :
      (qs : List HeldPure) (bound : Bindings) → map pure_of qs ≡ pures_bound n bound
      → list_all (λ q. is_lookable counts (pure_of q)) qs ≡ true
  bound_lookable [] bound same = refl
  bound_lookable (q ∷ qs) e.no_bindings same = absurd (cc)
  bound_lookable (q ∷ qs) (e.a_binding name v rest) same =
      let first : pure_of q ≡ pure_in n v = cc in
      let others : map pure_of qs ≡ pures_bound n rest = cc in
      and (ap (is_lookable counts) first ∙ pure_lookable v) (bound_lookable qs rest others)
