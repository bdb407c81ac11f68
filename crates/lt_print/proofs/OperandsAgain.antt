-- What each form of expression derives at its own level, from what its parts derive in their places.
use Rattle.std.proofs.Common.{◌≡◌, ℕ, suc, Bool, true, false, List, [], ◌∷◌, ◌++◌, Option, Some, if◌then◌else◌}
use Rattle.lt_model.specs.declared.operator.Op.{Op}
use Rattle.lt_tree.specs.declared.expression.UnaryOp.{UnaryOp}
use Rattle.lt_tree.specs.declared.expression.LogicalOp.{LogicalOp}
use Rattle.lt_tree.specs.declared.terminal.Terminal.TheVariants as k
use Rattle.lt_tree.specs.Tree as c
use Rattle.lt_tree.specs.Symbols.{Symbol}
use Rattle.lt_tree.specs.Scope.{Scope, is_type}
use Rattle.lt_tree.specs.Operators.{assignment_of}
use Rattle.lt_tree.specs.Grammar as g
use Rattle.lt_tree.specs.Grammar.{Level, IsExpression, IsLiteral}
use Rattle.lt_tree.specs.Pieces.{gap, text_of}
use Rattle.lt_tree.specs.Canon.{Pieces, sign, name, constant, literal, spaced, gap_if, prefixed, starts_signed, sign_of_unary, sign_of_binary, sign_of_logical, sign_of_assignment, tightness, tightness_of_logical}
use Rattle.lt_print.proofs.ReadPieces.{Reads, done, a_name, a_constant, a_literal, a_sign, a_gap, parted}
use Rattle.lt_print.proofs.SignsAgain.{binary_sign, logical_sign, unary_sign}
use Rattle.lt_print.proofs.LooserLevels.{DerivesAt}

pub name_at : (scope : Scope) (w : List ℕ) → is_type scope w ≡ false → DerivesAt scope g.primary (name w ∷ []) (c.Name w)
name_at scope w no_type ts rest more (a_name done) = (_, g.name no_type)

pub constant_at : (scope : Scope) (w : List ℕ) → DerivesAt scope g.primary (constant w ∷ []) (c.Constant w)
constant_at scope w ts rest more (a_constant done) = (_, g.constant)

pub text_at : (scope : Scope) (bytes : List ℕ) → DerivesAt scope g.primary (literal bytes ∷ []) (c.Text bytes)
text_at scope bytes ts rest more (a_literal is done) = (_, g.text (g.one_literal is))

-- left, operator, right
pub binary_at : (scope : Scope) (o : Op) (a b : Pieces) (left right : c.Expression) → DerivesAt scope (g.binary (tightness o)) a left → DerivesAt scope (g.binary (suc (tightness o))) b right
    → DerivesAt scope (g.binary (tightness o)) (a ++ spaced (sign_of_binary o) ++ b) (c.Binary o left right)
binary_at scope o a b left right da db ts rest more r =
    let q = parted (a ++ spaced (sign_of_binary o)) b r in let p = parted a (spaced (sign_of_binary o)) q.front in step p.front p.back q.back
  where
    step : {mid us : List Symbol} → Reads a ts mid → Reads (spaced (sign_of_binary o)) mid us → Reads b us rest → (spots : List ℕ) × IsExpression scope (g.binary (tightness o)) ts (c.Binary o left right) rest spots more
    step x (a_gap (a_sign (a_gap done))) y = let gr = db _ rest more y in let gl = da ts _ gr.0 x in (_, g.operates gl.1 (binary_sign o) gr.1)

pub logical_at : (scope : Scope) (o : LogicalOp) (a b : Pieces) (left right : c.Expression) → DerivesAt scope (g.binary (tightness_of_logical o)) a left → DerivesAt scope (g.binary (suc (tightness_of_logical o))) b right
    → DerivesAt scope (g.binary (tightness_of_logical o)) (a ++ spaced (sign_of_logical o) ++ b) (c.Logical o left right)
logical_at scope o a b left right da db ts rest more r =
    let q = parted (a ++ spaced (sign_of_logical o)) b r in let p = parted a (spaced (sign_of_logical o)) q.front in step p.front p.back q.back
  where
    step : {mid us : List Symbol} → Reads a ts mid → Reads (spaced (sign_of_logical o)) mid us → Reads b us rest → (spots : List ℕ) × IsExpression scope (g.binary (tightness_of_logical o)) ts (c.Logical o left right) rest spots more
    step x (a_gap (a_sign (a_gap done))) y = let gr = db _ rest more y in let gl = da ts _ gr.0 x in (_, g.operates gl.1 (logical_sign o) gr.1)

pub assignment_at : (scope : Scope) (o : Option Op) (a b : Pieces) (target value : c.Expression) → assignment_of (sign_of_assignment o) ≡ Some o → DerivesAt scope g.unary a target → DerivesAt scope g.assignment b value
    → DerivesAt scope g.assignment (a ++ spaced (sign_of_assignment o) ++ b) (c.Assign o target value)
assignment_at scope o a b target value is da db ts rest more r =
    let q = parted (a ++ spaced (sign_of_assignment o)) b r in let p = parted a (spaced (sign_of_assignment o)) q.front in step p.front p.back q.back
  where
    step : {mid us : List Symbol} → Reads a ts mid → Reads (spaced (sign_of_assignment o)) mid us → Reads b us rest → (spots : List ℕ) × IsExpression scope g.assignment ts (c.Assign o target value) rest spots more
    step x (a_gap (a_sign (a_gap done))) y = let gr = db _ rest more y in let gl = da ts _ gr.0 x in (_, g.assigns gl.1 is gr.1)

pub choice_at : (scope : Scope) (a b d : Pieces) (test left right : c.Expression) → DerivesAt scope (g.binary 0) a test → DerivesAt scope g.comma b left → DerivesAt scope g.conditional d right
    → DerivesAt scope g.conditional (a ++ spaced k.Question ++ b ++ spaced k.Colon ++ d) (c.Conditional test left right)
choice_at scope a b d test left right da db dd ts rest more r =
    let q = parted (a ++ spaced k.Question ++ b ++ spaced k.Colon) d r in
    let p = parted (a ++ spaced k.Question ++ b) (spaced k.Colon) q.front in
    let o = parted (a ++ spaced k.Question) b p.front in
    let n = parted a (spaced k.Question) o.front in
    step n.front n.back o.back p.back q.back
  where
    step : {m1 m2 m3 m4 : List Symbol} → Reads a ts m1 → Reads (spaced k.Question) m1 m2 → Reads b m2 m3 → Reads (spaced k.Colon) m3 m4 → Reads d m4 rest → (spots : List ℕ) × IsExpression scope g.conditional ts (c.Conditional test left right) rest spots more
    step x (a_gap (a_sign (a_gap done))) y (a_gap (a_sign (a_gap done))) z =
        let gd = dd _ rest more z in let gb = db _ _ gd.0 y in let ga = da ts _ gb.0 x in (_, g.choice ga.1 gb.1 gd.1)

pub prefixed_at : (scope : Scope) (o : UnaryOp) (a : Pieces) (e : c.Expression) → DerivesAt scope g.cast a e → DerivesAt scope g.unary (prefixed (sign_of_unary o) a) (c.Unary o e)
prefixed_at scope o a e da = step (starts_signed (text_of a))
  where
    step : (b : Bool) → DerivesAt scope g.unary (sign (sign_of_unary o) ∷ (if b then gap ∷ a else a)) (c.Unary o e)
    step true ts rest more (a_sign (a_gap r)) = let got = da _ rest more r in (_, g.prefixed (unary_sign o) got.1)
    step false ts rest more (a_sign r) = let got = da _ rest more r in (_, g.prefixed (unary_sign o) got.1)

pub increment_at : (scope : Scope) (a : Pieces) (e : c.Expression) → DerivesAt scope g.unary a e → DerivesAt scope g.unary (prefixed k.Increment a) (c.PreInc e)
increment_at scope a e da = step (starts_signed (text_of a))
  where
    step : (b : Bool) → DerivesAt scope g.unary (sign k.Increment ∷ (if b then gap ∷ a else a)) (c.PreInc e)
    step true ts rest more (a_sign (a_gap r)) = let got = da _ rest more r in (_, g.increment_before got.1)
    step false ts rest more (a_sign r) = let got = da _ rest more r in (_, g.increment_before got.1)

pub decrement_at : (scope : Scope) (a : Pieces) (e : c.Expression) → DerivesAt scope g.unary a e → DerivesAt scope g.unary (prefixed k.Decrement a) (c.PreDec e)
decrement_at scope a e da = step (starts_signed (text_of a))
  where
    step : (b : Bool) → DerivesAt scope g.unary (sign k.Decrement ∷ (if b then gap ∷ a else a)) (c.PreDec e)
    step true ts rest more (a_sign (a_gap r)) = let got = da _ rest more r in (_, g.decrement_before got.1)
    step false ts rest more (a_sign r) = let got = da _ rest more r in (_, g.decrement_before got.1)

pub sizeof_at : (scope : Scope) (a : Pieces) (e : c.Expression) → DerivesAt scope g.unary a e → DerivesAt scope g.unary (sign k.Sizeof ∷ gap ∷ a) (c.SizeofExpr e)
sizeof_at scope a e da ts rest more (a_sign (a_gap r)) = let got = da _ rest more r in (_, g.sizeof_expression got.1)

pub index_at : (scope : Scope) (a b : Pieces) (whole place : c.Expression) → DerivesAt scope g.postfix a whole → DerivesAt scope g.comma b place
    → DerivesAt scope g.postfix (a ++ sign k.OpenIndex ∷ b ++ sign k.CloseIndex ∷ []) (c.Index whole place)
index_at scope a b whole place da db ts rest more r =
    let q = parted (a ++ sign k.OpenIndex ∷ b) (sign k.CloseIndex ∷ []) r in let p = parted a (sign k.OpenIndex ∷ b) q.front in step p.front p.back q.back
  where
    step : {mid us : List Symbol} → Reads a ts mid → Reads (sign k.OpenIndex ∷ b) mid us → Reads (sign k.CloseIndex ∷ []) us rest → (spots : List ℕ) × IsExpression scope g.postfix ts (c.Index whole place) rest spots more
    step x (a_sign y) (a_sign done) = let gb = db _ _ more y in let ga = da ts _ gb.0 x in (_, g.index ga.1 gb.1)

pub member_at : (scope : Scope) (space : Bool) (a : Pieces) (w : List ℕ) (e : c.Expression) → DerivesAt scope g.postfix a e → DerivesAt scope g.postfix (a ++ gap_if space ++ sign k.Dot ∷ name w ∷ []) (c.Member e w)
member_at scope space a w e da ts rest more r =
    let q = parted (a ++ gap_if space) (sign k.Dot ∷ name w ∷ []) r in let p = parted a (gap_if space) q.front in step space p.front p.back q.back
  where
    step : (b : Bool) {mid us : List Symbol} → Reads a ts mid → Reads (gap_if b) mid us → Reads (sign k.Dot ∷ name w ∷ []) us rest → (spots : List ℕ) × IsExpression scope g.postfix ts (c.Member e w) rest spots more
    step true x (a_gap done) (a_sign (a_name done)) = let ga = da ts _ more x in (_, g.member ga.1)
    step false x done (a_sign (a_name done)) = let ga = da ts _ more x in (_, g.member ga.1)

pub arrow_at : (scope : Scope) (a : Pieces) (w : List ℕ) (e : c.Expression) → DerivesAt scope g.postfix a e → DerivesAt scope g.postfix (a ++ sign k.Arrow ∷ name w ∷ []) (c.Arrow e w)
arrow_at scope a w e da ts rest more r = let p = parted a (sign k.Arrow ∷ name w ∷ []) r in step p.front p.back
  where
    step : {mid : List Symbol} → Reads a ts mid → Reads (sign k.Arrow ∷ name w ∷ []) mid rest → (spots : List ℕ) × IsExpression scope g.postfix ts (c.Arrow e w) rest spots more
    step x (a_sign (a_name done)) = let ga = da ts _ more x in (_, g.arrow ga.1)

pub increment_behind_at : (scope : Scope) (a : Pieces) (e : c.Expression) → DerivesAt scope g.postfix a e → DerivesAt scope g.postfix (a ++ sign k.Increment ∷ []) (c.PostInc e)
increment_behind_at scope a e da ts rest more r = let p = parted a (sign k.Increment ∷ []) r in step p.front p.back
  where
    step : {mid : List Symbol} → Reads a ts mid → Reads (sign k.Increment ∷ []) mid rest → (spots : List ℕ) × IsExpression scope g.postfix ts (c.PostInc e) rest spots more
    step x (a_sign done) = let ga = da ts _ more x in (_, g.increment_behind ga.1)

pub decrement_behind_at : (scope : Scope) (a : Pieces) (e : c.Expression) → DerivesAt scope g.postfix a e → DerivesAt scope g.postfix (a ++ sign k.Decrement ∷ []) (c.PostDec e)
decrement_behind_at scope a e da ts rest more r = let p = parted a (sign k.Decrement ∷ []) r in step p.front p.back
  where
    step : {mid : List Symbol} → Reads a ts mid → Reads (sign k.Decrement ∷ []) mid rest → (spots : List ℕ) × IsExpression scope g.postfix ts (c.PostDec e) rest spots more
    step x (a_sign done) = let ga = da ts _ more x in (_, g.decrement_behind ga.1)
