-- The arguments of a call, one after the other.
use Rattle.std.proofs.Common.{◌≡◌, ℕ, suc, ◌+◌, ◌-◌, ◌<◌, List, [], ◌∷◌, ◌++◌, Some, None, refl, ap, ap₂, sym, ◌∙◌, append-nil, append_assoc, arith}
use Rattle.lt_model.specs.declared.cell.Content.{Content}
use Rattle.lt_model.specs.declared.run.End.TheVariants.{Stopped}
use Rattle.lt_model.specs.State.{Gives, Ends}
use Rattle.lt_ir.specs.Running.{At, Answer, Step, gives, ◌>>=◌}
use Rattle.lt_ir.specs.Graph.{Register, register_at, contents_from}

-- contents, and behind them those that a step gives
abbrev pub behind : List Content → Step (List Content) → Step (List Content)
behind cs step = step >>= (λ more. gives (cs ++ more))

-- contents, and behind them those of an answer
abbrev and_more : List Content → Answer (List Content) → Answer (List Content)
and_more cs (Gives more at) = Gives (cs ++ more) at
and_more cs (Ends end at) = Ends end at

none_before : (m : Answer (List Content)) → m ≡ and_more [] m
none_before (Gives cs at) = refl
none_before (Ends end at) = refl

pub at_first : (rs : List Register) (first count : ℕ) (at : At) → contents_from rs first count at ≡ behind [] (contents_from rs (first + 0) (count - 0)) at
at_first rs first count at =
    let e : first ≡ first + 0 = omega arith in
    let h : count ≡ count - 0 = omega arith in
    none_before (contents_from rs first count at) ∙ ap₂ (λ r n. behind [] (contents_from rs r n) at) e h

one_further : (cs : List Content) (c : Content) (m : Answer (List Content)) → and_more cs (and_more (c ∷ []) m) ≡ and_more (cs ++ c ∷ []) m
one_further cs c (Gives more at) = ap (λ l. Gives l at) (sym (append_assoc cs (c ∷ []) more))
one_further cs c (Ends end at) = refl

from_one : (rs : List Register) (r n : ℕ) (c : Content) (cs : List Content) (at : At) → (register_at rs r).content ≡ Some c → behind cs (contents_from rs r (suc n)) at ≡ behind (cs ++ c ∷ []) (contents_from rs (suc r) n) at
from_one rs r n c cs at e = rw e (one_further cs c (contents_from rs (suc r) n at))

pub goes_further : (rs : List Register) (first count k : ℕ) (c : Content) (cs : List Content) (at : At) → k < count → (register_at rs (first + k)).content ≡ Some c → behind cs (contents_from rs (first + k) (count - k)) at ≡ behind (cs ++ c ∷ []) (contents_from rs (first + (k + 1)) (count - (k + 1))) at
goes_further rs first count k c cs at lt e =
    let f : suc (first + k) ≡ first + (k + 1) = omega arith in
    let h : suc (count - (k + 1)) ≡ count - k = omega arith in
    ap (λ n. behind cs (contents_from rs (first + k) n) at) (sym h) ∙ from_one rs (first + k) (count - (k + 1)) c cs at e
    ∙ ap (λ r. behind (cs ++ c ∷ []) (contents_from rs r (count - (k + 1))) at) f

from_none : (rs : List Register) (r n : ℕ) (cs : List Content) (at : At) → (register_at rs r).content ≡ None → behind cs (contents_from rs r (suc n)) at ≡ Ends Stopped at
from_none rs r n cs at e = rw e refl

pub lacks_one : (rs : List Register) (first count k : ℕ) (cs : List Content) (at : At) → k < count → (register_at rs (first + k)).content ≡ None → behind cs (contents_from rs (first + k) (count - k)) at ≡ Ends Stopped at
lacks_one rs first count k cs at lt e =
    let h : suc (count - (k + 1)) ≡ count - k = omega arith in
    ap (λ n. behind cs (contents_from rs (first + k) n) at) (sym h) ∙ from_none rs (first + k) (count - (k + 1)) cs at e

pub has_all : (rs : List Register) (r n : ℕ) (cs : List Content) (at : At) → n ≡ 0 → behind cs (contents_from rs r n) at ≡ Gives cs at
has_all rs r n cs at e = rw e (ap (λ l. Gives l at) (append-nil cs))
