-- Five additions, and then the code with which they end.
use Rattle.std.proofs.Common.{ℕ, Result}
use Rattle.std.specs.declared.alloc.AllocError.{AllocError}
use Rattle.lt_emit.specs.declared.builder.Builder.{Builder}
use Rattle.lt_emit.specs.Emission.{Here, Finished, Adds, Gives}
use Rattle.lt_emit.proofs.Adding.{both, last4}

pub last5 :
    {a b c d e f g : Builder} {P Q R S T : Here → Finished → Type 0} {U V : ℕ → Here → Finished → Type 0}
    {result : Result ℕ AllocError}
    → Adds a b P → Adds b c Q → Adds c d R → Adds d e S → Adds e f T → Gives f g result U
    → ((from : ℕ) (here : Here) (it : Finished) → P here it → Q here it → R here it → S here it → T here it
    → U from here it → V from here it)
    → Gives a g result V
last5 {P = P} {Q} p q r s t u make =
    let F : Here → Finished → Type 0 = λ here it. P here it × Q here it in
    last4 {P = F} (both p q (λ here it x y. (x, y))) r s t u (λ from here it x y z w v. make from here it x.0 x.1 y z w v)
