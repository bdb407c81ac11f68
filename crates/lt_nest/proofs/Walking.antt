-- One turn of the walk over a text.
use Rattle.std.proofs.Common.{◌≡◌, ℕ, zero, suc, ◌+◌, ◌-◌, ◌<◌, ◌≤◌, eqb, Bool, true, false, List, [], ◌∷◌, ◌++◌, length, take, drop, Option, Some, None, Result, Ok, Err, sym, subst, arith}
use Rattle.std.specs.Option.{option_map}
use Rattle.std.specs.Result.{IfOk}
use Rattle.std.proofs.lemmas.Bool.{eqb-true}
use Rattle.std.proofs.lemmas.List.{length-drop}
use Rattle.lt_token.specs.declared.lexeme.Sort.{Sort}
use Rattle.lt_token.specs.Lexemes as lex
use Rattle.lt_token.specs.Lexemes.{Lexeme, Cuts, fresh_after}
use Rattle.lt_token.specs.Tokens.{Token, Refusal, Lexes}
use Rattle.lt_token.specs.Nest.{nests}
use Rattle.lt_token.proofs.Unique.{at_most_one}
use Rattle.lt_lex.specs.Front.{first_cut}
use Rattle.lt_lex.specs.Views.{lexemes_of}
use Rattle.lt_lex.proofs.Cutting.{Cut, is_cut}
use Rattle.lt_nest.specs.declared.skipping.Skipping.TheVariants as skipping
use Rattle.lt_nest.specs.Greatest.{greatest, IsGreatestNest}
use Rattle.lt_nest.specs.Walk.{tokens_from, answer_of, at_first, greatest_with}
use Rattle.lt_nest.proofs.Reading.{Answers, answers}

-- ---- the answer of the lexemes is that of the text

-- nothing is before the first token
all_tokens : (ts : List Token) → greatest (nests ts) ≡ greatest_with at_first ts
unfolding nests
all_tokens ts = omega arith

refused : (text : List ℕ) (ts : List Token) (refusal : Refusal) → Lexes text ts (Some refusal) → IsGreatestNest text None
refused text ts refusal lexes = λ nest nests. (let same = (at_most_one text ts nests.tokens (Some refusal) None lexes nests.lexes).1 in cc)

of_tokens : (text : List ℕ) (ls : List Lexeme) → Cuts true 0 text ls → (o : Option (List Token)) → Answers (Some ls) false o → IsGreatestNest text (option_map (greatest_with at_first) o)
of_tokens text ls cuts None h = refused text h.0 h.1.0 (record { lexemes = ls; cuts = cuts; reads = h.1.1 })
of_tokens text ls cuts (Some ts) h = record { tokens = ts; lexes = record { lexemes = ls; cuts = cuts; reads = h }; is = all_tokens ts }

is_answer : (text : List ℕ) (ls : List Lexeme) → Cuts true 0 text ls → IsGreatestNest text (answer_of ls)
is_answer text ls cuts = of_tokens text ls cuts (tokens_from skipping.Nothing false ls) (answers ls skipping.Nothing false)

-- ---- each text is cut into lexemes

some_cuts : (most : ℕ) (fresh : Bool) (at : ℕ) (text : List ℕ) → length text ≤ most → (ls : List Lexeme) × Cuts fresh at text ls
some_cuts most fresh at [] h = ([], lex.ended)
some_cuts zero fresh at (b ∷ bs) h = absurd (omega arith)
some_cuts (suc most) fresh at (b ∷ bs) h =
    let c = first_cut fresh (b ∷ bs) in
    let cut = is_cut fresh (b ∷ bs) (omega arith) in
    let more = some_cuts most (fresh_after fresh (take c.1 (b ∷ bs))) (at + c.1) (drop c.1 (b ∷ bs)) (omega (arith, length-drop c.1 (b ∷ bs), cut.some)) in
    (lexemes_of c.0 (take c.1 (b ∷ bs)) at ++ more.0, cut.goes_on at more.0 more.1)

-- ---- the walk

-- the lexemes of the text have this answer
abbrev pub HasAnswer : List ℕ → Option ℕ → Type 0
HasAnswer text answer = (all : List Lexeme) × (Cuts true 0 text all × (answer_of all ≡ answer))

is_nest : (text : List ℕ) (answer : Option ℕ) → HasAnswer text answer → IsGreatestNest text answer
is_nest text answer h = subst (IsGreatestNest text) h.1.1 (is_answer text h.0 h.1.0)

-- whatever the rest is cut into, the text has the answer with it
abbrev pub GoesOn : List ℕ → Bool → List ℕ → (List Lexeme → Option ℕ) → Type 0
GoesOn text fresh rest answer = (ls : List Lexeme) → Cuts fresh (length text - length rest) rest ls → HasAnswer text (answer ls)

pub begins : (text : List ℕ) (answer : List Lexeme → Option ℕ) → ((ls : List Lexeme) → answer_of ls ≡ answer ls) → GoesOn text true text answer
begins text answer is ls cuts =
    let none : length text - length text ≡ 0 = omega arith in
    (ls, (subst (λ (k : ℕ). Cuts true k text ls) none cuts, is ls))

module _ (text : List ℕ) (fresh : Bool) (rest : List ℕ) (fits : length rest ≤ length text) (some : 0 < length rest) (c : Option Sort × ℕ) (is : c ≡ first_cut fresh rest)
    (before : List Lexeme → Option ℕ) (so_far : GoesOn text fresh rest before) where
  cut : Cut fresh rest c
  cut = subst (Cut fresh rest) (sym is) (is_cut fresh rest some)

  pub turn : (after : List Lexeme → Option ℕ) → ((at : ℕ) (ls : List Lexeme) → before (lexemes_of c.0 (take c.1 rest) at ++ ls) ≡ after ls)
      → GoesOn text (fresh_after fresh (take c.1 rest)) (drop c.1 rest) after
  turn after takes ls cuts =
      let at : length text - length (drop c.1 rest) ≡ length text - length rest + c.1 = omega (arith, length-drop c.1 rest, cut.fits) in
      subst (HasAnswer text) (takes (length text - length rest) ls) (
      so_far (lexemes_of c.0 (take c.1 rest) (length text - length rest) ++ ls) (cut.goes_on (length text - length rest) ls (rw (← at) cuts)))

  pub stops : ((at : ℕ) (ls : List Lexeme) → before (lexemes_of c.0 (take c.1 rest) at ++ ls) ≡ None) → IsGreatestNest text None
  stops takes =
      let more = some_cuts (length (drop c.1 rest)) (fresh_after fresh (take c.1 rest)) (length text - length rest + c.1) (drop c.1 rest) (omega arith) in
      is_nest text None (
      subst (HasAnswer text) (takes (length text - length rest) more.0) (
      so_far (lexemes_of c.0 (take c.1 rest) (length text - length rest) ++ more.0) (cut.goes_on (length text - length rest) more.0 more.1)))

pub is_over : (text : List ℕ) (fresh : Bool) (rest : List ℕ) (answer : List Lexeme → Option ℕ) → eqb (length rest) 0 ≡ true → GoesOn text fresh rest answer → IsGreatestNest text (answer [])
is_over text fresh [] answer none so_far = is_nest text (answer []) (so_far [] lex.ended)
is_over text fresh (b ∷ bs) answer none so_far = absurd (omega (arith, eqb-true (length (b ∷ bs)) 0 none))

pub gives : {E : Type 0} (text : List ℕ) (answer : Option ℕ) (r : Result (Option ℕ) E) → IsGreatestNest text answer → IfOk r (λ found. found ≡ answer) → IfOk r (IsGreatestNest text)
gives text answer (Ok found) is e = subst (IsGreatestNest text) (sym e) is
gives text answer (Err e) is h = tt
