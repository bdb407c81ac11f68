-- The walk reads the tokens that the lexemes have.
use Rattle.std.proofs.Common.{◌≡◌, ℕ, zero, suc, ◌+◌, ◌-◌, Bool, true, false, cond, eqb, List, [], ◌∷◌, Option, Some, None, refl, subst, arith}
use Rattle.std.specs.Option.{option_map}
use Rattle.std.proofs.lemmas.Bool.Decides.{nat_tests}
use Rattle.lt_token.specs.declared.kind.Kind.{Kind}
use Rattle.lt_token.specs.declared.lexeme.Role.{Role}
use Rattle.lt_token.specs.declared.lexeme.Role.TheVariants as role
use Rattle.lt_token.specs.Lexemes.{Lexeme}
use Rattle.lt_token.specs.Tokens as tok
use Rattle.lt_token.specs.Tokens.{Token, Refusal, Reads, token_at, role_of, trails_after, opens, closes, after_closing, depth_after, after_group, no_token, unsupported_word}
use Rattle.lt_nest.specs.declared.skipping.Skipping.{Skipping}
use Rattle.lt_nest.specs.declared.skipping.Skipping.TheVariants as skipping
use Rattle.lt_nest.specs.Walk.{closed, inside, taken_by, tokens_behind, tokens_from}

-- what is left of the lexemes behind what is skipped
abbrev pub left : Skipping → List Lexeme → Option (List Lexeme)
left skipping.Nothing ls = Some ls
left skipping.Group ls = after_group ls
left (skipping.Inside inner) ls = after_closing (suc inner) ls

-- the lexemes that are left have these tokens, or are refused
abbrev pub Answers : Option (List Lexeme) → Bool → Option (List Token) → Type 0
Answers (Some ls) trails (Some ts) = Reads trails ls ts None
Answers (Some ls) trails None = (ts : List Token) × ((refusal : Refusal) × Reads trails ls ts (Some refusal))
Answers None trails (Some ts) = ⊥
Answers None trails None = Unit {0}

-- ---- the first lexeme

token : (trails : Bool) (l : Lexeme) (ls : List Lexeme) (k : Kind) → role_of trails l.sort l.text ≡ role.Token k → (o : Option (List Token))
    → Answers (Some ls) (trails_after k l.text) o → Answers (Some (l ∷ ls)) trails (option_map (λ (ts : List Token). token_at k l ∷ ts) o)
token trails l ls k is (Some ts) more = tok.token l k is more
token trails l ls k is None more = (token_at k l ∷ more.0, (more.1.0, tok.token l k is more.1.1))

skipped : (trails : Bool) (l : Lexeme) (ls : List Lexeme) → role_of trails l.sort l.text ≡ role.Skipped → (o : Option (List Token))
    → Answers (Some ls) trails o → Answers (Some (l ∷ ls)) trails o
skipped trails l ls is (Some ts) more = tok.skips l is more
skipped trails l ls is None more = (more.0, (more.1.0, tok.skips l is more.1.1))

group : (trails : Bool) (l : Lexeme) (ls : List Lexeme) → role_of trails l.sort l.text ≡ role.SkippedGroup → (rest : Option (List Lexeme)) → after_group ls ≡ rest
    → (o : Option (List Token)) → Answers rest trails o → Answers (Some (l ∷ ls)) trails o
group trails l ls is (Some rest) e (Some ts) more = tok.skips_group l rest is e more
group trails l ls is (Some rest) e None more = (more.0, (more.1.0, tok.skips_group l rest is e more.1.1))
group trails l ls is None e (Some ts) more = absurd more
group trails l ls is None e None more = ([], (no_token l.at, tok.unbalanced l is e))

by_role : (trails : Bool) (l : Lexeme) (ls : List Lexeme) (r : Role) → role_of trails l.sort l.text ≡ r
    → ((s : Skipping) (after : Bool) → Answers (left s ls) after (tokens_from s after ls))
    → Answers (Some (l ∷ ls)) trails (tokens_behind (taken_by r) trails l (λ s after. tokens_from s after ls))
by_role trails l ls (role.Token k) is more = token trails l ls k is (tokens_from skipping.Nothing (trails_after k l.text) ls) (more skipping.Nothing (trails_after k l.text))
by_role trails l ls role.Skipped is more = skipped trails l ls is (tokens_from skipping.Nothing trails ls) (more skipping.Nothing trails)
by_role trails l ls role.SkippedGroup is more = group trails l ls is (after_group ls) refl (tokens_from skipping.Group trails ls) (more skipping.Group trails)
by_role trails l ls role.Unsupported is more = ([], (unsupported_word l.text l.at, tok.refuses l is))
by_role trails l ls role.Malformed is more = ([], (no_token l.at, tok.malformed l is))

-- ---- groups

left_closed : (inner : ℕ) (ls : List Lexeme) → left (closed inner) ls ≡ after_closing inner ls
left_closed zero ls = refl
left_closed (suc inner) ls =
    let some : eqb (suc inner) 0 ≡ false = grind (arith, nat_tests) in
    let less : suc inner - 1 ≡ inner = omega arith in
    rw (some, less) refl

left_inside : (inner : ℕ) (l : Lexeme) (ls : List Lexeme) → left (inside inner l.sort l.text) ls ≡ after_closing (depth_after (suc inner) l) ls
left_inside inner l ls = step (opens l) (closes l)
  where
    step : (o c : Bool) → left (cond o (skipping.Inside (inner + 1)) (cond c (closed inner) (skipping.Inside inner))) ls ≡ after_closing (cond o (suc inner + 1) (cond c (suc inner - 1) (suc inner))) ls
    step true c = let more : suc inner + 1 ≡ suc (inner + 1) = omega arith in rw more refl
    step false true = let less : suc inner - 1 ≡ inner = omega arith in rw less (left_closed inner ls)
    step false false = refl

at_group : (trails : Bool) (l : Lexeme) (ls : List Lexeme) → ((s : Skipping) (after : Bool) → Answers (left s ls) after (tokens_from s after ls))
    → Answers (left skipping.Group (l ∷ ls)) trails (tokens_from skipping.Group trails (l ∷ ls))
at_group trails l ls more = step (opens l) refl
  where
    step : (o : Bool) → opens l ≡ o → Answers (left skipping.Group (l ∷ ls)) trails (tokens_from skipping.Group trails (l ∷ ls))
    step true e = rw e (more (skipping.Inside 0) trails)
    step false e = rw e tt

-- ---- all lexemes

pub answers : (ls : List Lexeme) (s : Skipping) (trails : Bool) → Answers (left s ls) trails (tokens_from s trails ls)
answers [] skipping.Nothing trails = tok.ended
answers [] skipping.Group trails = tt
answers [] (skipping.Inside inner) trails = tt
answers (l ∷ ls) skipping.Nothing trails = by_role trails l ls (role_of trails l.sort l.text) refl (answers ls)
answers (l ∷ ls) skipping.Group trails = at_group trails l ls (answers ls)
answers (l ∷ ls) (skipping.Inside inner) trails =
    subst (λ (rest : Option (List Lexeme)). Answers rest trails (tokens_from (inside inner l.sort l.text) trails ls)) (left_inside inner l ls)
    (answers ls (inside inner l.sort l.text) trails)
