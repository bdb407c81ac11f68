-- A punctuator of one byte is cut off where the first two bytes tell it.
use Rattle.std.proofs.Common.{◌≡◌, ℕ, ◌≤◌, Bool, true, false, eqb, ◌||◌, List, [], ◌∷◌, length, slice_index, Some, refl, sym, subst, arith}
use Rattle.std.proofs.lemmas.Bool.{eqb-true}
use Rattle.std.proofs.lemmas.Bool.Decides.{nat_tests}
use Rattle.lt_token.specs.declared.lexeme.Sort.TheVariants as sort
use Rattle.lt_token.specs.declared.piece.Class.TheVariants as class
use Rattle.lt_token.specs.Bytes.{class_of}
use Rattle.lt_token.specs.Words.{punctuators}
use Rattle.lt_lex.specs.Front.{longest_front, front, first_cut}
use Rattle.lt_nest.specs.Marks.{is_one_of, lone, beginning, second}

-- the text begins with a punctuator of one byte
abbrev pub IsShort : List ℕ → Type 0
IsShort text = (fresh : Bool) → first_cut fresh text ≡ (Some sort.Punctuator, 1)

abbrev Each : (ℕ → Type 0) → List ℕ → Type 0
Each P [] = Unit {0}
Each P (c ∷ cs) = P c × Each P cs

-- what holds of each byte of a list holds of one that is among them
among : (P : ℕ → Type 0) (bytes : List ℕ) (b : ℕ) → Each P bytes → is_one_of bytes b ≡ true → P b
among P [] b all h = absurd cc
among P (c ∷ cs) b all h = step (eqb b c) refl h (among P cs b all.1)
  where
    step : (t : Bool) → eqb b c ≡ t → (t || is_one_of cs b) ≡ true → (is_one_of cs b ≡ true → P b) → P b
    step true e h more = subst P (sym (eqb-true b c e)) all.0
    step false e h more = more h

-- a byte that is not among them is none of them
differs : (bytes : List ℕ) (b : ℕ) → is_one_of bytes b ≡ false → Each (λ c. eqb c b ≡ false) bytes
differs [] b h = tt
differs (c ∷ cs) b h = step (eqb b c) refl h (differs cs b)
  where
    step : (t : Bool) → eqb b c ≡ t → (t || is_one_of cs b) ≡ false → (is_one_of cs b ≡ false → Each (λ d. eqb d b ≡ false) cs) → Each (λ d. eqb d b ≡ false) (c ∷ cs)
    step true e h more = absurd cc
    step false e h more = (grind (arith, nat_tests), more h)

-- no longer punctuator begins the text
abbrev IsOne : ℕ → List ℕ → Type 0
IsOne b bs = (class_of b ≡ class.Sign) × (longest_front punctuators (b ∷ bs) ≡ 1)

of_one : (b : ℕ) (bs : List ℕ) → IsOne b bs → IsShort (b ∷ bs)
unfolding first_cut front
of_one b bs one fresh = rw (one.0, one.1) refl

lone_all : (bs : List ℕ) → Each (λ b. IsOne b bs) lone
unfolding punctuators
lone_all bs = ((refl, refl), ((refl, refl), ((refl, refl), ((refl, refl), ((refl, refl), ((refl, refl), ((refl, refl), ((refl, refl), ((refl, refl), ((refl, refl), ((refl, refl), tt)))))))))))

beginning_all : (c : ℕ) (cs : List ℕ) → is_one_of second c ≡ false → Each (λ b. IsOne b (c ∷ cs)) beginning
unfolding punctuators
beginning_all c cs h =
    let n = differs second c h in
    let equals = n.0 in
    let and = n.1.0 in
    let or = n.1.1.0 in
    let plus = n.1.1.1.0 in
    let minus = n.1.1.1.1.0 in
    let less = n.1.1.1.1.1.0 in
    let greater = n.1.1.1.1.1.1.0 in (
      (refl, rw (and, equals) refl),
      (
        (refl, rw equals refl),
        (
          (refl, rw (plus, equals) refl),
          (
            (refl, rw (greater, minus, equals) refl),
            (
              (refl, rw equals refl),
              (
                (refl, rw equals refl),
                (
                  (refl, rw (less, equals) refl),
                  (
                    (refl, rw (greater, equals) refl),
                    ((refl, rw equals refl), ((refl, rw (or, equals) refl), ((refl, rw equals refl), tt))),
                  ),
                ),
              ),
            ),
          ),
        ),
      ),
    )

-- ---- texts of two bytes at least

pub lone_begins : (text : List ℕ) → 2 ≤ length text → is_one_of lone (slice_index text 0) ≡ true → IsShort text
lone_begins [] some is = absurd (omega arith)
lone_begins (b ∷ bs) some is = of_one b bs (among (λ c. IsOne c bs) lone b (lone_all bs) is)

pub beginning_begins : (text : List ℕ) → 2 ≤ length text → is_one_of beginning (slice_index text 0) ≡ true → is_one_of second (slice_index text 1) ≡ false → IsShort text
beginning_begins [] some is alone = absurd (omega arith)
beginning_begins (b ∷ []) some is alone = absurd (omega arith)
beginning_begins (b ∷ c ∷ cs) some is alone = of_one b (c ∷ cs) (among (λ d. IsOne d (c ∷ cs)) beginning b (beginning_all c cs alone) is)
