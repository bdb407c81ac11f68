-- The lines with which a text begins, where each line is read from its words.
use Rattle.std.proofs.Common.{◌≡◌, ℕ, ◌+◌, ◌≤◌, Bool, true, List, [], ◌∷◌, ◌++◌, length, take, Some, Option, refl, sym, ◌∙◌, ap, arith, length-append, append_assoc}
use Rattle.std.specs.Prelude.{map}
use Rattle.std.specs.List.{list_all}
use Rattle.std.proofs.lemmas.List.{append-nil, take-map}
use Rattle.lt_entry.proofs.PieceLaws.{both}

-- what is read of each line's words is the line, if it is of its form
abbrev pub Reads : {L : Type 0} → (words : L → List (List ℕ)) (read : List (List ℕ) → Option L) (good : L → Bool) → Type 0
Reads {L} words read good = (line : L) → good line ≡ true → read (words line) ≡ Some line

-- Two lines of the same words are one.
one_line : {L : Type 0} (words : L → List (List ℕ)) (read : List (List ℕ) → Option L) (good : L → Bool) → Reads words read good → (w : List (List ℕ)) (l m : L) → w ≡ words l → w ≡ words m → good l ≡ true → good m ≡ true → m ≡ l
one_line words read good reads w l m left right g h =
    let read_left : read w ≡ Some l = ap read left ∙ reads l g in
    let read_right : read w ≡ Some m = ap read right ∙ reads m h in
    cc

both_parts : {L : Type 0} (m l : L) (ms ls : List L) → m ≡ l → ms ≡ ls → m ∷ ms ≡ l ∷ ls
both_parts m l ms ls e f = rw (e, f) refl

-- Of two lists of lines with which words begin, the shorter begins the longer.
pub begins_other : {L : Type 0} (words : L → List (List ℕ)) (read : List (List ℕ) → Option L) (good : L → Bool) → Reads words read good → (all : List (List (List ℕ))) (ls ms : List L) → take (length ls) all ≡ map words ls → take (length ms) all ≡ map words ms → list_all good ls ≡ true → list_all good ms ≡ true → length ls ≤ length ms → (more : List L) × (ms ≡ ls ++ more)
begins_other words read good reads all [] ms e f g h le = (ms, refl)
begins_other words read good reads all (l ∷ ls) [] e f g h le = absurd (omega arith)
begins_other words read good reads [] (l ∷ ls) (m ∷ ms) e f g h le = absurd (cc)
begins_other {L} words read good reads (w ∷ all) (l ∷ ls) (m ∷ ms) e f g h le =
    let gs = both (good l) (list_all good ls) g in
    let hs = both (good m) (list_all good ms) h in
    let left : w ≡ words l = cc in
    let right : w ≡ words m = cc in
    let lefts : take (length ls) all ≡ map words ls = cc in
    let rights : take (length ms) all ≡ map words ms = cc in
    let same : m ≡ l = one_line words read good reads w l m left right gs.0 hs.0 in
    let rest = begins_other words read good reads all ls ms lefts rights gs.1 hs.1 (omega arith) in
    (rest.0, both_parts m l ms (ls ++ rest.0) same rest.1)

-- nothing more, where the lengths are the same
pub nothing_more : {L : Type 0} (ls ms more : List L) → ms ≡ ls ++ more → length ms ≤ length ls → ms ≡ ls
nothing_more ls ms [] e h = e ∙ append-nil ls
nothing_more ls ms (m ∷ more) e h =
    let long : length ms ≡ length ls + length (m ∷ more) = ap length e ∙ length-append ls (m ∷ more) in
    absurd (omega arith)

-- ---- fronts of fronts

pub map_take : {A B : Type 0} (f : A → B) (n : ℕ) (xs : List A) → map f (take n xs) ≡ take n (map f xs)
map_take f n xs = sym (take-map f n xs)

pub front_words : {L : Type 0} (words : L → List (List ℕ)) (all : List (List (List ℕ))) (ls more : List L) → take (length (ls ++ more)) all ≡ map words (ls ++ more) → take (length ls) all ≡ map words ls
front_words words all [] more e = refl
front_words words [] (l ∷ ls) more e = absurd (cc)
front_words words (w ∷ all) (l ∷ ls) more e =
    let first : w ≡ words l = cc in
    let rest : take (length (ls ++ more)) all ≡ map words (ls ++ more) = cc in
    ap (λ x. x ∷ take (length ls) all) first ∙ ap (λ xs. words l ∷ xs) (front_words words all ls more rest)

pub one_more : {L : Type 0} (ls more : List L) (l : L) → ls ++ l ∷ more ≡ (ls ++ l ∷ []) ++ more
one_more ls more l = sym (append_assoc ls (l ∷ []) more)
