-- Loops over lists: what a walk over a whole list gives is what the walk over the rest of it gives from here, with what was found before.
use Rattle.std.proofs.Common.{◌≡◌, ℕ, suc, ◌+◌, ◌<◌, ◌≤◌, List, [], ◌∷◌, ◌++◌, length, length-append, map, drop, get_or, drop-cons, Result, Ok, Err, refl, sym, ap, ◌∙◌, arith}
use Rattle.std.proofs.lemmas.List.{drop_all}
use Rattle.lt_tree.specs.Typing.Types.{CType}
use Rattle.lt_tree.specs.Typing.TypeRows.{Continues, Lasts}
use Rattle.lt_tree.specs.Typing.Entities.{Known}
use Rattle.lt_tree.specs.Typing.Steps.{Outcome, Goes, Breaks, Walk, goes_on, gives}
use Rattle.lt_env.specs.NamesValue.{KeepsOuter}
use Rattle.lt_env.specs.declared.walker.Walker.{Walker}
use Rattle.lt_env.specs.declared.stop.TypeStop.{TypeStop}
use Rattle.lt_env.specs.declared.stop.TypeStop.TheVariants.{Broken, NoMemory}
use Rattle.lt_env.specs.Going.{At, Gives, types_in, known_of}
use Rattle.lt_env.proofs.Goings.{longer_still, as_long, kept_still}

-- The walk over the whole gives what the walk `next` gives from here, and `last` behind it.
pub record Turning {A B : Type 0} (before now : Walker) (whole : List CType → Walk B) (next : List CType → Walk A) (last : List CType → A → Walk B) : Type 0 where
  pub grows : Continues (types_in before) (types_in now)
  pub keeps : KeepsOuter before.names now.names
  pub turns : Lasts (types_in now) (λ types. whole types (known_of types before) ≡ goes_on (next types (known_of types now)) (last types))

-- ---- outcomes

nothing_behind : {A : Type 0} (o : Outcome A) (last : A → Walk A) → ((a : A) (k : Known) → last a k ≡ Goes a k) → o ≡ goes_on o last
nothing_behind (Goes a k) last e = sym (e a k)
nothing_behind (Breaks rule node) last e = refl

-- ---- turns

-- at the start of the list
pub turns_start : {A : Type 0} {s : Walker} {whole : List CType → Walk A} {last : List CType → A → Walk A}
    → ((types : List CType) (a : A) (k : Known) → last types a k ≡ Goes a k) → Turning s s whole whole last
turns_start {s = s} {whole = whole} {last = last} e = record {
  grows = as_long (types_in s);
  keeps = (refl, refl);
  turns = λ types h. nothing_behind (whole types (known_of types s)) (last types) (e types);
}

pub turns_from : {A : Type 0} {s : Walker} {whole next : List CType → Walk A} → ((types : List CType) (k : Known) → whole types k ≡ next types k) → Turning s s whole next (λ types t. gives t)
turns_from {s = s} {next = next} e = record {
  grows = as_long (types_in s);
  keeps = (refl, refl);
  turns = λ types h. e types (known_of types s) ∙ nothing_behind (next types (known_of types s)) gives (λ a k. refl);
}

goes : {A B V X : Type 0} (types : List CType) (shown : List CType → X → V) (s2 : Walker) (x : X) (step : Outcome V) (more : V → Walk A) (last : A → Walk B) (o : Outcome A) (whole out : Outcome B)
    → whole ≡ goes_on o last → o ≡ goes_on step more → step ≡ Goes (shown types x) (known_of types s2) → goes_on (more (shown types x) (known_of types s2)) last ≡ out → whole ≡ out
goes types shown s2 x step more last o whole out e f g h = e ∙ ap (λ p. goes_on p last) f ∙ ap (λ p. goes_on (goes_on p more) last) g ∙ h

-- one element was gone over
pub turns_on : {A B V X C : Type 0} {shown : List CType → X → V} {s0 s1 s2 : Walker} {x : X} {whole : List CType → Walk B} {next : List CType → Walk A} {last : List CType → A → Walk B} {step : List CType → Walk V}
    (more : List CType → V → Walk A) {following : List CType → Walk C} {final : List CType → C → Walk B}
    → Turning s0 s1 whole next last
    → ((types : List CType) (k : Known) → next types k ≡ goes_on (step types k) (more types))
    → Gives shown s1 s2 (Ok x) step
    → ((types : List CType) (k : Known) → goes_on (more types (shown types x) k) (last types) ≡ goes_on (following types k) (final types))
    → Turning s0 s2 whole following final
turns_on {shown = shown} {s0 = s0} {s1 = s1} {s2 = s2} {x = x} {whole = whole} {next = next} {last = last} {step = step} more {following = following} {final = final} t opening g turned = record {
  grows = longer_still (types_in s0) (types_in s1) (types_in s2) t.grows g.grows;
  keeps = kept_still s0.names s1.names s2.names t.keeps g.keeps;
  turns = λ types h. goes types shown s2 x (step types (known_of types s1)) (more types) (last types) (next types (known_of types s1)) (whole types (known_of types s0)) _
      (t.turns types (longer_still (types_in s1) (types_in s2) types g.grows h)) (opening types (known_of types s1)) (g.ends.at types h) (turned types (known_of types s2));
}

-- an element stops the walk
breaks : {A B V X Y : Type 0} (types : List CType) (shown : List CType → X → V) (sees : List CType → Y → B) (s2 : Walker) (stop : TypeStop) (step : Outcome V) (more : V → Walk A) (last : A → Walk B) (o : Outcome A) (whole : Outcome B)
    → whole ≡ goes_on o last → o ≡ goes_on step more → At types shown s2 (Err stop) step → At types sees s2 (Err stop) whole
breaks types shown sees s2 (Broken rule node) step more last o whole e f g = e ∙ ap (λ p. goes_on p last) f ∙ ap (λ p. goes_on (goes_on p more) last) g
breaks types shown sees s2 NoMemory step more last o whole e f g = tt

pub turns_stop : {A B V X Y : Type 0} {shown : List CType → X → V} {sees : List CType → Y → B} {s0 s1 s2 : Walker} {stop : TypeStop} {r : Result Y TypeStop} {whole : List CType → Walk B} {next : List CType → Walk A} {last : List CType → A → Walk B} {step : List CType → Walk V}
    (more : List CType → V → Walk A)
    → Turning s0 s1 whole next last
    → ((types : List CType) (k : Known) → next types k ≡ goes_on (step types k) (more types))
    → Gives shown s1 s2 (Err stop) step
    → r ≡ Err stop
    → Gives sees s0 s2 r whole
turns_stop {shown = shown} {sees = sees} {s0 = s0} {s1 = s1} {s2 = s2} {stop = stop} {whole = whole} {next = next} {last = last} {step = step} more t opening g e = rw e (record {
  grows = longer_still (types_in s0) (types_in s1) (types_in s2) t.grows g.grows;
  keeps = tt;
  ends = record {
    at = λ types h. breaks types shown sees s2 stop (step types (known_of types s1)) (more types) (last types) (next types (known_of types s1)) (whole types (known_of types s0))
        (t.turns types (longer_still (types_in s1) (types_in s2) types g.grows h)) (opening types (known_of types s1)) (g.ends.at types h);
  };
})

-- memory is wanting
pub lacks_memory : {B Y : Type 0} {sees : List CType → Y → B} {s0 s1 : Walker} {r : Result Y TypeStop} {whole : List CType → Walk B} → Continues (types_in s0) (types_in s1) → r ≡ Err NoMemory → Gives sees s0 s1 r whole
lacks_memory g e = rw e (record { grows = g; keeps = tt; ends = record { at = λ types h. tt } })

-- at the end of the list
pub turns_end : {A B Y : Type 0} {sees : List CType → Y → B} {s0 s1 : Walker} {y : Y} {whole : List CType → Walk B} {next : List CType → Walk A} {last : List CType → A → Walk B}
    → Turning s0 s1 whole next last
    → ((types : List CType) (k : Known) → goes_on (next types k) (last types) ≡ Goes (sees types y) k)
    → Gives sees s0 s1 (Ok y) whole
turns_end {s1 = s1} t e = record { grows = t.grows; keeps = t.keeps; ends = record { at = λ types h. t.turns types h ∙ e types (known_of types s1) } }

-- ---- lists

-- the first of the elements that are left
pub opened : {X : Type 0} (list : List X) (i : ℕ) (x : X) → i < length list → x ≡ get_or list i x → drop i list ≡ x ∷ drop (i + 1) list
opened list i x within is =
    let more : suc i ≡ i + 1 = omega arith in
    drop-cons list i x within ∙ ap (λ z. z ∷ drop (suc i) list) (sym is) ∙ ap (λ k. x ∷ drop k list) more

assoc : {A : Type 0} (xs : List A) (y : A) (zs : List A) → (xs ++ y ∷ []) ++ zs ≡ xs ++ y ∷ zs
assoc [] y zs = refl
assoc (x ∷ xs) y zs = ap (λ l. x ∷ l) (assoc xs y zs)

all_of : {A : Type 0} (xs : List A) → xs ++ [] ≡ xs
all_of [] = refl
all_of (x ∷ xs) = ap (λ l. x ∷ l) (all_of xs)

pub shown_more : {X A : Type 0} (f : X → A) (xs : List X) (x : X) → map f (xs ++ x ∷ []) ≡ map f xs ++ f x ∷ []
shown_more f [] x = refl
shown_more f (y ∷ xs) x = ap (λ l. f y ∷ l) (shown_more f xs x)

-- one more behind others
pub one_more : {X A : Type 0} (f : X → A) (old new : List X) (x : X) (rest : List A) → new ≡ old ++ x ∷ [] → map f new ++ rest ≡ map f old ++ f x ∷ rest
one_more f old new x rest e = ap (λ l. map f l ++ rest) e ∙ ap (λ l. l ++ rest) (shown_more f old x) ∙ assoc (map f old) (f x) rest

pub all_alone : {X A : Type 0} (f : X → A) (all : List X) → map f all ++ [] ≡ map f all
all_alone f all = all_of (map f all)

pub collected : {T : Type 0} (o : Outcome T) (cons : T → T) (put longer : T → T) → ((t : T) → longer t ≡ put (cons t))
    → goes_on (goes_on o (λ t. gives (cons t))) (λ t. gives (put t)) ≡ goes_on o (λ t. gives (longer t))
collected (Goes t k) cons put longer e = ap (λ l. Goes l k) (sym (e t))
collected (Breaks rule node) cons put longer e = refl

-- An element of a list was gone over, of which what is found is put behind what was found before.
pub list_on : {X Y V T : Type 0} {shown : List CType → Y → V} {s0 s1 s2 : Walker} {y : Y} {whole : List CType → Walk T} {step : List CType → Walk V}
    (walks : List X → Walk T) (cons : V → T → T) (put longer : List CType → T → T) (list : List X) (i : ℕ) (x : X)
    → i < length list → x ≡ get_or list i x
    → ((types : List CType) (rest : List X) (k : Known) → walks (x ∷ rest) k ≡ goes_on (step types k) (λ v. λ known. goes_on (walks rest known) (λ t. gives (cons v t))))
    → Turning s0 s1 whole (λ types. walks (drop i list)) (λ types t. gives (put types t))
    → Gives shown s1 s2 (Ok y) step
    → ((types : List CType) (t : T) → longer types t ≡ put types (cons (shown types y) t))
    → Turning s0 s2 whole (λ types. walks (drop (i + 1) list)) (λ types t. gives (longer types t))
list_on {shown = shown} {y = y} walks cons put longer list i x within is opens t g more =
    turns_on (λ types v known. goes_on (walks (drop (i + 1) list) known) (λ vs. gives (cons v vs))) t
    (λ types k. ap (λ l. walks l k) (opened list i x within is) ∙ opens types (drop (i + 1) list) k)
    g
    (λ types k. collected (walks (drop (i + 1) list) k) (cons (shown types y)) (put types) (longer types) (more types))

pub list_stop : {X Y Z V T : Type 0} {shown : List CType → Y → V} {sees : List CType → Z → T} {s0 s1 s2 : Walker} {stop : TypeStop} {r : Result Z TypeStop} {whole : List CType → Walk T} {step : List CType → Walk V}
    (walks : List X → Walk T) (cons : V → T → T) (put : List CType → T → T) (list : List X) (i : ℕ) (x : X)
    → i < length list → x ≡ get_or list i x
    → ((types : List CType) (rest : List X) (k : Known) → walks (x ∷ rest) k ≡ goes_on (step types k) (λ v. λ known. goes_on (walks rest known) (λ t. gives (cons v t))))
    → Turning s0 s1 whole (λ types. walks (drop i list)) (λ types t. gives (put types t))
    → Gives shown s1 s2 (Err stop) step
    → r ≡ Err stop
    → Gives sees s0 s2 r whole
list_stop walks cons put list i x within is opens t g e =
    turns_stop (λ types v known. goes_on (walks (drop (i + 1) list) known) (λ vs. gives (cons v vs))) t
    (λ types k. ap (λ l. walks l k) (opened list i x within is) ∙ opens types (drop (i + 1) list) k)
    g e

pub list_end : {X Y T : Type 0} {sees : List CType → Y → T} {s0 s1 : Walker} {y : Y} {whole : List CType → Walk T}
    (walks : List X → Walk T) (none : T) (put : List CType → T → T) (list : List X) (i : ℕ)
    → length list ≤ i → ((k : Known) → walks [] k ≡ Goes none k)
    → ((types : List CType) → put types none ≡ sees types y)
    → Turning s0 s1 whole (λ types. walks (drop i list)) (λ types t. gives (put types t))
    → Gives sees s0 s1 (Ok y) whole
list_end walks none put list i beyond ends all t =
    turns_end t (λ types k.
    ap (λ l. goes_on (walks l k) (λ xs. gives (put types xs))) (drop_all i list beyond)
    ∙ ap (λ o. goes_on o (λ xs. gives (put types xs))) (ends k)
    ∙ ap (λ l. Goes l k) (all types))

-- ---- lists whose elements go on from what was found before

pub passes_on : {X Y V T : Type 0} {shown : List CType → Y → V} {s0 s1 s2 : Walker} {y : Y} {whole : List CType → Walk T} {step : List CType → Walk V}
    (walks : List X → V → Walk T) (old : List CType → V) (list : List X) (i : ℕ) (x : X)
    → i < length list → x ≡ get_or list i x
    → ((types : List CType) (rest : List X) (k : Known) → walks (x ∷ rest) (old types) k ≡ goes_on (step types k) (λ v. walks rest v))
    → Turning s0 s1 whole (λ types. walks (drop i list) (old types)) (λ types t. gives t)
    → Gives shown s1 s2 (Ok y) step
    → Turning s0 s2 whole (λ types. walks (drop (i + 1) list) (shown types y)) (λ types t. gives t)
passes_on walks old list i x within is opens t g =
    turns_on (λ types v. walks (drop (i + 1) list) v) t
    (λ types k. ap (λ l. walks l (old types) k) (opened list i x within is) ∙ opens types (drop (i + 1) list) k)
    g
    (λ types k. refl)

pub passes_stop : {X Y Z V T : Type 0} {shown : List CType → Y → V} {sees : List CType → Z → T} {s0 s1 s2 : Walker} {stop : TypeStop} {r : Result Z TypeStop} {whole : List CType → Walk T} {step : List CType → Walk V}
    (walks : List X → V → Walk T) (old : List CType → V) (list : List X) (i : ℕ) (x : X)
    → i < length list → x ≡ get_or list i x
    → ((types : List CType) (rest : List X) (k : Known) → walks (x ∷ rest) (old types) k ≡ goes_on (step types k) (λ v. walks rest v))
    → Turning s0 s1 whole (λ types. walks (drop i list) (old types)) (λ types t. gives t)
    → Gives shown s1 s2 (Err stop) step
    → r ≡ Err stop
    → Gives sees s0 s2 r whole
passes_stop walks old list i x within is opens t g e =
    turns_stop (λ types v. walks (drop (i + 1) list) v) t
    (λ types k. ap (λ l. walks l (old types) k) (opened list i x within is) ∙ opens types (drop (i + 1) list) k)
    g e

pub passes_end : {X Y V T : Type 0} {sees : List CType → Y → T} {s0 s1 : Walker} {y : Y} {whole : List CType → Walk T}
    (walks : List X → V → Walk T) (last : List CType → V) (list : List X) (i : ℕ)
    → length list ≤ i → ((types : List CType) (k : Known) → walks [] (last types) k ≡ Goes (sees types y) k)
    → Turning s0 s1 whole (λ types. walks (drop i list) (last types)) (λ types t. gives t)
    → Gives sees s0 s1 (Ok y) whole
passes_end walks last list i beyond ends t =
    turns_end t (λ types k.
    ap (λ l. goes_on (walks l (last types) k) gives) (drop_all i list beyond)
    ∙ ap (λ o. goes_on o gives) (ends types k))

-- two steps of a walk as one
pub behind : {A B C : Type 0} (o : Outcome A) (f : A → Walk B) (g : B → Walk C) → goes_on o (λ a k. goes_on (f a k) g) ≡ goes_on (goes_on o f) g
behind (Goes a k) f g = refl
behind (Breaks rule node) f g = refl

-- ---- lists that are no lists of the library's

-- values before others
abbrev pub before : {X T : Type 0} → (X → T → T) → List X → T → T
before cons [] rest = rest
before cons (x ∷ xs) rest = cons x (before cons xs rest)

before_one : {X T : Type 0} (cons : X → T → T) (old : List X) (x : X) (rest : T) → before cons (old ++ x ∷ []) rest ≡ before cons old (cons x rest)
before_one cons [] x rest = refl
before_one cons (y ∷ old) x rest = ap (cons y) (before_one cons old x rest)

pub before_more : {X T : Type 0} (cons : X → T → T) (old new : List X) (x : X) (rest : T) → new ≡ old ++ x ∷ [] → before cons new rest ≡ before cons old (cons x rest)
before_more cons old new x rest e = ap (λ l. before cons l rest) e ∙ before_one cons old x rest

pub length_more : {X : Type 0} (old new : List X) (x : X) (i : ℕ) → new ≡ old ++ x ∷ [] → length old ≡ i → length new ≡ i + 1
length_more old new x i e f = ap length e ∙ length-append old (x ∷ []) ∙ ap (λ n. n + 1) f

passed_by : {A B C : Type 0} (o : Outcome C) (a : A) (g : A → Walk B) → goes_on o (λ c. g a) ≡ goes_on (goes_on o (λ c. gives a)) g
passed_by (Goes c k) a g = refl
passed_by (Breaks rule node) a g = refl

-- the same, where what the second part gives isn't used
pub behind_both : {A B C : Type 0} (o : Outcome A) (m : Walk C) (g : A → Walk B) → goes_on o (λ a k. goes_on (m k) (λ c. g a)) ≡ goes_on (goes_on o (λ a k. goes_on (m k) (λ c. gives a))) g
behind_both (Goes a k) m g = passed_by (m k) a g
behind_both (Breaks rule node) m g = refl
