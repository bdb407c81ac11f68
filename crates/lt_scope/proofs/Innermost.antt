-- The innermost frame, the last of a list.
use Rattle.std.proofs.Common.{◌≡◌, ℕ, suc, ◌+◌, ◌-◌, ◌<◌, ◌≤◌, List, [], ◌∷◌, ◌++◌, length, map, take, drop, get_or, set, reverse, sym, ap, subst, ◌∙◌, arith, length-append, add-one, Some}
use Rattle.std.specs.Global.{Vec}
use Rattle.std.specs.HashMap as hash
use Rattle.std.specs.HashMap.{HashMap}
use Rattle.std.specs.Str.{bytes_eq}
use Rattle.std.proofs.lemmas.List.{length-map, length-reverse, reverse-append, set_split, length-take-le, take_more, take_all, length-set, take-set}
use Rattle.std.proofs.Math.Seq.{take-length, drop-length, take-append_seam}
use Rattle.lt_scope.specs.declared.scopes.Binder.{Binder}
use Rattle.lt_scope.specs.declared.scopes.Standing.{Standing}
use Rattle.lt_scope.specs.Names.{Bound, binding}
use Rattle.lt_scope.specs.Binders.{bound_of, names_in, standing_at, standing_in, shown, binders_in, frames_in, Agree}
use Rattle.lt_scope.proofs.Standings.{agree_bind, same_keys}

behind : {T : Type 0} (fs : List (Vec (Binder T))) (v : Vec (Binder T)) → binders_in (fs ++ v ∷ []) ≡ reverse v.items ∷ binders_in fs
behind fs v = ap (map (λ frame. reverse frame.items)) (reverse-append fs (v ∷ []))

-- the last frame, and those before it
last : {T : Type 0} (fs : List (Vec (Binder T))) (k : ℕ) (v : Vec (Binder T)) → k + 1 ≡ length fs → v ≡ get_or fs k v → binders_in fs ≡ reverse v.items ∷ binders_in (take k fs)
last fs k v end is =
    ap binders_in (sym (take-length fs) ∙ ap (λ n. take n fs) (sym end) ∙ take_more fs k v (omega arith) ∙ ap (λ x. take k fs ++ x ∷ []) (sym is)) ∙ behind (take k fs) v

-- the last frame put in place of another
placed : {T : Type 0} (fs : List (Vec (Binder T))) (k : ℕ) (v : Vec (Binder T)) → k + 1 ≡ length fs → binders_in (set fs k v) ≡ reverse v.items ∷ binders_in (take k fs)
placed fs k v end =
    ap binders_in (set_split fs k v (omega arith) ∙ ap (λ xs. take k fs ++ v ∷ xs) (ap (λ n. drop n fs) (sym (add-one k) ∙ end) ∙ drop-length fs)) ∙ behind (take k fs) v

-- what is put back as it was
pub undone : {T : Type 0} (fs : List (Vec (Binder T))) (k : ℕ) (v p : Vec (Binder T)) → k + 1 ≡ length fs → v ≡ get_or fs k v → p.items ≡ v.items → binders_in (set fs k p) ≡ binders_in fs
undone fs k v p end is same = placed fs k p end ∙ ap (λ xs. reverse xs ∷ binders_in (take k fs)) same ∙ sym (last fs k v end is)

pub undone_twice : {T : Type 0} (fs : List (Vec (Binder T))) (k : ℕ) (v p q : Vec (Binder T)) → k + 1 ≡ length fs → v ≡ get_or fs k v → q.items ≡ v.items → binders_in (set (set fs k p) k q) ≡ binders_in fs
undone_twice fs k v p q end is same =
    placed (set fs k p) k q (end ∙ sym (length-set fs k p)) ∙ ap (λ xs. reverse q.items ∷ binders_in xs) (take-set fs k p) ∙ sym (placed fs k q end) ∙ undone fs k v q end is same

-- what stood before one more item
pub taken : {X : Type 0} (xs ys zs : List X) (x : X) (n : ℕ) → ys ≡ xs ++ x ∷ [] → n ≡ length ys → zs ≡ take (n - 1) ys → zs ≡ xs
taken xs ys zs x n more count is =
    let longer : length ys ≡ length xs + 1 = ap length more ∙ length-append xs (x ∷ []) in
    let one : n - 1 ≡ length xs = omega arith in
    is ∙ ap (λ k. take k ys) one ∙ ap (take (length xs)) more ∙ take-append_seam xs (x ∷ [])

-- ---- one more binder in the last frame

more : {T : Type 0} (fs : List (Vec (Binder T))) (k : ℕ) (v p : Vec (Binder T)) (b : Binder T) → k + 1 ≡ length fs → p.items ≡ v.items ++ b ∷ [] → binders_in (set fs k p) ≡ (b ∷ reverse v.items) ∷ binders_in (take k fs)
more fs k v p b end pushed = placed fs k p end ∙ ap (λ xs. reverse xs ∷ binders_in (take k fs)) pushed ∙ ap (λ xs. xs ∷ binders_in (take k fs)) (reverse-append v.items (b ∷ []))

pub shows_more : {T : Type 0} (fs : List (Vec (Binder T))) (k : ℕ) (v p : Vec (Binder T)) (b : Binder T) (name : List ℕ) (what : T) → k + 1 ≡ length fs → v ≡ get_or fs k v → p.items ≡ v.items ++ b ∷ []
    → bound_of b ≡ record { name = name; what = what } → frames_in (set fs k p) ≡ binding name what (frames_in fs)
shows_more fs k v p b name what end is pushed shows =
    ap shown (more fs k v p b end pushed)
    ∙ ap (λ x. (x ∷ map bound_of (reverse v.items)) ∷ shown (binders_in (take k fs))) shows
    ∙ sym (ap (λ bs. binding name what (shown bs)) (last fs k v end is))

outer_length : {T : Type 0} (fs : List (Vec (Binder T))) (k : ℕ) → k + 1 ≡ length fs → length (binders_in (take k fs)) ≡ k
outer_length fs k end = length-map (reverse (take k fs)) (λ frame. reverse frame.items) ∙ length-reverse (take k fs) ∙ length-take-le k fs (omega arith)

pub agree_more : {T S : Type 0} (fs : List (Vec (Binder T))) (k : ℕ) (v p : Vec (Binder T)) (b : Binder T) (m n : HashMap (Vec ℕ) (Standing T) S) (name : List ℕ) (s : Standing T) → k + 1 ≡ length fs → v ≡ get_or fs k v
    → p.items ≡ v.items ++ b ∷ [] → Agree (binders_in fs) m → name ≡ b.name → b.hidden ≡ standing_in m name → s ≡ standing_at (length fs) b.what
    → hash.UpdatesBy same_keys (λ key. bytes_eq name key.items) m n (Some s) → Agree (binders_in (set fs k p)) n
agree_more fs k v p b m n name s end is pushed a same hides stands h =
    let depth : length fs ≡ suc (length (binders_in (take k fs))) = (let outer = outer_length fs k end in omega arith) in
    subst (λ bs. Agree bs n) (sym (more fs k v p b end pushed))
    (agree_bind b (reverse v.items) (binders_in (take k fs)) m n name s (subst (λ bs. Agree bs m) (last fs k v end is) a) same hides (stands ∙ ap (λ d. standing_at d b.what) depth) h)

-- ---- the names of a frame, one after the other

pub names_more : {T : Type 0} (bs : List (Binder T)) (i : ℕ) (b : Binder T) → i < length bs → b ≡ get_or bs i b → names_in (take (i + 1) bs) ≡ bound_of b ∷ names_in (take i bs)
names_more bs i b within is =
    ap names_in (take_more bs i b within ∙ ap (λ x. take i bs ++ x ∷ []) (sym is)) ∙ ap (map bound_of) (reverse-append (take i bs) (b ∷ []))

pub names_all : {T : Type 0} (bs : List (Binder T)) (i : ℕ) → length bs ≤ i → names_in (take i bs) ≡ names_in bs
names_all bs i all = ap names_in (take_all i bs all)

-- one more name in a frame that has the names before it
pub one_more : {T : Type 0} (bs : List (Binder T)) (i : ℕ) (b : Binder T) (name : List ℕ) (before after outer : List (List (Bound T))) → i < length bs → b ≡ get_or bs i b → name ≡ b.name → before ≡ names_in (take i bs) ∷ outer
    → after ≡ binding name b.what before → after ≡ names_in (take (i + 1) bs) ∷ outer
one_more bs i b name before after outer within is same had adds =
    adds ∙ ap (binding name b.what) had ∙ ap (λ w. (record { name = w; what = b.what } ∷ names_in (take i bs)) ∷ outer) same ∙ ap (λ names. names ∷ outer) (sym (names_more bs i b within is))

-- one more copy behind those of the binders before it
pub one_copied : {T : Type 0} (bs : List (Binder T)) (i : ℕ) (b copy : Binder T) (before after : List (Binder T)) → i < length bs → b ≡ get_or bs i b → after ≡ before ++ copy ∷ [] → copy.name ≡ b.name → copy.what ≡ b.what
    → names_in before ≡ names_in (take i bs) → names_in after ≡ names_in (take (i + 1) bs)
one_copied bs i b copy before after within is adds same_name same_what had =
    ap names_in adds ∙ ap (map bound_of) (reverse-append before (copy ∷ []))
    ∙ ap (λ name. record { name = name; what = copy.what } ∷ names_in before) same_name
    ∙ ap (λ what. record { name = b.name; what = what } ∷ names_in before) same_what
    ∙ ap (λ names. bound_of b ∷ names) had ∙ sym (names_more bs i b within is)
