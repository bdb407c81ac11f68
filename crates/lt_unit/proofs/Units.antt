-- How units are gone over: names of functions with bodies, and bodies in the scope of their parameters.
use Rattle.std.proofs.Common.{◌≡◌, ℕ, ◌+◌, ◌<◌, ◌≤◌, length, get_or, false, List, [], ◌∷◌, ◌++◌, map, drop, Option, Some, None, Result, Ok, Err, refl, sym, ap, ◌∙◌}
use Rattle.std.specs.List.{filter_map}
use Rattle.std.proofs.lemmas.List.{append_assoc, drop_all}
use Rattle.std.proofs.lemmas.List.Elements.{filter_map-append}
use Rattle.lt_type.proofs.Turns.{opened}
use Rattle.lt_tree.specs.Typing.Types.{CType, CTypes, Void, Num, Pointer, Array, Struct, Function, Floating, Qualified, is_function}
use Rattle.lt_tree.specs.Typing.TypedTree.{Items}
use Rattle.lt_tree.specs.Typing.Entities.{Known, Frame}
use Rattle.lt_tree.specs.Typing.Steps.{Outcome, Goes, Breaks, Walk, goes_on, ◌>>=◌, gives, left, within}
use Rattle.lt_tree.specs.Typing.UnitTyping as typing
use Rattle.lt_env.specs.NamesValue.{NamesValue, NameFrameValue, frames_at, frame_at}
use Rattle.lt_env.specs.declared.walker.Walker.{Walker}
use Rattle.lt_env.specs.declared.stop.TypeStop.{TypeStop}
use Rattle.lt_env.specs.declared.stop.TypeStop.TheVariants.{Broken, NoMemory}
use Rattle.lt_env.specs.Going.{At, Gives, known_of}
use Rattle.lt_unit.specs.UnitViews.{adds_function}

-- ---- frames

in_frame : {A X : Type 0} (types : List CType) (shown : List CType → X → A) (s0 s2 : Walker) (x : X) (o : Outcome A) (names : NamesValue) → names ≡ s0.names
    → o ≡ Goes (shown types x) (known_of types s2) → goes_on (left (frames_at types s0.names) o) (λ r. gives r.0) ≡ Goes (shown types x) (known_of types (record s2 { names = names }))
in_frame types shown s0 s2 x o names e f =
    ap (λ p. goes_on (left (frames_at types s0.names) p) (λ r. gives r.0)) f ∙ ap (λ n. Goes (shown types x) (known_of types (record s2 { names = n }))) (sym e)

both_kept : (v w : NamesValue) → w.names ≡ v.names → w.tags ≡ v.tags → w ≡ v
both_kept v w e f = ap (λ n. record v { names = n; tags = w.tags }) e ∙ ap (λ t. record v { tags = t }) f

-- a part of a walk in a frame
pub gives_within : {A X : Type 0} {shown : List CType → X → A} {s0 s1 s2 s3 : Walker} {x : X} {walk : List CType → Walk A} (frame : NameFrameValue)
    → s1 ≡ record s0 { names = record { names = frame.names ∷ s0.names.names; tags = frame.tags ∷ s0.names.tags } }
    → Gives shown s1 s2 (Ok x) walk
    → s3 ≡ record s2 { names = record { names = drop 1 s2.names.names; tags = drop 1 s2.names.tags } }
    → Gives shown s0 s3 (Ok x) (λ types. within (frame_at types frame) (walk types) >>= (λ r. gives r.0))
gives_within {shown = shown} {s0 = s0} {s2 = s2} {x = x} {walk = walk} frame opened g closed =
    let h = rw opened at g in
    let same : record { names = drop 1 s2.names.names; tags = drop 1 s2.names.tags } ≡ s0.names = both_kept s0.names (record { names = drop 1 s2.names.names; tags = drop 1 s2.names.tags }) h.keeps.0 h.keeps.1 in
    rw closed (record {
      grows = h.grows;
      keeps = (ap (drop 1) h.keeps.0, ap (drop 1) h.keeps.1);
      ends = record {
        at = λ types lasts.
            in_frame types shown s0 s2 x (walk types (record (known_of types s0) { frames = frame_at types frame ∷ frames_at types s0.names })) _ same (h.ends.at types lasts);
      };
    })

broken_in : {A X : Type 0} (types : List CType) (shown : List CType → X → A) (s : Walker) (stop : TypeStop) (frames : List Frame) (o : Outcome A)
    → At types shown s (Err stop) o → At types shown s (Err stop) (goes_on (left frames o) (λ r. gives r.0))
broken_in types shown s (Broken rule node) frames o f = ap (λ q. goes_on (left frames q) (λ r. gives r.0)) f
broken_in types shown s NoMemory frames o f = tt

pub stops_within : {A X : Type 0} {shown : List CType → X → A} {s0 s1 s2 : Walker} {stop : TypeStop} {r : Result X TypeStop} {walk : List CType → Walk A} (frame : NameFrameValue)
    → s1 ≡ record s0 { names = record { names = frame.names ∷ s0.names.names; tags = frame.tags ∷ s0.names.tags } }
    → Gives shown s1 s2 (Err stop) walk
    → r ≡ Err stop
    → Gives shown s0 s2 r (λ types. within (frame_at types frame) (walk types) >>= (λ r. gives r.0))
stops_within {shown = shown} {s0 = s0} {s2 = s2} {stop = stop} {walk = walk} frame opened g e =
    let h = rw opened at g in
    rw e (record {
      grows = h.grows;
      keeps = tt;
      ends = record { at = λ types lasts. broken_in types shown s2 stop (frames_at types s0.names) _ (h.ends.at types lasts) };
    })

-- ---- bodies

-- a body was gone over, and something follows
pub body_then : {A B : Type 0} (o : Outcome (A × Frame)) (rest : A → Walk B) → goes_on (goes_on o (λ r. gives r.0)) rest ≡ goes_on o (λ r. rest r.0)
body_then (Goes r k) rest = refl
body_then (Breaks rule node) rest = refl

pub function_added : (k : Known) (node : ℕ) (t : CType) (body : Items) (n m : List ℕ) (ps qs : List ℕ) → n ≡ m → ps ≡ qs
    → adds_function (record { node = node; name = n; type = t; parameters = ps; body = body }) k ≡ adds_function (record { node = node; name = m; type = t; parameters = qs; body = body }) k
function_added k node t body n m ps qs e f =
    ap (λ w. adds_function (record { node = node; name = w; type = t; parameters = ps; body = body }) k) e
    ∙ ap (λ w. adds_function (record { node = node; name = m; type = t; parameters = w; body = body }) k) f

-- what is no function gives nothing
pub no_result : (t : CType) → is_function t ≡ false → Void ≡ typing.result_of t
no_result Void e = refl
no_result (Num s) e = refl
no_result (Pointer t) e = refl
no_result (Array t n) e = refl
no_result (Struct k) e = refl
no_result (Function t ts dots) e = absurd cc
no_result Floating e = refl
no_result (Qualified q t) e = refl

pub its_result : (t u : CType) (ts : CTypes) (dots : _) → t ≡ Function u ts dots → u ≡ typing.result_of t
its_result t u ts dots e = sym (ap typing.result_of e)

-- ---- names of functions with bodies

nothing_more : {A : Type 0} (xs : List A) → xs ++ [] ≡ xs
nothing_more [] = refl
nothing_more (x ∷ xs) = ap (λ l. x ∷ l) (nothing_more xs)

pub none_added : {A : Type 0} (xs : List A) → xs ≡ xs ++ []
none_added xs = sym (nothing_more xs)

-- one more element was gone over
pub names_more : {X Y Z : Type 0} (h : Y → Option Z) (f : X → Y) (list : List X) (i : ℕ) (x : X) (old new whole : List Z)
    → i < length list → x ≡ get_or list i x → old ++ filter_map h (map f (drop i list)) ≡ whole → new ≡ old ++ filter_map h (f x ∷ [])
    → new ++ filter_map h (map f (drop (i + 1) list)) ≡ whole
names_more h f list i x old new whole within is so_far more =
    ap (λ l. l ++ filter_map h (map f (drop (i + 1) list))) more
    ∙ append_assoc old (filter_map h (f x ∷ [])) (filter_map h (map f (drop (i + 1) list)))
    ∙ ap (λ l. old ++ l) (sym (filter_map-append h (f x ∷ []) (map f (drop (i + 1) list))))
    ∙ ap (λ l. old ++ filter_map h (map f l)) (sym (opened list i x within is))
    ∙ so_far

pub all_names : {X Y Z : Type 0} (h : Y → Option Z) (f : X → Y) (list : List X) (i : ℕ) (all whole : List Z)
    → length list ≤ i → all ++ filter_map h (map f (drop i list)) ≡ whole → all ≡ whole
all_names h f list i all whole beyond so_far = none_added all ∙ ap (λ l. all ++ filter_map h (map f l)) (sym (drop_all i list beyond)) ∙ so_far
