-- What a sequence of calls gives, of which each may stop it.
use Rattle.std.proofs.Common.{◌≡◌, ℕ, ◌+◌, List, ◌∷◌, drop, Result, Ok, Err, refl, sym, ap, subst, ◌∙◌}
use Rattle.std.specs.Result.{OnOk, IsErr, IsErrAnd}
use Rattle.lt_tree.specs.Typing.Types.{CType}
use Rattle.lt_tree.specs.Typing.Entities.{Known, Frame, no_names}
use Rattle.lt_tree.specs.Typing.Steps.{Outcome, Goes, Walk, goes_on, enter, ◌>>=◌, gives, left, in_block}
use Rattle.lt_scope.specs.Names as scope
use Rattle.lt_tree.specs.declared.typed.entity.Entity.{Entity}
use Rattle.lt_tree.specs.declared.typed.entity.Tagged.{Tagged}
use Rattle.lt_table.specs.TableRows.{Stays}
use Rattle.lt_table.specs.TypesValue.{TypesValue, Widens}
use Rattle.lt_tree.specs.Typing.EntityView.{structs_of}
use Rattle.lt_env.specs.NamesValue.{NamesValue, NameFrameValue, KeepsOuter, frames_at, frame_at}
use Rattle.lt_env.specs.declared.walker.Walker.{Walker}
use Rattle.lt_env.specs.declared.stop.TypeStop.{TypeStop}
use Rattle.lt_env.specs.declared.stop.TypeStop.TheVariants.{Broken, NoMemory}
use Rattle.lt_env.specs.Going.{At, Gives, types_in, known_of}
use Rattle.lt_env.proofs.Goings.{longer_still, as_long, kept_still, ends_stops, ends_then}

-- ---- sequences of calls

kept_on : {Y : Type 0} (r : Result Y TypeStop) (a b c : NamesValue) → KeepsOuter a b → OnOk r (KeepsOuter b c) → OnOk r (KeepsOuter a c)
kept_on (Ok y) a b c k more = kept_still a b c k more
kept_on (Err stop) a b c k more = tt

-- a call was made, and then what follows it
pub gives_then : {A B X Y : Type 0} {shown : List CType → X → A} {sees : List CType → Y → B} {s0 s1 s2 : Walker} {x : X} {r : Result Y TypeStop} {walk : List CType → Walk A} (rest : List CType → A → Walk B)
    → Gives shown s0 s1 (Ok x) walk → Gives sees s1 s2 r (λ types. rest types (shown types x)) → Gives sees s0 s2 r (λ types known. goes_on (walk types known) (rest types))
gives_then {shown = shown} {sees = sees} {s0 = s0} {s1 = s1} {s2 = s2} {x = x} {r = r} {walk = walk} rest first more = record {
  grows = longer_still (types_in s0) (types_in s1) (types_in s2) first.grows more.grows;
  keeps = kept_on r s0.names s1.names s2.names first.keeps more.keeps;
  ends = ends_then {shown = shown} {sees = sees} {s1 = s1} {s2 = s2} {x = x} {r = r} {outcome = λ types. walk types (known_of types s0)} rest first.ends more.grows more.ends;
}

-- a call stops, and so does what makes it
pub gives_stops : {A B X Y : Type 0} {shown : List CType → X → A} {sees : List CType → Y → B} {s0 s1 : Walker} {stop : TypeStop} {r : Result Y TypeStop} {walk : List CType → Walk A} (rest : List CType → A → Walk B)
    → Gives shown s0 s1 (Err stop) walk → r ≡ Err stop → Gives sees s0 s1 r (λ types known. goes_on (walk types known) (rest types))
gives_stops {shown = shown} {sees = sees} {s0 = s0} {s1 = s1} {stop = stop} {walk = walk} rest first e = rw e (record {
  grows = first.grows;
  keeps = tt;
  ends = ends_stops {shown = shown} {sees = sees} {s1 = s1} {stop = stop} {outcome = λ types. walk types (known_of types s0)} rest first.ends;
})

-- the same walk, said in another way
pub gives_so : {A X : Type 0} {shown : List CType → X → A} {s0 s1 : Walker} {r : Result X TypeStop} {walk other : List CType → Walk A}
    → ((types : List CType) (k : Known) → walk types k ≡ other types k) → Gives shown s0 s1 r walk → Gives shown s0 s1 r other
gives_so {shown = shown} {s0 = s0} {s1 = s1} {r = r} same g = record {
  grows = g.grows;
  keeps = g.keeps;
  ends = record { at = λ types h. subst (λ (o : Outcome _). At types shown s1 r o) (same types (known_of types s0)) (g.ends.at types h) };
}

-- a node was entered
pub gives_entered : {B Y : Type 0} {sees : List CType → Y → B} {s0 s1 s2 : Walker} {n : ℕ} {r : Result Y TypeStop} (rest : List CType → ℕ → Walk B)
    → s1 ≡ record s0 { next = s0.next + 1 } → n ≡ s0.next → Gives sees s1 s2 r (λ types. rest types n) → Gives sees s0 s2 r (λ types. enter >>= rest types)
gives_entered {s0 = s0} rest e f more =
    let g = rw (e, f) at more in
    record { grows = g.grows; keeps = g.keeps; ends = record { at = λ types h. g.ends.at types h } }

pub stopped : {Y : Type 0} {r : Result Y TypeStop} {stop : TypeStop} → IsErr r × IsErrAnd r (λ e. e ≡ stop) → r ≡ Err stop
stopped {r = Ok y} (e, f) = absurd cc
stopped {r = Err e} (_, f) = ap Err f

-- ---- what is at hand

-- nothing was done
pub gives_itself : {A X : Type 0} {shown : List CType → X → A} {s : Walker} {x : X} → Gives shown s s (Ok x) (λ types. gives (shown types x))
gives_itself {s = s} = record { grows = as_long (types_in s); keeps = (refl, refl); ends = record { at = λ types h. refl } }

known_still : (types : List CType) (s : Walker) (wider : TypesValue) → Widens s.types wider → known_of types (record s { types = wider }) ≡ known_of types s
known_still types s wider w =
    ap (λ m. record (known_of types (record s { types = wider })) { model = m }) w.model ∙ ap (λ l. record (known_of types s) { structs = structs_of types l }) w.structs

-- types were added
pub gives_made : {A X : Type 0} {shown : List CType → X → A} {s : Walker} {wider : TypesValue} {x : X} (f : List CType → Known → A)
    → Widens s.types wider → Stays wider.rows (λ types. shown types x ≡ f types (known_of types s)) → Gives shown s (record s { types = wider }) (Ok x) (λ types known. Goes (f types known) known)
gives_made {shown = shown} {s = s} {wider = wider} {x = x} f w made = record {
  grows = w.grows;
  keeps = (refl, refl);
  ends = record { at = λ types h. ap (λ a. Goes a (known_of types s)) (sym (made types h)) ∙ ap (λ k. Goes (shown types x) k) (sym (known_still types s wider w)) };
}

-- ---- blocks

in_frame : {A X : Type 0} (types : List CType) (shown : List CType → X → A) (s0 s2 : Walker) (x : X) (o : Outcome A) (names : NamesValue) → names ≡ s0.names
    → o ≡ Goes (shown types x) (known_of types s2) → goes_on (left (frames_at types s0.names) o) (λ r. gives r.0) ≡ Goes (shown types x) (known_of types (record s2 { names = names }))
in_frame types shown s0 s2 x o names e f =
    ap (λ p. goes_on (left (frames_at types s0.names) p) (λ r. gives r.0)) f ∙ ap (λ n. Goes (shown types x) (known_of types (record s2 { names = n }))) (sym e)

both_kept : (v : NamesValue) (names : List (List (scope.Bound Entity))) (tags : List (List (scope.Bound Tagged))) → names ≡ v.names → tags ≡ v.tags → record { names = names; tags = tags } ≡ v
both_kept v names tags e f = ap (λ n. record v { names = n; tags = tags }) e ∙ ap (λ t. record v { tags = t }) f

pub gives_in_block : {A X : Type 0} {shown : List CType → X → A} {s0 s1 s2 s3 : Walker} {x : X} {walk : List CType → Walk A} (frame : NameFrameValue)
    → ((types : List CType) → frame_at types frame ≡ no_names)
    → s1 ≡ record s0 { names = record { names = frame.names ∷ s0.names.names; tags = frame.tags ∷ s0.names.tags } }
    → Gives shown s1 s2 (Ok x) walk
    → s3 ≡ record s2 { names = record { names = drop 1 s2.names.names; tags = drop 1 s2.names.tags } }
    → Gives shown s0 s3 (Ok x) (λ types. in_block (walk types))
gives_in_block {shown = shown} {s0 = s0} {s2 = s2} {x = x} {walk = walk} frame none opened g closed =
    let h = rw opened at g in
    let same : record { names = drop 1 s2.names.names; tags = drop 1 s2.names.tags } ≡ s0.names = both_kept s0.names _ _ h.keeps.0 h.keeps.1 in
    rw closed (record {
      grows = h.grows;
      keeps = (ap (drop 1) h.keeps.0, ap (drop 1) h.keeps.1);
      ends = record {
        at = λ types lasts.
            in_frame types shown s0 s2 x (walk types (record (known_of types s0) { frames = no_names ∷ frames_at types s0.names })) _ same
            (ap (λ f. walk types (record (known_of types s0) { frames = f ∷ frames_at types s0.names })) (sym (none types)) ∙ h.ends.at types lasts);
      };
    })

broken_in : {A X : Type 0} (types : List CType) (shown : List CType → X → A) (s : Walker) (stop : TypeStop) (frames : List Frame) (o p : Outcome A) → p ≡ o
    → At types shown s (Err stop) o → At types shown s (Err stop) (goes_on (left frames p) (λ r. gives r.0))
broken_in types shown s (Broken rule node) frames o p e f = ap (λ q. goes_on (left frames q) (λ r. gives r.0)) (e ∙ f)
broken_in types shown s NoMemory frames o p e f = tt

pub stops_in_block : {A X : Type 0} {shown : List CType → X → A} {s0 s1 s2 : Walker} {stop : TypeStop} {r : Result X TypeStop} {walk : List CType → Walk A} (frame : NameFrameValue)
    → ((types : List CType) → frame_at types frame ≡ no_names)
    → s1 ≡ record s0 { names = record { names = frame.names ∷ s0.names.names; tags = frame.tags ∷ s0.names.tags } }
    → Gives shown s1 s2 (Err stop) walk
    → r ≡ Err stop
    → Gives shown s0 s2 r (λ types. in_block (walk types))
stops_in_block {shown = shown} {s0 = s0} {s2 = s2} {stop = stop} {walk = walk} frame none opened g e =
    let h = rw opened at g in
    rw e (record {
      grows = h.grows;
      keeps = tt;
      ends = record {
        at = λ types lasts.
            broken_in types shown s2 stop (frames_at types s0.names) _ _
            (ap (λ f. walk types (record (known_of types s0) { frames = f ∷ frames_at types s0.names })) (sym (none types))) (h.ends.at types lasts);
      };
    })
