-- What is judged along nodes that stand one behind the other, in blocks that end behind them.
use Rattle.std.proofs.Common.{◌≡◌, refl, sym, ap, ◌∙◌, ℕ, suc, ◌-◌, ◌≤◌, Bool, true, false, if◌then◌else◌, List, [], ◌∷◌, ◌++◌, length, map, drop, append_assoc, length-append, arith}
use Rattle.std.specs.Prelude.{nat_le}
use Rattle.std.proofs.lemmas.List.{length-map}
use Rattle.std.proofs.lemmas.Bool.Decides.{nat_tests}
use Rattle.lt_scope.specs.Names.{Bound}
use Rattle.lt_tree.specs.Nodes.{Node}
use Rattle.lt_objectives.specs.Tags.{Tags, fits, fitting}
use Rattle.lt_sites.specs.Sites.{in_node, part_of}
use Rattle.lt_copies.specs.Blocks.{Frames, BlocksValue, tags_of, declares, declares_all, closed_in}
use Rattle.lt_copies.specs.Judged.{entered, inside, judged}
use Rattle.lt_copies.proofs.Plain.{IsPlain, EachIsPlain, Plain}

abbrev pub Frame : Type 0
Frame = List (Bound (Unit {0}))

abbrev pub at : Frames → List ℕ → BlocksValue
at frames behind = record { frames = frames; behind = behind }

abbrev pub go : List Node → BlocksValue → List Bool
go nodes blocks = judged (map part_of nodes) blocks

-- The innermost block ends where so many nodes are left, or later.
abbrev pub IsAround : ℕ → List ℕ → Type 0
IsAround count [] = Unit {0}
IsAround count (behind ∷ outer) = behind ≤ count

not_over : (count behind : ℕ) → behind ≤ count → nat_le (suc count) behind ≡ false
not_over count behind less = grind (arith, nat_tests)

over : (count behind : ℕ) → behind ≡ count → nat_le count behind ≡ true
over count behind same = grind (arith, nat_tests)

stays : (count : ℕ) (frames : Frames) (behind : List ℕ) → IsAround count behind → closed_in (suc count) frames behind ≡ at frames behind
stays count frames [] around = refl
stays count frames (b ∷ bs) around = ap (λ it. if it then closed_in (suc count) (drop 1 frames) bs else at frames (b ∷ bs)) (not_over count b around)

ends : (count : ℕ) (frame : Frame) (outer : Frames) (b : ℕ) (bs : List ℕ) → b ≡ count → closed_in count (frame ∷ outer) (b ∷ bs) ≡ closed_in count outer bs
ends count frame outer b bs same = ap (λ it. if it then closed_in count outer bs else at (frame ∷ outer) (b ∷ bs)) (over count b same)

many : (nodes : List Node) → length (map part_of nodes) ≡ length nodes
many nodes = length-map nodes part_of

-- one node, and those behind it
pub first : (node : Node) (nodes : List Node) (frames : Frames) (behind : List ℕ) (here : BlocksValue) → IsAround (length nodes) behind → entered node (suc (length nodes) - length (in_node node)) (at frames behind) ≡ here
    → go (node ∷ nodes) (at frames behind) ≡ fits (tags_of here.frames) node ∷ go nodes here
first node nodes frames behind here around enters =
    let within : inside (suc (length (map part_of nodes))) (part_of node) (at frames behind) ≡ here =
    ap (λ n. inside (suc n) (part_of node) (at frames behind)) (many nodes)
    ∙ ap (entered node (suc (length nodes) - length (in_node node))) (stays (length nodes) frames behind around) ∙ enters in
    ap (λ (blocks : BlocksValue). fits (tags_of blocks.frames) node ∷ judged (map part_of nodes) blocks) within

pub further : (xs later : List Node) (behind : List ℕ) → IsAround (length later) behind → IsAround (length (xs ++ later)) behind
further xs later [] around = tt
further xs later (b ∷ bs) around = omega (arith, length-append xs later, around)

-- ---- nodes inside of the blocks

-- where these blocks are around nodes, they are judged so
pub record Judged (frames : Frames) (behind : List ℕ) (nodes : List Node) (judgements : List Bool) : Type 0 where
  pub run : (later : List Node) → IsAround (length later) behind → go (nodes ++ later) (at frames behind) ≡ judgements ++ go later (at frames behind)

pub nothing : {frames : Frames} {behind : List ℕ} → Judged frames behind [] []
nothing = record { run = λ later around. refl }

pub both : {frames : Frames} {behind : List ℕ} {xs ys : List Node} {judgements others : List Bool} → Judged frames behind xs judgements → Judged frames behind ys others → Judged frames behind (xs ++ ys) (judgements ++ others)
both {frames} {behind} {xs} {ys} {judgements} {others} h i = record {
  run = λ later around.
      ap (λ zs. go zs (at frames behind)) (append_assoc xs ys later)
      ∙ h.run (ys ++ later) (further ys later behind around)
      ∙ ap (λ zs. judgements ++ zs) (i.run later around)
      ∙ sym (append_assoc judgements others (go later (at frames behind)));
}

plain_run : (frames : Frames) (behind : List ℕ) (tags : Tags) (nodes later : List Node) → tags_of frames ≡ tags → EachIsPlain nodes → IsAround (length later) behind →
    go (nodes ++ later) (at frames behind) ≡ fitting tags nodes ++ go later (at frames behind)
plain_run frames behind tags [] later is plain around = refl
plain_run frames behind tags (x ∷ xs) later is plain around =
    first x (xs ++ later) frames behind (at frames behind) (further xs later behind around) (plain.0 (suc (length (xs ++ later)) - length (in_node x)) (at frames behind))
    ∙ ap (λ ts. fits ts x ∷ go (xs ++ later) (at frames behind)) is
    ∙ ap (λ zs. fits tags x ∷ zs) (plain_run frames behind tags xs later is plain.1 around)

pub plain : {frames : Frames} {behind : List ℕ} {tags : Tags} {nodes : List Node} → tags_of frames ≡ tags → Plain nodes → Judged frames behind nodes (fitting tags nodes)
plain {frames} {behind} {tags} {nodes} is h = record { run = λ later around. plain_run frames behind tags nodes later is h.each around }

-- a node that declares nothing, before what is inside of it
pub before : {frames : Frames} {behind : List ℕ} {node : Node} {nodes : List Node} {judgements : List Bool} → IsPlain node → ((tags : Tags) → fits tags node ≡ true) → Judged frames behind nodes judgements
    → Judged frames behind (node ∷ nodes) (true ∷ judgements)
before {frames} {behind} {node} {nodes} {judgements} plain fit h = record {
  run = λ later around.
      first node (nodes ++ later) frames behind (at frames behind) (further nodes later behind around) (plain (suc (length (nodes ++ later)) - length (in_node node)) (at frames behind))
      ∙ ap (λ b. b ∷ go (nodes ++ later) (at frames behind)) (fit (tags_of frames))
      ∙ ap (λ zs. true ∷ zs) (h.run later around);
}

-- ---- nodes up to the end of a block

-- where nodes end a block, they are judged so, and behind them the blocks around it are left
pub record EndsBlock (frame : Frame) (outer : Frames) (behind : List ℕ) (nodes : List Node) (judgements : List Bool) : Type 0 where
  pub run : (later : List Node) → go (nodes ++ later) (at (frame ∷ outer) (length later ∷ behind)) ≡ judgements ++ go later (at outer behind)

leaves : (later : List Node) (frame : Frame) (outer : Frames) (behind : List ℕ) → go later (at (frame ∷ outer) (length later ∷ behind)) ≡ go later (at outer behind)
leaves [] frame outer behind = refl
leaves (x ∷ xs) frame outer behind =
    let count = suc (length (map part_of xs)) in
    let same : suc (length xs) ≡ count = ap suc (sym (many xs)) in
    ap (λ (blocks : BlocksValue). fits (tags_of (entered x (count - length (in_node x)) blocks).frames) x ∷ judged (map part_of xs) (entered x (count - length (in_node x)) blocks))
    (ends count frame outer (suc (length xs)) behind same)

pub ended : {frame : Frame} {outer : Frames} {behind : List ℕ} → EndsBlock frame outer behind [] []
ended {frame} {outer} {behind} = record { run = λ later. leaves later frame outer behind }

pub all_in : {frame : Frame} {outer : Frames} {behind : List ℕ} {xs : List Node} {judgements : List Bool} → ((n : ℕ) → Judged (frame ∷ outer) (n ∷ behind) xs judgements) → EndsBlock frame outer behind xs judgements
all_in {frame} {outer} {behind} {xs} {judgements} h = record {
  run = λ later.
      let here : length later ≤ length later = omega arith in
      (h (length later)).run later here ∙ ap (λ zs. judgements ++ zs) (leaves later frame outer behind);
}

pub then_others : {frame : Frame} {outer : Frames} {behind : List ℕ} {xs ys : List Node} {judgements others : List Bool} → ((n : ℕ) → Judged (frame ∷ outer) (n ∷ behind) xs judgements)
    → EndsBlock frame outer behind ys others → EndsBlock frame outer behind (xs ++ ys) (judgements ++ others)
then_others {frame} {outer} {behind} {xs} {ys} {judgements} {others} h i = record {
  run = λ later.
      let around : length later ≤ length (ys ++ later) = omega (arith, length-append ys later) in
      ap (λ zs. go zs (at (frame ∷ outer) (length later ∷ behind))) (append_assoc xs ys later)
      ∙ (h (length later)).run (ys ++ later) around
      ∙ ap (λ zs. judgements ++ zs) (i.run later)
      ∙ sym (append_assoc judgements others (go later (at outer behind)));
}

-- an item that declares something in the block
pub declares_more : {frame more : Frame} {outer : Frames} {behind : List ℕ} {node : Node} {nodes : List Node} {judgements : List Bool} → ((n b : ℕ) → entered node n (at (frame ∷ outer) (b ∷ behind)) ≡ at (more ∷ outer) (b ∷ behind))
    → ((tags : Tags) → fits tags node ≡ true) → EndsBlock more outer behind nodes judgements → EndsBlock frame outer behind (node ∷ nodes) (true ∷ judgements)
declares_more {frame} {more} {outer} {behind} {node} {nodes} {judgements} enters fit h = record {
  run = λ later.
      let around : length later ≤ length (nodes ++ later) = omega (arith, length-append nodes later) in
      let inner = at (more ∷ outer) (length later ∷ behind) in
      first node (nodes ++ later) (frame ∷ outer) (length later ∷ behind) inner around (enters (suc (length (nodes ++ later)) - length (in_node node)) (length later))
      ∙ ap (λ b. b ∷ go (nodes ++ later) inner) (fit (tags_of (more ∷ outer)))
      ∙ ap (λ zs. true ∷ zs) (h.run later);
}

-- how many nodes stand behind a part
pub left_over : (node : Node) (nodes later : List Node) → in_node node ≡ node ∷ nodes → suc (length (nodes ++ later)) - length (in_node node) ≡ length later
left_over node nodes later is = omega (arith, ap length is, length-append nodes later)

-- a node that begins a block
pub opens : {node : Node} {nodes : List Node} {frame : Frame} {outer : Frames} {behind : List ℕ} {judgements : List Bool} → in_node node ≡ node ∷ nodes → ((n : ℕ) → entered node n (at outer behind) ≡ at (frame ∷ outer) (n ∷ behind))
    → ((tags : Tags) → fits tags node ≡ true) → EndsBlock frame outer behind nodes judgements → Judged outer behind (node ∷ nodes) (true ∷ judgements)
opens {node} {nodes} {frame} {outer} {behind} {judgements} is enters fit h = record {
  run = λ later around.
      let inner = at (frame ∷ outer) (length later ∷ behind) in
      first node (nodes ++ later) outer behind inner (further nodes later behind around)
      (enters (suc (length (nodes ++ later)) - length (in_node node)) ∙ ap (λ n. at (frame ∷ outer) (n ∷ behind)) (left_over node nodes later is))
      ∙ ap (λ b. b ∷ go (nodes ++ later) inner) (fit (tags_of (frame ∷ outer)))
      ∙ ap (λ zs. true ∷ zs) (h.run later);
}

-- ---- tags of a frame

-- a frame with more tags
abbrev pub with_tags : Tags → Frame → Frame
with_tags [] frame = frame
with_tags (tag ∷ rest) frame = record { name = tag; what = tt } ∷ with_tags rest frame

pub declared : (tags : Tags) (frame : Frame) (outer : Frames) (behind : List ℕ) → declares_all tags (at (frame ∷ outer) behind) ≡ at (with_tags tags frame ∷ outer) behind
declared [] frame outer behind = refl
declared (tag ∷ rest) frame outer behind = ap (declares tag) (declared rest frame outer behind)

pub tags_are : (more : Tags) (frame : Frame) (outer : Frames) (tags : Tags) → tags_of (frame ∷ outer) ≡ tags → tags_of (with_tags more frame ∷ outer) ≡ more ++ tags
tags_are [] frame outer tags is = is
tags_are (tag ∷ rest) frame outer tags is = ap (λ ts. tag ∷ ts) (tags_are rest frame outer tags is)
