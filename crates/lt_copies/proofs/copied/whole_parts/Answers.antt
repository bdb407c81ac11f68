use Rattle.std.proofs.Common.{◌≡◌, ◌∙◌, ap, refl, sym, ◌+◌, ◌-◌, ◌^◌, ◌<◌, ◌≤◌, false, get_or, reverse, map, drop, length, arith}
use Rattle.std.proofs.Math.Seq.{drop-length}
use Rattle.lt_sites.specs.Sites.{entry_of}
use Rattle.lt_copies.specs.Judged.{whole_parts, run_from, run_of}
use Rattle.lt_copies.proofs.Parts.{next_run, next_part}
use Rattle.lt_copies.proofs.copied.whole_parts.Goals as goal

pub sites-init : goal.sites-init
sites-init c =
    let list = c.args.sites.now in
    let fitting = c.args.fitting.now in
    record {
      wholes = ap reverse c.new-whole.ensures.items ∙ ap (λ zs. whole_parts (drop (length list) fitting) (map entry_of zs)) (sym (drop-length list));
      runs = ap run_of (sym (drop-length fitting)) ∙ ap (λ n. run_of (drop n fitting)) c.requires;
    }

pub sites-preserved : goal.sites-preserved
sites-preserved c =
    let list = c.args.sites.now in
    let fitting = c.args.fitting.now in
    let k = c.sites.number - 1 in
    let x = get_or list k c.index-sites-number.result in
    let more : c.sites.number ≡ k + 1 = omega arith in
    let within : k < length fitting = omega (arith, c.requires) in
    let small : x.size ≤ 2 ^ 64 - 1 = omega (arith, c.index-sites-number.element_fits.fits) in
    let run_is : c.run_from-run.result ≡ run_of (drop k fitting) =
    c.run_from-run.ensures ∙ ap (run_from (get_or fitting k false)) (c.sites.invariant.runs ∙ ap (λ n. run_of (drop n fitting)) more) ∙ next_run fitting k false within in
    record {
      wholes =
          next_part list fitting c.sites.whole.items c.push.new.self.items c.run_from-run.result c.sites.number x c.index-sites-number.result _ (omega arith) (omega arith) refl small c.sites.invariant.wholes run_is refl
          c.in_ok-push.ensures.items;
      runs = run_is;
    }
