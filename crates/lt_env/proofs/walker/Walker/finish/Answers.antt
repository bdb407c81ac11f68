use Rattle.std.proofs.Common.{◌∙◌, ap}
use Rattle.lt_tree.specs.Typing.EntityView.{fact_of}
use Rattle.lt_tree.specs.Typing.Expressions as typing
use Rattle.lt_table.specs.TypesValue.{structs_at}
use Rattle.lt_env.specs.declared.typed.Typed.{Typed}
use Rattle.lt_env.specs.declared.typed.Judged.{Judged}
use Rattle.lt_env.specs.Views.{use_of, typed_of, typed_in, judged_in}
use Rattle.lt_env.proofs.Goings.{longer_still, kept_still}
use Rattle.lt_env.proofs.FinishedNodes.{finish_stops, finish_goes, judged_faults, gives_stop}
use Rattle.lt_env.proofs.walker.Walker.finish.Goals as goal

pub returns-in_err-settle : goal.returns-in_err-settle
returns-in_err-settle c =
    let g = c.in_err-settle.ensures.gives in
    record {
      gives = gives_stop typed_in c.args.self.now c.settle.new.self _ _ _ c.from_residual-in_err-settle.ensures (record {
        grows = g.grows;
        keeps = tt;
        ends = record {
          at = λ types h.
              finish_stops types typed_in c.args.self.now c.settle.new.self _ c.args.node (use_of c.args.role) (judged_in types c.args.judged) c.judge_any.new.faults
              (judged_faults types (structs_at types c.args.self.now.types) (use_of c.args.role) c.judge_any.new.faults c.into_inner-faults.result c.args.judged.value c.deref.result.now
              (c.in_ok-judge_any.ensures types (longer_still _ _ _ g.grows h)) c.deref.ensures c.into_inner-faults.ensures)
              (g.ends.at types h);
        };
      });
    }

pub returns : goal.returns
returns c =
    let g = c.in_ok-settle.ensures.gives in
    let g2 = c.in_ok-note.ensures.gives in
    let wide = c.used.ensures.widens in
    let inner = c.into_inner-faults.result in
    record {
      gives = record {
        grows = longer_still _ _ _ g.grows (longer_still _ _ _ g2.grows wide.grows);
        keeps = kept_still c.args.self.now.names c.settle.new.self.names c.note.new.self.names g.keeps g2.keeps;
        ends = record {
          at = λ types h.
              let noted = longer_still _ _ _ wide.grows h in
              let settled = longer_still _ _ _ g2.grows noted in
              finish_goes types c.args.self.now c.settle.new.self c.note.new.self c.used.new.types c.args.node (use_of c.args.role) (judged_in types c.args.judged) c.judge_any.new.faults (fact_of types c.fact.result) _
              (judged_faults types (structs_at types c.args.self.now.types) (use_of c.args.role) c.judge_any.new.faults inner c.args.judged.value c.deref.result.now
              (c.in_ok-judge_any.ensures types (longer_still _ _ _ g.grows settled)) c.deref.ensures c.into_inner-faults.ensures)
              (g.ends.at types settled)
              (c.fact.ensures types ∙ ap (λ (t : Typed). typing.fact_of c.args.node (typed_of types t)) c.deref-2.ensures ∙ ap (λ (j : Judged). typing.fact_of c.args.node (typed_in types j.typed)) c.into_inner-faults.ensures)
              (g2.ends.at types noted) wide
              (c.in_ok-used.ensures.made types h ∙ ap (λ (j : Judged). typing.used (use_of c.args.role) (typed_in types j.typed)) c.into_inner-faults.ensures);
        };
      };
    }
