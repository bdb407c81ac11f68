use Rattle.std.proofs.Common.{sym, ap}
use Rattle.lt_tree.specs.Typing.Steps.{Goes}
use Rattle.lt_env.specs.Going.{known_of, types_in}
use Rattle.lt_env.proofs.Goings.{as_long}
use Rattle.lt_env.proofs.walker.Walker.bind_tag.Goals as goal

pub returns : goal.returns
returns c = record {
  gives = record {
    grows = as_long (types_in c.args.self.now);
    keeps = c.in_ok-bind_tag.ensures.outer;
    ends = record { at = λ types h. ap (λ frames. Goes tt (record (known_of types c.args.self.now) { frames = frames })) (sym (c.in_ok-bind_tag.ensures.bound types)) };
  };
}
