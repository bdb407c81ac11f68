use Rattle.std.proofs.Common.{◌≡◌, false}
use Rattle.lt_command.specs.Parts.{is_joined}
use Rattle.lt_command.proofs.Reading.{no_equals, waits}
use Rattle.lt_command.proofs.parts.Reader.read.Goals as goal

pub returns : goal.returns
returns c = λ rest.
    let no_value : is_joined c.args.word.now ≡ false = no_equals c.args.word.now c.split_once.result c.split_once.ensures.cases c.in_default-split_once.is in
    waits c.args.self.now c.args.word.now rest c.in_default.is (cc) no_value
