use Rattle.std.proofs.Common.{ap, arith}
use Rattle.book.specs.Commands.{width}
use Rattle.card_writing.proofs.Bytes.{put_said, put_groups}
use Rattle.card_writing.proofs.placing.put_card.Goals as goal

pub returns : goal.returns
returns c =
    let period = put_said c.period_command.ensures c.put-behind_period.ensures.put in
    let span = put_said c.span_command.ensures c.put-behind_span.ensures.put in
    record {
      put = put_groups c.args.sheet.now period span c.put_steps-behind_steps.ensures.put c.put_rules.ensures.put;
      most = omega (arith, ap width c.period_command.ensures, ap width c.span_command.ensures);
    }
