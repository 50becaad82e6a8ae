use Rattle.std.proofs.Common.{◌+◌, sym, ◌∙◌, arith}
use Rattle.calendar.proofs.Counting.{month_more}
use Rattle.calendar.proofs.before_month.Goals as goal

pub loop-m-preserved : goal.loop-m-preserved
loop-m-preserved c = record {
  number = (λ i. c.loop-m.invariant.number i + c.month_length-days.ensures.length i)
      ∙ sym (month_more c.args.year c.loop-m.m (omega (arith, c.loop-m.auto.m)));
  bound = omega (arith, c.loop-m.invariant.bound, c.month_length-days.ensures.bounds);
}
