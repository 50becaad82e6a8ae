use Rattle.report.proofs.days.put_bars_of.Goals as goal

pub returns : goal.returns
returns g c = rw c.span_of-span.ensures.span at c.put_bars_in.ensures
