use Rattle.std.proofs.Common.{subst, sym, IfSome}
use Rattle.textio.specs.Fronts.{WritesFront}
use Rattle.command.specs.Asked.{asked_seen}
use Rattle.command.specs.declared.asked.Shape.{Shape}
use Rattle.program.specs.Joined.{joined_bytes, files_asked}
use Rattle.report.specs.declared.page.Query.{Query}
use Rattle.report.specs.declared.Report.TheVariants.{Csv}
use Rattle.burnt.specs.Parts.{part_told, told_as}
use Rattle.burnt.proofs.parts.tell.Goals as goal

pub returns-in-Csv-clause-front : goal.returns-in-Csv-clause-front
returns-in-Csv-clause-front g c =
    let a = asked_seen c.args.command.now in
    let b = c.args.begun.now in
    let known = joined_bytes (g.O.Opens.log_bytes c.args.opens.now) (files_asked a) in
    let before = g.W.ByteSink.contents c.args.to.now in
    let after = g.W.ByteSink.contents c.tell_part-in-Csv.new.to in
    let part =
    subst (λ (q : Query). IfSome known (λ log. WritesFront before after (part_told a b (Csv q) log)))
    c.query_of-query.ensures c.tell_part-in-Csv.ensures.front in
    subst (λ (s : Shape). IfSome known (λ log. WritesFront before after (told_as s a b log))) (sym c.in-Csv.is) part
