use Rattle.std.proofs.Common.{subst, IfSome}
use Rattle.std.specs.Io.KnownBytes.{Appends}
use Rattle.textio.specs.Fronts.{WritesFront}
use Rattle.command.specs.Asked.{asked_seen}
use Rattle.program.specs.Joined.{joined_bytes, files_asked}
use Rattle.report.specs.declared.page.Sheet.{Sheet}
use Rattle.report.specs.declared.table.StretchTable.{StretchTable}
use Rattle.report.specs.declared.Report.TheVariants.{Picture, Table}
use Rattle.burnt.specs.Parts.{part_told}
use Rattle.burnt.proofs.PagesTold.{survey_front, picture_front, table_front, page_whole, on_ok}
use Rattle.burnt.proofs.parts.tell_page.Goals as goal

pub returns-in_err-survey-clause-front : goal.returns-in_err-survey-clause-front
returns-in_err-survey-clause-front g c =
    let a = asked_seen c.args.command.now in
    let known = joined_bytes (g.O.Opens.log_bytes c.args.opens.now) (files_asked a) in
    survey_front a c.args.begun.now c.args.query (g.W.ByteSink.contents c.args.to.now)
    (g.W.ByteSink.contents c.tell_part.new.to) known c.tell_part.ensures.front

pub returns-in_err-drawn-clause-front : goal.returns-in_err-drawn-clause-front
returns-in_err-drawn-clause-front g c =
    let a = asked_seen c.args.command.now in
    let b = c.args.begun.now in
    let known = joined_bytes (g.O.Opens.log_bytes c.args.opens.now) (files_asked a) in
    let o1 = g.W.ByteSink.contents c.tell_part.new.to in
    let o2 = g.W.ByteSink.contents c.tell_part-2.new.to in
    picture_front a b c.args.query _ o1 c.in_ok-survey.survey o2 known c.in_ok-survey.ensures.ending
    c.in_ok-survey.ensures.whole
    (subst (λ (s : Sheet). IfSome known (λ log. WritesFront o1 o2 (part_told a b (Picture s) log))) c.new-sheet.ensures
    c.tell_part-2.ensures.front)

pub returns-in_err-listed-clause-front : goal.returns-in_err-listed-clause-front
returns-in_err-listed-clause-front g c =
    let a = asked_seen c.args.command.now in
    let b = c.args.begun.now in
    let known = joined_bytes (g.O.Opens.log_bytes c.args.opens.now) (files_asked a) in
    let o1 = g.W.ByteSink.contents c.tell_part.new.to in
    let o2 = g.W.ByteSink.contents c.tell_part-2.new.to in
    let o3 = g.W.ByteSink.contents c.tell_part-3.new.to in
    table_front a b c.args.query _ o1 c.in_ok-survey.survey o2 o3 known c.in_ok-survey.ensures.ending
    c.in_ok-survey.ensures.whole
    (subst (λ (s : Sheet). IfSome known (λ log. Appends o1 o2 (part_told a b (Picture s) log))) c.new-sheet.ensures
    c.in_ok-drawn.ensures.whole)
    (subst (λ (t : StretchTable). IfSome known (λ log. WritesFront o2 o3 (part_told a b (Table t) log)))
    c.new-table.ensures c.tell_part-3.ensures.front)

pub returns-clause-whole : goal.returns-clause-whole
returns-clause-whole g c =
    let a = asked_seen c.args.command.now in
    let b = c.args.begun.now in
    let known = joined_bytes (g.O.Opens.log_bytes c.args.opens.now) (files_asked a) in
    let o1 = g.W.ByteSink.contents c.tell_part.new.to in
    let o2 = g.W.ByteSink.contents c.tell_part-2.new.to in
    let o3 = g.W.ByteSink.contents c.tell_part-3.new.to in
    on_ok _
    (page_whole a b c.args.query _ o1 c.in_ok-survey.survey o2 o3 known c.in_ok-survey.ensures.ending
    c.in_ok-survey.ensures.whole
    (subst (λ (s : Sheet). IfSome known (λ log. Appends o1 o2 (part_told a b (Picture s) log))) c.new-sheet.ensures
    c.in_ok-drawn.ensures.whole)
    (subst (λ (t : StretchTable). IfSome known (λ log. Appends o2 o3 (part_told a b (Table t) log))) c.new-table.ensures
    c.in_ok-listed.ensures.whole))

pub returns-clause-front : goal.returns-clause-front
returns-clause-front g c =
    let a = asked_seen c.args.command.now in
    let b = c.args.begun.now in
    let known = joined_bytes (g.O.Opens.log_bytes c.args.opens.now) (files_asked a) in
    let o1 = g.W.ByteSink.contents c.tell_part.new.to in
    let o2 = g.W.ByteSink.contents c.tell_part-2.new.to in
    let o3 = g.W.ByteSink.contents c.tell_part-3.new.to in
    table_front a b c.args.query _ o1 c.in_ok-survey.survey o2 o3 known c.in_ok-survey.ensures.ending
    c.in_ok-survey.ensures.whole
    (subst (λ (s : Sheet). IfSome known (λ log. Appends o1 o2 (part_told a b (Picture s) log))) c.new-sheet.ensures
    c.in_ok-drawn.ensures.whole)
    (subst (λ (t : StretchTable). IfSome known (λ log. WritesFront o2 o3 (part_told a b (Table t) log)))
    c.new-table.ensures c.tell_part-3.ensures.front)
