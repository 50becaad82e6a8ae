use Rattle.pjlink.proofs.RepliesReadBack.{reply_shows, reply_form, reply_long}
use Rattle.pjlink.proofs.theorems.a_reply_gives_its_parts.Goals as goal

pub returns : goal.returns
returns c = record {
  form = λ s letters. reply_form letters;
  body = λ s letters h p short plain. (reply_shows letters h p short plain).body;
  parameter = λ s letters h p short plain. (reply_shows letters h p short plain).parameter;
  long = reply_long;
}
