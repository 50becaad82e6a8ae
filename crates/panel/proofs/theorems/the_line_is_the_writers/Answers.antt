use Rattle.panel.proofs.LinesSent.{sent_written, sent_led, sent_plain}
use Rattle.panel.proofs.theorems.the_line_is_the_writers.Goals as goal

pub returns : goal.returns
returns c = record {
  by_the_writer = sent_written;
  led = λ e k c room legal named enough. sent_led e legal k c named room enough;
  plain = λ e k c room legal named enough. sent_plain e legal k c named room enough;
}
